-- A message's reading is what was read of it; of another event nothing is claimed. Assumes nothing.
use Prim.Native.Nat.{ℕ}
use mathlib.Core.Path.{◌≡◌, refl}
use mathlib.Core.List.{List}
use Rattle.messages.specs.Message.{Reading}
use Rattle.turns.specs.declared.Draws.{Draws}
use Rattle.rules.specs.declared.Event.{Event}
use Rattle.rules.specs.declared.Event.TheVariants.{Card, Start, Message, Timer, Power, Key, Update, Import, Unknown}
use Rattle.rules.specs.Plan.{Read}
use Rattle.rules.proofs.decision.heard.Goals as goal

rest : (e : Event) (octets : List ℕ) (m : Reading) → ((w protected : ℕ) (draws : Draws) → e ≡ Message w protected draws → ⊥) → Read e octets m
rest (Card edition home) octets m x = tt
rest (Start w manual net code) octets m x = tt
rest (Message w protected draws) octets m x = absurd (x w protected draws refl)
rest (Timer number w) octets m x = tt
rest Power octets m x = tt
rest (Key w set) octets m x = tt
rest (Update w regtype net code uplink sessions) octets m x = tt
rest Import octets m x = tt
rest Unknown octets m x = tt

pub returns-in-Message : goal.returns-in-Message
returns-in-Message c = rw c.in-Message.is c.read.ensures

pub returns-in_default : goal.returns-in_default
returns-in_default c = rest c.args.e _ _ c.in_default.not-Message
