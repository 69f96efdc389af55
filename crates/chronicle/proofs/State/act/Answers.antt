-- Any event but these is nothing. Assumes nothing.
use Prim.Native.Nat.{ℕ}
use mathlib.Core.Path.{◌≡◌, refl, ◌∙◌}
use mathlib.Core.List.{List}
use mathlib.Core.Bool.{Bool}
use Rattle.rules.specs.declared.Event.{Event}
use Rattle.rules.specs.declared.Event.TheVariants.{Card, Start, Message, Timer, Power, Key, Update, Import, Unknown}
use Rattle.turns.specs.declared.Draws.{Draws}
use Rattle.chronicle.specs.Notes.{no_act}
use Rattle.chronicle.specs.Acts.{act_of}
use Rattle.chronicle.proofs.State.act.Goals as goal

other : (w home own theirs : ℕ) (held : Bool) (octets : List ℕ) (e : Event) → ((a b : ℕ) (d : Draws) → e ≡ Message a b d → ⊥) → ((a b : ℕ) → e ≡ Timer a b → ⊥) → (e ≡ Power → ⊥) → (e ≡ Import → ⊥) → no_act ≡ act_of w home own theirs held e octets
unfolding act_of
other w home own theirs held octets (Card edition new) x y z u = refl
other w home own theirs held octets (Start b manual net code) x y z u = refl
other w home own theirs held octets (Message b protected draws) x y z u = absurd (x b protected draws refl)
other w home own theirs held octets (Timer number b) x y z u = absurd (y number b refl)
other w home own theirs held octets Power x y z u = absurd (z refl)
other w home own theirs held octets (Key b set) x y z u = refl
other w home own theirs held octets (Update b regtype net code uplink sessions) x y z u = refl
other w home own theirs held octets Import x y z u = absurd (u refl)
other w home own theirs held octets Unknown x y z u = refl

pub returns-in_default : goal.returns-in_default
returns-in_default c = c.no_act.ensures ∙ other _ _ _ _ _ _ c.args.e c.in_default.not-Message c.in_default.not-Timer c.in_default.not-Power c.in_default.not-Import
