-- A card, and no other event. Assumes nothing.
use Prim.Native.Nat.{ℕ}
use mathlib.Core.Path.{◌≡◌, refl}
use mathlib.Core.Bool.{false}
use Rattle.rules.specs.declared.Event.{Event}
use Rattle.rules.specs.declared.Event.TheVariants.{Card, Start, Message, Timer, Power, Key, Update, Import, Unknown}
use Rattle.chronicle.specs.Acts.{is_card_change}
use Rattle.chronicle.proofs.acts.is_card_change.Goals as goal

other : (e : Event) → ((a b : ℕ) → e ≡ Card a b → ⊥) → false ≡ is_card_change e
unfolding is_card_change
other (Card edition home) x = absurd (x edition home refl)
other (Start b manual net code) x = refl
other (Message b protected draws) x = refl
other (Timer number b) x = refl
other Power x = refl
other (Key b set) x = refl
other (Update b regtype net code uplink sessions) x = refl
other Import x = refl
other Unknown x = refl

pub returns-in-Card : goal.returns-in-Card
unfolding is_card_change
returns-in-Card c = rw c.in-Card.is

pub returns-in_default : goal.returns-in_default
returns-in_default c = other c.args.e c.in_default.not-Card
