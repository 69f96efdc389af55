-- Event by event, as the definition. Assumes nothing.
use Prim.Native.Nat.{ℕ}
use mathlib.Core.Path.{◌≡◌, refl}
use mathlib.Core.Logic.{inl, inr}
use Rattle.rules.specs.declared.Event.{Event}
use Rattle.rules.specs.declared.Event.TheVariants.{Card, Start, Message, Timer, Power, Key, Update, Import, Unknown}
use Rattle.chronicle.specs.declared.State.{State}
use Rattle.chronicle.specs.Acts.{moved_of}
use Rattle.chronicle.proofs.State.moved.Goals as goal

other : (x : State) (e : Event) → ((a b : ℕ) → e ≡ Card a b → ⊥) → ((a b c d : ℕ) → e ≡ Start a b c d → ⊥) → ((a b c d f g : ℕ) → e ≡ Update a b c d f g → ⊥) → x ≡ moved_of e x
unfolding moved_of
other x (Card edition home) y z u = absurd (y edition home refl)
other x (Start b manual net code) y z u = absurd (z b manual net code refl)
other x (Message b protected draws) y z u = refl
other x (Timer number b) y z u = refl
other x Power y z u = refl
other x (Key b set) y z u = refl
other x (Update b regtype net code uplink sessions) y z u = absurd (u b regtype net code uplink sessions refl)
other x Import y z u = refl
other x Unknown y z u = refl

pub returns-in-Card : goal.returns-in-Card
unfolding moved_of
returns-in-Card c = rw c.in-Card.is

pub returns-in-Start : goal.returns-in-Start
unfolding moved_of
returns-in-Start c = elim c.in-Start.is [ inl w ↦ rw w.2 c.settled.ensures | inr w ↦ rw w.4 c.settled.ensures ]

pub returns-in_default : goal.returns-in_default
returns-in_default c = other c.args.self c.args.e c.in_default.not-Card c.in_default.not-Start c.in_default.not-Update
