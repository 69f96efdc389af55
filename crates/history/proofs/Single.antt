-- The law of one answer, cited for the calls on the whole record: the step, the lent call, a new record, its test. Assumes nothing.
use Prim.Native.Nat.{ℕ}
use mathlib.Core.Path.{◌≡◌}
use mathlib.Core.Bool.{Bool}
use mathlib.Core.List.{List}
use Rattle.laws.proofs.One.{one, one_each}
use Rattle.record.specs.declared.Made.{Made}
use Rattle.record.specs.declared.Record.{Record}
use Rattle.record.specs.New.{made_of}
use Rattle.ranges.specs.Valid.{valid_of}
use Rattle.rules.specs.declared.Event.{Event}
use Rattle.rules.specs.declared.Reply.{Reply}
use Rattle.events.specs.declared.Outcome.{Outcome}
use Rattle.events.specs.Step.{step_of}

pub one-step : (r : Record) (e : Event) (octets : List ℕ) (o p : Outcome) → o ≡ step_of r e octets → p ≡ step_of r e octets → o ≡ p
one-step r e octets o p = one

pub one-handled : (r : Record) (e : Event) (octets : List ℕ) (a b : Reply) (s t : Record)
    → (a ≡ (step_of r e octets).reply) × (s ≡ (step_of r e octets).next) → (b ≡ (step_of r e octets).reply) × (t ≡ (step_of r e octets).next) → (a ≡ b) × (s ≡ t)
one-handled r e octets a b s t = one_each

pub one-made : (x y z : ℕ) (c d : List ℕ) (m n : Made) → m ≡ made_of x y z c d → n ≡ made_of x y z c d → m ≡ n
one-made x y z c d m n = one

pub one-valid : (r : Record) (a b : Bool) → a ≡ valid_of r → b ≡ valid_of r → a ≡ b
one-valid r a b = one
