-- `record::offset` meets its contract: by the cases of an answer, of which only a malformed message's has an offset. Assumes nothing.
use Prim.Native.Nat.{ℕ}
use mathlib.Core.Path.{◌≡◌, refl}
use Rattle.octets.specs.declared.Fault.{Fault}
use Rattle.record.specs.Answers.{fault_offset}
use Rattle.record.specs.declared.Answer.{Answer}
use Rattle.record.specs.declared.Answer.TheVariants.{Taken, Range, Ignored, Malformed, Full, StateZero, State, Same, Listed, Area, Unprotected, Idle, Short, Waiting}
use Rattle.record.proofs.answers.offset.Goals as goal

none : (a : Answer) → ((f : Fault) (at : ℕ) → a ≡ Malformed f at → ⊥) → 0 ≡ fault_offset a
unfolding fault_offset
none Taken h = refl
none Range h = refl
none Ignored h = refl
none (Malformed f at) h = absurd (h f at refl)
none Full h = refl
none StateZero h = refl
none State h = refl
none Same h = refl
none Listed h = refl
none Area h = refl
none Unprotected h = refl
none Idle h = refl
none Short h = refl
none Waiting h = refl

pub returns-in-Malformed : goal.returns-in-Malformed
unfolding fault_offset
returns-in-Malformed c = rw c.in-Malformed.is

pub returns-in_default : goal.returns-in_default
returns-in_default c = none c.args.a c.in_default.not-Malformed
