-- An answer is taken exactly if it is that one. Assumes nothing.
use mathlib.Core.Path.{◌≡◌, refl}
use mathlib.Core.Bool.{false}
use Rattle.record.specs.Answers.{is_taken}
use Rattle.record.specs.declared.Answer.{Answer}
use Rattle.record.specs.declared.Answer.TheVariants.{Taken, Range, Ignored, Malformed, Full, StateZero, State, Same, Listed, Area, Unprotected, Idle, Short, Waiting}
use Rattle.record.proofs.answers.taken.Goals as goal

other : (a : Answer) → (a ≡ Taken → ⊥) → false ≡ is_taken a
unfolding is_taken
other Taken h = absurd (h refl)
other Range h = refl
other Ignored h = refl
other (Malformed f at) h = refl
other Full h = refl
other StateZero h = refl
other State h = refl
other Same h = refl
other Listed h = refl
other Area h = refl
other Unprotected h = refl
other Idle h = refl
other Short h = refl
other Waiting h = refl

pub returns-in-Taken : goal.returns-in-Taken
unfolding is_taken
returns-in-Taken c = rw c.in-Taken.is

pub returns-in_default : goal.returns-in_default
returns-in_default c = other _ c.in_default.not-Taken
