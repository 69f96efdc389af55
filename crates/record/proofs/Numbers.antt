-- An answer is taken exactly if its number is 0. Assumes nothing.
use mathlib.Core.Path.{◌≡◌, refl}
use lib.Dec.{eqb}
use Rattle.octets.specs.declared.Fault.TheVariants.{Cut, First, Second, Kind, Past, Strange}
use Rattle.record.specs.declared.Answer.{Answer}
use Rattle.record.specs.declared.Answer.TheVariants.{Taken, Range, Ignored, Malformed, Full, StateZero, State, Same, Listed, Area, Unprotected, Idle, Short, Waiting}
use Rattle.record.specs.Answers.{number_of, is_taken}

pub taken-zero : (a : Answer) → eqb (number_of a) 0 ≡ is_taken a
unfolding number_of is_taken
taken-zero Taken = refl
taken-zero Range = refl
taken-zero Ignored = refl
taken-zero (Malformed Cut at) = refl
taken-zero (Malformed First at) = refl
taken-zero (Malformed Second at) = refl
taken-zero (Malformed Kind at) = refl
taken-zero (Malformed Past at) = refl
taken-zero (Malformed Strange at) = refl
taken-zero Full = refl
taken-zero StateZero = refl
taken-zero State = refl
taken-zero Same = refl
taken-zero Listed = refl
taken-zero Area = refl
taken-zero Unprotected = refl
taken-zero Idle = refl
taken-zero Short = refl
taken-zero Waiting = refl
