-- What is counted is below 256, and a refusal is told from it. Assumes nothing.
use Rattle.std.proofs.Common.{◌≡◌, ℕ, ◌+◌, ◌≤◌, Bool, true, false, cond, not, Option, Some, None, unwrap_or, Result, Ok, Err, IfOk, refl, arith}
use Rattle.std.specs.Int.{from_bool}
use Rattle.record.specs.declared.Answer.{Answer}
use Rattle.record.specs.Answers.{number_of, is_taken}
use Rattle.deadlines.specs.Asking.{place_of}
use Rattle.rounds.specs.declared.Rounded.{Rounded}
use Rattle.rounds.specs.Round.{result_of}
use Rattle.firmware.specs.Calls.{number_or, number_in}

pub low : (m : ℕ) (o : Result ℕ Answer) → m ≤ 255 → ((count : ℕ) → o ≡ Ok count → count ≤ m) → IfOk o (λ count. count ≤ 255)
low m (Ok n) l f = omega (arith, f n refl)
low m (Err a) l f = tt

pub lower : (m : ℕ) (o : Result ℕ Answer) → m ≤ 255 → IfOk o (λ count. count ≤ m) → IfOk o (λ count. count ≤ 255)
lower m (Ok n) l h = omega arith
lower m (Err a) l h = tt

-- a round's answer and count, as one number
pub counts : (o : Rounded) → number_in (result_of o) ≡ number_or o.answer o.count
unfolding result_of
counts o = elim (is_taken o.answer) as (λ b. number_in (cond b (Ok o.count) (Err o.answer)) ≡ cond b o.count (256 + number_of o.answer)) [ true ↦ refl | false ↦ refl ]

-- the slot named, or 10
pub placed : (o : Option ℕ) → unwrap_or o 10 ≡ place_of o
unfolding place_of
placed (Some at) = refl
placed None = refl

-- 1 for a record that is another
pub changes : (same : Bool) → from_bool (not same) ≡ cond same 0 1
changes true = refl
changes false = refl
