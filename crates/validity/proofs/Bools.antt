-- Tests that hold: both, either one, a bound, and an answer that passed a check. Each is by cases on the test. Assumes nothing.
use Prim.Native.Nat.{ℕ, ◌+◌, ◌≤◌}
use mathlib.Core.Path.{◌≡◌, refl, sym, ◌∙◌}
use mathlib.Core.Bool.{Bool, true, false, cond, true≢false, false≢true}
use native.Mathlib.Omega.{arith}
use lib.Dec.{ltb}
use borrow.Author.Tests.{leb-true, le-leb, ltb-true, ltb-false}
use Rattle.laws.specs.Bounds.{at_most}
use Rattle.record.specs.Tests.{both, either, flip, up_to}
use Rattle.record.specs.declared.Answer.{Answer}
use Rattle.record.specs.Answers.{is_taken}
use Rattle.checks.specs.Answers.{check}

pub both_true : (a b : Bool) → a ≡ true → b ≡ true → both a b ≡ true
both_true true b p q = q
both_true false b p q = absurd (false≢true p)

-- the first fails, so the second holds
pub either_second : (a b : Bool) → either a b ≡ true → a ≡ false → b ≡ true
either_second true b e q = absurd (true≢false q)
either_second false b e q = e

-- the second fails, so the first holds
pub either_left : (a b : Bool) → either a b ≡ true → b ≡ false → a ≡ true
either_left true b e q = refl
either_left false b e q = absurd (true≢false (sym e ∙ q))

pub either_first : (a b : Bool) → a ≡ true → either a b ≡ true
either_first true b q = refl
either_first false b q = absurd (false≢true q)

-- the second holds, whatever the first says
pub either_true : (a : Bool) → either a true ≡ true
either_true true = refl
either_true false = refl

pub flip-true : (a : Bool) → flip a ≡ true → a ≡ false
flip-true true e = absurd (false≢true e)
flip-true false e = refl

-- a number below the most
pub most-is : (m n : ℕ) → up_to m n ≡ true → at_most m n ≡ n
most-is m n e = go (ltb n m) refl
  where
    go : (b : Bool) → ltb n m ≡ b → cond (ltb n m) n m ≡ n
    go true q = rw q
    go false q = rw q (let l = ltb-false n m q in let h = leb-true n m e in omega arith)

pub most-fits : (m n : ℕ) → at_most m n ≤ m
most-fits m n = go (ltb n m) refl
  where
    go : (b : Bool) → ltb n m ≡ b → cond (ltb n m) n m ≤ m
    go true q = rw q (omega (arith, ltb-true n m q))
    go false q = rw q (omega arith)

-- one more, unless at the limit
pub more-fits : (limit n : ℕ) → up_to limit n ≡ true → up_to limit (cond (ltb n limit) (n + 1) n) ≡ true
more-fits limit n e = go (ltb n limit) refl
  where
    go : (b : Bool) → ltb n limit ≡ b → up_to limit (cond (ltb n limit) (n + 1) n) ≡ true
    go true q = rw q (le-leb (n + 1) limit (omega (arith, ltb-true n limit q)))
    go false q = rw q e

-- what was taken passed the check, and the rest was taken
pub check-passed : (b : Bool) (n rest : Answer) → is_taken n ≡ false → is_taken (check b n rest) ≡ true → b ≡ true
check-passed true n rest q e = refl
check-passed false n rest q e = absurd (true≢false (sym e ∙ q))

pub check-rest : (b : Bool) (n rest : Answer) → is_taken n ≡ false → is_taken (check b n rest) ≡ true → is_taken rest ≡ true
check-rest true n rest q e = e
check-rest false n rest q e = absurd (true≢false (sym e ∙ q))
