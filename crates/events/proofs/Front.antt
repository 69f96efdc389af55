-- A list copied over the front of another, and a number that stops at a bound. Assumes nothing.
use Prim.Native.Nat.{ℕ, zero, suc, min, ◌≤◌, ◌<◌}
use mathlib.Core.Path.{◌≡◌, refl, ap}
use mathlib.Core.Bool.{Bool, true, false, cond}
use mathlib.Core.List.{List, [], ◌∷◌, ◌++◌}
use native.Mathlib.Omega.{arith}
use borrow.Author.Tests.{ltb-true, ltb-false}
use lib.Dec.{ltb}
use lib.ListN.{length, take, drop}
use Rattle.laws.specs.Bounds.{at_most}
use Rattle.laws.specs.Upto.{upto, copied}

pub at-most : (m n : ℕ) → min n m ≡ at_most m n
at-most m n = go (ltb n m) refl
  where
    go : (b : Bool) → ltb n m ≡ b → min n m ≡ cond b n m
    go true e = let h : n < m = ltb-true n m e in omega arith
    go false e = let h : m ≤ n = ltb-false n m e in omega arith

pub copied-front : (n : ℕ) (xs ys : List ℕ) → n ≤ length xs → n ≤ length ys → take n xs ++ drop n ys ≡ copied n xs ys
unfolding copied upto
copied-front zero xs ys a b = refl
copied-front (suc n) [] ys a b = absurd (omega arith)
copied-front (suc n) (x ∷ xs) [] a b = absurd (omega arith)
copied-front (suc n) (x ∷ xs) (y ∷ ys) a b = ap (λ (l : List ℕ). x ∷ l) (copied-front n xs ys (omega arith) (omega arith))
