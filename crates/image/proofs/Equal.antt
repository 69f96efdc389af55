-- Two columns compared by the library's test are compared by the definition's. By induction on the lists. Assumes nothing.
use Prim.Native.Nat.{ℕ}
use mathlib.Core.Path.{◌≡◌, refl}
use mathlib.Core.Bool.{Bool, true, false, cond, ◌&&◌}
use mathlib.Core.List.{List, [], ◌∷◌}
use lib.Dec.{eqb}
use Rattle.std.specs.Cmp.Lexicographic.{pointwise}
use Rattle.image.specs.Same.{same_numbers}

joined : (a b : Bool) → (a && b) ≡ cond a b false
joined true b = refl
joined false b = refl

pub same_is : (xs ys : List ℕ) → pointwise eqb xs ys ≡ same_numbers xs ys
unfolding same_numbers
same_is [] [] = refl
same_is [] (y ∷ ys) = refl
same_is (x ∷ xs) [] = refl
same_is (x ∷ xs) (y ∷ ys) = rw (same_is xs ys) (joined (eqb x y) (same_numbers xs ys))
