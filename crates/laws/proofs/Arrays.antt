-- Arrays of numbers, place by place: what a store and a change along another array do. Each is by induction on the array. Assumes nothing.
use Prim.Native.Nat.{ℕ, zero, suc, ◌≤◌, ◌<◌}
use mathlib.Core.Path.{◌≡◌, refl, ap}
use mathlib.Core.List.{List, [], ◌∷◌}
use mathlib.Core.Logic.{◌≢◌}
use native.Mathlib.Omega.{arith}
use lib.ListN.{length, get_or, set}
use Rattle.laws.specs.Upto.{upto}

-- what passes everywhere but at the place of the store passes everywhere if what was stored does (or 0, past the end)
pub set_reads : (xs : List ℕ) (i v k : ℕ) (P : ℕ → Type 0) → (i < length xs → P v) → (length xs ≤ i → P 0) → (k ≢ i → P (get_or xs k 0)) → P (get_or (set xs i v) k 0)
set_reads [] zero v zero P f z g = z (omega arith)
set_reads [] (suc i) v zero P f z g = z (omega arith)
set_reads [] i v (suc k) P f z g = go i refl
  where
    go : (j : ℕ) → i ≡ j → P 0
    go j e = z (omega arith)
set_reads (x ∷ xs) zero v zero P f z g = f (omega arith)
set_reads (x ∷ xs) zero v (suc k) P f z g = g (omega arith)
set_reads (x ∷ xs) (suc i) v zero P f z g = g (omega arith)
set_reads (x ∷ xs) (suc i) v (suc k) P f z g = set_reads xs i v k P (λ h. f (omega arith)) (λ h. z (omega arith)) (λ h. g (λ e. h (omega arith)))

-- a change along another array: an element at a place, and the length
pub upto-reads : (f : ℕ → ℕ → ℕ) (n : ℕ) (xs ys : List ℕ) (k : ℕ) (P : ℕ → Type 0) → k < n → P (f (get_or xs k 0) (get_or ys k 0)) → (length ys ≤ k → P 0) → P (get_or (upto f n xs ys) k 0)
unfolding upto
upto-reads f zero xs ys k P h p z = absurd (omega arith)
upto-reads f (suc n) xs [] k P h p z = z (omega arith)
upto-reads f (suc n) [] (y ∷ ys) zero P h p z = p
upto-reads f (suc n) [] (y ∷ ys) (suc k) P h p z = upto-reads f n [] ys k P (omega arith) p (λ g. z (omega arith))
upto-reads f (suc n) (x ∷ xs) (y ∷ ys) zero P h p z = p
upto-reads f (suc n) (x ∷ xs) (y ∷ ys) (suc k) P h p z = upto-reads f n xs ys k P (omega arith) p (λ g. z (omega arith))

pub upto-length : (f : ℕ → ℕ → ℕ) (n : ℕ) (xs ys : List ℕ) → length (upto f n xs ys) ≡ length ys
unfolding upto
upto-length f zero xs ys = refl
upto-length f (suc n) xs [] = refl
upto-length f (suc n) [] (y ∷ ys) = ap suc (upto-length f n [] ys)
upto-length f (suc n) (x ∷ xs) (y ∷ ys) = ap suc (upto-length f n xs ys)
