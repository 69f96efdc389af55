-- A test of a prefix, one element more at a time: it holds while each element passes, and one that fails decides it. Assumes nothing.
use mathlib.Core.Path.{◌≡◌, refl, sym}
use mathlib.Core.Bool.{Bool, true, false, cond}
use mathlib.Core.List.{List}
use Prim.Native.Nat.{ℕ, zero, suc, ◌+◌, ◌-◌, ◌≤◌, ◌<◌}
use native.Mathlib.Numerals.{add-one}
use native.Mathlib.Nat.{add-suc, add-zero}
use native.Mathlib.Omega.{arith}
use lib.Dec.{eqb}
use lib.ListN.{get_or}
use Rattle.laws.specs.Upto.{all_to, distinct_to, seek_to, same_by}

-- any such test T, with t i what the element at i adds
module _ (T t : ℕ → Bool) (one : (i : ℕ) → T (suc i) ≡ cond (T i) (t i) false) where
  pub more : (i : ℕ) → T i ≡ true → t i ≡ true → T (i + 1) ≡ true
  more i e p = rw (add-one, one i, e) p

  stays : (k i : ℕ) → T i ≡ false → T (i + k) ≡ false
  stays zero i e = rw (add-zero i) e
  stays (suc k) i e = rw (add-suc i k, one (i + k), stays k i e)

  pub ends : (n i : ℕ) → T i ≡ true → t i ≡ false → i < n → false ≡ T n
  ends n i e p h =
      let q : n ≡ suc i + (n - suc i) = omega arith in
      sym (rw q (stays (n - suc i) (suc i) (rw (one i, e) p)))

  pub over : (n i : ℕ) → T i ≡ true → i ≤ n → n ≤ i → true ≡ T n
  over n i e h g = let q : n ≡ i = omega arith in sym (rw q e)

module _ (p : ℕ → Bool) (xs : List ℕ) where
  next : (i : ℕ) → all_to p (suc i) xs ≡ cond (all_to p i xs) (p (get_or xs i 0)) false
  unfolding all_to
  next i = refl

  pub all_none : all_to p 0 xs ≡ true
  unfolding all_to
  all_none = refl

  pub all_more : (i : ℕ) → all_to p i xs ≡ true → p (get_or xs i 0) ≡ true → all_to p (i + 1) xs ≡ true
  all_more = more (λ i. all_to p i xs) (λ i. p (get_or xs i 0)) next

  pub all-ends : (n i : ℕ) → all_to p i xs ≡ true → p (get_or xs i 0) ≡ false → i < n → false ≡ all_to p n xs
  all-ends = ends (λ i. all_to p i xs) (λ i. p (get_or xs i 0)) next

  pub all-over : (n i : ℕ) → all_to p i xs ≡ true → i ≤ n → n ≤ i → true ≡ all_to p n xs
  all-over = over (λ i. all_to p i xs) (λ i. p (get_or xs i 0)) next

module _ (key : ℕ → ℕ) (xs : List ℕ) where
  abbrev new : ℕ → Bool
  new i = eqb (seek_to (same_by key (get_or xs i 0)) i xs) i

  another : (i : ℕ) → distinct_to key (suc i) xs ≡ cond (distinct_to key i xs) (new i) false
  unfolding distinct_to
  another i = refl

  pub distinct_none : distinct_to key 0 xs ≡ true
  unfolding distinct_to
  distinct_none = refl

  pub distinct_more : (i : ℕ) → distinct_to key i xs ≡ true → eqb (seek_to (same_by key (get_or xs i 0)) i xs) i ≡ true → distinct_to key (i + 1) xs ≡ true
  distinct_more = more (λ i. distinct_to key i xs) new another

  pub distinct-ends : (n i : ℕ) → distinct_to key i xs ≡ true → eqb (seek_to (same_by key (get_or xs i 0)) i xs) i ≡ false → i < n → false ≡ distinct_to key n xs
  distinct-ends = ends (λ i. distinct_to key i xs) new another

  pub distinct-over : (n i : ℕ) → distinct_to key i xs ≡ true → i ≤ n → n ≤ i → true ≡ distinct_to key n xs
  distinct-over = over (λ i. distinct_to key i xs) new another
