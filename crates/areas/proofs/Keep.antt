-- A loop that keeps some elements of an array in their order, in place. Assumes nothing.
use mathlib.Core.Path.{◌≡◌, refl, sym, ap, ◌∙◌}
use mathlib.Core.Bool.{Bool, true, false, cond}
use mathlib.Core.List.{List, [], ◌∷◌, ◌++◌, append_assoc}
use Prim.Native.Nat.{ℕ, zero, suc, ◌+◌, ◌-◌, ◌≤◌, ◌<◌}
use native.Mathlib.Numerals.{add-one}
use native.Mathlib.Omega.{arith}
use lib.ListN.{length, get_or, take, drop, set, length-append}
use lib.Seq.{set_at, drop-cons, get_or-append-add, get_or-drop}
use Rattle.laws.proofs.Lists.{inside}
use Rattle.areas.specs.Areas.{kept}

module _ (p : ℕ → Bool) where
  skip : (i : ℕ) (xs : List ℕ) → p (get_or xs i 0) ≡ false → kept p (take (suc i) xs) ≡ kept p (take i xs)
  unfolding kept
  skip zero [] t = refl
  skip (suc i) [] t = refl
  skip zero (x ∷ xs) t = rw t
  skip (suc i) (x ∷ xs) t = rw (skip i xs t)

  keep : (i : ℕ) (xs : List ℕ) → p (get_or xs i 0) ≡ true → i < length xs → kept p (take (suc i) xs) ≡ kept p (take i xs) ++ (get_or xs i 0 ∷ [])
  unfolding kept
  keep i [] t h = absurd (omega arith)
  keep zero (x ∷ xs) t h = rw t
  keep (suc i) (x ∷ xs) t h = by-test (p x) (keep i xs t (omega arith))
    where
      by-test : (b : Bool) → kept p (take (suc i) xs) ≡ kept p (take i xs) ++ (get_or xs i 0 ∷ []) → cond b (x ∷ kept p (take (suc i) xs)) (kept p (take (suc i) xs)) ≡ cond b (x ∷ kept p (take i xs)) (kept p (take i xs)) ++ (get_or xs i 0 ∷ [])
      by-test true e = ap (λ (r : List ℕ). x ∷ r) e
      by-test false e = e

-- of the first i elements j were kept, and behind them the array is as it was
pub record Kept (p : ℕ → Bool) (xs : List ℕ) (i j : ℕ) (out : List ℕ) : Type 0 where
  pub size : j ≡ length (kept p (take i xs))
  pub cells : out ≡ kept p (take i xs) ++ drop j xs

module _ (p : ℕ → Bool) (xs : List ℕ) where
  pub kept-none : Kept p xs 0 0 xs
  unfolding kept
  kept-none = record { size = refl; cells = refl }

  pub kept-all : (i j : ℕ) (out : List ℕ) → Kept p xs i j out → (out ≡ kept p (take i xs) ++ drop (length (kept p (take i xs))) xs) × (j ≡ length (kept p (take i xs)))
  kept-all i j out k = (k.cells ∙ ap (λ (n : ℕ). kept p (take i xs) ++ drop n xs) k.size, k.size)

  module _ (i j : ℕ) (out : List ℕ) (k : Kept p xs i j out) (h : j ≤ i) where
    same : get_or out i 0 ≡ get_or xs i 0
    same =
        let e : i ≡ length (kept p (take i xs)) + (i - j) = omega (arith, k.size) in
        let b : j + (i - j) ≡ i = omega arith in
        ap (λ (n : ℕ). get_or out n 0) e ∙ rw (k.cells, get_or-append-add, get_or-drop) (ap (λ (n : ℕ). get_or xs n 0) b)

    pub kept-skip : (j' : ℕ) (out' : List ℕ) → p (get_or out i 0) ≡ false → j' ≡ j → out' ≡ out → Kept p xs (i + 1) j' out'
    kept-skip j' out' t ej eo =
        let s : kept p (take (i + 1) xs) ≡ kept p (take i xs) = rw add-one (skip p i xs (ap p (sym same) ∙ t)) in
        record { size = ej ∙ rw s k.size; cells = eo ∙ rw (s, ej) k.cells }

    pub kept_more : p 0 ≡ false → (j' : ℕ) (out' : List ℕ) → p (get_or out i 0) ≡ true → j' ≡ j + 1 → out' ≡ set out j (get_or out i 0) → Kept p xs (i + 1) j' out'
    kept_more z j' out' t ej eo =
        let a : p (get_or xs i 0) ≡ true = ap p (sym same) ∙ t in
        let b : i < length xs = inside p z i xs a in
        let g : j < length xs = omega arith in
        let s : kept p (take (i + 1) xs) ≡ kept p (take i xs) ++ (get_or xs i 0 ∷ []) = rw add-one (keep p i xs a b) in
        record {
          size = ej ∙ rw (s, length-append) (ap (λ (n : ℕ). n + 1) k.size);
          cells = eo ∙ rw (s, same, ej) (rw (k.cells, drop-cons xs j 0 g, set_at (kept p (take i xs)) (get_or xs j 0) (drop (suc j) xs) (get_or xs i 0) j (sym k.size), add-one) (sym (append_assoc (kept p (take i xs)) (get_or xs i 0 ∷ []) (drop (suc j) xs))));
        }
