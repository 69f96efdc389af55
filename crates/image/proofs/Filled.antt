-- Columns read from octets: a number is its halves, and a loop that stores one number after the other has at each turn a column of those before it. By induction on the count. Assumes nothing.
use Prim.Native.Nat.{ℕ, zero, suc, ◌+◌, ◌*◌, ◌^◌, ◌<◌}
use mathlib.Core.Path.{◌≡◌, sym, ap, ◌∙◌}
use mathlib.Core.List.{List, [], ◌∷◌, ◌++◌, append-nil, append_assoc}
use native.Mathlib.Nat.{zero-add, add-zero, suc-add, suc-mul, mul_assoc, pow-suc}
use native.Mathlib.Numerals.{add-one}
use native.Mathlib.Omega.{arith}
use lib.ListN.{length, get_or, set, drop}
use lib.Seq.{drop-length, drop-cons, set-append_seam}
use Rattle.image.specs.Numbers.{number_at}

pub one-octet : (s : List ℕ) (at : ℕ) → get_or s at 0 ≡ number_at 1 s at
unfolding number_at
one-octet s at = omega arith

-- a number is its first octets, and the rest of them above those
pub halves : (j k : ℕ) (s : List ℕ) (at : ℕ) → number_at j s at + 256 ^ j * number_at k s (at + j) ≡ number_at (j + k) s at
unfolding number_at
halves zero k s at = rw (zero-add k, add-zero) (omega arith)
halves (suc j) k s at =
    let e : at + suc j ≡ suc at + j = omega arith in
    rw (e, suc-add j k, ← halves j k s (suc at), pow-suc) (omega (arith, mul_assoc 256 (256 ^ j) (number_at k s (suc at + j))))

-- the store behind what was written
stored : {A : Type 0} (l o : List A) (n : ℕ) (x : A) → n ≡ length l → n < length o → set (l ++ drop n o) n x ≡ (l ++ (x ∷ [])) ++ drop (n + 1) o
stored {A = A} l o n x e h =
    ap (λ (r : List A). set (l ++ r) n x) (drop-cons o n x h) ∙ ap (λ (m : ℕ). set (l ++ (get_or o n x ∷ drop (suc n) o)) m x) e ∙ set-append_seam l (get_or o n x) (drop (suc n) o) x
    ∙ sym (append_assoc l (x ∷ []) (drop (suc n) o)) ∙ ap (λ (m : ℕ). (l ++ (x ∷ [])) ++ drop m o) (sym (add-one n))

-- a column of n numbers, one more of them, and all; so for numbers of any width
module _ {A : Type 0} (number : List ℕ → ℕ → A) (numbers : ℕ → List ℕ → ℕ → List A) (width : ℕ) (none : (s : List ℕ) (at : ℕ) → numbers zero s at ≡ [])
    (one-more : (n : ℕ) (s : List ℕ) (at : ℕ) → numbers (suc n) s at ≡ number s at ∷ numbers n s (at + width)) (s : List ℕ) where
  numbers-length : (n at : ℕ) → length (numbers n s at) ≡ n
  numbers-length zero at = ap length (none s at)
  numbers-length (suc n) at = ap length (one-more n s at) ∙ ap suc (numbers-length n (at + width))

  more : (n at : ℕ) → numbers n s at ++ (number s (at + n * width) ∷ []) ≡ numbers (suc n) s at
  more zero at = let e : at + zero * width ≡ at = omega arith in rw (e, none s at, one-more zero s at, none s (at + width))
  more (suc n) at =
      let e : at + suc n * width ≡ at + width + n * width = omega (arith, suc-mul n width) in
      rw (e, one-more (suc n) s at, one-more n s at) (ap (λ (l : List A). number s at ∷ l) (more n (at + width)))

  pub fill_none : (at : ℕ) (xs : List A) → xs ≡ numbers 0 s at ++ drop 0 xs
  fill_none at xs = rw (none s at)

  pub fill_more : (at i : ℕ) (v : A) (xs b : List A) → b ≡ numbers i s at ++ drop i xs → v ≡ number s (at + i * width) → i < length xs → set b i v ≡ numbers (i + 1) s at ++ drop (i + 1) xs
  fill_more at i v xs b e t h =
      rw (e, t, stored (numbers i s at) xs i (number s (at + i * width)) (sym (numbers-length i at)) h, more i at, add-one)

  pub fill-all : (at i : ℕ) (xs b : List A) → b ≡ numbers i s at ++ drop i xs → i ≡ length xs → b ≡ numbers (length xs) s at
  fill-all at i xs b e h = e ∙ rw (h, drop-length) (append-nil (numbers (length xs) s at))
