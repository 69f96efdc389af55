-- Those of a list that pass, in their order, keep what all elements and each two of them have. By induction on the list. Assumes nothing.
use Prim.Native.Nat.{ℕ, zero, suc, ◌≤◌, ◌<◌}
use mathlib.Core.Path.{◌≡◌}
use mathlib.Core.Bool.{Bool, true, false, cond}
use mathlib.Core.List.{List, [], ◌∷◌, ◌++◌}
use native.Mathlib.Omega.{arith}
use lib.ListN.{length, get_or, take, get_or-append}
use Rattle.areas.specs.Areas.{kept}
use Rattle.validity.proofs.Arrays.{All, Once}

abbrev Every : (ℕ → Type 0) → List ℕ → Type 0
Every P [] = Unit {0}
Every P (x ∷ l) = P x × Every P l

-- no later one has the key of an earlier
abbrev Apart : (ℕ → ℕ) → List ℕ → Type 0
Apart key [] = Unit {0}
Apart key (x ∷ l) = Every (λ y. key x ≡ key y → ⊥) l × Apart key l

every_of : (P : ℕ → Type 0) (n : ℕ) (xs : List ℕ) → n ≤ length xs → ((k : ℕ) → k < n → P (get_or xs k 0)) → Every P (take n xs)
every_of P zero xs h f = tt
every_of P (suc n) [] h f = absurd (omega arith)
every_of P (suc n) (x ∷ xs) h f = (f 0 (omega arith), every_of P n xs (omega arith) (λ k l. f (suc k) (omega arith)))

of-every : (P : ℕ → Type 0) (l : List ℕ) → Every P l → (k : ℕ) → k < length l → P (get_or l k 0)
of-every P [] f k h = absurd (omega arith)
of-every P (x ∷ l) f zero h = f.0
of-every P (x ∷ l) f (suc k) h = of-every P l f.1 k (omega arith)

apart_of : (key : ℕ → ℕ) (n : ℕ) (xs : List ℕ) → n ≤ length xs → Once key n xs → Apart key (take n xs)
apart_of key zero xs h f = tt
apart_of key (suc n) [] h f = absurd (omega arith)
apart_of key (suc n) (x ∷ xs) h f = (
  every_of (λ y. key x ≡ key y → ⊥) n xs (omega arith) (λ k l. f 0 (suc k) (omega arith) (omega arith)),
  apart_of key n xs (omega arith) (λ i j l m. f (suc i) (suc j) (omega arith) (omega arith)),
)

of-apart : (key : ℕ → ℕ) (l : List ℕ) → Apart key l → Once key (length l) l
of-apart key [] f i j g h = absurd (omega arith)
of-apart key (x ∷ l) f i zero g h = absurd (omega arith)
of-apart key (x ∷ l) f zero (suc j) g h = of-every (λ y. key x ≡ key y → ⊥) l f.0 j (omega arith)
of-apart key (x ∷ l) f (suc i) (suc j) g h = of-apart key l f.1 i j (omega arith) (omega arith)

module _ (p : ℕ → Bool) where
  kept-every : (P : ℕ → Type 0) (l : List ℕ) → Every P l → Every P (kept p l)
  unfolding kept
  kept-every P [] f = tt
  kept-every P (x ∷ l) f = elim (p x) as (λ b. Every P (cond b (x ∷ kept p l) (kept p l))) [ true ↦ (f.0, kept-every P l f.1) | false ↦ kept-every P l f.1 ]

  kept-apart : (key : ℕ → ℕ) (l : List ℕ) → Apart key l → Apart key (kept p l)
  unfolding kept
  kept-apart key [] f = tt
  kept-apart key (x ∷ l) f = elim (p x) as (λ b. Apart key (cond b (x ∷ kept p l) (kept p l))) [
    | true ↦ (kept-every (λ y. key x ≡ key y → ⊥) l f.0, kept-apart key l f.1)
    | false ↦ kept-apart key l f.1
  ]

  pub kept-le : (n : ℕ) (xs : List ℕ) → length (kept p (take n xs)) ≤ n
  unfolding kept
  kept-le zero xs = omega arith
  kept-le (suc n) [] = omega arith
  kept-le (suc n) (x ∷ xs) = elim (p x) as (λ b. length (cond b (x ∷ kept p (take n xs)) (kept p (take n xs))) ≤ suc n) [
    | true ↦ omega (arith, kept-le n xs)
    | false ↦ omega (arith, kept-le n xs)
  ]

  pub kept-inside : (n : ℕ) (xs : List ℕ) → length (kept p (take n xs)) ≤ length xs
  unfolding kept
  kept-inside zero xs = omega arith
  kept-inside (suc n) [] = omega arith
  kept-inside (suc n) (x ∷ xs) = elim (p x) as (λ b. length (cond b (x ∷ kept p (take n xs)) (kept p (take n xs))) ≤ suc (length xs)) [
    | true ↦ omega (arith, kept-inside n xs)
    | false ↦ omega (arith, kept-inside n xs)
  ]

  -- with anything behind them
  pub kept-all : (q : ℕ → Bool) (n : ℕ) (xs rest : List ℕ) → n ≤ length xs → All q n xs → All q (length (kept p (take n xs))) (kept p (take n xs) ++ rest)
  kept-all q n xs rest h f k l =
      rw (get_or-append (kept p (take n xs)) rest 0 k l)
      (of-every (λ x. q x ≡ true) (kept p (take n xs)) (kept-every (λ x. q x ≡ true) (take n xs) (every_of (λ x. q x ≡ true) n xs h f)) k l)

  pub kept-once : (key : ℕ → ℕ) (n : ℕ) (xs rest : List ℕ) → n ≤ length xs → Once key n xs → Once key (length (kept p (take n xs))) (kept p (take n xs) ++ rest)
  kept-once key n xs rest h f i j g l =
      rw (get_or-append (kept p (take n xs)) rest 0 i (omega arith), get_or-append (kept p (take n xs)) rest 0 j l)
      (of-apart key (kept p (take n xs)) (kept-apart key (take n xs) (apart_of key n xs h f)) i j g l)
