-- Arrays read to a count, place by place: all elements pass, no two have one key. Each is by induction on the count. Assumes nothing.
use Prim.Native.Nat.{ℕ, zero, suc, ◌≤◌, ◌<◌}
use mathlib.Core.Path.{◌≡◌, refl}
use mathlib.Core.Bool.{Bool, true, false}
use mathlib.Core.List.{List}
use mathlib.Core.Logic.{◌≢◌}
use native.Mathlib.Omega.{arith}
use lib.Dec.{eqb}
use lib.ListN.{get_or}
use borrow.Author.Tests.{eqb-true, eqb-false, eq-eqb, ne_eqb}
use Rattle.laws.specs.Upto.{seek_to, all_to, distinct_to, same_by}
use Rattle.laws.proofs.Seek.{seek-before, seek_is}
use Rattle.record.proofs.Bounds.{one, rest}
use Rattle.validity.proofs.Bools.{both_true}

-- each of the first n passes
abbrev pub All : (ℕ → Bool) → ℕ → List ℕ → Type 0
All p n xs = (k : ℕ) → k < n → p (get_or xs k 0) ≡ true

-- no two of the first n have one key
abbrev pub Once : (ℕ → ℕ) → ℕ → List ℕ → Type 0
Once key n xs = (i j : ℕ) → i < j → j < n → key (get_or xs i 0) ≡ key (get_or xs j 0) → ⊥

-- below n + 1: the last one, or below n
split : (P : ℕ → Type 0) (k n : ℕ) → k < suc n → (k < n → P k) → P n → P k
split P k n h f p = go (eqb k n) refl
  where
    go : (b : Bool) → eqb k n ≡ b → P k
    go true e = rw (eqb-true k n e) p
    go false e = f (let q : k ≢ n = eqb-false k n e in omega arith)

pub all_of : (p : ℕ → Bool) (n : ℕ) (xs : List ℕ) → all_to p n xs ≡ true → All p n xs
unfolding all_to
all_of p zero xs e k h = absurd (omega arith)
all_of p (suc n) xs e k h =
    split (λ j. p (get_or xs j 0) ≡ true) k n h (all_of p n xs (one (all_to p n xs) (p (get_or xs n 0)) e) k) (rest (all_to p n xs) (p (get_or xs n 0)) e)

pub of-all : (p : ℕ → Bool) (n : ℕ) (xs : List ℕ) → All p n xs → all_to p n xs ≡ true
unfolding all_to
of-all p zero xs f = refl
of-all p (suc n) xs f =
    both_true (all_to p n xs) (p (get_or xs n 0)) (of-all p n xs (λ k h. f k (omega arith))) (f n (omega arith))

-- fewer of them
pub all-fewer : (p : ℕ → Bool) (m n : ℕ) (xs : List ℕ) → m ≤ n → All p n xs → All p m xs
all-fewer p m n xs h f k g = f k (omega arith)

module _ (key : ℕ → ℕ) where
  pub once-of : (n : ℕ) (xs : List ℕ) → distinct_to key n xs ≡ true → Once key n xs
  unfolding distinct_to
  once-of zero xs e i j g h = absurd (omega arith)
  once-of (suc n) xs e i j g h = split (λ m. i < m → key (get_or xs i 0) ≡ key (get_or xs m 0) → ⊥) j n h (λ l w. once-of n xs (one (distinct_to key n xs) (eqb (seek_to (same_by key (get_or xs n 0)) n xs) n) e) i j w l) last g
    where
      q : seek_to (same_by key (get_or xs n 0)) n xs ≡ n
      q = eqb-true (seek_to (same_by key (get_or xs n 0)) n xs) n (rest (distinct_to key n xs) (eqb (seek_to (same_by key (get_or xs n 0)) n xs) n) e)

      last : i < n → key (get_or xs i 0) ≡ key (get_or xs n 0) → ⊥
      last l = eqb-false (key (get_or xs i 0)) (key (get_or xs n 0)) (seek-before (same_by key (get_or xs n 0)) n xs i (rw q l))

  pub of-once : (n : ℕ) (xs : List ℕ) → Once key n xs → distinct_to key n xs ≡ true
  unfolding distinct_to
  of-once zero xs f = refl
  of-once (suc n) xs f =
      both_true (distinct_to key n xs) (eqb (seek_to (same_by key (get_or xs n 0)) n xs) n) (of-once n xs (λ i j g h. f i j g (omega arith)))
      (eq-eqb (seek_to (same_by key (get_or xs n 0)) n xs) n (seek_is (same_by key (get_or xs n 0)) n xs n (omega arith) (λ k h. ne_eqb (key (get_or xs k 0)) (key (get_or xs n 0)) (f k n h (omega arith))) (λ h. absurd (omega arith))))
