-- A search to a count: what is found passes, those before it do not; and among one more than were there, it finds what it found, or the new one.
-- Each is by induction on the array or on the count. Assumes nothing.
use Prim.Native.Nat.{ℕ, zero, suc, ◌≤◌, ◌<◌}
use mathlib.Core.Path.{◌≡◌, refl, ap}
use mathlib.Core.Bool.{Bool, true, false, cond}
use mathlib.Core.List.{List, [], ◌∷◌}
use native.Mathlib.Omega.{arith}
use lib.Dec.{ltb}
use lib.ListN.{length, get_or, set}
use borrow.Author.Tests.{ltb-true, ltb-false, lt-ltb, le-ltb}
use Rattle.laws.specs.Upto.{seek_to}

module _ (p : ℕ → Bool) where
  pub seek-le : (n : ℕ) (xs : List ℕ) → seek_to p n xs ≤ n
  unfolding seek_to
  seek-le zero xs = omega arith
  seek-le (suc n) [] = elim (p 0) as (λ b. cond b 0 (suc (seek_to p n [])) ≤ suc n) [ true ↦ omega arith | false ↦ omega (arith, seek-le n []) ]
  seek-le (suc n) (x ∷ xs) = elim (p x) as (λ b. cond b 0 (suc (seek_to p n xs)) ≤ suc n) [ true ↦ omega arith | false ↦ omega (arith, seek-le n xs) ]

  -- what is found passes
  pub seek_found : (n : ℕ) (xs : List ℕ) → seek_to p n xs < n → p (get_or xs (seek_to p n xs) 0) ≡ true
  unfolding seek_to
  seek_found zero xs h = absurd (omega arith)
  seek_found (suc n) [] h = go (p 0) refl h (seek_found n [])
    where
      go : (b : Bool) → p 0 ≡ b → cond (p 0) 0 (suc (seek_to p n [])) < suc n → (seek_to p n [] < n → p 0 ≡ true) → p (get_or [] (cond (p 0) 0 (suc (seek_to p n []))) 0) ≡ true
      go true e k ih = e
      go false e k ih = ih (let q : suc (seek_to p n []) < suc n = rw e at k in omega arith)
  seek_found (suc n) (x ∷ xs) h = go (p x) refl h (seek_found n xs)
    where
      go : (b : Bool) → p x ≡ b → cond (p x) 0 (suc (seek_to p n xs)) < suc n → (seek_to p n xs < n → p (get_or xs (seek_to p n xs) 0) ≡ true) → p (get_or (x ∷ xs) (cond (p x) 0 (suc (seek_to p n xs))) 0) ≡ true
      go true e k ih = rw e e
      go false e k ih = rw e (ih (let q : suc (seek_to p n xs) < suc n = rw e at k in omega arith))

  -- those before it do not
  pub seek-before : (n : ℕ) (xs : List ℕ) (k : ℕ) → k < seek_to p n xs → p (get_or xs k 0) ≡ false
  unfolding seek_to
  seek-before zero xs k h = absurd (omega arith)
  seek-before (suc n) [] k h = go (p 0) refl h
    where
      go : (b : Bool) → p 0 ≡ b → k < cond (p 0) 0 (suc (seek_to p n [])) → p 0 ≡ false
      go true e g = let q : k < 0 = rw e at g in absurd (omega arith)
      go false e g = e
  seek-before (suc n) (x ∷ xs) zero h = go (p x) refl h
    where
      go : (b : Bool) → p x ≡ b → 0 < cond (p x) 0 (suc (seek_to p n xs)) → p x ≡ false
      go true e g = let q : 0 < 0 = rw e at g in absurd (omega arith)
      go false e g = e
  seek-before (suc n) (x ∷ xs) (suc k) h = go (p x) refl h (seek-before n xs k)
    where
      go : (b : Bool) → p x ≡ b → suc k < cond (p x) 0 (suc (seek_to p n xs)) → (k < seek_to p n xs → p (get_or xs k 0) ≡ false) → p (get_or xs k 0) ≡ false
      go true e g ih = let q : suc k < 0 = rw e at g in absurd (omega arith)
      go false e g ih = ih (let q : suc k < suc (seek_to p n xs) = rw e at g in omega arith)

  -- the first that passes, or the count where none does
  pub seek_is : (n : ℕ) (xs : List ℕ) (i : ℕ) → i ≤ n → ((k : ℕ) → k < i → p (get_or xs k 0) ≡ false) → (i < n → p (get_or xs i 0) ≡ true) → seek_to p n xs ≡ i
  unfolding seek_to
  seek_is zero xs i h f t = omega arith
  seek_is (suc n) [] zero h f t = rw (t (omega arith))
  seek_is (suc n) (x ∷ xs) zero h f t = rw (t (omega arith))
  seek_is (suc n) [] (suc i) h f t = rw (f 0 (omega arith)) (ap suc (seek_is n [] i (omega arith) (λ k g. f (suc k) (omega arith)) (λ g. t (omega arith))))
  seek_is (suc n) (x ∷ xs) (suc i) h f t = rw (f 0 (omega arith)) (ap suc (seek_is n xs i (omega arith) (λ k g. f (suc k) (omega arith)) (λ g. t (omega arith))))

pub ltb-suc : (a b : ℕ) → ltb (suc a) (suc b) ≡ ltb a b
ltb-suc a b = go (ltb a b) refl
  where
    go : (s : Bool) → ltb a b ≡ s → ltb (suc a) (suc b) ≡ ltb a b
    go true q = rw q (lt-ltb (suc a) (suc b) (omega (arith, ltb-true a b q)))
    go false q = rw q (le-ltb (suc a) (suc b) (omega (arith, ltb-false a b q)))

module _ (p : ℕ → Bool) (v : ℕ) where
  -- either way the same
  one : (s : Bool) → ltb (cond s 0 1) 1 ≡ cond (ltb 0 0) true s
  one true = refl
  one false = refl

  pub seek-added : (n : ℕ) (xs : List ℕ) → n < length xs → ltb (seek_to p (suc n) (set xs n v)) (suc n) ≡ cond (ltb (seek_to p n xs) n) true (p v)
  unfolding seek_to
  seek-added zero [] h = absurd (omega arith)
  seek-added zero (x ∷ xs) h = one (p v)
  seek-added (suc n) [] h = absurd (omega arith)
  seek-added (suc n) (x ∷ xs) h = go (p x) (seek-added n xs (omega arith))
    where
      go : (s : Bool) → ltb (seek_to p (suc n) (set xs n v)) (suc n) ≡ cond (ltb (seek_to p n xs) n) true (p v)
          → ltb (cond s 0 (suc (seek_to p (suc n) (set xs n v)))) (suc (suc n)) ≡ cond (ltb (cond s 0 (suc (seek_to p n xs))) (suc n)) true (p v)
      go true ih = rw (lt-ltb 0 (suc (suc n)) (omega arith), lt-ltb 0 (suc n) (omega arith))
      go false ih = rw (ltb-suc (seek_to p (suc n) (set xs n v)) (suc n), ltb-suc (seek_to p n xs) n) ih
