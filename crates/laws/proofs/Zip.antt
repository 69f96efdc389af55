-- A loop that changes each element by the one beside it, and a search to a count. Assumes nothing.
use mathlib.Core.Path.{◌≡◌, refl, sym, ap, ◌∙◌}
use mathlib.Core.Bool.{Bool, true, false, cond}
use mathlib.Core.List.{List, [], ◌∷◌}
use Prim.Native.Nat.{ℕ, zero, suc, ◌+◌, ◌-◌, ◌≤◌, ◌<◌}
use native.Mathlib.Nat.{add-zero, add-suc, suc-add, zero-add}
use native.Mathlib.Numerals.{add-one}
use native.Mathlib.Omega.{arith}
use lib.ListN.{get_or, set, drop}
use Rattle.laws.specs.Upto.{upto, seek_to}

at : (f : ℕ → ℕ → ℕ) (i : ℕ) (xs ys : List ℕ) (d : ℕ) → get_or (upto f i xs ys) i d ≡ get_or ys i d
unfolding upto
at f zero xs ys d = refl
at f (suc i) (x ∷ xs) (y ∷ ys) d = at f i xs ys d
at f (suc i) [] (y ∷ ys) d = at f i [] ys d
at f (suc i) [] [] d = refl
at f (suc i) (x ∷ xs) [] d = refl

more : (f : ℕ → ℕ → ℕ) (i : ℕ) (xs ys : List ℕ) (d : ℕ) → set (upto f i xs ys) i (f (get_or xs i 0) (get_or ys i d)) ≡ upto f (suc i) xs ys
unfolding upto
more f zero (x ∷ xs) (y ∷ ys) d = refl
more f zero (x ∷ xs) [] d = refl
more f zero [] (y ∷ ys) d = refl
more f zero [] [] d = refl
more f (suc i) (x ∷ xs) (y ∷ ys) d = ap (λ (r : List ℕ). f x y ∷ r) (more f i xs ys d)
more f (suc i) [] (y ∷ ys) d = ap (λ (r : List ℕ). f 0 y ∷ r) (more f i [] ys d)
more f (suc i) (x ∷ xs) [] d = refl
more f (suc i) [] [] d = refl

pub zip-none : (f : ℕ → ℕ → ℕ) (xs ys : List ℕ) → ys ≡ upto f 0 xs ys
unfolding upto
zip-none f xs ys = refl

pub zip-step : (f : ℕ → ℕ → ℕ) (i : ℕ) (xs ys b : List ℕ) (d v : ℕ) → b ≡ upto f i xs ys → v ≡ f (get_or xs i 0) (get_or b i d) → set b i v ≡ upto f (i + 1) xs ys
zip-step f i xs ys b d v e t = rw (t, e, at f i xs ys d, add-one) (more f i xs ys d)

module _ (p : ℕ → Bool) where
  peel : (k i : ℕ) (xs : List ℕ) → seek_to p (suc k) (drop i xs) ≡ cond (p (get_or xs i 0)) 0 (suc (seek_to p k (drop (suc i) xs)))
  unfolding seek_to
  peel k zero [] = refl
  peel k zero (x ∷ xs) = refl
  peel k (suc i) [] = refl
  peel k (suc i) (x ∷ xs) = peel k i xs

  pub seek_hit : (n i : ℕ) (xs : List ℕ) → seek_to p n xs ≡ i + seek_to p (n - i) (drop i xs) → p (get_or xs i 0) ≡ true → i < n → i ≡ seek_to p n xs
  seek_hit n i xs e t h = let q : n - i ≡ suc (n - (i + 1)) = omega arith in sym (e ∙ rw (q, peel (n - (i + 1)) i xs, t) (add-zero i))

  pub seek-miss : (n i : ℕ) (xs : List ℕ) → seek_to p n xs ≡ i + seek_to p (n - i) (drop i xs) → p (get_or xs i 0) ≡ false → i < n → seek_to p n xs ≡ (i + 1) + seek_to p (n - (i + 1)) (drop (i + 1) xs)
  seek-miss n i xs e t h = let q : n - i ≡ suc (n - (i + 1)) = omega arith in e ∙ rw (q, peel (n - (i + 1)) i xs, t, add-one) (add-suc i (seek_to p (n - suc i) (drop (suc i) xs)) ∙ sym (suc-add i (seek_to p (n - suc i) (drop (suc i) xs))))

  pub seek-over : (n i : ℕ) (xs : List ℕ) → seek_to p n xs ≡ i + seek_to p (n - i) (drop i xs) → n ≤ i → i ≡ seek_to p n xs
  unfolding seek_to
  seek-over n i xs e h = let q : n - i ≡ 0 = omega arith in sym (e ∙ rw q (add-zero i))

  pub seek-none : (n : ℕ) (xs : List ℕ) → seek_to p n xs ≡ 0 + seek_to p (n - 0) (drop 0 xs)
  seek-none n xs = let q : n - 0 ≡ n = omega arith in rw q (sym (zero-add (seek_to p n xs)))
