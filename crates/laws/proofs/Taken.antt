-- A test of the first elements, and a search among them, say what the library's `all` and `any` of that part of a list say. Assumes nothing.
use mathlib.Core.Path.{◌≡◌, refl, sym, ap, ◌∙◌}
use mathlib.Core.Bool.{Bool, true, false, cond, not, ◌&&◌, ◌||◌}
use mathlib.Core.List.{List, [], ◌∷◌}
use Prim.Native.Nat.{ℕ, zero, suc, ◌+◌, ◌≤◌, ◌<◌}
use native.Mathlib.Omega.{arith}
use lib.Dec.{eqb}
use lib.ListN.{length, get_or, take, drop}
use lib.Seq.{drop-cons}
use borrow.Author.Tests.{eq-eqb, ne_eqb, eqb-true, eqb-false}
use Rattle.std.proofs.lemmas.List.{get_or_default}
use Rattle.std.specs.List.{list_all, list_any, position_or_len}
use Rattle.laws.specs.Upto.{all_to, seek_to, distinct_to, is_among, apart_to}
use Rattle.laws.proofs.Tests.{more, ends, over}

-- the first element of those tested
front : (p : ℕ → Bool) (n x : ℕ) (xs : List ℕ) → all_to p (suc n) (x ∷ xs) ≡ (p x && all_to p n xs)
unfolding all_to
front p zero x xs = elim (p x) as (λ b. b ≡ (b && true)) [ true ↦ refl | false ↦ refl ]
front p (suc n) x xs = rw (front p n x xs) (elim (p x) as (λ b. cond (b && all_to p n xs) (p (get_or xs n 0)) false ≡ (b && cond (all_to p n xs) (p (get_or xs n 0)) false)) [ true ↦ refl | false ↦ refl ])

pub all-taken : (p : ℕ → Bool) (n : ℕ) (xs : List ℕ) → n ≤ length xs → list_all p (take n xs) ≡ all_to p n xs
unfolding all_to
all-taken p zero xs h = refl
all-taken p (suc n) [] h = absurd (omega arith)
all-taken p (suc n) (x ∷ xs) h = rw (front p n x xs, all-taken p n xs (omega arith))

eqb-suc : (a b : ℕ) → eqb (suc a) (suc b) ≡ eqb a b
eqb-suc a b = go (eqb a b) refl
  where
    go : (s : Bool) → eqb a b ≡ s → eqb (suc a) (suc b) ≡ eqb a b
    go true q = rw q (eq-eqb (suc a) (suc b) (omega (arith, eqb-true a b q)))
    go false q = rw q (ne_eqb (suc a) (suc b) (λ e. eqb-false a b q (omega arith)))

-- nothing is found exactly if none passes
pub none-taken : (p : ℕ → Bool) (n : ℕ) (xs : List ℕ) → n ≤ length xs → not (list_any p (take n xs)) ≡ eqb (seek_to p n xs) n
unfolding seek_to
none-taken p zero xs h = refl
none-taken p (suc n) [] h = absurd (omega arith)
none-taken p (suc n) (x ∷ xs) h = go (p x) (none-taken p n xs (omega arith))
  where
    go : (b : Bool) → not (list_any p (take n xs)) ≡ eqb (seek_to p n xs) n → not (b || list_any p (take n xs)) ≡ eqb (cond b 0 (suc (seek_to p n xs))) (suc n)
    go true ih = sym (ne_eqb 0 (suc n) (λ e. omega arith))
    go false ih = ih ∙ sym (eqb-suc (seek_to p n xs) n)

-- the place of the first that passes, or how many there are
pub place-taken : (p : ℕ → Bool) (n : ℕ) (xs : List ℕ) → n ≤ length xs → position_or_len p (take n xs) ≡ seek_to p n xs
unfolding seek_to
place-taken p zero xs h = refl
place-taken p (suc n) [] h = absurd (omega arith)
place-taken p (suc n) (x ∷ xs) h = rw (place-taken p n xs (omega arith)) (elim (p x) as (λ b. cond (not b) (1 + seek_to p n xs) 0 ≡ cond b 0 (suc (seek_to p n xs))) [ true ↦ refl | false ↦ omega arith ])

-- elements of any type: one more is apart if none before it is the same
module _ {A : Type 0} (same : A → A → Bool) (xs : List A) where
  pub apart_none : apart_to same 0 xs ≡ true
  unfolding apart_to
  apart_none = refl

  is_at : (i : ℕ) (x : A) → i < length xs → x ≡ get_or xs i x → is_among same (take i xs) (drop i xs) ≡ list_any (λ y. same y x) (take i xs)
  is_at i x h e = rw (drop-cons xs i x h) (ap (λ (z : A). list_any (λ y. same y z) (take i xs)) (sym e))

  next : (i : ℕ) → apart_to same (suc i) xs ≡ cond (apart_to same i xs) (not (is_among same (take i xs) (drop i xs))) false
  unfolding apart_to
  next i = refl

  pub apart_more : (i : ℕ) (x : A) → i < length xs → x ≡ get_or xs i x → apart_to same i xs ≡ true → (r : Bool) → r ≡ list_any (λ y. same y x) (take i xs) → r ≡ false → apart_to same (i + 1) xs ≡ true
  apart_more i x h e a r f q = more (λ i. apart_to same i xs) (λ i. not (is_among same (take i xs) (drop i xs))) next i a (ap not (is_at i x h e ∙ sym f ∙ q))

  pub apart-ends : (n i : ℕ) (x : A) → i < length xs → x ≡ get_or xs i x → apart_to same i xs ≡ true → (r : Bool) → r ≡ list_any (λ y. same y x) (take i xs) → r ≡ true → i < n → false ≡ apart_to same n xs
  apart-ends n i x h e a r f q k = ends (λ i. apart_to same i xs) (λ i. not (is_among same (take i xs) (drop i xs))) next n i a (ap not (is_at i x h e ∙ sym f ∙ q)) k

  pub apart-over : (n i : ℕ) → apart_to same i xs ≡ true → i ≤ n → n ≤ i → true ≡ apart_to same n xs
  apart-over n i a h k = over (λ i. apart_to same i xs) (λ i. not (is_among same (take i xs) (drop i xs))) next n i a h k

-- of numbers that says the same as the test by the number itself
pub apart_is : (n : ℕ) (xs : List ℕ) → n ≤ length xs → apart_to eqb n xs ≡ distinct_to (λ x. x) n xs
unfolding apart_to distinct_to
apart_is zero xs h = refl
apart_is (suc i) xs h =
    rw (apart_is i xs (omega arith), is_at eqb xs i (get_or xs i 0) (omega arith) (get_or_default xs i 0 (get_or xs i 0) (omega arith)), none-taken (λ y. eqb y (get_or xs i 0)) i xs (omega arith))
