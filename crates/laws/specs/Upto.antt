-- Arrays of numbers, read to a count, and lists written over others. Past the end of a list a number reads as 0, so that nothing here asks for a length. Assumes nothing.
use Rattle.std.specs.Prelude.{ℕ, zero, suc, Bool, true, false, cond, not, List, [], ◌∷◌, ◌++◌, length, get_or, take, drop, eqb}
use Rattle.std.specs.List.{list_any}

-- the first i elements changed, each by the one beside it
unfoldable pub upto : (ℕ → ℕ → ℕ) → ℕ → List ℕ → List ℕ → List ℕ
upto f zero xs ys = ys
upto f (suc i) xs [] = []
upto f (suc i) [] (y ∷ ys) = f 0 y ∷ upto f i [] ys
upto f (suc i) (x ∷ xs) (y ∷ ys) = f x y ∷ upto f i xs ys

-- the first n elements are those of another list
abbrev pub first : ℕ → ℕ → ℕ
first x y = x

unfoldable pub copied : ℕ → List ℕ → List ℕ → List ℕ
copied n xs ys = upto first n xs ys

-- a list written over the front of another, whose rest stays
unfoldable pub over : List ℕ → List ℕ → List ℕ
over xs ys = xs ++ drop (length xs) ys

-- the place of the first of n elements that passes, or n
unfoldable pub seek_to : (ℕ → Bool) → ℕ → List ℕ → ℕ
seek_to p zero xs = 0
seek_to p (suc n) [] = cond (p 0) 0 (suc (seek_to p n []))
seek_to p (suc n) (x ∷ xs) = cond (p x) 0 (suc (seek_to p n xs))

-- each element passes
unfoldable pub every : (ℕ → Bool) → List ℕ → Bool
every p [] = true
every p (x ∷ xs) = cond (p x) (every p xs) false

-- each of the first n elements passes
unfoldable pub all_to : (ℕ → Bool) → ℕ → List ℕ → Bool
all_to p zero xs = true
all_to p (suc i) xs = cond (all_to p i xs) (p (get_or xs i 0)) false

abbrev pub same_by : (ℕ → ℕ) → ℕ → ℕ → Bool
same_by key a b = eqb (key b) (key a)

-- no two of the first n elements have one key
unfoldable pub distinct_to : (ℕ → ℕ) → ℕ → List ℕ → Bool
distinct_to key zero xs = true
distinct_to key (suc i) xs = cond (distinct_to key i xs) (eqb (seek_to (same_by key (get_or xs i 0)) i xs) i) false

-- one of these is the first of those
abbrev pub is_among : {A : Type 0} → (A → A → Bool) → List A → List A → Bool
is_among same xs [] = false
is_among same xs (y ∷ ys) = list_any (λ x. same x y) xs

-- no two of the first n elements are the same, of whatever type they are
unfoldable pub apart_to : {A : Type 0} → (A → A → Bool) → ℕ → List A → Bool
apart_to same zero xs = true
apart_to same (suc i) xs = cond (apart_to same i xs) (not (is_among same (take i xs) (drop i xs))) false
