-- How a turn of each of the loops of `choose` goes. Assumes nothing.
use Prim.Native.Nat.{ℕ, zero, suc, ◌+◌, ◌<◌, ◌≤◌}
use mathlib.Core.Path.{◌≡◌, refl, sym, ap, ◌∙◌, subst}
use mathlib.Core.Bool.{Bool, true, false, cond, ◌||◌, true≢false}
use mathlib.Core.List.{List, [], ◌∷◌, ◌++◌}
use mathlib.Core.Logic.{⊎_elim}
use native.Mathlib.Omega.{arith}
use native.Mathlib.Nat.{eq-or-lt_of_le, le_of_suc-le-suc, le_antisymm}
use native.Mathlib.Numerals.{add-one}
use lib.ListN.{length, get_or, take, drop, set, length-append, length-set}
use lib.Seq.{take-suc}
use Rattle.std.specs.List.{list_any}
use Rattle.std.proofs.lemmas.List.Recursion.{or_push}
use Rattle.laws.specs.Upto.{over, all_to}
use Rattle.laws.proofs.Lists.{stored}
use Rattle.record.specs.Tests.{either}
use Rattle.cells.specs.Cells.{some_of, among, marked, left_out, permitted_to}

or_right : (a b : Bool) → b ≡ true → either a b ≡ true
or_right true b e = refl
or_right false b e = e

or_left : (a b : Bool) → a ≡ true → either a b ≡ true
or_left a b e = rw e

neither : (b : Bool) → cond b false false ≡ false
neither true = refl
neither false = refl

-- A search, for a network or for a mark of it: it goes on while no place passes, has then looked everywhere, and ends at one that passes.
module _ (p : ℕ → Bool) where
  pub none_yet : (j : ℕ) → some_of p j ≡ false → p j ≡ false → some_of p (j + 1) ≡ false
  unfolding some_of
  none_yet j h e = rw (add-one, e, h)

  pub none_of : (j n : ℕ) → j ≤ n → n ≤ j → some_of p j ≡ false → some_of p n ≡ false
  none_of j n h g e = subst (λ (m : ℕ). some_of p m ≡ false) (le_antisymm h g) e

  pub hit : (n j : ℕ) → j < n → p j ≡ true → some_of p n ≡ true
  unfolding some_of
  hit zero j lt e = absurd (omega arith)
  hit (suc n) j lt e =
      ⊎_elim (λ (q : j ≡ n). or_left (p n) (some_of p n) (subst (λ (m : ℕ). p m ≡ true) q e))
      (λ (q : j < n). or_right (p n) (some_of p n) (hit n j q e)) (eq-or-lt_of_le (le_of_suc-le-suc lt))

-- the library's search of the first n elements is one of their places
or_is : (a b c : Bool) → a ≡ b → (a || c) ≡ either c b
or_is true true true e = refl
or_is true true false e = refl
or_is false false c e = elim c as (λ v. v ≡ either v false) [ true ↦ refl | false ↦ refl ]
or_is true false c e = absurd (true≢false e)
or_is false true c e = absurd (true≢false (sym e))

pub any-some : (p : ℕ → Bool) (xs : List ℕ) (n : ℕ) → n ≤ length xs → list_any p (take n xs) ≡ some_of (λ i. p (get_or xs i 0)) n
unfolding some_of
any-some p xs zero h = refl
any-some p xs (suc n) h =
    rw (take-suc xs n 0 (omega arith)) (or_push (list_any p) p refl (λ _ _. refl) (take n xs) (get_or xs n 0) ∙ or_is _ _ (p (get_or xs n 0)) (any-some p xs n (omega arith)))

-- Each of the first n passes exactly if no place fails.
module _ (p : ℕ → Bool) (xs : List ℕ) where
  passes : (n : ℕ) → ((i : ℕ) → i < n → p (get_or xs i 0) ≡ true) → all_to p n xs ≡ true
  unfolding all_to
  passes zero h = refl
  passes (suc n) h = rw (passes n (λ i l. h i (omega arith)), h n (omega arith))

  fails : (n i : ℕ) → i < n → p (get_or xs i 0) ≡ false → all_to p n xs ≡ false
  unfolding all_to
  fails zero i l e = absurd (omega arith)
  fails (suc n) i l e =
      ⊎_elim (λ (q : i ≡ n). rw (rw q at e) (neither (all_to p n xs)))
      (λ (q : i < n). rw (fails n i q e)) (eq-or-lt_of_le (le_of_suc-le-suc l))

  pub all-is : (r : Bool) → (r ≡ true → (i : ℕ) → i < length xs → p (get_or xs i 0) ≡ true) → (r ≡ false → (i : ℕ) × (i < length xs) × (p (get_or xs i 0) ≡ false)) → r ≡ all_to p (length xs) xs
  all-is true h g = sym (passes (length xs) (h refl))
  all-is false h g = let w = g refl in sym (fails (length xs) w.0 w.1 w.2)

module _ (heard : List ℕ) (count : ℕ) (nets forbidden barred : List ℕ) (i : ℕ) where
  -- a number that was heard before, or is marked, is left out
  pub was-heard : among heard (get_or heard i 0) i ≡ true → permitted_to heard count nets forbidden barred (i + 1) ≡ permitted_to heard count nets forbidden barred i
  unfolding permitted_to left_out
  was-heard h = rw (add-one, h)

  pub is-marked : marked nets forbidden barred (get_or heard i 0) count ≡ true → permitted_to heard count nets forbidden barred (i + 1) ≡ permitted_to heard count nets forbidden barred i
  unfolding permitted_to left_out
  is-marked h = rw (add-one, or_right (among heard (get_or heard i 0) i) (marked nets forbidden barred (get_or heard i 0) count) h)

  -- any other is taken
  pub is-new : among heard (get_or heard i 0) i ≡ false → marked nets forbidden barred (get_or heard i 0) count ≡ false → permitted_to heard count nets forbidden barred (i + 1) ≡ permitted_to heard count nets forbidden barred i ++ (get_or heard i 0 ∷ [])
  unfolding permitted_to left_out
  is-new h g = rw (add-one, h, g)

pub length-one-more : (l : List ℕ) (x : ℕ) → length (l ++ (x ∷ [])) ≡ length l + 1
length-one-more l x = length-append l (x ∷ [])

-- no more are permitted than were heard
pub permitted-few : (heard : List ℕ) (count : ℕ) (nets forbidden barred : List ℕ) (n : ℕ) → length (permitted_to heard count nets forbidden barred n) ≤ n
unfolding permitted_to
permitted-few heard count nets forbidden barred zero = omega arith
permitted-few heard count nets forbidden barred (suc n) =
    elim (left_out heard count nets forbidden barred n) as (λ b. length (cond b (permitted_to heard count nets forbidden barred n) (permitted_to heard count nets forbidden barred n ++ (get_or heard n 0 ∷ []))) ≤ suc n) [
      | true ↦ omega (arith, permitted-few heard count nets forbidden barred n)
      | false ↦ omega (arith, permitted-few heard count nets forbidden barred n, length-one-more (permitted_to heard count nets forbidden barred n) (get_or heard n 0))
    ]

-- what holds at each candidate: what is written so far is what is kept of the numbers before it
abbrev pub State : List ℕ → ℕ → List ℕ → List ℕ → List ℕ → List ℕ → List ℕ → ℕ → ℕ → Type 0
State heard count nets forbidden barred out₀ out n i = (i ≤ length heard) × (n ≤ i) × (n ≡ length (permitted_to heard count nets forbidden barred i)) × (out ≡ permitted_to heard count nets forbidden barred i ++ drop n out₀) × (length out ≡ length out₀)

module _ (heard : List ℕ) (count : ℕ) (nets forbidden barred out₀ out : List ℕ) (n i : ℕ) (st : State heard count nets forbidden barred out₀ out n i) (within : i < length heard) where
  pub left_out_lem : permitted_to heard count nets forbidden barred (i + 1) ≡ permitted_to heard count nets forbidden barred i → State heard count nets forbidden barred out₀ out n (i + 1)
  left_out_lem e = (omega arith, omega arith, st.2 ∙ ap length (sym e), st.3 ∙ ap (λ (l : List ℕ). l ++ drop n out₀) (sym e), st.4)

  pub taken_in : length heard ≤ length out₀ → permitted_to heard count nets forbidden barred (i + 1) ≡ permitted_to heard count nets forbidden barred i ++ (get_or heard i 0 ∷ []) → State heard count nets forbidden barred out₀ (set out n (get_or heard i 0)) (n + 1) (i + 1)
  taken_in room e = (
    omega arith,
    omega arith,
    ap (λ (m : ℕ). m + 1) st.2 ∙ sym (length-one-more (permitted_to heard count nets forbidden barred i) (get_or heard i 0)) ∙ ap length (sym e),
    ap (λ (l : List ℕ). set l n (get_or heard i 0)) st.3 ∙ stored (permitted_to heard count nets forbidden barred i) out₀ n (get_or heard i 0) st.2 (omega arith) ∙ ap (λ (l : List ℕ). l ++ drop (n + 1) out₀) (sym e),
    length-set out n (get_or heard i 0) ∙ st.4,
  )

pub all_read : (heard : List ℕ) (count : ℕ) (nets forbidden barred out₀ out : List ℕ) (n i : ℕ) → State heard count nets forbidden barred out₀ out n i → length heard ≤ i
    → (n ≡ length (permitted_to heard count nets forbidden barred (length heard))) × (out ≡ over (permitted_to heard count nets forbidden barred (length heard)) out₀)
unfolding over
all_read heard count nets forbidden barred out₀ out n i st h =
    let e : i ≡ length heard = le_antisymm st.0 h in
    (rw (← e) st.2, rw (← e) (st.3 ∙ ap (λ (m : ℕ). permitted_to heard count nets forbidden barred i ++ drop m out₀) st.2))
