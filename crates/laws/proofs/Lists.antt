-- A list copied to the front of another, a test that fails past the end of a list, and a store behind what was written. Assumes nothing.
use mathlib.Core.Path.{◌≡◌, refl, sym, ap, ◌∙◌}
use mathlib.Core.Bool.{Bool, true, false, true≢false}
use mathlib.Core.List.{List, [], ◌∷◌, ◌++◌, append_assoc}
use Prim.Native.Nat.{ℕ, zero, suc, ◌+◌, ◌≤◌, ◌<◌}
use native.Mathlib.Numerals.{add-one}
use native.Mathlib.Omega.{arith}
use lib.ListN.{length, get_or, set, drop}
use lib.Seq.{drop-cons, set-append_seam}
use Rattle.laws.specs.Upto.{upto, copied}

-- a list written over the front of another: so many of its elements, and the rest as it was
pub copied_over : (xs ys : List ℕ) → length xs ≤ length ys → xs ++ drop (length xs) ys ≡ copied (length xs) xs ys
unfolding copied upto
copied_over [] ys h = refl
copied_over (x ∷ xs) [] h = absurd (omega arith)
copied_over (x ∷ xs) (y ∷ ys) h = ap (λ (r : List ℕ). x ∷ r) (copied_over xs ys (omega arith))

pub inside : (p : ℕ → Bool) → p 0 ≡ false → (i : ℕ) (xs : List ℕ) → p (get_or xs i 0) ≡ true → i < length xs
inside p z i [] t = absurd (true≢false (sym t ∙ z))
inside p z zero (x ∷ xs) t = omega arith
inside p z (suc i) (x ∷ xs) t = omega (arith, inside p z i xs t)

-- the store at the end of what is kept
pub stored : (l o : List ℕ) (n x : ℕ) → n ≡ length l → n < length o → set (l ++ drop n o) n x ≡ (l ++ (x ∷ [])) ++ drop (n + 1) o
stored l o n x e h =
    ap (λ (r : List ℕ). set (l ++ r) n x) (drop-cons o n 0 h) ∙ ap (λ (m : ℕ). set (l ++ (get_or o n 0 ∷ drop (suc n) o)) m x) e ∙ set-append_seam l (get_or o n 0) (drop (suc n) o) x
    ∙ sym (append_assoc l (x ∷ []) (drop (suc n) o)) ∙ ap (λ (m : ℕ). (l ++ (x ∷ [])) ++ drop m o) (sym (add-one n))
