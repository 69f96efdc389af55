-- Slot after slot, as a reply is heeded, and numbers of two lists compared. Assumes nothing.
use Rattle.std.proofs.Common.{◌≡◌, ℕ, zero, suc, ◌+◌, ◌<◌, true, false, cond, eqb, ◌&&◌, List, [], ◌∷◌, length, get_or, drop, refl, sym, ap, ◌∙◌, add-one, drop-cons, arith}
use Rattle.std.specs.Cmp.Lexicographic.{pointwise}
use Rattle.turns.specs.declared.Told.{Told}
use Rattle.turns.specs.declared.Told.TheVariants.{Left}
use Rattle.deadlines.specs.declared.Table.{Table}
use Rattle.deadlines.specs.Arming.{heeded, armed_from, same_to}

-- what is left to be heeded begins with what the next slot is told
pub heed_more : (now i : ℕ) (xs : List Told) (t u v : Table) → i < length xs → u ≡ heeded now i (get_or xs i Left) t → armed_from now i (drop i xs) t ≡ v → armed_from now (i + 1) (drop (i + 1) xs) u ≡ v
unfolding armed_from
heed_more now i xs t u v l e f = rw (add-one, e) (rw (drop-cons xs i Left l) at f)

same_more : (n x y : ℕ) (xs ys : List ℕ) → same_to (suc n) (x ∷ xs) (y ∷ ys) ≡ (eqb x y && same_to n xs ys)
unfolding same_to
same_more zero x y xs ys = elim (eqb x y) as (λ b. cond true b false ≡ (b && true)) [ true ↦ refl | false ↦ refl ]
same_more (suc n) x y xs ys = rw (same_more n x y xs ys) (elim (eqb x y) as (λ b. cond (b && same_to n xs ys) (eqb (get_or xs n 0) (get_or ys n 0)) false ≡ (b && cond (same_to n xs ys) (eqb (get_or xs n 0) (get_or ys n 0)) false)) [ true ↦ refl | false ↦ refl ])

-- two lists of one length are the same number by number
pub same_lists : (xs ys : List ℕ) → length xs ≡ length ys → pointwise eqb xs ys ≡ same_to (length xs) xs ys
unfolding same_to
same_lists [] [] e = refl
same_lists [] (y ∷ ys) e = absurd (omega arith)
same_lists (x ∷ xs) [] e = absurd (omega arith)
same_lists (x ∷ xs) (y ∷ ys) e = ap (λ b. eqb x y && b) (same_lists xs ys (omega arith)) ∙ sym (same_more (length xs) x y xs ys)
