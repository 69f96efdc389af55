-- The history reads a card's file itself, and finds the same networks in it. Assumes nothing.
use Prim.Native.Nat.{ℕ}
use mathlib.Core.Path.{◌≡◌, refl, ◌∙◌, ap}
use mathlib.Core.Bool.{true, false, cond, ◌||◌}
use mathlib.Core.List.{List, [], ◌∷◌}
use lib.Dec.{eqb}
use Rattle.networks.specs.Networks.{network_of, used_by, networks_in}
use Rattle.entries.specs.Entries.{is_filed}
use Rattle.history.specs.Tale.{is_one_of}
use Rattle.history.specs.History.{names_in}

pub names-are : (file : List ℕ) → networks_in file ≡ names_in file
unfolding networks_in names_in
names-are [] = refl
names-are (a ∷ []) = refl
names-are (a ∷ b ∷ []) = refl
names-are (a ∷ b ∷ c ∷ file) = ap (used_by (network_of a b c)) (names-are file)

among-is : (n : ℕ) (xs : List ℕ) → is_filed n xs ≡ is_one_of n xs
unfolding is_filed is_one_of
among-is n [] = refl
among-is n (x ∷ xs) = elim (eqb x n) as (λ b. cond b true (is_filed n xs) ≡ (b || is_one_of n xs)) [ true ↦ refl | false ↦ among-is n xs ]

pub named-is : (n : ℕ) (file : List ℕ) → is_filed n (networks_in file) ≡ is_one_of n (names_in file)
named-is n file = among-is n (networks_in file) ∙ ap (is_one_of n) (names-are file)
