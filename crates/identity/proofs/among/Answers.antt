-- A network is among the first n where the search for it ends before n.
use Rattle.std.proofs.Common.{◌≡◌, ◌≤◌, ℕ, zero, suc, List, [], ◌∷◌, length, take, ltb, eqb, refl, ◌∙◌, arith, rules}
use Rattle.std.proofs.lemmas.Bool.Decides.{nat_tests}
use Rattle.std.specs.List.{list_any}
use Rattle.laws.specs.Upto.{seek_to}
use Rattle.identity.specs.Identity.{is_among}
use Rattle.identity.proofs.among.Goals as goal

any-seek : (x n : ℕ) (xs : List ℕ) → n ≤ length xs → list_any (λ y. eqb y x) (take n xs) ≡ ltb (seek_to (eqb x) n xs) n
unfolding seek_to
any-seek x zero xs h = refl
any-seek x (suc n) [] h = absurd (omega arith)
any-seek x (suc n) (y ∷ xs) h = let i = any-seek x n xs (omega arith) in grind (arith, nat_tests, i)

pub returns : goal.returns
unfolding is_among
returns c = c.contains.ensures.value ∙ any-seek _ _ _ (search rules)
