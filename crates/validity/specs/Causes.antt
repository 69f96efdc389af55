-- The first column of document 01's table of rejects and of R-6's row, counted out over every octet: which causes fall under which row. Assumes nothing.
use Rattle.std.specs.Prelude.{ℕ, zero, suc, Bool, cond, List, [], ◌∷◌, eqb}
use Rattle.areas.specs.Areas.{kept}
use Rattle.record.specs.Tests.{both, flip}
use Rattle.turns.specs.declared.Row.{Row}
use Rattle.turns.specs.declared.Row.TheVariants.{CardBelow, CardLimit, CardProtected, Away, Home, Area, N1, Congested, Protocol, Other}
use Rattle.turns.specs.Rejects.{row_of}

-- the rows from the top
unfoldable pub row_number : Row → ℕ
row_number CardBelow = 1
row_number CardLimit = 2
row_number CardProtected = 3
row_number Away = 4
row_number Home = 5
row_number Area = 6
row_number N1 = 7
row_number Congested = 8
row_number Protocol = 9
row_number Other = 10

unfoldable pub numbers_from : ℕ → ℕ → List ℕ
numbers_from n zero = []
numbers_from n (suc k) = n ∷ numbers_from (suc n) k

-- the causes for which a test holds
unfoldable pub causes_for : (ℕ → Bool) → List ℕ
causes_for p = kept p (numbers_from 0 256)

-- those of a row over access w; unprotected or not, at home or away, card counter below its limit or not, with a nonzero T3346 or not
unfoldable pub causes_of : ℕ → ℕ → Bool → Bool → Bool → Bool → List ℕ
causes_of n w unprotected home below timed = causes_for (λ c. eqb (row_number (row_of w unprotected home below timed c)) n)

unfoldable pub column_of : ℕ → Bool → Bool → Bool → Bool → List (List ℕ)
column_of w unprotected home below timed =
    causes_of 1 w unprotected home below timed ∷ causes_of 2 w unprotected home below timed ∷ causes_of 3 w unprotected home below timed
    ∷ causes_of 4 w unprotected home below timed ∷ causes_of 5 w unprotected home below timed ∷ causes_of 6 w unprotected home below timed
    ∷ causes_of 7 w unprotected home below timed ∷ causes_of 8 w unprotected home below timed ∷ causes_of 9 w unprotected home below timed ∷ []

-- the same in plain numbers, each row's where its condition holds; any other cause is row 10's
abbrev given : Bool → List ℕ → List ℕ
given b causes = cond b causes []

unfoldable pub column_said : ℕ → Bool → Bool → Bool → Bool → List (List ℕ)
column_said w unprotected home below timed =
    given (both unprotected below) (3 ∷ 6 ∷ 7 ∷ [])
    ∷ given (both unprotected (flip below)) (3 ∷ 6 ∷ 7 ∷ [])
    ∷ given (flip unprotected) (3 ∷ 6 ∷ 7 ∷ [])
    ∷ given (flip home) (11 ∷ 73 ∷ [])
    ∷ given (both home unprotected) (11 ∷ 73 ∷ [])
    ∷ given (eqb w 0) (12 ∷ 13 ∷ 15 ∷ [])
    ∷ cond (eqb w 0) (27 ∷ []) (27 ∷ 72 ∷ [])
    ∷ given timed (22 ∷ [])
    ∷ (95 ∷ 96 ∷ 97 ∷ 99 ∷ 111 ∷ [])
    ∷ []
