-- The order of an access's entries by their last marking (document 02, R-9). An entry's rank is how many were last marked earlier: so many as there are
-- entries, each once, and 0 is the one marked longest ago. Assumes nothing.
use Rattle.std.specs.Prelude.{ℕ, zero, suc, ◌-◌, Bool, false, cond, List, ltb, eqb, get_or}
use Rattle.laws.specs.Upto.{upto}
use Rattle.entries.specs.Places.{put_at}

-- where one of rank r goes to the end, those above it fall by one
unfoldable pub fallen : ℕ → ℕ → ℕ
fallen r rank = cond (ltb r rank) (rank - 1) rank

-- place `at` of n entries is the last that was marked; a free place is one entry more
unfoldable pub last_at : ℕ → ℕ → List ℕ → List ℕ
last_at at n ranks = cond (ltb at n) (put_at (upto (λ x. fallen (get_or ranks at 0)) 16 ranks ranks) at (n - 1)) (put_at ranks at n)

-- of the first so many places, in their order, each whose network is named
unfoldable pub last_to : (ℕ → Bool) → ℕ → ℕ → List ℕ → List ℕ → List ℕ
last_to named n zero nets ranks = ranks
last_to named n (suc i) nets ranks = cond (named (get_or nets i 0)) (last_at i n (last_to named n i nets ranks)) (last_to named n i nets ranks)

-- the rank at a place; no place comes behind all
unfoldable pub rank_at : List ℕ → ℕ → ℕ
rank_at ranks at = cond (ltb at 16) (get_or ranks at 0) 16

abbrev pub has_neither : List ℕ → List ℕ → ℕ → Bool
has_neither forbidden barred i = cond (eqb (get_or forbidden i 0) 0) (eqb (get_or barred i 0) 0) false

-- "the one with neither mark that was last marked longest ago", of the first so many; where all have one, no place
unfoldable pub leaver_to : ℕ → List ℕ → List ℕ → List ℕ → ℕ
leaver_to zero forbidden barred ranks = 16
leaver_to (suc i) forbidden barred ranks =
    cond (cond (has_neither forbidden barred i) (ltb (get_or ranks i 0) (rank_at ranks (leaver_to i forbidden barred ranks))) false) i (leaver_to i forbidden barred ranks)
