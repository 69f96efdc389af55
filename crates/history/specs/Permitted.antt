-- What R-2's theorem speaks of: a number in a list, where a network was first heard, a network without a mark. Assumes nothing.
use Rattle.std.specs.Prelude.{ℕ, Bool, List, length, eqb}
use Rattle.laws.specs.Upto.{seek_to}
use Rattle.entries.specs.Places.{same_net}
use Rattle.record.specs.Tests.{both}
use Rattle.cells.specs.Cells.{among}
use Rattle.history.specs.Tale.{Cell}

abbrev pub is_in : ℕ → List ℕ → Bool
is_in x xs = among xs x (length xs)

-- the place of its first hearing; the list's length, if it was not heard
abbrev pub first_heard : List ℕ → ℕ → ℕ
first_heard heard net = seek_to (same_net net) (length heard) heard

-- neither mark stands
abbrev pub is_unmarked : Cell → Bool
is_unmarked c = both (eqb c.forbidden 0) (eqb c.barred 0)
