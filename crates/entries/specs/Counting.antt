-- How an import's networks are counted: those known are passed by. Assumes nothing.
use Rattle.std.specs.Prelude.{ℕ, Bool, true, cond, List, ltb, eqb}
use Rattle.laws.specs.Upto.{seek_to}
use Rattle.networks.specs.Networks.{unused}
use Rattle.entries.specs.Places.{same_net}

-- a number is among the first n
abbrev pub known_to : ℕ → List ℕ → ℕ → Bool
known_to n nets m = ltb (seek_to (same_net m) n nets) n

-- those with an entry, and the new ones so far
abbrev pub known_both : ℕ → List ℕ → ℕ → List ℕ → ℕ → Bool
known_both n nets k new m = cond (known_to n nets m) true (known_to k new m)

-- no network, or one that is known
abbrev pub is_passed : ℕ → ℕ → List ℕ → ℕ → List ℕ → Bool
is_passed net n nets k new = cond (eqb net unused) true (known_both n nets k new net)
