-- Network codes: the halves of a network's three octets. Assumes nothing.
use Rattle.std.specs.Prelude.{ℕ, ◌/◌, ◌%◌, Bool, ltb, eqb}
use Rattle.record.specs.Tests.{both, either, is_short}

-- the half octet of weight w
abbrev pub half : ℕ → ℕ → ℕ
half w n = n / w % 16

abbrev pub is_digit : ℕ → Bool
is_digit d = ltb d 10

-- MCC2 MCC1, MNC3 MCC3, MNC2 MNC1: "decimal digits; only the third MNC digit may be F"
unfoldable pub is_network : ℕ → Bool
is_network n =
    both (is_short n)
    (both (is_digit (half 1048576 n))
    (both (is_digit (half 65536 n))
    (both (either (is_digit (half 4096 n)) (eqb (half 4096 n) 15))
    (both (is_digit (half 256 n))
    (both (is_digit (half 16 n)) (is_digit (half 1 n)))))))
