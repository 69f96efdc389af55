-- CRC-32 as IEEE 802.3 and zlib have it: the polynomial EDB88320, bits from the lowest on, all ones at first and complemented at the end. Assumes nothing.
use Rattle.std.specs.Prelude.{ℕ, ◌-◌, ◌/◌, ◌%◌, cond, List, [], ◌∷◌, eqb}
use Rattle.std.specs.Int.Bits.{bit_xor}

unfoldable pub bit_step : ℕ → ℕ
bit_step c = cond (eqb (c % 2) 0) (c / 2) (bit_xor 0xEDB88320 (c / 2))

unfoldable pub four_steps : ℕ → ℕ
four_steps c = bit_step (bit_step (bit_step (bit_step c)))

unfoldable pub octet_step : ℕ → ℕ → ℕ
octet_step c o = four_steps (four_steps (bit_xor c o))

unfoldable pub steps_from : ℕ → List ℕ → ℕ
steps_from c [] = c
steps_from c (o ∷ s) = steps_from (octet_step c o) s

abbrev pub ones : ℕ
ones = 0xFFFFFFFF

unfoldable pub checksum_of : List ℕ → ℕ
checksum_of s = ones - steps_from ones s
