-- Numbers in octets, the first one lowest, as the log has its own; and columns of numbers, one behind the other. Past the end an octet reads as 0, so that nothing here asks for a length. Assumes nothing.
use Rattle.std.specs.Prelude.{ℕ, zero, suc, ◌+◌, ◌*◌, ◌/◌, ◌%◌, ◌^◌, ◌<◌, List, [], ◌∷◌, ◌++◌, get_or}

-- a number in k octets
unfoldable pub number_octets : ℕ → ℕ → List ℕ
number_octets zero x = []
number_octets (suc k) x = x % 256 ∷ number_octets k (x / 256)

-- numbers of k octets each
unfoldable pub numbers_octets : ℕ → List ℕ → List ℕ
numbers_octets k [] = []
numbers_octets k (x ∷ xs) = number_octets k x ++ numbers_octets k xs

-- Numbers of one width: how many octets each has, and the numbers
pub data Column : Type 0 where
  column : ℕ → List ℕ → Column

unfoldable pub column_octets : List Column → List ℕ
column_octets [] = []
column_octets (column k xs ∷ cs) = numbers_octets k xs ++ column_octets cs

-- the number of k octets at a place
unfoldable pub number_at : ℕ → List ℕ → ℕ → ℕ
number_at zero s at = 0
number_at (suc k) s at = get_or s at 0 + 256 * number_at k s (suc at)

-- n of them
unfoldable pub numbers_at : ℕ → ℕ → List ℕ → ℕ → List ℕ
numbers_at k zero s at = []
numbers_at k (suc n) s at = number_at k s at ∷ numbers_at k n s (at + k)

-- each number has room in k octets
unfoldable pub Narrow : ℕ → List ℕ → Type 0
Narrow k [] = Unit {0}
Narrow k (x ∷ xs) = (x < 256 ^ k) × Narrow k xs
