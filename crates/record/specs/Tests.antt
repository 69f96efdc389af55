-- Tests and their joins. Assumes nothing.
use Rattle.std.specs.Prelude.{ℕ, ◌%◌, Bool, true, false, cond, ltb, leb, eqb}

abbrev pub both : Bool → Bool → Bool
both a b = cond a b false

abbrev pub either : Bool → Bool → Bool
either a b = cond a true b

abbrev pub flip : Bool → Bool
flip a = cond a false true

-- a number from a to b
abbrev pub within : ℕ → ℕ → ℕ → Bool
within a b n = both (leb a n) (leb n b)

abbrev pub up_to : ℕ → ℕ → Bool
up_to b n = leb n b

abbrev pub is_flag : ℕ → Bool
is_flag n = leb n 1

-- a number of three octets
abbrev pub is_short : ℕ → Bool
is_short n = ltb n 16777216

-- "session 0 clear": of two octets of 40 or 50, the first one low, session i is bit i
abbrev pub is_clear0 : ℕ → Bool
is_clear0 n = eqb (n % 2) 0

-- "an edition .. (1 to 3, document 01's is 1)" of the identity order (document 02, R-7)
abbrev pub is_edition : ℕ → Bool
is_edition n = within 1 3 n
