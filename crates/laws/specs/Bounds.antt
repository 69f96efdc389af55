-- Numbers that stop at a bound. Assumes nothing.
use Rattle.std.specs.Prelude.{ℕ, ◌+◌, cond, ltb}

-- a number above m counts as m
abbrev pub at_most : ℕ → ℕ → ℕ
at_most m n = cond (ltb n m) n m

-- up by one unless at its limit
abbrev pub one_more : ℕ → ℕ → ℕ
one_more limit n = cond (ltb n limit) (n + 1) n
