-- One clock of 32 bits, in milliseconds, that wraps (document 02, R-13). Assumes nothing.
use Rattle.std.specs.Prelude.{ℕ, ◌+◌, ◌-◌, ◌%◌, ◌^◌, Bool, cond, nat_lt}

-- what the clock shows at a true time
unfoldable pub clock : ℕ → ℕ
clock t = t % 2 ^ 32

-- "the wrapped difference"
unfoldable pub since : ℕ → ℕ → ℕ
since now d = (now + (2 ^ 32 - d)) % 2 ^ 32

-- "taken as signed": not negative
unfoldable pub past : ℕ → ℕ → Bool
past now d = nat_lt (since now d) (2 ^ 31)

-- "Lengths above 2,147,483,647 ms run in several laps, none longer than that"
unfoldable pub lap_of : ℕ → ℕ
lap_of l = cond (nat_lt l (2 ^ 31)) l (2 ^ 31 - 1)
