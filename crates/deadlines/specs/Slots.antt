-- One timer's slot: held or not, the deadline at which its lap ends, and what rests after that lap, in milliseconds. Assumes nothing.
use Rattle.std.specs.Prelude.{ℕ, ◌+◌, ◌-◌, ◌%◌, ◌^◌, Bool, false, cond, not, ◌==◌}
use Rattle.deadlines.specs.Clock.{since, past, lap_of}
use Rattle.deadlines.specs.declared.Slot.{Slot}

-- a length begun at a time of the clock: its first lap, and the rest
unfoldable pub started : ℕ → ℕ → Slot
started now l = record { held = 1; ends = (now + lap_of l) % 2 ^ 32; rests = l - lap_of l }

abbrev pub stopped : Slot
stopped = record { held = 0; ends = 0; rests = 0 }

abbrev pub all_of : Bool → Bool → Bool → Bool
all_of a b c = cond a (cond b c false) false

-- a lap is over, and more rests
unfoldable pub ended : ℕ → Slot → Bool
ended now s = all_of (not (s.held == 0)) (not (s.rests == 0)) (past now s.ends)

-- the next lap begins at the old deadline, never at now
unfoldable pub roll : ℕ → Slot → Slot
roll now s = cond (ended now s) (started s.ends s.rests) s

-- two laps at most can be over at a time (proofs/Settled)
unfoldable pub rolled : ℕ → Slot → Slot
rolled now s = roll now (roll now s)

-- at or past the deadline of the last lap
unfoldable pub due : ℕ → Slot → Bool
due now s = all_of (not (s.held == 0)) (s.rests == 0) (past now s.ends)

-- 0 if not due, else one more than how far past its deadline
unfoldable pub weight : ℕ → Slot → ℕ
weight now s = cond (due now s) (since now s.ends + 1) 0
