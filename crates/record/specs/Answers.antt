-- The reply numbers of document 01, R-1's with their offsets, and R-6's. Assumes nothing.
use Rattle.std.specs.Prelude.{ℕ, Bool, true, false}
use Rattle.messages.specs.Message.{fault_number}
use Rattle.record.specs.declared.Answer.{Answer}
use Rattle.record.specs.declared.Answer.TheVariants.{Taken, Range, Ignored, Malformed, Full, StateZero, State, Same, Listed, Area, Unprotected, Idle, Short, Waiting}

unfoldable pub number_of : Answer → ℕ
-- taken
number_of Taken = 0
-- a field outside its range, limits and lengths included
number_of Range = 1
-- ignored by the two-access rule
number_of Ignored = 2
-- 13 to 18: message malformed or not an accept or reject, by its fault
number_of (Malformed f at) = fault_number f
-- entry needed, network not in the access's table, all 16 entries held
number_of Full = 4
-- a start in state 0
number_of StateZero = 5
-- state wrong for the event
number_of State = 6
-- other access is in state 4 with the same network
number_of Same = 7
-- network listed
number_of Listed = 8
-- area listed (access 0)
number_of Area = 9
-- accept without protection
number_of Unprotected = 10
-- timer not running
number_of Idle = 11
-- lent buffer shorter than the request
number_of Short = 12
-- T3346 runs: the network has asked for time
number_of Waiting = 20

unfoldable pub is_taken : Answer → Bool
is_taken Taken = true
is_taken Range = false
is_taken Ignored = false
is_taken (Malformed f at) = false
is_taken Full = false
is_taken StateZero = false
is_taken State = false
is_taken Same = false
is_taken Listed = false
is_taken Area = false
is_taken Unprotected = false
is_taken Idle = false
is_taken Short = false
is_taken Waiting = false

-- "Each tells the offset from 0 of the octet at fault", in the message; 0 for every other answer
unfoldable pub fault_offset : Answer → ℕ
fault_offset Taken = 0
fault_offset Range = 0
fault_offset Ignored = 0
fault_offset (Malformed f at) = at
fault_offset Full = 0
fault_offset StateZero = 0
fault_offset State = 0
fault_offset Same = 0
fault_offset Listed = 0
fault_offset Area = 0
fault_offset Unprotected = 0
fault_offset Idle = 0
fault_offset Short = 0
fault_offset Waiting = 0
