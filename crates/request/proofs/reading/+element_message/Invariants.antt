-- `element` and `message` meet their contracts: each way by its law, and each call with fewer levels or fewer octets. Assumes nothing.
use Rattle.std.proofs.Common.{◌+◌, length}
use Rattle.request.proofs.reading.+element_message.Given as goal

-- the levels and the octets that are left, twice; and one more for the head of a message
abbrev pub decreases-element : goal.decreases-element
decreases-element l = l.levels + length l.msg.now + (l.levels + length l.msg.now)

abbrev pub decreases-message : goal.decreases-message
decreases-message l = l.levels + length l.msg.now + (l.levels + length l.msg.now) + 1
