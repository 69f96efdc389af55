-- `octets::gather` meets its contract. The invariant: what is held, with what the elements from the place on give, is what those of the whole pass give.
-- Those skipped change nothing. The measure is what is left of the message: each element that is there takes an octet at least. Assumes nothing.
use Rattle.std.proofs.Common.{◌-◌, length}
use Rattle.octets.specs.Element.{elements_from}
use Rattle.octets.proofs.Held.{Holds}
use Rattle.octets.proofs.gather.Given as goal

abbrev pub invariant-loop-g : goal.invariant-loop-g
invariant-loop-g l = Holds l.x l.y l.z l.u l.g (elements_from l.request l.msg l.at) (elements_from l.request l.msg l.from)

abbrev pub decreases-loop-g : goal.decreases-loop-g
decreases-loop-g l = length l.msg - l.at
