-- `octets::skipped` meets its contract: an octet of 80 hex or more is an element. The invariant: from the place reached, what is wanted is the same.
-- Assumes nothing.
use Rattle.std.proofs.Common.{◌≡◌, Bool}
use Rattle.octets.specs.Element.{elements_from, gather_of}
use Rattle.octets.proofs.skipped.Given as goal

abbrev pub invariant-loop-at : goal.invariant-loop-at
invariant-loop-at l = (request : Bool) → gather_of l.fn.x l.fn.y l.fn.z l.fn.u (elements_from request l.msg l.at) ≡ gather_of l.fn.x l.fn.y l.fn.z l.fn.u (elements_from request l.msg l.from)
