-- The test for access 0 picks one of the two. Assumes nothing.
use Rattle.record.specs.Sides.{access_of}
use Rattle.record.proofs.sides.access_of.Goals as goal

pub returns : goal.returns
unfolding access_of
returns c = c.one_of.ensures
