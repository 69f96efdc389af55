-- The test for access 0 picks one of the two. Assumes nothing.
use Rattle.record.specs.Sides.{other_of}
use Rattle.record.proofs.sides.other_of.Goals as goal

pub returns : goal.returns
unfolding other_of
returns c = c.one_of.ensures
