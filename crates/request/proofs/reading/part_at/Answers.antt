-- A part has room to be moved, by what is required. Assumes nothing.
use Rattle.request.specs.Levels.{shifted_part}
use Rattle.request.proofs.reading.part_at.Goals as goal

pub returns : goal.returns
unfolding shifted_part
returns c = rw c.in_ok-p.was
