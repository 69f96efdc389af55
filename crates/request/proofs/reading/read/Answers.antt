-- Two levels: a request, and one inside it. Assumes nothing.
use Rattle.request.specs.Levels.{asking_of}
use Rattle.request.proofs.reading.read.Goals as goal

pub returns : goal.returns
unfolding asking_of
returns c = c.message.ensures
