-- Each part is what its call ensures. Assumes nothing.
use Rattle.request.specs.Levels.{shifted_part, shifted_request}
use Rattle.request.proofs.reading.request_at.Goals as goal

pub returns : goal.returns
unfolding shifted_request shifted_part
returns c = cc
