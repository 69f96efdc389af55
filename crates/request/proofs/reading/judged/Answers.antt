-- The test and what is said, as the definition has them. Assumes nothing.
use Rattle.request.specs.Reading.{judged_of}
use Rattle.request.proofs.reading.judged.Goals as goal

pub returns : goal.returns
unfolding judged_of
returns c = λ l e f m. rw (← c.fits-fits.ensures l e.first e.second, ← c.said.ensures l e f m) c.kept.ensures
