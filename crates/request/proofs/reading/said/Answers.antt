-- Each field is what its call ensures, or a part found. Assumes nothing.
use Rattle.request.specs.Reading.{request_in}
use Rattle.request.proofs.reading.said.Goals as goal

pub returns : goal.returns
unfolding request_in
returns c = λ l e f m. rw (← e.first, ← e.second, ← e.third, ← f.first, ← f.second, ← f.third, ← f.fourth, ← m) cc
