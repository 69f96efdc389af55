-- By the two cases of a reading. Assumes nothing.
use Rattle.request.specs.Levels.{shifted}
use Rattle.request.specs.Reader.{Below}
use Rattle.request.proofs.reading.asking_at.Goals as goal

pub request_at-requires : goal.request_at-requires
unfolding Below
request_at-requires c = rw c.in-Ok.is at c.requires

pub unread_at-requires : goal.unread_at-requires
unread_at-requires c = rw c.in-Err.is at c.requires

pub returns-in-Ok : goal.returns-in-Ok
unfolding shifted
returns-in-Ok c = rw (c.in-Ok.is, c.request_at.ensures)

pub returns-in-Err : goal.returns-in-Err
returns-in-Err c = rw c.in-Err.is c.unread_at.ensures
