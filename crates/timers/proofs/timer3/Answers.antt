-- `timers::timer3` meets its contract: the number of the table makes of a count what its row makes of it. Assumes nothing.
use Rattle.timers.specs.Timer.{timer3_rows, span3_of}
use Rattle.timers.proofs.Rows.{right-at, numbers3, right3}
use Rattle.timers.proofs.timer3.Goals as goal

pub returns : goal.returns
unfolding span3_of
returns c = rw (← c.from.ensures, right-at timer3_rows numbers3 c.from.result right3) c.span_by.ensures
