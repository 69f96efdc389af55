-- `timers::timer2` meets its contract: the number of the table makes of a count what its row makes of it. Assumes nothing.
use Rattle.timers.specs.Timer.{timer2_rows, span2_of}
use Rattle.timers.proofs.Rows.{right-at, numbers2, right2}
use Rattle.timers.proofs.timer2.Goals as goal

pub returns : goal.returns
unfolding span2_of
returns c = rw (← c.from.ensures, right-at timer2_rows numbers2 c.from.result right2) c.span_by.ensures
