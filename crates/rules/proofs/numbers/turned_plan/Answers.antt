-- Each part is what its function ensures; together they are the plan of its turn. Assumes nothing.
use Rattle.rules.specs.Sides.{turn_plan}
use Rattle.rules.proofs.Turned.{turn-plan}
use Rattle.rules.proofs.numbers.turned_plan.Goals as goal

pub returns : goal.returns
unfolding turn_plan
returns c = let start = c.args in
    rw (c.turn_reply.ensures, c.hot_with.ensures, c.idle.ensures, c.clocked.ensures, c.ticked-after.ensures, c.flag_after.ensures, c.told_of.ensures)
    (turn-plan start.h start.w start.dev start.t start.t3512 start.restart)
