-- It names one of the ten slots. Assumes nothing.
use Rattle.deadlines.specs.Asking.{asked, after_ask}
use Rattle.deadlines.proofs.Choice.{asked-within}
use Rattle.deadlines.proofs.Table.ask.Goals as goal

pub returns-clause-within : goal.returns-clause-within
unfolding asked after_ask
returns-clause-within c = rw (c.name.ensures, c.furthest.ensures, c.roll_all.ensures) (asked-within c.args.time c.args.self.now)
