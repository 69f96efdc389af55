-- `bar` meets its contract: a bar is a ban with the columns changed about.
use mathlib.Core.Path.{ap}
use Rattle.entries.specs.Entries.{with_ranks, banned, barred_by}
use Rattle.entries.proofs.Laws.{turn}
use Rattle.entries.proofs.Entries.bar.Goals as goal

pub returns : goal.returns
unfolding banned barred_by
returns c = ap (with_ranks c.args.self.now.ranks) (turn _ _ _ _ c.strike.ensures)
