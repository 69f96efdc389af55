-- `ban` meets its contract: the order stays beside the columns that are struck.
use mathlib.Core.Path.{ap}
use Rattle.entries.specs.Entries.{with_ranks, banned}
use Rattle.entries.proofs.Entries.ban.Goals as goal

pub returns : goal.returns
unfolding banned
returns c = ap (with_ranks c.args.self.now.ranks) c.strike.ensures
