-- `best` is the best of the first i slots. Assumes nothing.
use Rattle.std.proofs.Common.{◌≡◌}
use Rattle.deadlines.specs.Asking.{best_to}
use Rattle.deadlines.proofs.Table.furthest.Given as goal

abbrev pub invariant-loop-i : goal.invariant-loop-i
invariant-loop-i l = l.best ≡ best_to l.time l.i l.self
