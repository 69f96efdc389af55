-- w is the wait of the first i slots. Assumes nothing.
use Rattle.std.proofs.Common.{◌≡◌}
use Rattle.deadlines.specs.Waiting.{wait_to}
use Rattle.deadlines.proofs.Table.wait.Given as goal

abbrev pub invariant-loop-i : goal.invariant-loop-i
invariant-loop-i l = l.w ≡ wait_to l.time l.i l.self
