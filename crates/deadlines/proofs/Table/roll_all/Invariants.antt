-- The first i slots are rolled. Assumes nothing.
use Rattle.std.proofs.Common.{◌≡◌}
use Rattle.deadlines.specs.Asking.{roll_to}
use Rattle.deadlines.proofs.Table.roll_all.Given as goal

abbrev pub invariant-loop-i : goal.invariant-loop-i
invariant-loop-i l = l.self ≡ roll_to l.time l.i l.initial.self
