-- So far the protected of the first i elements stand in front, and behind them the array is as it was.
use Prim.Native.Nat.{◌≤◌}
use Rattle.areas.specs.Areas.{is_protected}
use Rattle.areas.proofs.Keep.{Kept}
use Rattle.areas.proofs.sweep.Given as goal

abbrev pub invariant-loop-i : goal.invariant-loop-i
invariant-loop-i l = (l.j ≤ l.i) × Kept is_protected l.initial.list l.i l.j l.list
