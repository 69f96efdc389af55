-- No key is there twice before i; the first that is decides it. Assumes nothing.
use mathlib.Core.Path.{◌≡◌}
use mathlib.Core.Bool.{true}
use Rattle.ranges.specs.Valid.{halved}
use Rattle.laws.specs.Upto.{distinct_to}
use Rattle.ranges.proofs.columns.listed_once.Given as goal

abbrev pub invariant-loop-i : goal.invariant-loop-i
invariant-loop-i l = distinct_to halved l.i l.xs ≡ true
