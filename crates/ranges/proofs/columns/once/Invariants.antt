-- No element is there twice before i; the first that is decides it. Assumes nothing.
use mathlib.Core.Path.{◌≡◌}
use mathlib.Core.Bool.{true}
use Rattle.laws.specs.Upto.{apart_to}
use Rattle.ranges.proofs.columns.once.Given as goal

abbrev pub invariant-loop-i : goal.invariant-loop-i
invariant-loop-i g l = apart_to g.T.PartialEq.eq l.i l.xs ≡ true
