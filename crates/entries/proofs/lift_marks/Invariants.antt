-- The loop's invariant: the first i marks are lifted by their counters, the others stand.
use mathlib.Core.Path.{◌≡◌}
use Rattle.laws.specs.Upto.{upto}
use Rattle.entries.specs.Entries.{lift_mark}
use Rattle.entries.proofs.lift_marks.Given as goal

abbrev pub invariant-loop-i : goal.invariant-loop-i
invariant-loop-i l = l.marks ≡ upto (lift_mark l.limit) l.i l.counts l.initial.marks
