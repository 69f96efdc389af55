-- The loop's invariant: the first i ranks have fallen, the others stand. Assumes nothing.
use mathlib.Core.Path.{◌≡◌}
use Rattle.laws.specs.Upto.{upto}
use Rattle.entries.specs.Order.{fallen}
use Rattle.entries.proofs.order.close_up.Given as goal

abbrev pub invariant-loop-i : goal.invariant-loop-i
invariant-loop-i l = l.ranks ≡ upto (λ x. fallen l.r) l.i l.initial.ranks l.initial.ranks
