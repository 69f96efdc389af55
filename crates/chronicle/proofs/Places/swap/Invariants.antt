-- The loop's invariant: in the first i places the one stands for the other. Assumes nothing.
use Rattle.laws.specs.Upto.{upto}
use Rattle.chronicle.specs.Sheets.{replacing}
use Rattle.chronicle.proofs.Places.swap.Given as goal
use mathlib.Core.Path.{◌≡◌}

abbrev pub invariant-loop-net : goal.invariant-loop-net
invariant-loop-net l = l.net-items ≡ upto (replacing l.from l.to) l.net-index l.initial.net-items l.initial.net-items
