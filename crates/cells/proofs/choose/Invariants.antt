-- What was written so far is what is permitted of the networks before. Assumes nothing.
use Rattle.entries.specs.Places.{entries_held}
use Rattle.cells.proofs.Steps.{State}
use Rattle.cells.proofs.choose.Given as goal

abbrev pub invariant-loop-i : goal.invariant-loop-i
invariant-loop-i l = State l.heard (entries_held l.fn.count) l.e.nets l.e.forbidden l.e.barred l.initial.out l.out l.n l.i
