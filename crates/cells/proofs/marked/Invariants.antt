-- No entry passed so far is of the network and marked. Assumes nothing.
use Rattle.std.proofs.Common.{◌≡◌, false}
use Rattle.cells.specs.Cells.{marked}
use Rattle.cells.proofs.marked.Given as goal

abbrev pub invariant-loop-k : goal.invariant-loop-k
invariant-loop-k l = marked l.e.nets l.e.forbidden l.e.barred l.net l.k ≡ false
