-- The loop's invariant: what is written is what is marked among the first i. Assumes nothing.
use Rattle.usim.proofs.Steps.{Written}
use Rattle.usim.proofs.list.Given as goal

abbrev pub invariant-loop-i : goal.invariant-loop-i
invariant-loop-i l = Written l.n l.nets l.marks l.initial.file l.file l.at l.i
