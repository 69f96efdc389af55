-- The numbers before this one are laid, and the buffer is as long as it was. Assumes nothing.
use Rattle.image.proofs.Lays.{Part}
use Rattle.image.proofs.columns.lay_column.Given as goal

abbrev pub invariant-loop-x : goal.invariant-loop-x
invariant-loop-x g l = Part g.T.Number.WIDTH g.T.Number.column l.initial.buffer l.at l.xs l.buffer l.place l.x-index
