-- The first i are the numbers of the octets, and the rest is as it was. Assumes nothing.
use Rattle.std.proofs.Common.{◌≡◌, ◌++◌, length, drop}
use Rattle.image.proofs.columns.column.Given as goal

abbrev pub invariant-loop-i : goal.invariant-loop-i
invariant-loop-i g l = record {
  long : length l.xs ≡ l.i-end;
  begun : length l.initial.xs ≡ l.i-end;
  read : l.xs ≡ g.T.Number.numbers l.i l.s l.at ++ drop l.i l.initial.xs;
}
