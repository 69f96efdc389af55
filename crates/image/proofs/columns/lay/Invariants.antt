-- What is left of the number, put over what the buffer is, makes the whole; and the buffer is as long as it was. Assumes nothing.
use Rattle.std.proofs.Common.{◌≡◌, ◌+◌, ◌-◌, length}
use Rattle.laws.specs.Splice.{spliced}
use Rattle.image.specs.Numbers.{number_octets}
use Rattle.image.proofs.columns.lay.Given as goal

abbrev pub invariant-loop-i : goal.invariant-loop-i
invariant-loop-i l = record {
  long : length l.buffer ≡ length l.initial.buffer;
  whole : spliced l.buffer (l.at + l.i) (number_octets (l.k - l.i) l.rest) ≡ spliced l.initial.buffer l.at (number_octets l.k l.x);
}
