-- A number of two octets is the first and 256 times the second. Assumes nothing.
use Rattle.std.proofs.Common.{◌+◌}
use Rattle.image.proofs.Filled.{one-octet, halves}
use Rattle.image.proofs.columns.U16Number.read.Goals as goal

pub returns : goal.returns
returns c = rw (c.from.ensures, c.from-2.ensures, one-octet _ c.args.at, one-octet _ (c.args.at + 1)) (halves 1 1 _ _)
