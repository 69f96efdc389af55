-- A number of eight octets is its halves of four. Assumes nothing.
use Rattle.image.proofs.Filled.{halves}
use Rattle.image.proofs.columns.U64Number.read.Goals as goal

pub returns : goal.returns
returns c = rw (c.from.ensures, c.from-2.ensures, c.read.ensures, c.read-2.ensures) (halves 4 4 _ _)
