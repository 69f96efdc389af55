-- A number of four octets is its halves of two. Assumes nothing.
use Rattle.image.proofs.Filled.{halves}
use Rattle.image.proofs.columns.U32Number.read.Goals as goal

pub returns : goal.returns
returns c = rw (c.from.ensures, c.from-2.ensures, c.read.ensures, c.read-2.ensures) (halves 2 2 _ _)
