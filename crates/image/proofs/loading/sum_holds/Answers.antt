-- The checksum is over what stands before it. Assumes nothing.
use Rattle.image.specs.Image.{sum_holds}
use Rattle.image.proofs.loading.sum_holds.Goals as goal

pub returns : goal.returns
unfolding sum_holds
returns c = rw (c.checksum.ensures, c.read.ensures, c.requires.0)
