-- The body, then the checksum of what was put. Assumes nothing.
use native.Mathlib.Omega.{arith}
use Rattle.laws.proofs.Splice.{join}
use Rattle.image.specs.Image.{image_of}
use Rattle.image.proofs.Lays.{at_front, put-over}
use Rattle.image.proofs.saving.lay_image.Goals as goal

pub returns : goal.returns
unfolding image_of
returns c =
    let b = c.lay_body-at.ensures.laid in
    put-over (rw (c.checksum-sum.ensures, at_front b) at (join (omega arith) b c.lay.ensures.laid))
