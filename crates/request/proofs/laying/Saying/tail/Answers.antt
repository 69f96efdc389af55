-- The elements, one behind the other. Assumes nothing.
use native.Mathlib.Omega.{arith}
use Rattle.laws.proofs.Splice.{join}
use Rattle.request.specs.Steps.{said, tail_octets}
use Rattle.request.proofs.Pieces.{spread-tail}
use Rattle.request.proofs.laying.Saying.tail.Goals as goal

pub plain-at-requires : goal.plain-at-requires
plain-at-requires c = omega (arith, spread-tail (said c.args.self), c.requires.1)

pub short-at-requires : goal.short-at-requires
short-at-requires c = (omega (arith, c.requires.0.uplink), omega (arith, spread-tail (said c.args.self), c.requires.1))

pub short-requires : goal.short-requires
short-requires c = (omega (arith, c.requires.0.sessions), omega (arith, spread-tail (said c.args.self), c.requires.1))

pub returns : goal.returns
unfolding tail_octets
returns c = join (omega (arith, c.requires.1)) (join (omega (arith, c.requires.1)) c.plain-at.ensures c.short-at.ensures) c.short.ensures
