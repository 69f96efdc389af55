-- The elements, one behind the other. Assumes nothing.
use native.Mathlib.Omega.{arith}
use Rattle.laws.proofs.Splice.{join}
use Rattle.request.specs.Steps.{said, rear_octets}
use Rattle.request.proofs.Pieces.{spread-rear}
use Rattle.request.proofs.laying.Saying.rear.Goals as goal

pub long-at-requires : goal.long-at-requires
long-at-requires c = (omega (arith, c.requires.0.additional), omega (arith, spread-rear (said c.args.self), c.requires.1))

pub short-at-requires : goal.short-at-requires
short-at-requires c = (omega (arith, c.requires.0.status), omega (arith, spread-rear (said c.args.self), c.requires.1))

pub long-requires : goal.long-requires
long-requires c = (omega (arith, c.requires.0.attach), omega (arith, spread-rear (said c.args.self), c.requires.1))

pub returns : goal.returns
unfolding rear_octets
returns c = join (omega (arith, c.requires.1)) (join (omega (arith, c.requires.1)) c.long-at.ensures c.short-at.ensures) c.long.ensures
