-- What stands before 77, then 77, 2B and 70: two pieces are one. Assumes nothing.
use native.Mathlib.Omega.{arith}
use Rattle.laws.proofs.Splice.{join}
use Rattle.request.specs.Steps.{said}
use Rattle.request.proofs.Pieces.{in_order, parts-long}
use Rattle.request.proofs.laying.Saying.lay.Goals as goal

pub front-at-requires : goal.front-at-requires
front-at-requires c = (c.requires.0, omega (arith, parts-long (said c.args.self), c.requires.1))

pub rear-requires : goal.rear-requires
rear-requires c = (c.requires.0, omega (arith, parts-long (said c.args.self), c.requires.1))

pub returns : goal.returns
returns c = rw (in_order (said c.args.self)) (join (omega (arith, c.requires.1)) c.front-at.ensures c.rear.ensures)
