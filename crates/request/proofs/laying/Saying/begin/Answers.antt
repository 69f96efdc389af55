-- The head, then the identity: two pieces are one. Assumes nothing.
use native.Mathlib.Omega.{arith}
use Rattle.laws.proofs.Splice.{join}
use Rattle.request.specs.Layout.{opening}
use Rattle.request.specs.Steps.{said}
use Rattle.request.proofs.Pieces.{opens}
use Rattle.request.proofs.laying.Saying.begin.Goals as goal

pub put-from-requires : goal.put-from-requires
put-from-requires c = omega (arith, opens (said c.args.self), c.requires.1, c.head-head.type_inv)

pub put-requires : goal.put-requires
put-requires c = omega (arith, opens (said c.args.self), c.requires.1, c.put-from.ensures.goes)

pub returns : goal.returns
unfolding opening
returns c = rw (← c.head-head.ensures) (join (omega arith) c.put-from.ensures c.put.ensures)
