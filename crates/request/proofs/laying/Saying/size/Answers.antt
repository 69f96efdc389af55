-- An element of none is left out, and each other one has its lead. Assumes nothing.
use native.Mathlib.Omega.{arith}
use Rattle.request.specs.Steps.{said}
use Rattle.request.proofs.Pieces.{long}
use Rattle.request.proofs.laying.Saying.size.Goals as goal

pub returns : goal.returns
returns c = omega (arith, long (said c.args.self))
