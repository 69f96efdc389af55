-- The oldest comes last, and the new one over it. Assumes nothing.
use native.Mathlib.Omega.{arith}
use Rattle.areas.proofs.Ways.{turned}
use Rattle.areas.proofs.push.Goals as goal

pub returns : goal.returns
returns c = turned 39 c.args.list.now c.args.x (omega arith) c.rotate_left.new.self c.rotate_left.ensures.after
