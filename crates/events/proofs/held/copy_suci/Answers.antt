-- What is copied stands at the front. Assumes nothing.
use lib.ListN.{length}
use native.Mathlib.Omega.{arith}
use Rattle.events.proofs.Front.{at-most, copied-front}
use Rattle.events.proofs.held.copy_suci.Goals as goal

pub returns : goal.returns
returns c = rw (c.copy_from_slice.ensures.after, ← at-most 64 (length c.args.octets.now), ← c.min-n.ensures) (copied-front c.min-n.result c.args.octets.now c.args.suci.now (omega arith) (omega arith))
