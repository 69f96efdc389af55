-- The opening and the elements, one behind the other. Assumes nothing.
use Prim.Native.Nat.{◌≤◌}
use native.Mathlib.Omega.{arith}
use lib.ListN.{length}
use Rattle.laws.proofs.Splice.{join}
use Rattle.request.specs.Steps.{said, front_octets}
use Rattle.request.proofs.Pieces.{spread}
use Rattle.request.proofs.laying.Saying.front.Goals as goal

pub begin-at-requires : goal.begin-at-requires
begin-at-requires c = (c.requires.0, omega (arith, spread (said c.args.self), c.requires.1))

pub short-at-requires : goal.short-at-requires
short-at-requires c = (omega (arith, c.requires.0.capability), omega (arith, spread (said c.args.self), c.requires.1))

pub short-at-requires-2 : goal.short-at-requires-2
short-at-requires-2 c = (omega (arith, c.requires.0.security), omega (arith, spread (said c.args.self), c.requires.1))

pub tail-requires : goal.tail-requires
tail-requires c = (c.requires.0, omega (arith, spread (said c.args.self), c.requires.1))

pub returns : goal.returns
unfolding front_octets
returns c =
    let h : c.args.at ≤ length c.args.buffer.now = omega (arith, c.requires.1) in
    join h (join h (join h c.begin-at.ensures c.short-at.ensures) c.short-at-2.ensures) c.tail.ensures
