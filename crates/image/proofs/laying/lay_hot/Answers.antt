-- The device, then the accesses. Assumes nothing.
use Prim.Native.Nat.{◌≤◌}
use mathlib.Core.List.{append_assoc}
use native.Mathlib.Omega.{arith}
use lib.ListN.{length}
use Rattle.laws.proofs.Splice.{join}
use Rattle.image.specs.Layout.{hot_columns}
use Rattle.image.proofs.Lays.{columns-append}
use Rattle.image.proofs.laying.lay_hot.Goals as goal

pub returns-clause-laid : goal.returns-clause-laid
unfolding hot_columns
returns-clause-laid c =
    let h : c.args.at ≤ length c.args.buffer.now = omega (arith, c.requires) in
    simp (columns-append, ← append_assoc) (join h (join h c.lay_device-next.ensures.laid c.lay_access-last.ensures.laid) c.lay_access.ensures.laid)
