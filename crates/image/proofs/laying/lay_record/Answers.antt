-- The parts of the record, one behind the other: behind each, room for the rest. Assumes nothing.
use Prim.Native.Nat.{◌≤◌}
use mathlib.Core.List.{append_assoc}
use native.Mathlib.Omega.{arith}
use lib.ListN.{length}
use Rattle.laws.proofs.Splice.{join}
use Rattle.image.specs.Layout.{record_columns}
use Rattle.image.proofs.Lays.{columns-append}
use Rattle.image.proofs.laying.lay_record.Goals as goal

pub returns-clause-laid : goal.returns-clause-laid
unfolding record_columns
returns-clause-laid c =
    let h : c.args.at ≤ length c.args.buffer.now = omega (arith, c.requires) in
    simp (columns-append, ← append_assoc) (join h (join h (join h (join h c.lay_hot-a.ensures.laid c.lay_entries-b.ensures.laid) c.lay_entries-c.ensures.laid) c.lay_areas-d.ensures.laid) c.lay_card.ensures.laid)
