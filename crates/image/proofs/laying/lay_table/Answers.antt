-- Three columns, one behind the other: behind each, room for the rest. Assumes nothing.
use Prim.Native.Nat.{◌≤◌}
use mathlib.Core.List.{append_assoc, append-nil}
use native.Mathlib.Omega.{arith}
use lib.ListN.{length}
use Rattle.laws.proofs.Splice.{join}
use Rattle.image.specs.Numbers.{column_octets}
use Rattle.image.specs.Layout.{table_columns}
use Rattle.image.proofs.laying.lay_table.Goals as goal

pub returns-clause-laid : goal.returns-clause-laid
unfolding column_octets table_columns
returns-clause-laid c =
    let h : c.args.at ≤ length c.args.buffer.now = omega (arith, c.requires) in
    simp (append-nil, ← append_assoc) (join h (join h c.lay_column-a.ensures.laid c.lay_column-b.ensures.laid) c.lay_column.ensures.laid)
