-- Three columns, one behind the other. Assumes nothing.
use Prim.Native.Nat.{◌≤◌}
use mathlib.Core.List.{append_assoc, append-nil}
use native.Mathlib.Omega.{arith}
use lib.ListN.{length}
use Rattle.laws.proofs.Splice.{join}
use Rattle.image.specs.Numbers.{column_octets}
use Rattle.image.specs.Layout.{access_columns}
use Rattle.image.proofs.laying.lay_access.Goals as goal

pub returns-clause-laid : goal.returns-clause-laid
unfolding column_octets access_columns
returns-clause-laid c =
    let h : c.args.at ≤ length c.args.buffer.now = omega (arith, c.requires) in
    rw (← c.access_words.ensures, ← c.access_pairs.ensures, ← c.access_octets.ensures) (simp (append-nil, ← append_assoc) (join h (join h c.lay_column-next.ensures.laid c.lay_column-last.ensures.laid) c.lay_column.ensures.laid))
