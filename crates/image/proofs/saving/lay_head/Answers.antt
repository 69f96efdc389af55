-- Three columns, the last of one number. Assumes nothing.
use mathlib.Core.List.{append_assoc, append-nil}
use native.Mathlib.Omega.{arith}
use Rattle.laws.proofs.Splice.{join}
use Rattle.image.specs.Numbers.{column_octets}
use Rattle.image.specs.Layout.{head_columns}
use Rattle.image.proofs.Lays.{column-one}
use Rattle.image.proofs.saving.lay_head.Goals as goal

pub returns-clause-laid : goal.returns-clause-laid
unfolding column_octets head_columns
returns-clause-laid c = simp (column-one, append-nil, ← append_assoc) (join (omega arith) (join (omega arith) c.lay_column-a.ensures.laid c.lay_column-b.ensures.laid) c.lay.ensures.laid)
