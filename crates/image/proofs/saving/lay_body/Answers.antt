-- The head, the record and the table, one behind the other: behind each, room for the rest. Assumes nothing.
use mathlib.Core.List.{append_assoc}
use native.Mathlib.Omega.{arith}
use Rattle.laws.proofs.Splice.{join}
use Rattle.image.specs.Layout.{image_columns}
use Rattle.image.specs.Image.{body_of}
use Rattle.image.proofs.Lays.{columns-append}
use Rattle.image.proofs.saving.lay_body.Goals as goal

pub returns-clause-laid : goal.returns-clause-laid
unfolding body_of image_columns
returns-clause-laid c = simp (columns-append, ← append_assoc) (join (omega arith) (join (omega arith) c.lay_head-a.ensures.laid c.lay_record-b.ensures.laid) c.lay_table.ensures.laid)
