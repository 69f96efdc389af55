-- Two columns, one behind the other. Assumes nothing.
use mathlib.Core.List.{append-nil}
use native.Mathlib.Omega.{arith}
use Rattle.laws.proofs.Splice.{join}
use Rattle.image.specs.Numbers.{column_octets}
use Rattle.image.specs.Layout.{device_columns}
use Rattle.image.proofs.laying.lay_device.Goals as goal

pub returns-clause-laid : goal.returns-clause-laid
unfolding column_octets device_columns
returns-clause-laid c = rw (← c.device_words.ensures, ← c.device_octets.ensures, append-nil) (join (omega arith) c.lay_column-next.ensures.laid c.lay_column.ensures.laid)
