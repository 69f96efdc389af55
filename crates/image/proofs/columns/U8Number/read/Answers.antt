use Rattle.image.proofs.Filled.{one-octet}
use Rattle.image.proofs.columns.U8Number.read.Goals as goal

pub returns : goal.returns
returns c = one-octet _ _
