-- `reorder` meets its contract: the deed picks the definition. Assumes nothing.
use Rattle.entries.proofs.Laws.{order-stays}
use Rattle.entries.proofs.Entries.reorder.Goals as goal

pub returns-in_default : goal.returns-in_default
returns-in_default c = rw (order-stays _ c.in_default.not-Ban c.in_default.not-Bar c.in_default.not-Fresh _ _)
