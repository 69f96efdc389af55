-- Deed by deed, as the definition. Assumes nothing.
use mathlib.Core.Path.{sym}
use Rattle.entries.proofs.Laws.{no-import}
use Rattle.entries.proofs.import.is_import.Goals as goal

pub returns-in_default : goal.returns-in_default
returns-in_default c = sym (no-import _ c.in_default.not-Import)
