-- `after` meets its contract: nothing is done, a file is taken in, or the order and the marks are made.
use Rattle.entries.specs.Entries.{with_file, entries_after}
use Rattle.entries.proofs.Laws.{no-import}
use Rattle.entries.proofs.Taking.{marks-apart}
use Rattle.entries.proofs.Entries.after.Goals as goal

pub returns-in_default : goal.returns-in_default
unfolding entries_after with_file
returns-in_default c = rw (no-import _ c.in_default.not-Import, c.tend.ensures, c.reorder.ensures) (marks-apart _ _ _ _ _ _)
