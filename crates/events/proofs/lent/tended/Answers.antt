-- No deed leaves the entries. Assumes nothing.
use Rattle.entries.specs.Entries.{marks_after, ranks_after, is_import, with_file, entries_after}
use Rattle.events.proofs.lent.tended.Goals as goal

pub returns-in-Nothing : goal.returns-in-Nothing
unfolding entries_after with_file ranks_after marks_after is_import
returns-in-Nothing c = rw c.in-Nothing.is
