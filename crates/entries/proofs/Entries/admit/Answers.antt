-- `admit` meets its contract: each column by its callee's. Assumes nothing.
use mathlib.Core.Path.{refl}
use Rattle.entries.specs.Places.{place_in, has_entry}
use Rattle.entries.specs.Entries.{imported}
use Rattle.entries.proofs.Laws.{fresh, otherwise}
use Rattle.entries.proofs.Entries.admit.Goals as goal

pub returns : goal.returns
unfolding has_entry place_in imported
returns c =
    rw (
      c.grow.ensures,
      c.put_when-4.ensures,
      c.put_when-3.ensures,
      c.put-2.ensures,
      c.put_when-2.ensures,
      c.put_when.ensures,
      c.put.ensures,
      c.find-at.ensures,
      c.size-n.ensures.value,
    ) (record { value = refl; after = simp (fresh, otherwise) })
