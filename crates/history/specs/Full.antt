-- Answer 4 of a reject, in document 02's words (R-9). Assumes nothing.
use Rattle.std.specs.Prelude.{ℕ, zero, suc, Bool, true, leb, eqb, get_or}
use Rattle.entries.specs.declared.Entries.{Entries}
use Rattle.record.specs.declared.Record.{Record}
use Rattle.record.specs.Sides.{access_of}
use Rattle.record.specs.Tests.{both, either, flip}
use Rattle.history.specs.Cell.{entries_in, held_in}

-- each of the first so many has a mark, or both
unfoldable pub all_marked : ℕ → Entries → Bool
all_marked zero t = true
all_marked (suc i) t = both (all_marked i t) (either (flip (eqb (get_or t.forbidden i 0) 0)) (flip (eqb (get_or t.barred i 0) 0)))

-- the network has no entry on access w, "no entry is free and all sixteen have a mark"
unfoldable pub is_crowded : Record → ℕ → ℕ → Bool
is_crowded r w net = both (flip (held_in r w net)) (both (leb 16 (access_of r.hot w).entries) (all_marked 16 (entries_in r w)))
