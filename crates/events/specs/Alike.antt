-- What the checks of an event without work look at. Assumes nothing.
use Rattle.std.specs.Prelude.{◌≡◌}
use Rattle.entries.specs.declared.Seen.{Seen}

-- the same marks
abbrev pub Alike : Seen → Seen → Type 0
Alike s t = (s.forbidden ≡ t.forbidden) × (s.barred ≡ t.barred)
