-- Where no entry is free, what is seen of a network has the place of the one that gives up its own. Assumes nothing.
use Prim.Native.Nat.{ℕ, ◌≤◌}
use mathlib.Core.Path.{◌≡◌}
use mathlib.Core.List.{List}
use borrow.Author.Tests.{le-ltb}
use Rattle.entries.specs.Places.{place_in}
use Rattle.entries.specs.Order.{leaver_to}
use Rattle.entries.specs.Entries.{found_in, place_for, seen_in}

pub seen-behind : (count net : ℕ) (nets forbidden barred ranks : List ℕ) → 16 ≤ (found_in count net nets forbidden barred).at
    → record { at = leaver_to 16 forbidden barred ranks; found = (found_in count net nets forbidden barred).found; forbidden = (found_in count net nets forbidden barred).forbidden; barred = (found_in count net nets forbidden barred).barred } ≡ seen_in count net nets forbidden barred ranks
unfolding seen_in found_in place_for
seen-behind count net nets forbidden barred ranks h = rw (le-ltb (place_in count net nets) 16 h)
