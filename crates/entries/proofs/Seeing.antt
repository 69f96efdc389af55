-- What is seen of a network: where it has an entry or one is free, its place is that; else it is that of the one that gives it up. Assumes nothing.
use Prim.Native.Nat.{ℕ, ◌≤◌, ◌<◌}
use mathlib.Core.Path.{◌≡◌}
use mathlib.Core.Bool.{true, false}
use mathlib.Core.List.{List}
use native.Mathlib.Omega.{arith}
use borrow.Author.Tests.{ltb-true, lt-ltb, le-ltb}
use Rattle.entries.specs.declared.Seen.{Seen}
use Rattle.entries.specs.Places.{entries_held, place_in, has_entry, peek_at}
use Rattle.entries.specs.Order.{leaver_to}
use Rattle.entries.specs.Entries.{found_in, place_for, seen_in}
use Rattle.entries.proofs.Joining.{held_fits}

module _ (count net : ℕ) (nets forbidden barred ranks : List ℕ) where
  abbrev found : Seen
  found = found_in count net nets forbidden barred

  abbrev seen : Seen
  seen = seen_in count net nets forbidden barred ranks

  pub seen-room : found.at < 16 → found ≡ seen
  unfolding seen_in found_in place_for
  seen-room h = rw (lt-ltb (place_in count net nets) 16 h)

  pub seen-found : found.found ≡ true → found ≡ seen
  unfolding found_in has_entry
  seen-found e = seen-room (omega (arith, ltb-true (place_in count net nets) (entries_held count) e, held_fits count))

  pub seen-left : found.found ≡ false → 16 ≤ found.at → record { at = leaver_to 16 forbidden barred ranks; found = false; forbidden = 0; barred = 0 } ≡ seen
  unfolding seen_in found_in place_for has_entry peek_at
  seen-left e h = rw (le-ltb (place_in count net nets) 16 h, e)
