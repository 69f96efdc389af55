-- A record made from any limits and capabilities is valid. It holds since bad ones make the smallest record, and good ones are the very ranges tested. Assumes nothing.
use mathlib.Core.Path.{◌≡◌, refl}
use mathlib.Core.Bool.{Bool, true, false}
use mathlib.Core.List.{List, [], ◌∷◌}
use Prim.Native.Nat.{ℕ}
use native.Mathlib.Omega.{arith}
use borrow.Author.Tests.{le-leb}
use lib.ListN.{length}
use Rattle.laws.specs.Upto.{all_to, distinct_to}
use Rattle.entries.specs.declared.Entries.{Entries}
use Rattle.record.specs.Tests.{within}
use Rattle.record.specs.Network.{is_network}
use Rattle.record.specs.New.{new_device, new_access, empty_record, new_record, may_make, made_of}
use Rattle.ranges.specs.Valid.{device_ranges, periodic_ranges, device_numbers, mode_ranges, pending_ranges, identity_ranges, held_ranges, access_ranges, ranges_of, counters_of, card_of, suci_of, codes_of, clock_of, once_of, ranks_of, valid_of}
use Rattle.record.proofs.Bounds.{one, rest}

device : (x y z c s : ℕ) → may_make x y z c s ≡ true → device_numbers (new_device x y z c s) ≡ true
unfolding may_make device_numbers device_ranges periodic_ranges new_device
device x y z c s e =
    let e2 = rest (within 1 10 x) _ e in
    let e3 = rest (within 1 10 y) _ e2 in
    let e4 = rest (within 1 10 z) _ e3 in
    rw (one (within 1 10 x) _ e, one (within 1 10 y) _ e2, one (within 1 10 z) _ e3, one (within 1 13 c) _ e4, rest (within 1 13 c) _ e4)

access : (l : List ℕ) (t : Entries) → access_ranges (new_access 0) l t ≡ true
unfolding access_ranges mode_ranges pending_ranges identity_ranges held_ranges new_access all_to
access l t = refl

counters : (x y z c s : ℕ) (t : Entries) → counters_of (new_device x y z c s) (new_access 0) t ≡ true
unfolding counters_of new_device new_access all_to
counters x y z c s t = rw (le-leb 0 x (omega arith))

good : (x y z : ℕ) (c s : List ℕ) → may_make x y z (length c) (length s) ≡ true → valid_of (new_record x y z c s) ≡ true
unfolding valid_of ranges_of card_of suci_of codes_of clock_of once_of ranks_of new_record empty_record new_device new_access is_network all_to distinct_to
good x y z c s e = rw (device x y z (length c) (length s) e, access, counters)

smallest : may_make 1 1 1 1 2 ≡ true
unfolding may_make
smallest = refl

pub made-valid : (x y z : ℕ) (c s : List ℕ) → valid_of (made_of x y z c s).made ≡ true
unfolding made_of
made-valid x y z c s = go (may_make x y z (length c) (length s)) refl
  where
    go : (t : Bool) → may_make x y z (length c) (length s) ≡ t → valid_of (made_of x y z c s).made ≡ true
    go true e = rw e (good x y z c s e)
    go false e = rw e (good 1 1 1 (0 ∷ []) (0 ∷ 0 ∷ []) smallest)
