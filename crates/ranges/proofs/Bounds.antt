-- A count that passed its test is a bound. Assumes nothing.
use mathlib.Core.Path.{◌≡◌}
use mathlib.Core.Bool.{true}
use Prim.Native.Nat.{ℕ, ◌≤◌}
use mathlib.Core.List.{List}
use lib.Dec.{eqb}
use borrow.Author.Tests.{leb-true}
use Rattle.record.specs.Tests.{both, either, within, up_to, is_flag, is_short}
use Rattle.record.proofs.Bounds.{one, rest}
use Rattle.ranges.specs.Valid.{device_ranges, mode_ranges, identity_ranges, pending_ranges, access_ranges, device_numbers, ranges_of, Bounded}
use Rattle.entries.specs.declared.Entries.{Entries}
use Rattle.record.specs.declared.Device.{Device}
use Rattle.record.specs.declared.Access.{Access}
use Rattle.record.specs.declared.Record.{Record}

pub counts : (a : Access) → identity_ranges a ≡ true → (a.equivalents ≤ 15) × (a.entries ≤ 16)
unfolding identity_ranges
counts a e =
    let ranges : both (up_to 15 a.equivalents) (up_to 16 a.entries) ≡ true =
    rest (up_to 7 a.ksi) _
    (rest (either (eqb a.visited 0) (both (is_short a.lastnet) (is_short a.lastcode))) _
    (rest (is_flag a.visited) _
    (rest (is_flag a.guti) _ (rest (is_short a.code) _ e)))) in
    (leb-true _ _ (one _ _ ranges), leb-true _ _ (rest (up_to 15 a.equivalents) _ ranges))

pub lists : (d : Device) → device_numbers d ≡ true → (d.roaming ≤ 40) × (d.regional ≤ 40)
unfolding device_numbers device_ranges
lists d e =
    let ranges : both (up_to 40 d.roaming) (up_to 40 d.regional) ≡ true =
    rest (is_flag d.t3247) _
    (rest (within 2 8 d.security) _
    (rest (within 1 13 d.capability) _
    (rest (within 1 10 d.n1limit) _
    (rest (within 1 10 d.banlimit) _
    (rest (within 1 10 d.cardlimit) _
    (rest (either (eqb d.card 0) (within 9 64 d.suci)) _ (rest (is_flag d.card) _ (one _ _ e)))))))) in
    (leb-true _ _ (one _ _ ranges), leb-true _ _ (rest (up_to 40 d.roaming) _ ranges))

entries : (a : Access) (l : List ℕ) (t : Entries) → access_ranges a l t ≡ true → a.entries ≤ 16
unfolding access_ranges
entries a l t e = (counts a (one _ _ (rest (pending_ranges a) _ (rest (mode_ranges a) _ e)))).1

-- the same of a record's numbers, once its ranges hold
pub bounded : (r : Record) → ranges_of r ≡ true → Bounded r.hot
unfolding ranges_of
bounded r e =
    let d = one _ _ e in
    let more = rest (device_numbers r.hot.dev) _ e in
    record {
      first = entries r.hot.a0 r.equivalents0 r.e0 (one _ _ more);
      second = entries r.hot.a1 r.equivalents1 r.e1 (one _ _ (rest (access_ranges r.hot.a0 r.equivalents0 r.e0) _ more));
      roaming = (lists r.hot.dev d).0;
      regional = (lists r.hot.dev d).1;
    }
