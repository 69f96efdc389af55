-- What a valid record in state 4 holds: a card with its SUCI, and the ranges of what a request is made of. Assumes nothing.
use Prim.Native.Nat.{ℕ, ◌≤◌}
use mathlib.Core.Path.{◌≡◌, refl, sym}
use mathlib.Core.Bool.{Bool, true, false, cond, true≢false}
use mathlib.Core.Logic.{◌⊎◌, inl, inr}
use native.Mathlib.Omega.{arith}
use lib.ListN.{get_or}
use lib.Dec.{leb, eqb}
use borrow.Author.Tests.{leb-true, eqb-true}
use Rattle.record.specs.declared.Device.{Device}
use Rattle.record.specs.declared.Access.{Access}
use Rattle.record.specs.declared.Hot.{Hot}
use Rattle.record.specs.declared.Record.{Record}
use Rattle.record.specs.Tests.{both, either, within, up_to, is_flag, is_short}
use Rattle.ranges.specs.Valid.{device_ranges, device_numbers, mode_ranges, pending_ranges, identity_ranges, access_ranges, ranges_of, counters_of, card_of, suci_of, valid_of}
use Rattle.record.proofs.Bounds.{one, rest, least, most}
use Rattle.record.specs.Sides.{access_of}
use Rattle.request.specs.Writing.{may_request}

choice : (x y z : Bool) → either x (both y z) ≡ true → (x ≡ true) ⊎ ((y ≡ true) × (z ≡ true))
choice true y z e = inl refl
choice false true z e = inr (refl, e)
choice false false z e = absurd (true≢false (sym e))

other : (x : Bool) {y : Bool} → x ≡ false → either x y ≡ true → y ≡ true
other x {y} e h = rw e at h

module _ (r : Record) (valid : valid_of r ≡ true) where
  ranges : ranges_of r ≡ true
  unfolding valid_of
  ranges = one (ranges_of r) _ valid

  device : device_ranges r.hot.dev ≡ true
  unfolding ranges_of device_numbers
  device = one (device_ranges r.hot.dev) _ (one (device_numbers r.hot.dev) _ ranges)

  accesses : both (access_ranges r.hot.a0 r.equivalents0 r.e0) (access_ranges r.hot.a1 r.equivalents1 r.e1) ≡ true
  unfolding ranges_of
  accesses =
      let all = rest (device_numbers r.hot.dev) _ ranges in
      joint (one (access_ranges r.hot.a0 r.equivalents0 r.e0) _ all) (one (access_ranges r.hot.a1 r.equivalents1 r.e1) _ (rest (access_ranges r.hot.a0 r.equivalents0 r.e0) _ all))
    where
      joint : {x y : Bool} → x ≡ true → y ≡ true → both x y ≡ true
      joint e f = rw (e, f)

  card : card_of r.hot ≡ true
  unfolding valid_of
  card = one (card_of r.hot) _ (rest (both (counters_of r.hot.dev r.hot.a0 r.e0) (counters_of r.hot.dev r.hot.a1 r.e1)) _ (rest (ranges_of r) _ valid))

  suci : suci_of r.hot.dev r.suci ≡ true
  unfolding valid_of
  suci = one (suci_of r.hot.dev r.suci) _ (rest (card_of r.hot) _ (rest (both (counters_of r.hot.dev r.hot.a0 r.e0) (counters_of r.hot.dev r.hot.a1 r.e1)) _ (rest (ranges_of r) _ valid)))

-- a card is there where an access is in state 4
four : (b : Bool) (h : Hot) → (cond b h.a0 h.a1).state ≡ 4 → eqb h.a0.state 0 ≡ true → eqb h.a1.state 0 ≡ true → ⊥
four true h e f g = omega (arith, eqb-true h.a0.state 0 f)
four false h e f g = omega (arith, eqb-true h.a1.state 0 g)

held : (access : ℕ) (h : Hot) → (access_of h access).state ≡ 4 → card_of h ≡ true → h.dev.card ≡ 1
unfolding card_of access_of
held access h e f = pick (choice (eqb h.dev.card 1) (eqb h.a0.state 0) (eqb h.a1.state 0) f)
  where
    pick : (eqb h.dev.card 1 ≡ true) ⊎ ((eqb h.a0.state 0 ≡ true) × (eqb h.a1.state 0 ≡ true)) → h.dev.card ≡ 1
    pick (inl g) = eqb-true h.dev.card 1 g
    pick (inr (g, k)) = absurd (four (eqb access 0) h e g k)

-- the device's lengths
unknown : (d : Device) → d.card ≡ 1 → eqb d.card 0 ≡ false
unknown d e = rw e

lengths : (d : Device) → d.card ≡ 1 → device_ranges d ≡ true → ((9 ≤ d.suci) × (d.suci ≤ 64)) × (((1 ≤ d.capability) × (d.capability ≤ 13)) × ((2 ≤ d.security) × (d.security ≤ 8)))
unfolding device_ranges
lengths d e f =
    let known = rest (is_flag d.card) _ f in
    let limits = rest (either (eqb d.card 0) (within 9 64 d.suci)) _ known in
    let caps = rest (within 1 10 d.n1limit) _ (rest (within 1 10 d.banlimit) _ (rest (within 1 10 d.cardlimit) _ limits)) in
    let long : within 9 64 d.suci ≡ true = other (eqb d.card 0) (unknown d e) (one (either (eqb d.card 0) (within 9 64 d.suci)) _ known) in
    let cap : within 1 13 d.capability ≡ true = one (within 1 13 d.capability) _ caps in
    let sec : within 2 8 d.security ≡ true = one (within 2 8 d.security) _ (rest (within 1 13 d.capability) _ caps) in
    ((least 9 64 d.suci long, most 9 64 d.suci long), ((least 1 13 d.capability cap, most 1 13 d.capability cap), (least 2 8 d.security sec, most 2 8 d.security sec)))

key : (a : Access) → identity_ranges a ≡ true → a.ksi ≤ 7
unfolding identity_ranges
key a e =
    leb-true a.ksi 7
    (one (up_to 7 a.ksi) _
    (rest (either (eqb a.visited 0) (both (is_short a.lastnet) (is_short a.lastcode))) _
    (rest (is_flag a.visited) _
    (rest (is_flag a.guti) _ (rest (is_short a.code) _ e)))))

sort : (a : Access) → pending_ranges a ≡ true → (1 ≤ a.regtype) × (a.regtype ≤ 3)
unfolding pending_ranges
sort a e = let w : within 1 3 a.regtype ≡ true = one (within 1 3 a.regtype) _ e in (least 1 3 a.regtype w, most 1 3 a.regtype w)

-- the key set and the type
abbrev Marked : Access → Type 0
Marked a = (a.ksi ≤ 7) × ((1 ≤ a.regtype) × (a.regtype ≤ 3))

marked : (a : Access) (x : Bool) → both (mode_ranges a) (both (pending_ranges a) (both (identity_ranges a) x)) ≡ true → Marked a
marked a x e =
    let pending = rest (mode_ranges a) _ e in
    (key a (one (identity_ranges a) _ (rest (pending_ranges a) _ pending)), sort a (one (pending_ranges a) _ pending))

-- what a request over an access in state 4 is made of
pub record Ready (r : Record) (a : Access) : Type 0 where
  pub suci : (9 ≤ r.hot.dev.suci) × (r.hot.dev.suci ≤ 64)
  pub opens : get_or r.suci 0 0 ≡ 1
  pub capability : (1 ≤ r.hot.dev.capability) × (r.hot.dev.capability ≤ 13)
  pub security : (2 ≤ r.hot.dev.security) × (r.hot.dev.security ≤ 8)
  pub ksi : a.ksi ≤ 7
  pub regtype : (1 ≤ a.regtype) × (a.regtype ≤ 3)

module _ (r : Record) (access : ℕ) (valid : valid_of r ≡ true) (state : (access_of r.hot access).state ≡ 4) where
  carded : r.hot.dev.card ≡ 1
  carded = held access r.hot state (card r valid)

  opened : get_or r.suci 0 0 ≡ 1
  unfolding suci_of
  opened = eqb-true (get_or r.suci 0 0) 1 (other (eqb r.hot.dev.card 0) (unknown r.hot.dev carded) (suci r valid))

  either-marked : (b : Bool) → Marked (cond b r.hot.a0 r.hot.a1)
  unfolding access_ranges
  either-marked true = marked r.hot.a0 _ (one (access_ranges r.hot.a0 r.equivalents0 r.e0) _ (accesses r valid))
  either-marked false = marked r.hot.a1 _ (rest (access_ranges r.hot.a0 r.equivalents0 r.e0) _ (accesses r valid))

  own-marked : Marked (access_of r.hot access)
  unfolding access_of
  own-marked = either-marked (eqb access 0)

  pub ready : Ready r (access_of r.hot access)
  ready =
      let sizes = lengths r.hot.dev carded (device r valid) in
      record { suci = sizes.0; opens = opened; capability = sizes.1.0; security = sizes.1.1; ksi = own-marked.0; regtype = own-marked.1 }

-- what a request that may be written has
pub record May (r : Record) (w n : ℕ) : Type 0 where
  pub attach : n ≤ 65000
  pub access : w ≤ 1
  pub valid : valid_of r ≡ true

pub may-facts : (r : Record) (access attach : ℕ) → may_request r access attach ≡ true → May r access attach
unfolding may_request
may-facts r access attach e =
    let inner : both (leb access 1) (valid_of r) ≡ true = rest (leb attach 65000) _ e in
    record { attach = leb-true attach 65000 (one (leb attach 65000) _ e); access = leb-true access 1 (one (leb access 1) _ inner); valid = rest (leb access 1) _ inner }
