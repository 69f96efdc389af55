-- Records that are the same field by field are one, and a record is the same as itself: what tells that nothing changed tells it exactly. Assumes nothing.
use Prim.Native.Nat.{ℕ}
use mathlib.Core.Path.{◌≡◌, refl, ◌∙◌, ap, ap₂}
use mathlib.Core.Bool.{Bool, true, false≢true}
use mathlib.Core.List.{List, [], ◌∷◌}
use lib.Dec.{eqb}
use borrow.Author.Tests.{eqb-true, eq-eqb}
use Rattle.entries.specs.declared.Entries.{Entries}
use Rattle.entries.specs.Entries.{entries_of}
use Rattle.record.specs.Tests.{both}
use Rattle.record.specs.declared.Device.{Device}
use Rattle.record.specs.declared.Access.{Access}
use Rattle.record.specs.declared.Hot.{Hot}
use Rattle.record.specs.declared.Record.{Record}
use Rattle.record.proofs.Bounds.{one, rest}
use Rattle.image.specs.Layout.{device_words, device_octets, device_from, access_words, access_pairs, access_octets, access_from}
use Rattle.image.specs.Same.{same_numbers, same_device, same_access, same_hot, same_marks, same_entries, same_areas, same_card, same_arrays, same_record}

numbers-one : (xs ys : List ℕ) → same_numbers xs ys ≡ true → xs ≡ ys
unfolding same_numbers
numbers-one [] [] e = refl
numbers-one [] (y ∷ ys) e = absurd (false≢true e)
numbers-one (x ∷ xs) [] e = absurd (false≢true e)
numbers-one (x ∷ xs) (y ∷ ys) e = ap₂ (λ (a : ℕ) (l : List ℕ). a ∷ l) (eqb-true x y (one (eqb x y) _ e)) (numbers-one xs ys (rest (eqb x y) _ e))

numbers-same : (xs : List ℕ) → same_numbers xs xs ≡ true
unfolding same_numbers
numbers-same [] = refl
numbers-same (x ∷ xs) = rw (eq-eqb x x refl) (numbers-same xs)

-- two columns, and what is left
pair_one : (xs ys : List ℕ) (b : Bool) → both (same_numbers xs ys) b ≡ true → (xs ≡ ys) × (b ≡ true)
pair_one xs ys b e = (numbers-one xs ys (one (same_numbers xs ys) b e), rest (same_numbers xs ys) b e)

device-one : (d f : Device) → same_device d f ≡ true → d ≡ f
unfolding same_device device_from device_words device_octets
device-one d f e =
    let p = pair_one (device_words d) (device_words f) (same_numbers (device_octets d) (device_octets f)) e in
    ap₂ device_from p.0 (numbers-one (device_octets d) (device_octets f) p.1)

access-one : (a b : Access) → same_access a b ≡ true → a ≡ b
unfolding same_access access_from access_words access_pairs access_octets
access-one a b e =
    let p = pair_one (access_words a) (access_words b) (both (same_numbers (access_pairs a) (access_pairs b)) (same_numbers (access_octets a) (access_octets b))) e in
    let q = pair_one (access_pairs a) (access_pairs b) (same_numbers (access_octets a) (access_octets b)) p.1 in
    ap (λ (l : List ℕ). access_from l (access_pairs a) (access_octets a)) p.0 ∙ ap₂ (access_from (access_words b)) q.0 (numbers-one (access_octets a) (access_octets b) q.1)

abbrev hot_by : Device → Access → Access → Hot
hot_by d a b = record { dev = d; a0 = a; a1 = b }

hot-one : (g h : Hot) → same_hot g h ≡ true → g ≡ h
unfolding same_hot
hot-one g h e =
    let b : Bool = both (same_access g.a0 h.a0) (same_access g.a1 h.a1) in
    let x = device-one g.dev h.dev (one (same_device g.dev h.dev) b e) in
    let f : b ≡ true = rest (same_device g.dev h.dev) b e in
    let y = access-one g.a0 h.a0 (one (same_access g.a0 h.a0) (same_access g.a1 h.a1) f) in
    let z = access-one g.a1 h.a1 (rest (same_access g.a0 h.a0) (same_access g.a1 h.a1) f) in
    ap (λ (d : Device). hot_by d g.a0 g.a1) x ∙ ap₂ (hot_by h.dev) y z

entries-one : (t u : Entries) → same_entries t u ≡ true → t ≡ u
unfolding same_entries same_marks
entries-one t u e =
    let front : Bool = both (same_numbers t.nets u.nets) (both (same_numbers t.bans u.bans) (same_numbers t.n1s u.n1s)) in
    let back : Bool = both (same_numbers t.forbidden u.forbidden) (both (same_numbers t.barred u.barred) (same_numbers t.ranks u.ranks)) in
    let a = pair_one t.nets u.nets (both (same_numbers t.bans u.bans) (same_numbers t.n1s u.n1s)) (one front back e) in
    let b = pair_one t.bans u.bans (same_numbers t.n1s u.n1s) a.1 in
    let c = pair_one t.forbidden u.forbidden (both (same_numbers t.barred u.barred) (same_numbers t.ranks u.ranks)) (rest front back e) in
    let d = pair_one t.barred u.barred (same_numbers t.ranks u.ranks) c.1 in
    let same : entries_of t.nets t.bans t.n1s t.forbidden t.barred t.ranks ≡ entries_of u.nets u.bans u.n1s u.forbidden u.barred u.ranks
    = rw (a.0, b.0, numbers-one t.n1s u.n1s b.1, c.0, d.0, numbers-one t.ranks u.ranks d.1) in
    same

-- areas, GUTIs and equivalent networks; the SUCI and the capabilities
abbrev Areas : Record → Record → Type 0
Areas r q =
    (r.roaming ≡ q.roaming) × ((r.regional ≡ q.regional) × ((r.guti0 ≡ q.guti0) × ((r.guti1 ≡ q.guti1) × ((r.equivalents0 ≡ q.equivalents0) × (r.equivalents1 ≡ q.equivalents1)))))

areas-one : (r q : Record) → same_areas r q ≡ true → Areas r q
unfolding same_areas
areas-one r q e =
    let x : Bool = both (same_numbers r.roaming q.roaming) (same_numbers r.regional q.regional) in
    let y : Bool = both (same_numbers r.guti0 q.guti0) (same_numbers r.guti1 q.guti1) in
    let z : Bool = both (same_numbers r.equivalents0 q.equivalents0) (same_numbers r.equivalents1 q.equivalents1) in
    let a = pair_one r.roaming q.roaming (same_numbers r.regional q.regional) (one x (both y z) e) in
    let b = pair_one r.guti0 q.guti0 (same_numbers r.guti1 q.guti1) (one y z (rest x (both y z) e)) in
    let c = pair_one r.equivalents0 q.equivalents0 (same_numbers r.equivalents1 q.equivalents1) (rest y z (rest x (both y z) e)) in
    (a.0, (numbers-one r.regional q.regional a.1, (b.0, (numbers-one r.guti1 q.guti1 b.1, (c.0, numbers-one r.equivalents1 q.equivalents1 c.1)))))

card-one : (r q : Record) → same_card r q ≡ true → (r.suci ≡ q.suci) × ((r.capability ≡ q.capability) × (r.security ≡ q.security))
unfolding same_card
card-one r q e =
    let a = pair_one r.suci q.suci (both (same_numbers r.capability q.capability) (same_numbers r.security q.security)) e in
    let b = pair_one r.capability q.capability (same_numbers r.security q.security) a.1 in
    (a.0, (b.0, numbers-one r.security q.security b.1))

-- a record of its parts
abbrev record_by : Hot → Entries → Entries → (roaming regional guti0 guti1 equivalents0 equivalents1 suci capability security : List ℕ) → Record
record_by h t u roaming regional guti0 guti1 equivalents0 equivalents1 suci capability security = record {
  hot = h;
  e0 = t;
  e1 = u;
  roaming = roaming;
  regional = regional;
  guti0 = guti0;
  guti1 = guti1;
  equivalents0 = equivalents0;
  equivalents1 = equivalents1;
  suci = suci;
  capability = capability;
  security = security;
}

abbrev itself : Record → Record
itself r = record_by r.hot r.e0 r.e1 r.roaming r.regional r.guti0 r.guti1 r.equivalents0 r.equivalents1 r.suci r.capability r.security

pub same-one : (r q : Record) → same_record r q ≡ true → r ≡ q
unfolding same_record same_arrays
same-one r q e =
    let x : Bool = both (same_entries r.e0 q.e0) (same_entries r.e1 q.e1) in
    let y : Bool = both (same_areas r q) (same_card r q) in
    let z : both x y ≡ true = rest (same_hot r.hot q.hot) (both x y) e in
    let f : x ≡ true = one x y z in
    let a = areas-one r q (one (same_areas r q) (same_card r q) (rest x y z)) in
    let c = card-one r q (rest (same_areas r q) (same_card r q) (rest x y z)) in
    let same : itself r ≡ itself q
    = rw (
      hot-one r.hot q.hot (one (same_hot r.hot q.hot) (both x y) e),
      entries-one r.e0 q.e0 (one (same_entries r.e0 q.e0) (same_entries r.e1 q.e1) f),
      entries-one r.e1 q.e1 (rest (same_entries r.e0 q.e0) (same_entries r.e1 q.e1) f),
      a.0,
      a.1.0,
      a.1.1.0,
      a.1.1.1.0,
      a.1.1.1.1.0,
      a.1.1.1.1.1,
      c.0,
      c.1.0,
      c.1.1,
    ) in
    same

pub same-itself : (r : Record) → same_record r r ≡ true
unfolding same_record same_arrays same_hot same_device same_access same_entries same_marks same_areas same_card
same-itself r = simp numbers-same
