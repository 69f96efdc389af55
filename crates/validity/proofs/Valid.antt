-- A record is valid exactly if its parts are good: document 01's list regrouped, test by test. Assumes nothing.
use Prim.Native.Nat.{ℕ}
use mathlib.Core.Path.{◌≡◌, refl}
use mathlib.Core.Bool.{Bool, true, false}
use mathlib.Core.List.{List, [], ◌∷◌}
use lib.Dec.{eqb}
use lib.ListN.{get_or}
use borrow.Author.Tests.{ltb-true, lt-ltb}
use Rattle.laws.specs.Upto.{all_to, distinct_to}
use Rattle.entries.specs.declared.Entries.{Entries}
use Rattle.entries.proofs.Ranks.{Order}
use Rattle.record.specs.declared.Device.{Device}
use Rattle.record.specs.declared.Access.{Access}
use Rattle.record.specs.declared.Record.{Record}
use Rattle.record.specs.Tests.{both, either, within, up_to, is_flag, is_short, is_clear0, is_edition}
use Rattle.record.specs.Network.{is_network}
use Rattle.ranges.specs.Valid.{device_ranges, periodic_ranges, device_numbers, mode_ranges, pending_ranges, identity_ranges, held_ranges, access_ranges, is_item, ranges_of, counters_of, card_of, suci_of, codes_of, clock_of, is_below, itself, halved, once_of, ranks_of, valid_of}
use Rattle.record.proofs.Bounds.{one, rest}
use Rattle.validity.proofs.Bools.{both_true}
use Rattle.validity.proofs.Arrays.{all_of, of-all, once-of, of-once}
use Rattle.validity.proofs.Good.{Carded, Listing, Half, Good}

-- tests joined one by one
abbrev conj : Bool → List Bool → Bool
conj b [] = b
conj b (c ∷ bs) = both b (conj c bs)

abbrev Each : Bool → List Bool → Type 0
Each b [] = b ≡ true
Each b (c ∷ bs) = (b ≡ true) × Each c bs

holds : (b : Bool) (bs : List Bool) → conj b bs ≡ true → Each b bs
holds b [] e = e
holds b (c ∷ bs) e = (one b (conj c bs) e, holds c bs (rest b (conj c bs) e))

joined : (b : Bool) (bs : List Bool) → Each b bs → conj b bs ≡ true
joined b [] e = e
joined b (c ∷ bs) e = both_true b (conj c bs) e.0 (joined c bs e.1)

abbrev device_tests : Device → List Bool
device_tests d =
    either (eqb d.card 0) (within 9 64 d.suci)
    ∷ within 1 10 d.cardlimit
    ∷ within 1 10 d.banlimit
    ∷ within 1 10 d.n1limit
    ∷ within 1 13 d.capability
    ∷ within 2 8 d.security
    ∷ is_flag d.t3247
    ∷ up_to 40 d.roaming
    ∷ up_to 40 d.regional
    ∷ []

abbrev periodic_tests : Device → List Bool
periodic_tests d = up_to 35712000 d.t3512length ∷ is_flag d.due ∷ []

abbrev number_tests : Device → List Bool
number_tests d = periodic_ranges d ∷ is_edition d.edition ∷ []

device-holds : (d : Device) → device_ranges d ≡ true → Each (is_flag d.card) (device_tests d)
unfolding device_ranges
device-holds d e = holds (is_flag d.card) (device_tests d) e

device-joined : (d : Device) → Each (is_flag d.card) (device_tests d) → device_ranges d ≡ true
unfolding device_ranges
device-joined d e = joined (is_flag d.card) (device_tests d) e

abbrev mode_tests : Access → List Bool
mode_tests a = within 1 3 a.status ∷ up_to 5 a.attempts ∷ is_flag a.t3510 ∷ is_flag a.t3511 ∷ is_flag a.t3502 ∷ up_to 11160 a.t3502length ∷ is_flag a.t3346 ∷ []

abbrev pending_tests : Access → List Bool
pending_tests a = is_clear0 a.uplink ∷ is_clear0 a.sessions ∷ []

abbrev identity_tests : Access → List Bool
identity_tests a =
    is_flag a.guti
    ∷ is_flag a.visited
    ∷ either (eqb a.visited 0) (both (is_short a.lastnet) (is_short a.lastcode))
    ∷ up_to 7 a.ksi
    ∷ up_to 15 a.equivalents
    ∷ up_to 16 a.entries
    ∷ []

abbrev held_tests : Access → Entries → List Bool
held_tests a t = all_to is_flag a.entries t.forbidden ∷ all_to is_flag a.entries t.barred ∷ []

abbrev counter_tests : Device → Access → Entries → List Bool
counter_tests d a t = all_to (up_to d.banlimit) a.entries t.bans ∷ all_to (up_to d.n1limit) a.entries t.n1s ∷ []

-- the order's test
order-good : (a : Access) (t : Entries) → ranks_of a t ≡ true → Order a.entries t.ranks
unfolding ranks_of
order-good a t e = record {
  low = λ i h. ltb-true (get_or t.ranks i 0) a.entries (all_of (is_below a.entries) a.entries t.ranks (one (all_to (is_below a.entries) a.entries t.ranks) (distinct_to itself a.entries t.ranks) e) i h);
  apart = once-of itself a.entries t.ranks (rest (all_to (is_below a.entries) a.entries t.ranks) (distinct_to itself a.entries t.ranks) e);
}

good-order : (a : Access) (t : Entries) → Order a.entries t.ranks → ranks_of a t ≡ true
unfolding ranks_of
good-order a t o =
    both_true (all_to (is_below a.entries) a.entries t.ranks) (distinct_to itself a.entries t.ranks)
    (of-all (is_below a.entries) a.entries t.ranks (λ i h. lt-ltb (get_or t.ranks i 0) a.entries (o.low i h))) (of-once itself a.entries t.ranks o.apart)

-- an access's tests that stand together in the list, and those that the list has elsewhere
access-good : (d : Device) (a : Access) (equivalents : List ℕ) (t : Entries)
    → access_ranges a equivalents t ≡ true → counters_of d a t ≡ true → Carded d.card a → is_network a.net ≡ true → all_to is_network a.entries t.nets ≡ true
    → clock_of a ≡ true → distinct_to itself a.entries t.nets ≡ true → ranks_of a t ≡ true → Half d a equivalents t
unfolding access_ranges mode_ranges pending_ranges identity_ranges held_ranges counters_of clock_of
access-good d a equivalents t ranges counters carded net nets clock once order =
    let four = holds (mode_ranges a) (pending_ranges a ∷ identity_ranges a ∷ held_ranges a equivalents t ∷ []) ranges in
    let m = holds (up_to 6 a.state) (mode_tests a) four.0 in
    let p = holds (within 1 3 a.regtype) (pending_tests a) four.1.0 in
    let i = holds (is_short a.code) (identity_tests a) four.1.1.0 in
    let h = holds (all_to is_short a.equivalents equivalents) (held_tests a t) four.1.1.1 in
    let c = holds (up_to d.cardlimit a.cardcounter) (counter_tests d a t) counters in
    record {
      fit = record {
        mode = (m.0, m.1.0, m.1.1.0);
        flags = (m.1.1.1.0, m.1.1.1.1.0, m.1.1.1.1.1.0, m.1.1.1.1.1.1.1);
        t3502length = m.1.1.1.1.1.1.0;
        pending = (net, i.0, p.0, p.1.0, p.1.1);
        known = (i.1.0, i.1.1.0, i.1.1.1.0, i.1.1.1.1.0);
        cardcounter = c.0;
        equivalents = i.1.1.1.1.1.0;
        entries = i.1.1.1.1.1.1;
      };
      timely = clock;
      carded = carded;
      equals = all_of is_short a.equivalents equivalents h.0;
      held = record {
        nets = all_of is_network a.entries t.nets nets;
        bans = all_of (up_to d.banlimit) a.entries t.bans c.1.0;
        n1s = all_of (up_to d.n1limit) a.entries t.n1s c.1.1;
        forbidden = all_of is_flag a.entries t.forbidden h.1.0;
        barred = all_of is_flag a.entries t.barred h.1.1;
        once = once-of itself a.entries t.nets once;
        order = order-good a t order;
      };
    }

access-ranges : (d : Device) (a : Access) (equivalents : List ℕ) (t : Entries) → Half d a equivalents t → access_ranges a equivalents t ≡ true
unfolding access_ranges mode_ranges pending_ranges identity_ranges held_ranges
access-ranges d a equivalents t g =
    let m : Each (up_to 6 a.state) (mode_tests a) = (g.fit.mode.0, (g.fit.mode.1, (g.fit.mode.2, (g.fit.flags.0, (g.fit.flags.1, (g.fit.flags.2, (g.fit.t3502length, g.fit.flags.3))))))) in
    let p : Each (within 1 3 a.regtype) (pending_tests a) = (g.fit.pending.2, (g.fit.pending.3, g.fit.pending.4)) in
    let i : Each (is_short a.code) (identity_tests a) = (g.fit.pending.1, (g.fit.known.0, (g.fit.known.1, (g.fit.known.2, (g.fit.known.3, (g.fit.equivalents, g.fit.entries)))))) in
    let h : Each (all_to is_short a.equivalents equivalents) (held_tests a t) = (of-all is_short a.equivalents equivalents g.equals, (of-all is_flag a.entries t.forbidden g.held.forbidden, of-all is_flag a.entries t.barred g.held.barred)) in
    joined (mode_ranges a) (pending_ranges a ∷ identity_ranges a ∷ held_ranges a equivalents t ∷ [])
    (joined (up_to 6 a.state) (mode_tests a) m, (joined (within 1 3 a.regtype) (pending_tests a) p, (joined (is_short a.code) (identity_tests a) i, joined (all_to is_short a.equivalents equivalents) (held_tests a t) h)))

access-counters : (d : Device) (a : Access) (equivalents : List ℕ) (t : Entries) → Half d a equivalents t → counters_of d a t ≡ true
unfolding counters_of
access-counters d a equivalents t g =
    joined (up_to d.cardlimit a.cardcounter) (counter_tests d a t)
    (g.fit.cardcounter, (of-all (up_to d.banlimit) a.entries t.bans g.held.bans, of-all (up_to d.n1limit) a.entries t.n1s g.held.n1s))

-- "a state above 0 with no card", access by access
card-each : (c p q : Bool) → either c (both p q) ≡ true → (either c p ≡ true) × (either c q ≡ true)
card-each true p q e = (refl, refl)
card-each false p q e = (one p q e, rest p q e)

card-both : (c p q : Bool) → either c p ≡ true → either c q ≡ true → either c (both p q) ≡ true
card-both true p q e f = refl
card-both false p q e f = both_true p q e f

listing : (n : ℕ) (xs : List ℕ) → up_to 40 n ≡ true → all_to is_item n xs ≡ true → distinct_to halved n xs ≡ true → Listing n xs
listing n xs c i o = record { count = c; items = all_of is_item n xs i; once = once-of halved n xs o }

module _ (r : Record) where
  abbrev valid_tests : List Bool
  valid_tests =
      both (counters_of r.hot.dev r.hot.a0 r.e0) (counters_of r.hot.dev r.hot.a1 r.e1)
      ∷ card_of r.hot
      ∷ suci_of r.hot.dev r.suci
      ∷ codes_of r
      ∷ both (clock_of r.hot.a0) (clock_of r.hot.a1)
      ∷ once_of r
      ∷ ranks_of r.hot.a0 r.e0
      ∷ ranks_of r.hot.a1 r.e1
      ∷ []

  abbrev range_tests : List Bool
  range_tests =
      access_ranges r.hot.a0 r.equivalents0 r.e0
      ∷ access_ranges r.hot.a1 r.equivalents1 r.e1
      ∷ all_to is_item r.hot.dev.roaming r.roaming
      ∷ all_to is_item r.hot.dev.regional r.regional
      ∷ []

  abbrev code_tests : List Bool
  code_tests =
      is_network r.hot.a0.net
      ∷ is_network r.hot.a1.net
      ∷ all_to is_network r.hot.a0.entries r.e0.nets
      ∷ all_to is_network r.hot.a1.entries r.e1.nets
      ∷ []

  abbrev once_tests : List Bool
  once_tests =
      distinct_to itself r.hot.a1.entries r.e1.nets
      ∷ distinct_to halved r.hot.dev.roaming r.roaming
      ∷ distinct_to halved r.hot.dev.regional r.regional
      ∷ []

  pub valid-good : valid_of r ≡ true → Good r
  unfolding valid_of ranges_of device_numbers periodic_ranges card_of codes_of once_of
  valid-good e =
      let v = holds (ranges_of r) valid_tests e in
      let g = holds (device_numbers r.hot.dev) range_tests v.0 in
      let n = holds (device_ranges r.hot.dev) (number_tests r.hot.dev) g.0 in
      let d = device-holds r.hot.dev n.0 in
      let p = holds (is_flag r.hot.dev.t3512) (periodic_tests r.hot.dev) n.1.0 in
      let c = holds (is_network r.hot.dev.home) code_tests v.1.1.1.1.0 in
      let o = holds (distinct_to itself r.hot.a0.entries r.e0.nets) once_tests v.1.1.1.1.1.1.0 in
      let l = holds (counters_of r.hot.dev r.hot.a0 r.e0) (counters_of r.hot.dev r.hot.a1 r.e1 ∷ []) v.1.0 in
      let k = holds (clock_of r.hot.a0) (clock_of r.hot.a1 ∷ []) v.1.1.1.1.1.0 in
      let s = card-each (eqb r.hot.dev.card 1) (eqb r.hot.a0.state 0) (eqb r.hot.a1.state 0) v.1.1.0 in
      record {
        fair = record {
          card = d.0;
          suci = d.1.0;
          cardlimit = d.1.1.0;
          banlimit = d.1.1.1.0;
          n1limit = d.1.1.1.1.0;
          capability = d.1.1.1.1.1.0;
          security = d.1.1.1.1.1.1.0;
          t3247 = d.1.1.1.1.1.1.1.0;
          t3512 = p.0;
          t3512length = p.1.0;
          due = p.1.1;
          home = c.0;
          edition = n.1.1;
        };
        half0 = access-good r.hot.dev r.hot.a0 r.equivalents0 r.e0 g.1.0 l.0 s.0 c.1.0 c.1.1.1.0 k.0 o.0 v.1.1.1.1.1.1.1.0;
        half1 = access-good r.hot.dev r.hot.a1 r.equivalents1 r.e1 g.1.1.0 l.1 s.1 c.1.1.0 c.1.1.1.1 k.1 o.1.0 v.1.1.1.1.1.1.1.1;
        roaming = listing r.hot.dev.roaming r.roaming d.1.1.1.1.1.1.1.1.0 g.1.1.1.0 o.1.1.0;
        regional = listing r.hot.dev.regional r.regional d.1.1.1.1.1.1.1.1.1 g.1.1.1.1 o.1.1.1;
        suci = v.1.1.1.0;
      }

  good-ranges : Good r → ranges_of r ≡ true
  unfolding ranges_of device_numbers periodic_ranges
  good-ranges g =
      joined (device_numbers r.hot.dev) range_tests (
        joined (device_ranges r.hot.dev) (number_tests r.hot.dev) (
          device-joined r.hot.dev (g.fair.card, (g.fair.suci, (g.fair.cardlimit, (g.fair.banlimit, (g.fair.n1limit, (g.fair.capability, (g.fair.security, (g.fair.t3247, (g.roaming.count, g.regional.count))))))))),
          (
            joined (is_flag r.hot.dev.t3512) (periodic_tests r.hot.dev) (g.fair.t3512, (g.fair.t3512length, g.fair.due)),
            g.fair.edition,
          ),
        ),
        (
          access-ranges r.hot.dev r.hot.a0 r.equivalents0 r.e0 g.half0,
          (
            access-ranges r.hot.dev r.hot.a1 r.equivalents1 r.e1 g.half1,
            (of-all is_item r.hot.dev.roaming r.roaming g.roaming.items, of-all is_item r.hot.dev.regional r.regional g.regional.items),
          ),
        ),
      )

  good-codes : Good r → codes_of r ≡ true
  unfolding codes_of
  good-codes g =
      joined (is_network r.hot.dev.home) code_tests (
        g.fair.home,
        (
          g.half0.fit.pending.0,
          (
            g.half1.fit.pending.0,
            (of-all is_network r.hot.a0.entries r.e0.nets g.half0.held.nets, of-all is_network r.hot.a1.entries r.e1.nets g.half1.held.nets),
          ),
        ),
      )

  good-once : Good r → once_of r ≡ true
  unfolding once_of
  good-once g =
      joined (distinct_to itself r.hot.a0.entries r.e0.nets) once_tests (
        of-once itself r.hot.a0.entries r.e0.nets g.half0.held.once,
        (
          of-once itself r.hot.a1.entries r.e1.nets g.half1.held.once,
          (of-once halved r.hot.dev.roaming r.roaming g.roaming.once, of-once halved r.hot.dev.regional r.regional g.regional.once),
        ),
      )

  pub good-valid : Good r → valid_of r ≡ true
  unfolding valid_of card_of clock_of
  good-valid g =
      joined (ranges_of r) valid_tests (
        good-ranges g,
        (
          both_true (counters_of r.hot.dev r.hot.a0 r.e0) (counters_of r.hot.dev r.hot.a1 r.e1)
              (access-counters r.hot.dev r.hot.a0 r.equivalents0 r.e0 g.half0)
              (access-counters r.hot.dev r.hot.a1 r.equivalents1 r.e1 g.half1),
          (
            card-both (eqb r.hot.dev.card 1) (eqb r.hot.a0.state 0) (eqb r.hot.a1.state 0) g.half0.carded g.half1.carded,
            (
              g.suci,
              (
                good-codes g,
                (
                  both_true (clock_of r.hot.a0) (clock_of r.hot.a1) g.half0.timely g.half1.timely,
                  (good-once g, (good-order r.hot.a0 r.e0 g.half0.held.order, good-order r.hot.a1 r.e1 g.half1.held.order)),
                ),
              ),
            ),
          ),
        ),
      )
