-- The events of both accesses keep the record good: T3247 out, a power cycle, a card change. Assumes nothing.
use Prim.Native.Nat.{ℕ, zero, suc, ◌<◌}
use mathlib.Core.Path.{◌≡◌, refl}
use mathlib.Core.Bool.{true}
use mathlib.Core.List.{List, [], ◌∷◌}
use native.Mathlib.Omega.{arith}
use lib.Dec.{eqb}
use lib.ListN.{length, get_or}
use borrow.Author.Tests.{le-leb}
use Rattle.laws.specs.Upto.{upto, copied}
use Rattle.entries.specs.Entries.{swept, powered, none, marks_after, ranks_after, is_import, with_file, entries_after}
use Rattle.areas.specs.declared.Task.TheVariants as task
use Rattle.record.specs.declared.Record.{Record}
use Rattle.record.specs.Tests.{within, is_short, is_edition}
use Rattle.record.specs.Network.{is_network}
use Rattle.record.specs.New.{zeros}
use Rattle.ranges.specs.Valid.{suci_of}
use Rattle.turns.specs.declared.Order.TheVariants.{Leave, Stop}
use Rattle.turns.specs.Timers.{flag_after}
use Rattle.turns.specs.Turns as turns
use Rattle.record.specs.Sides.{access_of, other_of, hot_of}
use Rattle.effects.specs.Effects.{ticked, carded, card_effect, t3247_effect, power_effect}
use Rattle.rules.specs.Plan.{hot_after, taken_plan, deed_on, deed_of}
use Rattle.events.specs.Parts.{table_after, equivalents_after, suci_after}
use Rattle.validity.specs.Sized.{Sized}
use Rattle.record.proofs.Bounds.{most, least}
use Rattle.validity.proofs.Bools.{most-is}
use Rattle.validity.proofs.Arrays.{All}
use Rattle.validity.proofs.Good.{Good}
use Rattle.validity.proofs.Turns.{after, still-turned, cycled-turned, renewed-turned}
use Rattle.validity.proofs.Entries.{swept-held, cycled-held, none-held}
use Rattle.validity.proofs.Areas.{list-kept}
use Rattle.validity.proofs.Refusal.{carry}
use Rattle.validity.proofs.Next.{good-next, half-turned, ticked-fair}

-- the first octet of a copy
copied-first : (n : ℕ) (xs ys : List ℕ) → 0 < n → 0 < length ys → get_or (copied n xs ys) 0 0 ≡ get_or xs 0 0
unfolding copied upto
copied-first zero xs ys h l = absurd (omega arith)
copied-first (suc n) xs [] h l = absurd (omega arith)
copied-first (suc n) [] (y ∷ ys) h l = refl
copied-first (suc n) (x ∷ xs) (y ∷ ys) h l = refl

none-short : (xs : List ℕ) → All is_short 0 xs
none-short xs k h = absurd (omega arith)

module _ (r : Record) (g : Good r) (z : Sized r) (octets : List ℕ) where
  -- T3247 out: marks clear by their counters, and areas marked unprotected leave their lists
  pub t3247-good : Good (carry r octets (taken_plan r.hot 0 (t3247_effect r.hot 0))).next
  unfolding taken_plan t3247_effect access_of other_of hot_after hot_of ticked table_after swept entries_after with_file is_import ranks_after marks_after deed_of deed_on equivalents_after suci_after suci_of
  t3247-good =
      let a = half-turned r.hot.dev r.hot.a0.equivalents r.hot.a0.entries (after (turns.still r.hot.a0)) r.equivalents0
      (swept r.hot.a0.entries r.hot.dev.banlimit r.hot.dev.n1limit r.e0)
      (still-turned r.hot.dev.card r.hot.dev.cardlimit r.hot.a0 g.half0.fit g.half0.timely g.half0.carded) g.half0.equals
      (swept-held r.hot.dev.banlimit r.hot.dev.n1limit r.hot.a0.entries r.e0 z.e0 g.half0.held g.half0.fit.entries) in
      let b = half-turned r.hot.dev r.hot.a1.equivalents r.hot.a1.entries (after (turns.still r.hot.a1)) r.equivalents1
      (swept r.hot.a1.entries r.hot.dev.banlimit r.hot.dev.n1limit r.e1)
      (still-turned r.hot.dev.card r.hot.dev.cardlimit r.hot.a1 g.half1.fit g.half1.timely g.half1.carded) g.half1.equals
      (swept-held r.hot.dev.banlimit r.hot.dev.n1limit r.hot.a1.entries r.e1 z.e1 g.half1.held g.half1.fit.entries) in
      good-next r octets (taken_plan r.hot 0 (t3247_effect r.hot 0)) (ticked-fair r.hot.dev Stop Leave g.fair)
      (record { fit = a.fit; timely = a.timely; carded = a.carded; equals = a.equals; held = a.held })
      (record { fit = b.fit; timely = b.timely; carded = b.carded; equals = b.equals; held = b.held })
      (list-kept task.Sweep r.hot.dev.roaming r.roaming z.roaming g.roaming tt)
      (list-kept task.Sweep r.hot.dev.regional r.regional z.regional g.regional tt)
      g.suci

  -- power cycle: forbidden marks clear by the same test, N1 marks and areas clear
  pub power-good : Good (carry r octets (taken_plan r.hot 0 (power_effect r.hot))).next
  unfolding taken_plan power_effect hot_after hot_of ticked table_after powered entries_after with_file is_import ranks_after marks_after deed_of deed_on equivalents_after suci_after suci_of
  power-good =
      let a = half-turned r.hot.dev r.hot.a0.equivalents r.hot.a0.entries (after (turns.cycled r.hot.dev.card r.hot.a0)) r.equivalents0
      (powered r.hot.a0.entries r.hot.dev.banlimit r.e0)
      (cycled-turned r.hot.dev.card r.hot.dev.cardlimit r.hot.a0 g.half0.fit g.fair.card) g.half0.equals
      (cycled-held r.hot.dev.banlimit r.hot.dev.n1limit r.hot.a0.entries r.e0 z.e0 g.half0.held g.half0.fit.entries) in
      let b = half-turned r.hot.dev r.hot.a1.equivalents r.hot.a1.entries (after (turns.cycled r.hot.dev.card r.hot.a1)) r.equivalents1
      (powered r.hot.a1.entries r.hot.dev.banlimit r.e1)
      (cycled-turned r.hot.dev.card r.hot.dev.cardlimit r.hot.a1 g.half1.fit g.fair.card) g.half1.equals
      (cycled-held r.hot.dev.banlimit r.hot.dev.n1limit r.hot.a1.entries r.e1 z.e1 g.half1.held g.half1.fit.entries) in
      good-next r octets (taken_plan r.hot 0 (power_effect r.hot)) (ticked-fair r.hot.dev Stop Stop g.fair)
      (record { fit = a.fit; timely = a.timely; carded = a.carded; equals = a.equals; held = a.held })
      (record { fit = b.fit; timely = b.timely; carded = b.carded; equals = b.equals; held = b.held })
      (list-kept task.Clear r.hot.dev.roaming r.roaming z.roaming g.roaming tt)
      (list-kept task.Clear r.hot.dev.regional r.regional z.regional g.regional tt)
      g.suci

  -- card change: a new record's, with this card
  pub card-good : (edition home : ℕ) → is_edition edition ≡ true → is_network home ≡ true → within 9 64 (length octets) ≡ true → eqb (get_or octets 0 0) 1 ≡ true
      → Good (carry r octets (taken_plan r.hot 0 (card_effect r.hot edition home (length octets)))).next
  unfolding taken_plan card_effect carded hot_after hot_of ticked flag_after table_after none entries_after with_file is_import ranks_after marks_after deed_of deed_on equivalents_after suci_after suci_of
  card-good edition home e p q o =
      let a = renewed-turned r.hot.dev.cardlimit in
      let b : 0 < length octets = let l = least 9 64 (length octets) q in omega arith in
      good-next r octets (taken_plan r.hot 0 (card_effect r.hot edition home (length octets)))
      (record {
        card = refl;
        suci = q;
        cardlimit = g.fair.cardlimit;
        banlimit = g.fair.banlimit;
        n1limit = g.fair.n1limit;
        capability = g.fair.capability;
        security = g.fair.security;
        t3247 = refl;
        t3512 = refl;
        t3512length = refl;
        due = refl;
        home = p;
        edition = e;
      })
      (half-turned (ticked 0 0 (carded edition home (length octets) r.hot.dev)) 0 0 (after turns.renewed) (zeros 15) none a (none-short (zeros 15)) (none-held r.hot.dev.banlimit r.hot.dev.n1limit none))
      (half-turned (ticked 0 0 (carded edition home (length octets) r.hot.dev)) 0 0 (after turns.renewed) (zeros 15) none a (none-short (zeros 15)) (none-held r.hot.dev.banlimit r.hot.dev.n1limit none))
      (list-kept task.Clear r.hot.dev.roaming r.roaming z.roaming g.roaming tt)
      (list-kept task.Clear r.hot.dev.regional r.regional z.regional g.regional tt)
      (rw (most-is 64 (length octets) (le-leb (length octets) 64 (most 9 64 (length octets) q)), copied-first (length octets) octets (zeros 64) b (omega arith)) o)
