-- The record after a plan is good if its parts are. An event of one access leaves the other's equivalents alone, and of its entries what its deed there leaves. Assumes nothing.
use Prim.Native.Nat.{ℕ}
use mathlib.Core.Path.{◌≡◌, refl}
use mathlib.Core.Bool.{Bool, true, false}
use mathlib.Core.List.{List}
use lib.Dec.{eqb}
use Rattle.entries.specs.declared.Entries.{Entries}
use Rattle.entries.specs.declared.Deed.{Deed}
use Rattle.entries.specs.Entries.{entries_after}
use Rattle.areas.specs.declared.Task.{Task}
use Rattle.areas.specs.Areas.{list_after, count_after}
use Rattle.record.specs.declared.Device.{Device}
use Rattle.record.specs.declared.Access.{Access}
use Rattle.record.specs.declared.Record.{Record}
use Rattle.record.specs.Tests.{up_to, is_flag, is_short}
use Rattle.ranges.specs.Valid.{suci_of}
use Rattle.turns.specs.declared.Order.{Order}
use Rattle.turns.specs.declared.Turn.{Turn}
use Rattle.turns.specs.Timers.{flag_after}
use Rattle.rules.specs.declared.Plan.{Plan}
use Rattle.effects.specs.declared.Keep.{Keep}
use Rattle.effects.specs.declared.Keep.TheVariants as keep
use Rattle.effects.specs.Effects.{Effect, ticked, scheduled}
use Rattle.record.specs.Sides.{hot_of}
use Rattle.rules.specs.Plan.{hot_after, taken_plan, deed_on, deed_of}
use Rattle.events.specs.Parts.{table_after, with_counts, done_of, carried_out, equivalents_after, suci_after, kept_after}
use Rattle.events.specs.Step.{together, joined_of}
use Rattle.validity.specs.Sized.{Sized}
use Rattle.validity.proofs.Arrays.{All, all-fewer}
use Rattle.validity.proofs.Good.{Fair, Held, Listing, Half, Good}
use Rattle.validity.proofs.Setters.{flag-after}
use Rattle.validity.proofs.Turns.{after, Turned}
use Rattle.validity.proofs.Areas.{Short, list-kept}
use Rattle.validity.proofs.Refusal.{carry}

-- the area lists' counts are no part of what the rest is held to
pub good-next : (r : Record) (octets : List ℕ) (p : Plan)
    → Fair p.hot.dev
    → Half p.hot.dev p.hot.a0 (equivalents_after p.work.keep (eqb p.access 0) octets r.equivalents0) (table_after p octets 0 r.hot.a0.entries r.hot r.e0)
    → Half p.hot.dev p.hot.a1 (equivalents_after p.work.keep (eqb p.access 1) octets r.equivalents1) (table_after p octets 1 r.hot.a1.entries r.hot r.e1)
    → Listing (count_after p.work.roaming r.hot.dev.roaming r.roaming) (list_after p.work.roaming r.hot.dev.roaming r.roaming)
    → Listing (count_after p.work.regional r.hot.dev.regional r.regional) (list_after p.work.regional r.hot.dev.regional r.regional)
    → suci_of p.hot.dev (suci_after p.work.keep octets r.suci) ≡ true
    → Good (carry r octets p).next
unfolding joined_of together carried_out done_of with_counts kept_after suci_of
good-next r octets p f a b roaming regional suci = record {
  fair = record {
    card = f.card;
    suci = f.suci;
    cardlimit = f.cardlimit;
    banlimit = f.banlimit;
    n1limit = f.n1limit;
    capability = f.capability;
    security = f.security;
    t3247 = f.t3247;
    t3512 = f.t3512;
    t3512length = f.t3512length;
    due = f.due;
    home = f.home;
    edition = f.edition;
  };
  half0 = record { fit = a.fit; timely = a.timely; carded = a.carded; equals = a.equals; held = a.held };
  half1 = record { fit = b.fit; timely = b.timely; carded = b.carded; equals = b.equals; held = b.held };
  roaming = roaming;
  regional = regional;
  suci = suci;
}

-- an access after its turn, with its arrays
pub half-turned : (d : Device) (m n : ℕ) (a : Access) (equivalents : List ℕ) (t : Entries)
    → Turned d.card d.cardlimit m n a → All is_short m equivalents → Held d.banlimit d.n1limit n t → Half d a equivalents t
half-turned d m n a equivalents t u f g = record {
  fit = u.fit;
  timely = u.timely;
  carded = u.carded;
  equals = all-fewer is_short a.equivalents m equivalents u.equivalents f;
  held = rw u.entries g;
}

-- an event that is no card change keeps the other access's equivalents, and the SUCI
abbrev NoCard : Keep → Type 0
NoCard keep.Nothing = Unit {0}
NoCard (keep.Gift g) = Unit {0}
NoCard keep.Card = ⊥

equivalents-stay : (k : Keep) → NoCard k → (octets xs : List ℕ) → equivalents_after k false octets xs ≡ xs
unfolding equivalents_after
equivalents-stay keep.Nothing c octets xs = refl
equivalents-stay (keep.Gift g) c octets xs = refl
equivalents-stay keep.Card c octets xs = absurd c

suci-stays : (k : Keep) → NoCard k → (octets xs : List ℕ) → suci_after k octets xs ≡ xs
unfolding suci_after
suci-stays keep.Nothing c octets xs = refl
suci-stays (keep.Gift g) c octets xs = refl
suci-stays keep.Card c octets xs = absurd c

pub ticked-fair : (d : Device) (o p : Order) → Fair d → Fair (ticked (flag_after o d.t3247) (flag_after p d.t3512) d)
unfolding ticked
ticked-fair d o p f = record {
  card = f.card;
  suci = f.suci;
  cardlimit = f.cardlimit;
  banlimit = f.banlimit;
  n1limit = f.n1limit;
  capability = f.capability;
  security = f.security;
  t3247 = flag-after o d.t3247 f.t3247;
  t3512 = flag-after p d.t3512 f.t3512;
  t3512length = f.t3512length;
  due = f.due;
  home = f.home;
  edition = f.edition;
}

scheduled-fair : (d : Device) (time due : ℕ) → up_to 35712000 time ≡ true → is_flag due ≡ true → Fair d → Fair (scheduled time due d)
unfolding scheduled
scheduled-fair d time due h i f = record {
  card = f.card;
  suci = f.suci;
  cardlimit = f.cardlimit;
  banlimit = f.banlimit;
  n1limit = f.n1limit;
  capability = f.capability;
  security = f.security;
  t3247 = f.t3247;
  t3512 = f.t3512;
  t3512length = h;
  due = i;
  home = f.home;
  edition = f.edition;
}

-- an event of one access: the device's numbers stay but for its timers, T3512's time and whether an update is due
abbrev own_effect : Record → ℕ → ℕ → Turn → Turn → Order → Order → Deed → Deed → Task → Task → Keep → Bool → Effect
own_effect r time due mine theirs o p d d' roaming regional k restart = record {
  dev = scheduled time due r.hot.dev;
  mine = mine;
  theirs = theirs;
  t3247 = o;
  t3512 = p;
  work = record { mine = d; theirs = d'; roaming = roaming; regional = regional; keep = k };
  restart = restart;
}

module _ (r : Record) (g : Good r) (z : Sized r) (octets : List ℕ) (time due : ℕ) (h : up_to 35712000 time ≡ true) (i : is_flag due ≡ true) (mine theirs : Turn) (o p : Order)
    (d d' : Deed) (roaming regional : Task) (k : Keep) (restart : Bool) (c : NoCard k) (u : Short roaming) (v : Short regional) where
  abbrev planned : ℕ → Plan
  planned w = taken_plan r.hot w (own_effect r time due mine theirs o p d d' roaming regional k restart)

  -- the entries of the other access, with its deed done
  abbrev beside : Access → Entries → Entries
  beside a t = entries_after d' octets a.entries r.hot.dev.banlimit r.hot.dev.n1limit t

  fair : Fair (ticked (flag_after o r.hot.dev.t3247) (flag_after p r.hot.dev.t3512) (scheduled time due r.hot.dev))
  unfolding scheduled
  fair = ticked-fair (scheduled time due r.hot.dev) o p (scheduled-fair r.hot.dev time due h i g.fair)

  pub own_first : Half r.hot.dev (after mine) (equivalents_after k true octets r.equivalents0) (table_after (planned 0) octets 0 r.hot.a0.entries r.hot r.e0)
      → Turned r.hot.dev.card r.hot.dev.cardlimit r.hot.a1.equivalents r.hot.a1.entries (after theirs)
      → Held r.hot.dev.banlimit r.hot.dev.n1limit r.hot.a1.entries (beside r.hot.a1 r.e1)
      → Good (carry r octets (planned 0)).next
  unfolding taken_plan hot_after hot_of ticked scheduled suci_of table_after deed_of deed_on
  own_first a b e =
      let half = half-turned r.hot.dev r.hot.a1.equivalents r.hot.a1.entries (after theirs) r.equivalents1 (beside r.hot.a1 r.e1) b g.half1.equals e in
      good-next r octets (planned 0) fair
      (record { fit = a.fit; timely = a.timely; carded = a.carded; equals = a.equals; held = a.held })
      (rw (equivalents-stay k c octets r.equivalents1) (record { fit = half.fit; timely = half.timely; carded = half.carded; equals = half.equals; held = half.held }))
      (list-kept roaming r.hot.dev.roaming r.roaming z.roaming g.roaming u)
      (list-kept regional r.hot.dev.regional r.regional z.regional g.regional v)
      (rw (suci-stays k c octets r.suci) g.suci)

  pub own-second : Half r.hot.dev (after mine) (equivalents_after k true octets r.equivalents1) (table_after (planned 1) octets 1 r.hot.a1.entries r.hot r.e1)
      → Turned r.hot.dev.card r.hot.dev.cardlimit r.hot.a0.equivalents r.hot.a0.entries (after theirs)
      → Held r.hot.dev.banlimit r.hot.dev.n1limit r.hot.a0.entries (beside r.hot.a0 r.e0)
      → Good (carry r octets (planned 1)).next
  unfolding taken_plan hot_after hot_of ticked scheduled suci_of table_after deed_of deed_on
  own-second a b e =
      let half = half-turned r.hot.dev r.hot.a0.equivalents r.hot.a0.entries (after theirs) r.equivalents0 (beside r.hot.a0 r.e0) b g.half0.equals e in
      good-next r octets (planned 1) fair
      (rw (equivalents-stay k c octets r.equivalents0) (record { fit = half.fit; timely = half.timely; carded = half.carded; equals = half.equals; held = half.held }))
      (record { fit = a.fit; timely = a.timely; carded = a.carded; equals = a.equals; held = a.held })
      (list-kept roaming r.hot.dev.roaming r.roaming z.roaming g.roaming u)
      (list-kept regional r.hot.dev.regional r.regional z.regional g.regional v)
      (rw (suci-stays k c octets r.suci) g.suci)
