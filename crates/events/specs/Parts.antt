-- What an event makes of each part of the record. Assumes nothing.
use Rattle.std.specs.Prelude.{ℕ, zero, suc, Bool, false, cond, List, [], ◌∷◌, length, get_or, drop, replicate, eqb, Option, Some, None}
use Rattle.laws.specs.Bounds.{at_most}
use Rattle.laws.specs.Upto.{copied}
use Rattle.record.specs.Tests.{either}
use Rattle.record.specs.New.{zeros}
use Rattle.record.specs.declared.Hot.{Hot}
use Rattle.entries.specs.declared.Entries.{Entries}
use Rattle.entries.specs.declared.Seen.{Seen}
use Rattle.entries.specs.declared.Deed.{Deed}
use Rattle.entries.specs.declared.Deed.TheVariants as deed
use Rattle.entries.specs.Places.{entries_held}
use Rattle.entries.specs.Order.{last_at}
use Rattle.entries.specs.Entries.{seen_in, held_with, entries_after}
use Rattle.networks.specs.Networks.{network_of}
use Rattle.checks.specs.Answers.{import_range}
use Rattle.areas.specs.Areas.{area_of, listed_in, list_after, count_after}
use Rattle.rules.specs.declared.Event.{Event}
use Rattle.rules.specs.declared.Ask.{Ask}
use Rattle.rules.specs.declared.Ask.TheVariants as ask
use Rattle.rules.specs.declared.Area.{Area}
use Rattle.rules.specs.declared.Plan.{Plan}
use Rattle.effects.specs.declared.Keep.{Keep}
use Rattle.effects.specs.declared.Keep.TheVariants as keep
use Rattle.rules.specs.Plan.{ask_of, site_of, plan_of, deed_of}
use Rattle.events.specs.declared.Done.{Done}

-- nothing stands about no network
abbrev pub unseen : Seen
unseen = record { at = 0; found = false; forbidden = 0; barred = 0 }

-- what access w's entries say about a network
unfoldable pub sight_of : ℕ → ℕ → Hot → List ℕ → List ℕ → List ℕ → List ℕ → List ℕ → List ℕ → List ℕ → List ℕ → Seen
sight_of w net h nets0 forbidden0 barred0 ranks0 nets1 forbidden1 barred1 ranks1 =
    cond (eqb w 0) (seen_in h.a0.entries net nets0 forbidden0 barred0 ranks0) (seen_in h.a1.entries net nets1 forbidden1 barred1 ranks1)

-- an import's file: whether it is one, and then the first free place once its networks have theirs; it has no marks itself
unfoldable pub file_seen : ℕ → List ℕ → List ℕ → Seen
file_seen count file nets = record { at = cond (import_range file) (held_with count file nets) 0; found = import_range file; forbidden = 0; barred = 0 }

-- the octets are those beside the event
unfoldable pub seen_by : Ask → List ℕ → Hot → List ℕ → List ℕ → List ℕ → List ℕ → List ℕ → List ℕ → List ℕ → List ℕ → Seen
seen_by ask.Nothing octets h nets0 forbidden0 barred0 ranks0 nets1 forbidden1 barred1 ranks1 = unseen
seen_by (ask.Network w net) octets h nets0 forbidden0 barred0 ranks0 nets1 forbidden1 barred1 ranks1 = sight_of w net h nets0 forbidden0 barred0 ranks0 nets1 forbidden1 barred1 ranks1
seen_by ask.File octets h nets0 forbidden0 barred0 ranks0 nets1 forbidden1 barred1 ranks1 = file_seen h.a0.entries octets nets0

unfoldable pub seen_of : Ask → List ℕ → Hot → Entries → Entries → Seen
seen_of q octets h e0 e1 = seen_by q octets h e0.nets e0.forbidden e0.barred e0.ranks e1.nets e1.forbidden e1.barred e1.ranks

-- whether an area stands in one of the two lists
unfoldable pub listed_of : Option Area → Hot → List ℕ → List ℕ → Bool
listed_of None h roaming regional = false
listed_of (Some a) h roaming regional = either (listed_in (area_of a.net a.code) h.dev.roaming roaming) (listed_in (area_of a.net a.code) h.dev.regional regional)

-- what is planned, once that is known
unfoldable pub planned_of : Hot → Event → List ℕ → Entries → Entries → List ℕ → List ℕ → Plan
planned_of h e octets e0 e1 roaming regional = plan_of h e (seen_of (ask_of h e) octets h e0 e1) (listed_of (site_of e) h roaming regional) octets

unfoldable pub table_after : Plan → List ℕ → ℕ → ℕ → Hot → Entries → Entries
table_after p octets me count h t = entries_after (deed_of p me) octets count h.dev.banlimit h.dev.n1limit t

-- the order on access `me`, by the deed on the event's own access
unfoldable pub order_on : ℕ → Deed → ℕ → ℕ → List ℕ → List ℕ
order_on w deed.Nothing me count ranks = ranks
order_on w (deed.Ban s) me count ranks = cond (eqb w me) (last_at s.at (entries_held count) ranks) ranks
order_on w (deed.Bar s) me count ranks = cond (eqb w me) (last_at s.at (entries_held count) ranks) ranks
order_on w (deed.Accept s) me count ranks = ranks
order_on w (deed.ToLimit net) me count ranks = ranks
order_on w deed.Import me count ranks = ranks
order_on w deed.Sweep me count ranks = ranks
order_on w deed.Power me count ranks = ranks
order_on w deed.Fresh me count ranks = replicate 16 0

-- the numbers with the area lists' counts
unfoldable pub with_counts : ℕ → ℕ → Hot → Hot
with_counts roaming regional h = record {
  dev = record {
    card = h.dev.card;
    home = h.dev.home;
    t3512length = h.dev.t3512length;
    suci = h.dev.suci;
    cardlimit = h.dev.cardlimit;
    banlimit = h.dev.banlimit;
    n1limit = h.dev.n1limit;
    t3247 = h.dev.t3247;
    t3512 = h.dev.t3512;
    due = h.dev.due;
    capability = h.dev.capability;
    security = h.dev.security;
    roaming = roaming;
    regional = regional;
    edition = h.dev.edition;
  };
  a0 = h.a0;
  a1 = h.a1;
}

unfoldable pub done_of : Plan → Hot → List ℕ → List ℕ → Done
done_of p h roaming regional = record {
  plan = p;
  hot = with_counts (count_after p.work.roaming h.dev.roaming roaming) (count_after p.work.regional h.dev.regional regional) p.hot;
}

-- what the core changes
pub record Parts : Type 0 where
  pub done : Done
  pub e0 : Entries
  pub e1 : Entries
  pub roaming : List ℕ
  pub regional : List ℕ

abbrev pub parts_of : Done → Entries → Entries → List ℕ → List ℕ → Parts
parts_of d e0 e1 roaming regional = record { done = d; e0 = e0; e1 = e1; roaming = roaming; regional = regional }

unfoldable pub carried_out : Plan → List ℕ → Hot → Entries → Entries → List ℕ → List ℕ → Parts
carried_out p octets h e0 e1 roaming regional =
    parts_of
    (done_of p h roaming regional)
    (table_after p octets 0 h.a0.entries h e0)
    (table_after p octets 1 h.a1.entries h e1)
    (list_after p.work.roaming h.dev.roaming roaming)
    (list_after p.work.regional h.dev.regional regional)

unfoldable pub parts_after : Hot → Event → List ℕ → Entries → Entries → List ℕ → List ℕ → Parts
parts_after h e octets e0 e1 roaming regional = carried_out (planned_of h e octets e0 e1 roaming regional) octets h e0 e1 roaming regional

-- three octets each: the first n networks
unfoldable pub networks_of : ℕ → List ℕ → List ℕ
networks_of zero s = []
networks_of (suc n) s = network_of (get_or s 0 0) (get_or s 1 0) (get_or s 2 0) ∷ networks_of n (drop 3 s)

-- "GUTI replaced if given": ten octets from its place
unfoldable pub given_after : Option ℕ → List ℕ → List ℕ → List ℕ
given_after None octets guti = guti
given_after (Some at) octets guti = copied 10 (drop at octets) guti

-- that on the event's own access; a card change leaves that of a new record
unfoldable pub guti_after : Keep → Bool → List ℕ → List ℕ → List ℕ
guti_after keep.Nothing own octets guti = guti
guti_after (keep.Gift g) own octets guti = cond own (given_after g.guti octets guti) guti
guti_after keep.Card own octets guti = zeros 10

-- "equivalent networks replaced"
unfoldable pub equivalents_after : Keep → Bool → List ℕ → List ℕ → List ℕ
equivalents_after keep.Nothing own octets equivalents = equivalents
equivalents_after (keep.Gift g) own octets equivalents =
    cond own (copied (at_most 15 g.count) (networks_of (at_most 15 g.count) (drop g.triplets octets)) equivalents) equivalents
equivalents_after keep.Card own octets equivalents = zeros 15

-- a card's SUCI
unfoldable pub suci_after : Keep → List ℕ → List ℕ → List ℕ
suci_after keep.Nothing octets suci = suci
suci_after (keep.Gift g) octets suci = suci
suci_after keep.Card octets suci = copied (at_most 64 (length octets)) octets (zeros 64)

-- what the core leaves to keep
pub record Kept : Type 0 where
  pub guti0 : List ℕ
  pub guti1 : List ℕ
  pub equivalents0 : List ℕ
  pub equivalents1 : List ℕ
  pub suci : List ℕ

abbrev pub kept_of : List ℕ → List ℕ → List ℕ → List ℕ → List ℕ → Kept
kept_of guti0 guti1 equivalents0 equivalents1 suci = record { guti0 = guti0; guti1 = guti1; equivalents0 = equivalents0; equivalents1 = equivalents1; suci = suci }

unfoldable pub kept_after : Plan → List ℕ → Kept → Kept
kept_after p octets k =
    kept_of
    (guti_after p.work.keep (eqb p.access 0) octets k.guti0)
    (guti_after p.work.keep (eqb p.access 1) octets k.guti1)
    (equivalents_after p.work.keep (eqb p.access 0) octets k.equivalents0)
    (equivalents_after p.work.keep (eqb p.access 1) octets k.equivalents1)
    (suci_after p.work.keep octets k.suci)
