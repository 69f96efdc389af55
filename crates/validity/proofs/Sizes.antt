-- A new record's arrays have the lengths of their types, and each event keeps them: a store, a copy and a sweep change no length. Assumes nothing.
use Prim.Native.Nat.{ℕ, ◌+◌}
use mathlib.Core.Path.{◌≡◌, ◌∙◌, ap}
use mathlib.Core.Bool.{Bool, true, false, cond}
use mathlib.Core.List.{List, [], ◌∷◌, ◌++◌}
use native.Mathlib.Omega.{arith}
use lib.Dec.{ltb, eqb}
use lib.ListN.{length, get_or, set, drop, length-set, length-replicate, length-append, length-drop}
use Rattle.std.specs.Prelude.{Option, Some, None}
use Rattle.laws.specs.Bounds.{at_most}
use Rattle.laws.specs.Upto.{first, copied}
use Rattle.laws.proofs.Arrays.{upto-length}
use Rattle.entries.specs.declared.Entries.{Entries}
use Rattle.entries.specs.declared.Seat.{Seat}
use Rattle.entries.specs.declared.Deed.{Deed}
use Rattle.entries.specs.declared.Deed.TheVariants as deed
use Rattle.entries.specs.Places.{entries_held, place_in, has_entry, put_at}
use Rattle.entries.specs.Order.{last_to}
use Rattle.entries.specs.Entries.{lift_mark, bumped, clear_unless, raised, with_ranks, banned, barred_by, unforbidden, n1_to_limit, swept, powered, grown, imported, imported_all, is_filed, file_taken, none, marks_after, ranks_after, is_import, with_file, entries_after}
use Rattle.entries.proofs.Ranks.{put-length, last-length, last_to-length}
use Rattle.networks.specs.Networks.{networks_in}
use Rattle.areas.specs.declared.Task.{Task}
use Rattle.areas.specs.declared.Task.TheVariants as task
use Rattle.areas.specs.Areas.{area_of, is_protected, area_place, listed_in, marked, remarked, placed, stayed, swept_list, list_after}
use Rattle.record.specs.Tests.{both}
use Rattle.effects.specs.declared.Keep.{Keep}
use Rattle.effects.specs.declared.Keep.TheVariants as keep
use Rattle.record.specs.New.{zeros, empty_record, new_record, may_make, made_of}
use Rattle.ranges.specs.Valid.{valid_of}
use Rattle.record.specs.declared.Record.{Record}
use Rattle.record.specs.declared.Made.{Made}
use Rattle.record.specs.declared.Answer.TheVariants.{Taken, Range}
use Rattle.rules.specs.declared.Event.{Event}
use Rattle.rules.specs.declared.Plan.{Plan}
use Rattle.rules.specs.Plan.{refused_reply, deed_of}
use Rattle.events.specs.declared.Outcome.{Outcome}
use Rattle.events.specs.Parts.{table_after, done_of, carried_out, planned_of, parts_after, networks_of, given_after, guti_after, equivalents_after, suci_after, kept_after}
use Rattle.events.specs.Step.{together, joined_of, advance_of, step_of}
use Rattle.validity.specs.Sized.{Columns, Sized}
use Rattle.validity.proofs.Filter.{kept-inside}

-- either way the same length
cond-length : (b : Bool) (xs ys : List ℕ) (n : ℕ) → length xs ≡ n → length ys ≡ n → length (cond b xs ys) ≡ n
cond-length true xs ys n p q = p
cond-length false xs ys n p q = q

copied-length : (n : ℕ) (xs ys : List ℕ) → length (copied n xs ys) ≡ length ys
unfolding copied
copied-length n xs ys = upto-length first n xs ys

clear-length : (found : Bool) (xs : List ℕ) (at n : ℕ) → length xs ≡ n → length (clear_unless found xs at) ≡ n
unfolding clear_unless
clear-length found xs at n e = cond-length found xs (put_at xs at 0) n e (put-length xs at 0 ∙ e)

raised-length : (xs : List ℕ) (at : ℕ) (found : Bool) (limit protected n : ℕ) → length xs ≡ n → length (raised xs at found limit protected) ≡ n
unfolding raised
raised-length xs at found limit protected n e = put-length xs at (bumped limit protected (cond found (get_or xs at 0) 0)) ∙ e

none-columns : Columns none
unfolding none
none-columns = record {
  nets = length-replicate {A = ℕ} 16 0;
  bans = length-replicate {A = ℕ} 16 0;
  n1s = length-replicate {A = ℕ} 16 0;
  forbidden = length-replicate {A = ℕ} 16 0;
  barred = length-replicate {A = ℕ} 16 0;
  ranks = length-replicate {A = ℕ} 16 0;
}

module _ (t : Entries) (w : Columns t) where
  banned-columns : (k : Seat) (limit : ℕ) → Columns (banned k limit t)
  unfolding banned
  banned-columns k limit = record {
    nets = put-length t.nets k.at k.net ∙ w.nets;
    bans = raised-length t.bans k.at k.found limit k.protected 16 w.bans;
    n1s = clear-length k.found t.n1s k.at 16 w.n1s;
    forbidden = put-length t.forbidden k.at 1 ∙ w.forbidden;
    barred = clear-length k.found t.barred k.at 16 w.barred;
    ranks = w.ranks;
  }

  barred-columns : (k : Seat) (limit : ℕ) → Columns (barred_by k limit t)
  unfolding barred_by
  barred-columns k limit = record {
    nets = put-length t.nets k.at k.net ∙ w.nets;
    bans = clear-length k.found t.bans k.at 16 w.bans;
    n1s = raised-length t.n1s k.at k.found limit k.protected 16 w.n1s;
    forbidden = clear-length k.found t.forbidden k.at 16 w.forbidden;
    barred = put-length t.barred k.at 1 ∙ w.barred;
    ranks = w.ranks;
  }

  accepted-columns : (k : Seat) → Columns (unforbidden k t)
  unfolding unforbidden
  accepted-columns k = record {
    nets = w.nets;
    bans = w.bans;
    n1s = w.n1s;
    forbidden = cond-length k.found (put_at t.forbidden k.at 0) t.forbidden 16 (put-length t.forbidden k.at 0 ∙ w.forbidden) w.forbidden;
    barred = w.barred;
    ranks = w.ranks;
  }

  limit-columns : (net count limit : ℕ) → Columns (n1_to_limit net count limit t)
  unfolding n1_to_limit
  limit-columns net count limit = record {
    nets = w.nets;
    bans = w.bans;
    n1s = cond-length (has_entry count net t.nets) (put_at t.n1s (place_in count net t.nets) limit) t.n1s 16 (put-length t.n1s (place_in count net t.nets) limit ∙ w.n1s) w.n1s;
    forbidden = w.forbidden;
    barred = w.barred;
    ranks = w.ranks;
  }

  pub imported-columns : (net count : ℕ) → Columns (imported net count t)
  unfolding imported
  imported-columns net count = record {
    nets = put-length t.nets (place_in count net t.nets) net ∙ w.nets;
    bans = clear-length (has_entry count net t.nets) t.bans (place_in count net t.nets) 16 w.bans;
    n1s = clear-length (has_entry count net t.nets) t.n1s (place_in count net t.nets) 16 w.n1s;
    forbidden = put-length t.forbidden (place_in count net t.nets) 1 ∙ w.forbidden;
    barred = clear-length (has_entry count net t.nets) t.barred (place_in count net t.nets) 16 w.barred;
    ranks =
        cond-length (has_entry count net t.nets) t.ranks (put_at t.ranks (place_in count net t.nets) (entries_held count)) 16 w.ranks
        (put-length t.ranks (place_in count net t.nets) (entries_held count) ∙ w.ranks);
  }

  swept-columns : (count banlimit n1limit : ℕ) → Columns (swept count banlimit n1limit t)
  unfolding swept
  swept-columns count banlimit n1limit = record {
    nets = w.nets;
    bans = w.bans;
    n1s = w.n1s;
    forbidden = upto-length (lift_mark banlimit) (entries_held count) t.bans t.forbidden ∙ w.forbidden;
    barred = upto-length (lift_mark n1limit) (entries_held count) t.n1s t.barred ∙ w.barred;
    ranks = w.ranks;
  }

  cycled-columns : (count banlimit : ℕ) → Columns (powered count banlimit t)
  unfolding powered
  cycled-columns count banlimit = record {
    nets = w.nets;
    bans = w.bans;
    n1s = w.n1s;
    forbidden = upto-length (lift_mark banlimit) (entries_held count) t.bans t.forbidden ∙ w.forbidden;
    barred = length-replicate {A = ℕ} 16 0;
    ranks = w.ranks;
  }

with-columns : (ranks : List ℕ) (t : Entries) → length ranks ≡ 16 → Columns t → Columns (with_ranks ranks t)
with-columns ranks t e w = record { nets = w.nets; bans = w.bans; n1s = w.n1s; forbidden = w.forbidden; barred = w.barred; ranks = e }

-- networks one after the other
all-columns : (named : ℕ → Bool) (xs : List ℕ) (count : ℕ) (t : Entries) → Columns t → Columns (imported_all named xs count t)
unfolding imported_all
all-columns named [] count t w = with-columns (last_to named (entries_held count) (entries_held count) t.nets t.ranks) t (last_to-length named (entries_held count) (entries_held count) t.nets t.ranks ∙ w.ranks) w
all-columns named (net ∷ rest) count t w = all-columns named rest (grown (has_entry count net t.nets) count) (imported net count t) (imported-columns t w net count)

marks-columns : (k : Deed) (count banlimit n1limit : ℕ) (t : Entries) → Columns t → Columns (marks_after k count banlimit n1limit t)
unfolding marks_after
marks-columns deed.Nothing count banlimit n1limit t w = w
marks-columns (deed.Ban s) count banlimit n1limit t w = banned-columns t w s banlimit
marks-columns (deed.Bar s) count banlimit n1limit t w = barred-columns t w s n1limit
marks-columns (deed.Accept s) count banlimit n1limit t w = accepted-columns t w s
marks-columns (deed.ToLimit net) count banlimit n1limit t w = limit-columns t w net count n1limit
marks-columns deed.Import count banlimit n1limit t w = w
marks-columns deed.Sweep count banlimit n1limit t w = swept-columns t w count banlimit n1limit
marks-columns deed.Power count banlimit n1limit t w = cycled-columns t w count banlimit
marks-columns deed.Fresh count banlimit n1limit t w = with-columns t.ranks none w.ranks none-columns

ranks-length : (k : Deed) (count : ℕ) (ranks : List ℕ) → length ranks ≡ 16 → length (ranks_after k count ranks) ≡ 16
unfolding ranks_after
ranks-length deed.Nothing count ranks e = e
ranks-length (deed.Ban s) count ranks e = last-length s.at (entries_held count) ranks ∙ e
ranks-length (deed.Bar s) count ranks e = last-length s.at (entries_held count) ranks ∙ e
ranks-length (deed.Accept s) count ranks e = e
ranks-length (deed.ToLimit net) count ranks e = e
ranks-length deed.Import count ranks e = e
ranks-length deed.Sweep count ranks e = e
ranks-length deed.Power count ranks e = e
ranks-length deed.Fresh count ranks e = length-replicate {A = ℕ} 16 0

entries-columns : (k : Deed) (octets : List ℕ) (count banlimit n1limit : ℕ) (t : Entries) → Columns t → Columns (entries_after k octets count banlimit n1limit t)
unfolding entries_after with_file
entries-columns k octets count banlimit n1limit t w = go (is_import k)
  where
    done : Entries
    done = with_ranks (ranks_after k count t.ranks) (marks_after k count banlimit n1limit t)

    c : Columns done
    c = with-columns (ranks_after k count t.ranks) (marks_after k count banlimit n1limit t) (ranks-length k count t.ranks w.ranks) (marks-columns k count banlimit n1limit t w)

    go : (b : Bool) → Columns (cond b (file_taken octets count done) done)
    go true = all-columns (λ n. is_filed n (networks_in octets)) (networks_in octets) count done c
    go false = c

-- those that stay, and as many behind them as before
swept-length : (count : ℕ) (xs : List ℕ) → length (swept_list count xs) ≡ length xs
unfolding swept_list stayed
swept-length count xs =
    length-append (stayed count xs) (drop (length (stayed count xs)) xs) ∙ ap (λ (n : ℕ). length (stayed count xs) + n) (length-drop (length (stayed count xs)) xs)
    ∙ omega (arith, kept-inside is_protected (Rattle.areas.specs.Areas.areas_held count) xs)

shifted-length : (xs : List ℕ) (v : ℕ) → length xs ≡ 40 → length (drop 1 xs ++ (v ∷ [])) ≡ 40
shifted-length xs v e = length-append (drop 1 xs) (v ∷ []) ∙ omega (arith, length-drop 1 xs)

placed-length : (area protected count : ℕ) (xs : List ℕ) → length xs ≡ 40 → length (placed area protected count xs) ≡ 40
unfolding placed
placed-length area protected count xs e =
    cond-length (listed_in area count xs) (set xs (area_place area count xs) (remarked area protected (get_or xs (area_place area count xs) 0)))
    (cond (ltb count 40) (set xs count (marked area protected)) (drop 1 xs ++ (marked area protected ∷ []))) 40
    (length-set xs (area_place area count xs) (remarked area protected (get_or xs (area_place area count xs) 0)) ∙ e)
    (cond-length (ltb count 40) (set xs count (marked area protected)) (drop 1 xs ++ (marked area protected ∷ [])) 40 (length-set xs count (marked area protected) ∙ e) (shifted-length xs (marked area protected) e))

list_length : (t : Task) (count : ℕ) (xs : List ℕ) → length xs ≡ 40 → length (list_after t count xs) ≡ 40
unfolding list_after
list_length task.Nothing count xs e = e
list_length (task.Put net code protected) count xs e = placed-length (area_of net code) protected count xs e
list_length task.Sweep count xs e = swept-length count xs ∙ e
list_length task.Clear count xs e = length-replicate {A = ℕ} 40 0

module _ (own : Bool) (octets : List ℕ) where
  given-length : (place : Option ℕ) (guti : List ℕ) → length guti ≡ 10 → length (given_after place octets guti) ≡ 10
  unfolding given_after
  given-length None guti e = e
  given-length (Some at) guti e = copied-length 10 (drop at octets) guti ∙ e

  guti-length : (k : Keep) (guti : List ℕ) → length guti ≡ 10 → length (guti_after k own octets guti) ≡ 10
  unfolding guti_after
  guti-length keep.Nothing guti e = e
  guti-length (keep.Gift g) guti e = cond-length own (given_after g.guti octets guti) guti 10 (given-length g.guti guti e) e
  guti-length keep.Card guti e = length-replicate {A = ℕ} 10 0

  equivalents-length : (k : Keep) (xs : List ℕ) → length xs ≡ 15 → length (equivalents_after k own octets xs) ≡ 15
  unfolding equivalents_after
  equivalents-length keep.Nothing xs e = e
  equivalents-length (keep.Gift g) xs e =
      cond-length own (copied (at_most 15 g.count) (networks_of (at_most 15 g.count) (drop g.triplets octets)) xs) xs 15
      (copied-length (at_most 15 g.count) (networks_of (at_most 15 g.count) (drop g.triplets octets)) xs ∙ e) e
  equivalents-length keep.Card xs e = length-replicate {A = ℕ} 15 0

suci-length : (octets : List ℕ) (k : Keep) (suci : List ℕ) → length suci ≡ 64 → length (suci_after k octets suci) ≡ 64
unfolding suci_after
suci-length octets keep.Nothing suci e = e
suci-length octets (keep.Gift g) suci e = e
suci-length octets keep.Card suci e = copied-length (at_most 64 (length octets)) octets (zeros 64) ∙ length-replicate {A = ℕ} 64 0

pub advance-sized : (r : Record) (e : Event) (octets : List ℕ) → Sized r → Sized (advance_of r e octets).next
unfolding advance_of joined_of together parts_after carried_out done_of table_after kept_after
advance-sized r e octets s = record {
  e0 = entries-columns (deed_of p 0) octets r.hot.a0.entries r.hot.dev.banlimit r.hot.dev.n1limit r.e0 s.e0;
  e1 = entries-columns (deed_of p 1) octets r.hot.a1.entries r.hot.dev.banlimit r.hot.dev.n1limit r.e1 s.e1;
  roaming = list_length p.work.roaming r.hot.dev.roaming r.roaming s.roaming;
  regional = list_length p.work.regional r.hot.dev.regional r.regional s.regional;
  guti0 = guti-length (eqb p.access 0) octets p.work.keep r.guti0 s.guti0;
  guti1 = guti-length (eqb p.access 1) octets p.work.keep r.guti1 s.guti1;
  equivalents0 = equivalents-length (eqb p.access 0) octets p.work.keep r.equivalents0 s.equivalents0;
  equivalents1 = equivalents-length (eqb p.access 1) octets p.work.keep r.equivalents1 s.equivalents1;
  suci = suci-length octets p.work.keep r.suci s.suci;
  capability = s.capability;
  security = s.security;
}
  where
    p : Plan
    p = planned_of r.hot e octets r.e0 r.e1 r.roaming r.regional

pub step-sized : (r : Record) (e : Event) (octets : List ℕ) → Sized r → Sized (step_of r e octets).next
unfolding step_of
step-sized r e octets s =
    elim (valid_of r) as (λ b. Sized (cond {A = Outcome} b (advance_of r e octets) (record { reply = refused_reply Range 0; next = r })).next) [ true ↦ advance-sized r e octets s | false ↦ s ]

pub new-sized : (cardlimit banlimit n1limit : ℕ) (capability security : List ℕ) → Sized (new_record cardlimit banlimit n1limit capability security)
unfolding new_record empty_record
new-sized cardlimit banlimit n1limit capability security = record {
  e0 = none-columns;
  e1 = none-columns;
  roaming = length-replicate {A = ℕ} 40 0;
  regional = length-replicate {A = ℕ} 40 0;
  guti0 = length-replicate {A = ℕ} 10 0;
  guti1 = length-replicate {A = ℕ} 10 0;
  equivalents0 = length-replicate {A = ℕ} 15 0;
  equivalents1 = length-replicate {A = ℕ} 15 0;
  suci = length-replicate {A = ℕ} 64 0;
  capability = copied-length (length capability) capability (zeros 13) ∙ length-replicate {A = ℕ} 13 0;
  security = copied-length (length security) security (zeros 8) ∙ length-replicate {A = ℕ} 8 0;
}

pub made-sized : (cardlimit banlimit n1limit : ℕ) (capability security : List ℕ) → Sized (made_of cardlimit banlimit n1limit capability security).made
unfolding made_of
made-sized cardlimit banlimit n1limit capability security =
    elim (may_make cardlimit banlimit n1limit (length capability) (length security)) as (λ b. Sized (cond {A = Made} b (record { answer = Taken; made = new_record cardlimit banlimit n1limit capability security }) (record { answer = Range; made = new_record 1 1 1 (0 ∷ []) (0 ∷ 0 ∷ []) })).made) [
      | true ↦ new-sized cardlimit banlimit n1limit capability security
      | false ↦ new-sized 1 1 1 (0 ∷ []) (0 ∷ 0 ∷ [])
    ]
