-- The record after a taken reject, read off its row's text: document 01's "Rejects" with no word on how it is carried out. Assumes nothing.
use Rattle.std.specs.Prelude.{ℕ, cond, eqb}
use Rattle.entries.specs.declared.Entries.{Entries}
use Rattle.entries.specs.declared.Seat.{Seat}
use Rattle.entries.specs.Places.{entries_held, has_entry}
use Rattle.entries.specs.Order.{last_at}
use Rattle.entries.specs.Entries.{place_for, with_ranks, banned, barred_by, n1_to_limit}
use Rattle.areas.specs.Areas.{area_of, placed, placed_count}
use Rattle.record.specs.declared.Access.{Access}
use Rattle.record.specs.declared.Record.{Record}
use Rattle.record.specs.Sides.{access_of}
use Rattle.messages.specs.declared.Reject.{Reject}
use Rattle.turns.specs.declared.Turn.{Turn}
use Rattle.turns.specs.declared.Draws.{Draws}
use Rattle.turns.specs.Timers.{flag_after, clocked}
use Rattle.turns.specs.Words.{Text, Mark, no_mark, forbidden_and_counted, n1_not_allowed_and_counted, is_roaming, is_regional, list_of, mark_in, is_n1_across, across_of}
use Rattle.turns.specs.Rejects.{reject_t3247, t3346_time, row_text}
use Rattle.turns.specs.Turns.{turned, other_turned}
use Rattle.checks.specs.Answers.{row_now}

-- the pending network's place in its access's entries: its own, else the first free one, else that of the entry that gives it up (document 02, R-9)
abbrev pub seat : ℕ → Access → Entries → Seat
seat protected a t = record {
  at = place_for a.entries a.net t.nets t.forbidden t.barred t.ranks;
  found = has_entry a.entries a.net t.nets;
  net = a.net;
  protected = protected;
}

-- of so many entries the last that was marked (R-9)
abbrev pub last_in : Seat → ℕ → Entries → Entries
last_in k count t = with_ranks (last_at k.at (entries_held count) t.ranks) t

-- its mark and counter there
unfoldable pub marked_in : Mark → Seat → ℕ → ℕ → ℕ → Entries → Entries
marked_in no_mark k count banlimit n1limit t = t
marked_in forbidden_and_counted k count banlimit n1limit t = last_in k count (banned k banlimit t)
marked_in n1_not_allowed_and_counted k count banlimit n1limit t = last_in k count (barred_by k n1limit t)

-- an access with its timers run or stopped
abbrev pub after : Turn → Access
after t = clocked t.orders t.access

-- access me of an event of access w, with T3346's time, and its entries; net is the pending network of access w
abbrev access_after : Text → ℕ → ℕ → ℕ → ℕ → ℕ → ℕ → Access → Entries → Access
access_after t w me protected cause limit time a e = cond (eqb w me) (after (turned t w limit cause (seat protected a e).found time a)) (after (other_turned (across_of t) limit a))

abbrev reject_entries : Text → ℕ → ℕ → ℕ → ℕ → ℕ → ℕ → ℕ → Access → Entries → Entries
reject_entries t w me protected cause banlimit n1limit net a e =
    cond (eqb w me) (marked_in (mark_in t) (seat protected a e) a.entries banlimit n1limit e)
    (cond (is_n1_across (across_of t) w protected cause) (n1_to_limit net a.entries n1limit e) e)

unfoldable pub record_after : Text → ℕ → ℕ → ℕ → ℕ → ℕ → ℕ → Record → Record
record_after t w protected cause t3247 time area r = record {
  hot = record {
    dev = record {
      card = r.hot.dev.card;
      home = r.hot.dev.home;
      t3512length = r.hot.dev.t3512length;
      suci = r.hot.dev.suci;
      cardlimit = r.hot.dev.cardlimit;
      banlimit = r.hot.dev.banlimit;
      n1limit = r.hot.dev.n1limit;
      t3247 = t3247;
      t3512 = r.hot.dev.t3512;
      due = r.hot.dev.due;
      capability = r.hot.dev.capability;
      security = r.hot.dev.security;
      roaming = cond (is_roaming (list_of t) w cause) (placed_count area r.hot.dev.roaming r.roaming) r.hot.dev.roaming;
      regional = cond (is_regional (list_of t) w cause) (placed_count area r.hot.dev.regional r.regional) r.hot.dev.regional;
      edition = r.hot.dev.edition;
    };
    a0 = access_after t w 0 protected cause r.hot.dev.cardlimit time r.hot.a0 r.e0;
    a1 = access_after t w 1 protected cause r.hot.dev.cardlimit time r.hot.a1 r.e1;
  };
  e0 = reject_entries t w 0 protected cause r.hot.dev.banlimit r.hot.dev.n1limit (access_of r.hot w).net r.hot.a0 r.e0;
  e1 = reject_entries t w 1 protected cause r.hot.dev.banlimit r.hot.dev.n1limit (access_of r.hot w).net r.hot.a1 r.e1;
  roaming = cond (is_roaming (list_of t) w cause) (placed area protected r.hot.dev.roaming r.roaming) r.roaming;
  regional = cond (is_regional (list_of t) w cause) (placed area protected r.hot.dev.regional r.regional) r.regional;
  guti0 = r.guti0;
  guti1 = r.guti1;
  equivalents0 = r.equivalents0;
  equivalents1 = r.equivalents1;
  suci = r.suci;
  capability = r.capability;
  security = r.security;
}

-- the row's text, T3247, T3346's time, and the pending area
unfoldable pub reject_record : Record → ℕ → ℕ → Draws → Reject → Record
reject_record r w protected draws g =
    record_after (row_text (row_now r.hot w protected g)) w protected g.cause
    (flag_after (reject_t3247 r.hot.dev.t3247 protected g.cause draws.t3247) r.hot.dev.t3247)
    (t3346_time protected g.t3346length draws.t3346)
    (area_of (access_of r.hot w).net (access_of r.hot w).code)
    r
