-- Effects of a taken event: numbers, timers, work on the arrays, requests. Assumes nothing.
use Rattle.std.specs.Prelude.{ℕ, Bool, false, cond, eqb, is_some, unwrap_or}
use Rattle.record.specs.Setters.{with_entries}
use Rattle.record.specs.Tests.{flip}
use Rattle.record.specs.declared.Access.{Access}
use Rattle.record.specs.declared.Device.{Device}
use Rattle.record.specs.declared.Hot.{Hot}
use Rattle.messages.specs.declared.Accept.{Accept}
use Rattle.messages.specs.declared.Reject.{Reject}
use Rattle.entries.specs.declared.Seen.{Seen}
use Rattle.entries.specs.declared.Seat.{Seat}
use Rattle.entries.specs.Entries.{seat_of}
use Rattle.entries.specs.declared.Deed.{Deed}
use Rattle.entries.specs.declared.Deed.TheVariants as deed
use Rattle.areas.specs.declared.Task.{Task}
use Rattle.areas.specs.declared.Task.TheVariants as task
use Rattle.turns.specs.declared.Order.{Order}
use Rattle.turns.specs.declared.Order.TheVariants.{Leave, Stop, Run}
use Rattle.turns.specs.declared.Turn.{Turn}
use Rattle.turns.specs.declared.Row.{Row}
use Rattle.turns.specs.declared.Draws.{Draws}
use Rattle.turns.specs.Timers.{is_device_timer}
use Rattle.turns.specs.Words.{Mark, no_mark, forbidden_and_counted, n1_not_allowed_and_counted, mark_in}
use Rattle.turns.specs.Rejects.{reject_t3247, t3346_time, row_text, to_roaming, to_regional, across_n1}
use Rattle.turns.specs.Turns.{still, started, updated, key_set, accepted, clock_turn, cycled, renewed, row_turn, other_turn}
use Rattle.effects.specs.declared.Work.{Work}
use Rattle.effects.specs.declared.Sides.{Sides}
use Rattle.effects.specs.declared.Keep.{Keep}
use Rattle.effects.specs.declared.Keep.TheVariants as keep
use Rattle.record.specs.Sides.{access_of, other_of}

-- a taken event: the device's numbers, the turn of its access and of the other one, T3247, T3512, the work, and whether a restart is asked
pub record Effect : Type 0 where
  pub dev : Device
  pub mine : Turn
  pub theirs : Turn
  pub t3247 : Order
  pub t3512 : Order
  pub work : Work
  pub restart : Bool

-- the device's numbers with T3247 and T3512 running or not
unfoldable pub ticked : ℕ → ℕ → Device → Device
ticked t3247 t3512 d = record {
  card = d.card;
  home = d.home;
  t3512length = d.t3512length;
  suci = d.suci;
  cardlimit = d.cardlimit;
  banlimit = d.banlimit;
  n1limit = d.n1limit;
  t3247 = t3247;
  t3512 = t3512;
  due = d.due;
  capability = d.capability;
  security = d.security;
  roaming = d.roaming;
  regional = d.regional;
  edition = d.edition;
}

-- T3512's time that is kept, and whether a periodic update is due
unfoldable pub scheduled : ℕ → ℕ → Device → Device
scheduled t3512length due d = record {
  card = d.card;
  home = d.home;
  t3512length = t3512length;
  suci = d.suci;
  cardlimit = d.cardlimit;
  banlimit = d.banlimit;
  n1limit = d.n1limit;
  t3247 = d.t3247;
  t3512 = d.t3512;
  due = due;
  capability = d.capability;
  security = d.security;
  roaming = d.roaming;
  regional = d.regional;
  edition = d.edition;
}

-- this card and its edition; limits and capabilities stay. The timers and the lists' counts become those of a new record by the orders and the tasks of the effect
unfoldable pub carded : ℕ → ℕ → ℕ → Device → Device
carded edition home suci d = record {
  card = 1;
  home = home;
  t3512length = 3240;
  suci = suci;
  cardlimit = d.cardlimit;
  banlimit = d.banlimit;
  n1limit = d.n1limit;
  t3247 = d.t3247;
  t3512 = d.t3512;
  due = 0;
  capability = d.capability;
  security = d.security;
  roaming = d.roaming;
  regional = d.regional;
  edition = edition;
}

-- nothing on the arrays
abbrev pub idle : Work
idle = record { mine = deed.Nothing; theirs = deed.Nothing; roaming = task.Nothing; regional = task.Nothing; keep = keep.Nothing }

-- the same on both accesses' entries, and on both lists
abbrev pub on_both : Deed → Task → Keep → Work
on_both d t k = record { mine = d; theirs = d; roaming = t; regional = t; keep = k }

-- an event of one access that touches no array and no timer of the device
abbrev pub plain : Hot → ℕ → Turn → Bool → Effect
plain h w t restart = record { dev = h.dev; mine = t; theirs = still (other_of h w); t3247 = Leave; t3512 = Leave; work = idle; restart = restart }

-- Card change: a new record with the same limits and capabilities, this card, both states 1
unfoldable pub card_effect : Hot → ℕ → ℕ → ℕ → Effect
card_effect h edition home suci = record { dev = carded edition home suci h.dev; mine = renewed; theirs = renewed; t3247 = Stop; t3512 = Stop; work = on_both deed.Fresh task.Clear keep.Card; restart = false }

unfoldable pub start_effect : Hot → ℕ → ℕ → ℕ → Effect
start_effect h w net code = plain h w (started net code (access_of h w)) false

-- Update (document 02, R-5): "on access 0 also T3512" stops
unfoldable pub update_effect : Hot → ℕ → ℕ → ℕ → ℕ → ℕ → ℕ → Effect
update_effect h w regtype net code uplink sessions = record {
  dev = h.dev;
  mine = updated regtype net code uplink sessions (access_of h w);
  theirs = still (other_of h w);
  t3247 = Leave;
  t3512 = cond (eqb w 0) Stop Leave;
  work = idle;
  restart = false;
}

unfoldable pub key_effect : Hot → ℕ → ℕ → Effect
key_effect h w set = plain h w (key_set set (access_of h w)) false

-- Document 02, R-5: "An accept on access 0 starts T3512: the time given, which is kept, else the one kept, ..; not if zero or deactivated",
-- which is kept as zero; a periodic update is "due until the next accept"
unfoldable pub t3512_time : Accept → Device → ℕ
t3512_time g d = unwrap_or g.t3512length d.t3512length

unfoldable pub accept_t3512 : ℕ → ℕ → Order
accept_t3512 w time = cond (eqb w 0) (cond (eqb time 0) Leave (Run time)) Leave

unfoldable pub accept_device : ℕ → ℕ → Device → Device
accept_device w time d = cond (eqb w 0) (scheduled time 0 d) d

-- on the arrays: the network's forbidden mark clears, and the GUTI and equivalents given are kept
abbrev pub accept_work : Seat → Accept → Work
accept_work s g = record { mine = deed.Accept s; theirs = deed.Nothing; roaming = task.Nothing; regional = task.Nothing; keep = keep.Gift g }

-- Accept: T3502 length from the message, else 720 s; the network's forbidden mark on this access clears
unfoldable pub accept_effect : Hot → ℕ → Accept → Seen → Effect
accept_effect h w g s = record {
  dev = accept_device w (t3512_time g h.dev) h.dev;
  mine = accepted (is_some g.guti) g.count (unwrap_or g.t3502length 720) (access_of h w);
  theirs = still (other_of h w);
  t3247 = Leave;
  t3512 = accept_t3512 w (t3512_time g h.dev);
  work = accept_work (seat_of s (access_of h w).net 1) g;
  restart = false;
}

-- on the arrays: the networks of the card's file
abbrev pub import_work : Work
import_work = record { mine = deed.Import; theirs = deed.Nothing; roaming = task.Nothing; regional = task.Nothing; keep = keep.Nothing }

-- Import (document 02, R-8): "into access 0", which then has so many entries
unfoldable pub import_effect : Hot → ℕ → Effect
import_effect h entries = record {
  dev = h.dev;
  mine = still (with_entries entries h.a0);
  theirs = still h.a1;
  t3247 = Leave;
  t3512 = Leave;
  work = import_work;
  restart = false;
}

-- T3510 out; T3511 out and T3502 out ask for a restart, and so does T3346 out (document 02, R-6)
unfoldable pub clock_effect : Hot → ℕ → ℕ → Effect
clock_effect h number w = plain h w (clock_turn number (access_of h w)) (flip (eqb number 1))

-- T3247 out: stops; both accesses' entries and both lists are gone through
unfoldable pub t3247_effect : Hot → ℕ → Effect
t3247_effect h w = record { dev = h.dev; mine = still (access_of h w); theirs = still (other_of h w); t3247 = Stop; t3512 = Leave; work = on_both deed.Sweep task.Sweep keep.Nothing; restart = false }

-- T3512 out (document 02, R-5): "stops it and makes a periodic update due"
unfoldable pub t3512_effect : Hot → ℕ → Effect
t3512_effect h w = record {
  dev = scheduled h.dev.t3512length 1 h.dev;
  mine = still (access_of h w);
  theirs = still (other_of h w);
  t3247 = Leave;
  t3512 = Stop;
  work = idle;
  restart = false;
}

unfoldable pub device_effect : Hot → ℕ → ℕ → Effect
device_effect h number w = cond (eqb number 4) (t3247_effect h w) (t3512_effect h w)

unfoldable pub timer_effect : Hot → ℕ → ℕ → Effect
timer_effect h number w = cond (is_device_timer number) (device_effect h number w) (clock_effect h number w)

-- Power cycle: "timers stop"
unfoldable pub power_effect : Hot → Effect
power_effect h = record {
  dev = h.dev;
  mine = cycled h.dev.card h.a0;
  theirs = cycled h.dev.card h.a1;
  t3247 = Stop;
  t3512 = Stop;
  work = on_both deed.Power task.Clear keep.Nothing;
  restart = false;
}

-- the deed for a row's mark and its counter
unfoldable pub mark_deed : Mark → Seat → Deed
mark_deed no_mark s = deed.Nothing
mark_deed forbidden_and_counted s = deed.Ban s
mark_deed n1_not_allowed_and_counted s = deed.Bar s

unfoldable pub row_deed : Row → Seat → Deed
row_deed r s = mark_deed (mark_in (row_text r)) s

-- the pending network's entry on this access and on the other one, and the lists that the pending area goes to
unfoldable pub row_work : Row → ℕ → ℕ → ℕ → Access → Seen → Work
row_work r w protected cause a s = record {
  mine = row_deed r (seat_of s a.net protected);
  theirs = cond (across_n1 w protected cause r) (deed.ToLimit a.net) deed.Nothing;
  roaming = cond (to_roaming w cause r) (task.Put a.net a.code protected) task.Nothing;
  regional = cond (to_regional w cause r) (task.Put a.net a.code protected) task.Nothing;
  keep = keep.Nothing;
}

-- Reject, by its row
unfoldable pub reject_effect : Hot → ℕ → ℕ → Draws → Seen → Reject → Row → Effect
reject_effect h w protected draws s g r = record {
  dev = h.dev;
  mine = row_turn r w h.dev.cardlimit g.cause s.found (t3346_time protected g.t3346length draws.t3346) (access_of h w);
  theirs = other_turn r h.dev.cardlimit (other_of h w);
  t3247 = reject_t3247 h.dev.t3247 protected g.cause draws.t3247;
  t3512 = Leave;
  work = row_work r w protected g.cause (access_of h w) s;
  restart = false;
}

-- the same sorted by access 0 and 1, for an event of access w: as the code has it
unfoldable pub sides_of : ℕ → Effect → Sides
sides_of w e = record {
  dev = e.dev;
  t0 = cond (eqb w 0) e.mine e.theirs;
  t1 = cond (eqb w 0) e.theirs e.mine;
  t3247 = e.t3247;
  t3512 = e.t3512;
  work = e.work;
  restart = e.restart;
}

-- an import, behind an event that changes nothing, as the code has it
unfoldable pub imported_sides : ℕ → Sides → Sides
imported_sides entries x = record {
  dev = x.dev;
  t0 = record { orders = x.t0.orders; access = with_entries entries x.t0.access };
  t1 = x.t1;
  t3247 = x.t3247;
  t3512 = x.t3512;
  work = import_work;
  restart = x.restart;
}
