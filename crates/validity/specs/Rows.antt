-- Document 01's table of rejects, with document 02's R-6, R-9 and R-14, a second time, in plain numbers and with no word of the first one: the whole record after each row.
-- Assumes nothing.
use Rattle.std.specs.Prelude.{ℕ, Bool, true, false, cond, ltb, eqb}
use Rattle.laws.specs.Bounds.{one_more}
use Rattle.entries.specs.declared.Entries.{Entries}
use Rattle.entries.specs.Entries.{banned, barred_by, n1_to_limit}
use Rattle.areas.specs.Areas.{placed, placed_count}
use Rattle.record.specs.declared.Access.{Access}
use Rattle.record.specs.declared.Record.{Record}
use Rattle.record.specs.Sides.{access_of}
use Rattle.turns.specs.declared.Order.{Order}
use Rattle.turns.specs.declared.Order.TheVariants.{Leave, Stop, Run}
use Rattle.turns.specs.declared.Orders.{Orders}
use Rattle.turns.specs.declared.Row.{Row}
use Rattle.turns.specs.declared.Row.TheVariants.{CardBelow, CardLimit, CardProtected, Away, Home, Area, N1, Congested, Protocol, Other}
use Rattle.validity.specs.Reject.{seat, last_in}

-- The figures of a row: of the receiving access the state, update status, attempt counter, GUTI, last area, ngKSI, equivalents, card counter, T3511, T3502 and T3346.
-- T3510 is stopped, and all else of it stays, but for the entries.
pub record Figures : Type 0 where
  pub state : ℕ
  pub status : ℕ
  pub attempts : ℕ
  pub guti : ℕ
  pub visited : ℕ
  pub ksi : ℕ
  pub equivalents : ℕ
  pub cardcounter : ℕ
  pub t3511 : ℕ
  pub t3502 : ℕ
  pub t3346 : ℕ

abbrev figures : ℕ → ℕ → ℕ → ℕ → ℕ → ℕ → ℕ → ℕ → ℕ → ℕ → ℕ → Figures
figures state status attempts guti visited ksi equivalents cardcounter t3511 t3502 t3346 = record {
  state = state;
  status = status;
  attempts = attempts;
  guti = guti;
  visited = visited;
  ksi = ksi;
  equivalents = equivalents;
  cardcounter = cardcounter;
  t3511 = t3511;
  t3502 = t3502;
  t3346 = t3346;
}

-- with the attempt counter at n: below 5 the first, at 5 the second
abbrev below5 : ℕ → ℕ → ℕ → ℕ
below5 n x y = cond (ltb n 5) x y

-- T3510 out of an initial registration
abbrev start_figures : ℕ → Access → Figures
start_figures n a =
    figures 3 (below5 n a.status 2) n (below5 n a.guti 0) (below5 n a.visited 0) (below5 n a.ksi 7) (below5 n a.equivalents 0) a.cardcounter
    (below5 n 1 a.t3511) (below5 n a.t3502 1) a.t3346

-- T3510 out in an update: 5U2, back to state 5, the identity stays
abbrev update_figures : ℕ → Access → Figures
update_figures n a = figures 5 2 n a.guti a.visited a.ksi (below5 n a.equivalents 0) a.cardcounter (below5 n 1 a.t3511) (below5 n a.t3502 1) a.t3346

-- in state 4 with type 2 or 3 an update is pending
abbrev in_update : {A : Type 0} → Access → A → A → A
in_update a x y = cond (eqb a.state 4) (cond (ltb 1 a.regtype) x y) y

abbrev pub out_figures : ℕ → Access → Figures
out_figures n a = in_update a (update_figures n a) (start_figures n a)

-- over access w, for this cause, with the card counter's limit
unfoldable pub row_figures : Row → ℕ → ℕ → ℕ → Access → Figures
row_figures CardBelow w cause limit a = figures 2 3 (cond (eqb w 0) 0 a.attempts) 0 0 7 (cond (eqb w 0) 0 a.equivalents) (one_more limit a.cardcounter) a.t3511 a.t3502 a.t3346
row_figures CardLimit w cause limit a = figures 0 3 a.attempts 0 0 7 0 a.cardcounter a.t3511 a.t3502 a.t3346
row_figures CardProtected w cause limit a = figures 0 3 a.attempts 0 0 7 0 limit a.t3511 a.t3502 a.t3346
row_figures Away w cause limit a = figures (cond (eqb w 0) 6 2) 3 0 0 0 7 0 a.cardcounter a.t3511 a.t3502 a.t3346
row_figures Home w cause limit a = figures 2 3 0 0 0 7 0 a.cardcounter a.t3511 a.t3502 a.t3346
row_figures Area w cause limit a = figures 2 3 0 0 0 7 (cond (eqb cause 13) 0 a.equivalents) a.cardcounter a.t3511 a.t3502 a.t3346
row_figures N1 w cause limit a = figures 2 3 0 0 0 7 a.equivalents a.cardcounter a.t3511 a.t3502 a.t3346
row_figures Congested w cause limit a = figures (in_update a 5 3) 2 0 a.guti a.visited a.ksi a.equivalents a.cardcounter a.t3511 a.t3502 1
row_figures Protocol w cause limit a = out_figures 5 a
row_figures Other w cause limit a = out_figures (one_more 5 a.attempts) a

-- The rest of a row: whether the network is banned, whether it is barred for N1, whether the area goes to the roaming and to the regional list,
-- and of the other access whether its card counter goes to the limit, and whether a protected reject takes the network's N1 counter there.
pub record Rest : Type 0 where
  pub bans : Bool
  pub bars : Bool
  pub roaming : Bool
  pub regional : Bool
  pub across_card : Bool
  pub across_n1 : Bool

abbrev rest : Bool → Bool → Bool → Bool → Bool → Bool → Rest
rest bans bars roaming regional across_card across_n1 = record { bans = bans; bars = bars; roaming = roaming; regional = regional; across_card = across_card; across_n1 = across_n1 }

unfoldable pub row_rest : Row → ℕ → ℕ → Rest
row_rest CardBelow w cause = rest false false (eqb w 0) false false false
row_rest CardLimit w cause = rest false false false false false false
row_rest CardProtected w cause = rest false false false false true false
row_rest Away w cause = rest true false false false false false
row_rest Home w cause = rest false false (eqb w 0) false false false
row_rest Area w cause = rest false false (cond (eqb cause 12) false true) (eqb cause 12) false false
row_rest N1 w cause = rest false true false false false (eqb cause 27)
row_rest Congested w cause = rest false false false false false false
row_rest Protocol w cause = rest false false false false false false
row_rest Other w cause = rest false false false false false false

-- the receiving access; found says whether the pending network has an entry
abbrev pub with_figures : Figures → Bool → Bool → Access → Access
with_figures l needs found a = record {
  state = l.state;
  status = l.status;
  attempts = l.attempts;
  cardcounter = l.cardcounter;
  t3510 = 0;
  t3511 = l.t3511;
  t3502 = l.t3502;
  t3346 = l.t3346;
  t3502length = a.t3502length;
  net = a.net;
  code = a.code;
  regtype = a.regtype;
  uplink = a.uplink;
  sessions = a.sessions;
  guti = l.guti;
  visited = l.visited;
  lastnet = a.lastnet;
  lastcode = a.lastcode;
  ksi = l.ksi;
  equivalents = l.equivalents;
  entries = cond needs (cond found a.entries (one_more 16 a.entries)) a.entries;
}

-- the other access
abbrev crossed : Bool → ℕ → Access → Access
crossed across limit a = record {
  state = a.state;
  status = a.status;
  attempts = a.attempts;
  cardcounter = cond across limit a.cardcounter;
  t3510 = a.t3510;
  t3511 = a.t3511;
  t3502 = a.t3502;
  t3346 = a.t3346;
  t3502length = a.t3502length;
  net = a.net;
  code = a.code;
  regtype = a.regtype;
  uplink = a.uplink;
  sessions = a.sessions;
  guti = a.guti;
  visited = a.visited;
  lastnet = a.lastnet;
  lastcode = a.lastcode;
  ksi = a.ksi;
  equivalents = a.equivalents;
  entries = a.entries;
}

-- access me of a reject over access w, and its entries; net is the pending network of access w
abbrev access_by : (Access → Figures) → Rest → ℕ → ℕ → ℕ → ℕ → Access → Entries → Access
access_by l x w me protected limit a e = cond (eqb w me) (with_figures (l a) (cond x.bans true x.bars) (seat protected a e).found a) (crossed x.across_card limit a)

abbrev entries_by : Rest → ℕ → ℕ → ℕ → ℕ → ℕ → ℕ → Access → Entries → Entries
entries_by x w me protected banlimit n1limit net a e =
    cond (eqb w me)
    (cond x.bans (last_in (seat protected a e) a.entries (banned (seat protected a e) banlimit e))
    (cond x.bars (last_in (seat protected a e) a.entries (barred_by (seat protected a e) n1limit e)) e))
    (cond x.across_n1 (cond (eqb protected 0) e (n1_to_limit net a.entries n1limit e)) e)

unfoldable pub figures_record : (Access → Figures) → Rest → ℕ → ℕ → ℕ → ℕ → Record → Record
figures_record l x w protected t3247 area r = record {
  hot = record {
    dev = record {
      card = r.hot.dev.card;
      home = r.hot.dev.home;
      t3512length = r.hot.dev.t3512length;
      suci = r.hot.dev.suci;
      cardlimit = r.hot.dev.cardlimit;
      banlimit = r.hot.dev.banlimit;
      n1limit = r.hot.dev.n1limit;
      t3247 = t3247;
      t3512 = r.hot.dev.t3512;
      due = r.hot.dev.due;
      capability = r.hot.dev.capability;
      security = r.hot.dev.security;
      roaming = cond x.roaming (placed_count area r.hot.dev.roaming r.roaming) r.hot.dev.roaming;
      regional = cond x.regional (placed_count area r.hot.dev.regional r.regional) r.hot.dev.regional;
      edition = r.hot.dev.edition;
    };
    a0 = access_by l x w 0 protected r.hot.dev.cardlimit r.hot.a0 r.e0;
    a1 = access_by l x w 1 protected r.hot.dev.cardlimit r.hot.a1 r.e1;
  };
  e0 = entries_by x w 0 protected r.hot.dev.banlimit r.hot.dev.n1limit (access_of r.hot w).net r.hot.a0 r.e0;
  e1 = entries_by x w 1 protected r.hot.dev.banlimit r.hot.dev.n1limit (access_of r.hot w).net r.hot.a1 r.e1;
  roaming = cond x.roaming (placed area protected r.hot.dev.roaming r.roaming) r.roaming;
  regional = cond x.regional (placed area protected r.hot.dev.regional r.regional) r.regional;
  guti0 = r.guti0;
  guti1 = r.guti1;
  equivalents0 = r.equivalents0;
  equivalents1 = r.equivalents1;
  suci = r.suci;
  capability = r.capability;
  security = r.security;
}

-- the whole record after a row
unfoldable pub row_record : Row → ℕ → ℕ → ℕ → ℕ → ℕ → Record → Record
row_record row w protected cause t3247 area r = figures_record (row_figures row w cause r.hot.dev.cardlimit) (row_rest row w cause) w protected t3247 area r

-- what each row orders of the receiving access's T3510, T3511, T3502 and T3346, which runs for its time
abbrev orders : Order → Order → Order → Order → Orders
orders t3510 t3511 t3502 t3346 = record { t3510 = t3510; t3511 = t3511; t3502 = t3502; t3346 = t3346 }

unfoldable pub row_orders : Row → ℕ → Access → Orders
row_orders CardBelow time a = orders Stop Leave Leave Leave
row_orders CardLimit time a = orders Stop Leave Leave Leave
row_orders CardProtected time a = orders Stop Leave Leave Leave
row_orders Away time a = orders Stop Leave Leave Leave
row_orders Home time a = orders Stop Leave Leave Leave
row_orders Area time a = orders Stop Leave Leave Leave
row_orders N1 time a = orders Stop Leave Leave Leave
row_orders Congested time a = orders Stop Leave Leave (Run time)
row_orders Protocol time a = orders Stop Leave (Run a.t3502length) Leave
row_orders Other time a = cond (ltb (one_more 5 a.attempts) 5) (orders Stop (Run 10) Leave Leave) (orders Stop Leave (Run a.t3502length) Leave)
