-- The record after an update and after T3512 out, in document 02's words (R-5), and when T3512 runs. Assumes nothing.
use Rattle.std.specs.Prelude.{ℕ, ◌≡◌, true, cond, eqb}
use Rattle.record.specs.Tests.{either}
use Rattle.record.specs.declared.Access.{Access}
use Rattle.record.specs.declared.Hot.{Hot}
use Rattle.record.specs.declared.Record.{Record}

-- "state 4 while pending", T3510 runs, "stops its access's T3511 and T3502"; what it asks for is pending. All else stays.
abbrev access_updating : ℕ → ℕ → ℕ → ℕ → ℕ → Access → Access
access_updating regtype net code uplink sessions a = record {
  state = 4;
  status = a.status;
  attempts = a.attempts;
  cardcounter = a.cardcounter;
  t3510 = 1;
  t3511 = 0;
  t3502 = 0;
  t3346 = a.t3346;
  t3502length = a.t3502length;
  net = net;
  code = code;
  regtype = regtype;
  uplink = uplink;
  sessions = sessions;
  guti = a.guti;
  visited = a.visited;
  lastnet = a.lastnet;
  lastcode = a.lastcode;
  ksi = a.ksi;
  equivalents = a.equivalents;
  entries = a.entries;
}

-- the record with other numbers: entries, lists, GUTIs, equivalents, SUCI and capabilities stay
abbrev pub numbered : Hot → Record → Record
numbered h r = record {
  hot = h;
  e0 = r.e0;
  e1 = r.e1;
  roaming = r.roaming;
  regional = r.regional;
  guti0 = r.guti0;
  guti1 = r.guti1;
  equivalents0 = r.equivalents0;
  equivalents1 = r.equivalents1;
  suci = r.suci;
  capability = r.capability;
  security = r.security;
}

-- both accesses, T3512, and whether a periodic update is due; the time kept stays, as all else of the device
abbrev pub numbers_with : Access → Access → ℕ → ℕ → Record → Hot
numbers_with a0 a1 t3512 due r = record {
  dev = record {
    card = r.hot.dev.card;
    home = r.hot.dev.home;
    t3512length = r.hot.dev.t3512length;
    suci = r.hot.dev.suci;
    cardlimit = r.hot.dev.cardlimit;
    banlimit = r.hot.dev.banlimit;
    n1limit = r.hot.dev.n1limit;
    t3247 = r.hot.dev.t3247;
    t3512 = t3512;
    due = due;
    capability = r.hot.dev.capability;
    security = r.hot.dev.security;
    roaming = r.hot.dev.roaming;
    regional = r.hot.dev.regional;
    edition = r.hot.dev.edition;
  };
  a0 = a0;
  a1 = a1;
}

-- An update over access w: "on access 0 also T3512" stops
unfoldable pub update_record : Record → ℕ → ℕ → ℕ → ℕ → ℕ → ℕ → Record
update_record r w regtype net code uplink sessions =
    numbered
    (numbers_with
    (cond (eqb w 0) (access_updating regtype net code uplink sessions r.hot.a0) r.hot.a0)
    (cond (eqb w 0) r.hot.a1 (access_updating regtype net code uplink sessions r.hot.a1))
    (cond (eqb w 0) 0 r.hot.dev.t3512)
    r.hot.dev.due
    r)
    r

-- "T3512 out stops it and makes a periodic update due"
unfoldable pub t3512_record : Record → Record
t3512_record r = numbered (numbers_with r.hot.a0 r.hot.a1 0 1 r) r

-- T3512 runs only while access 0 is registered
abbrev pub Steady : Record → Type 0
Steady r = either (eqb r.hot.dev.t3512 0) (eqb r.hot.a0.state 5) ≡ true
