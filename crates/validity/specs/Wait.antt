-- The record after T3346 out, in document 02's words (R-6), and what it is to wait. Assumes nothing.
use Rattle.std.specs.Prelude.{ℕ, ◌≡◌, true, cond, eqb}
use Rattle.record.specs.Tests.{either, flip}
use Rattle.record.specs.declared.Access.{Access}
use Rattle.record.specs.declared.Record.{Record}
use Rattle.validity.specs.Update.{numbered, numbers_with}

-- T3346 is stopped; all else of the access stays
abbrev access_rested : Access → Access
access_rested a = record {
  state = a.state;
  status = a.status;
  attempts = a.attempts;
  cardcounter = a.cardcounter;
  t3510 = a.t3510;
  t3511 = a.t3511;
  t3502 = a.t3502;
  t3346 = 0;
  t3502length = a.t3502length;
  net = a.net;
  code = a.code;
  regtype = a.regtype;
  uplink = a.uplink;
  sessions = a.sessions;
  guti = a.guti;
  visited = a.visited;
  lastnet = a.lastnet;
  lastcode = a.lastcode;
  ksi = a.ksi;
  equivalents = a.equivalents;
  entries = a.entries;
}

-- "T3346 out stops it", over access w
unfoldable pub t3346_record : Record → ℕ → Record
t3346_record r w =
    numbered
    (numbers_with
    (cond (eqb w 0) (access_rested r.hot.a0) r.hot.a0)
    (cond (eqb w 0) r.hot.a1 (access_rested r.hot.a1))
    r.hot.dev.t3512
    r.hot.dev.due
    r)
    r

-- no registration is under way on an access while its T3346 runs
abbrev pub Waits : Access → Type 0
Waits a = either (eqb a.t3346 0) (flip (eqb a.state 4)) ≡ true

-- nor on either access
abbrev pub BothWait : Record → Type 0
BothWait r = Waits r.hot.a0 × Waits r.hot.a1
