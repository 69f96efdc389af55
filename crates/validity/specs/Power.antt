-- The record after a power cycle, in document 01's words. Assumes nothing.
use Rattle.std.specs.Prelude.{ℕ, cond, eqb}
use Rattle.laws.specs.Upto.{upto}
use Rattle.entries.specs.declared.Entries.{Entries}
use Rattle.entries.specs.Places.{entries_held}
use Rattle.entries.specs.Entries.{lift_mark}
use Rattle.record.specs.declared.Access.{Access}
use Rattle.record.specs.declared.Record.{Record}
use Rattle.record.specs.New.{zeros}

-- "timers stop; states become 1 (0 with no card); attempt counters 0. All else stays."
abbrev access_powered : ℕ → Access → Access
access_powered card a = record {
  state = cond (eqb card 0) 0 1;
  status = a.status;
  attempts = 0;
  cardcounter = a.cardcounter;
  t3510 = 0;
  t3511 = 0;
  t3502 = 0;
  t3346 = 0;
  t3502length = a.t3502length;
  net = a.net;
  code = a.code;
  regtype = a.regtype;
  uplink = a.uplink;
  sessions = a.sessions;
  guti = a.guti;
  visited = a.visited;
  lastnet = a.lastnet;
  lastcode = a.lastcode;
  ksi = a.ksi;
  equivalents = a.equivalents;
  entries = a.entries;
}

-- "forbidden marks clear by the same test; all N1 marks .. clear"
abbrev entries_powered : ℕ → ℕ → Entries → Entries
entries_powered count banlimit t = record {
  nets = t.nets;
  bans = t.bans;
  n1s = t.n1s;
  forbidden = upto (lift_mark banlimit) (entries_held count) t.bans t.forbidden;
  barred = zeros 16;
  ranks = t.ranks;
}

-- ".. and areas clear"
unfoldable pub power_record : Record → Record
power_record r = record {
  hot = record {
    dev = record {
      card = r.hot.dev.card;
      home = r.hot.dev.home;
      t3512length = r.hot.dev.t3512length;
      suci = r.hot.dev.suci;
      cardlimit = r.hot.dev.cardlimit;
      banlimit = r.hot.dev.banlimit;
      n1limit = r.hot.dev.n1limit;
      t3247 = 0;
      t3512 = 0;
      due = r.hot.dev.due;
      capability = r.hot.dev.capability;
      security = r.hot.dev.security;
      roaming = 0;
      regional = 0;
      edition = r.hot.dev.edition;
    };
    a0 = access_powered r.hot.dev.card r.hot.a0;
    a1 = access_powered r.hot.dev.card r.hot.a1;
  };
  e0 = entries_powered r.hot.a0.entries r.hot.dev.banlimit r.e0;
  e1 = entries_powered r.hot.a1.entries r.hot.dev.banlimit r.e1;
  roaming = zeros 40;
  regional = zeros 40;
  guti0 = r.guti0;
  guti1 = r.guti1;
  equivalents0 = r.equivalents0;
  equivalents1 = r.equivalents1;
  suci = r.suci;
  capability = r.capability;
  security = r.security;
}
