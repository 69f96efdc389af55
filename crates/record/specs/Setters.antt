-- What an event sets in an access's numbers: one setter for each group that document 01's rows name. Assumes nothing.
use Rattle.std.specs.Prelude.{ℕ, Bool, cond}
use Rattle.entries.specs.Entries.{grown}
use Rattle.record.specs.declared.Access.{Access}

-- the state
unfoldable pub in_state : ℕ → Access → Access
in_state state a = record {
  state = state;
  status = a.status;
  attempts = a.attempts;
  cardcounter = a.cardcounter;
  t3510 = a.t3510;
  t3511 = a.t3511;
  t3502 = a.t3502;
  t3346 = a.t3346;
  t3502length = a.t3502length;
  net = a.net;
  code = a.code;
  regtype = a.regtype;
  uplink = a.uplink;
  sessions = a.sessions;
  guti = a.guti;
  visited = a.visited;
  lastnet = a.lastnet;
  lastcode = a.lastcode;
  ksi = a.ksi;
  equivalents = a.equivalents;
  entries = a.entries;
}

-- the update status
unfoldable pub with_status : ℕ → Access → Access
with_status status a = record {
  state = a.state;
  status = status;
  attempts = a.attempts;
  cardcounter = a.cardcounter;
  t3510 = a.t3510;
  t3511 = a.t3511;
  t3502 = a.t3502;
  t3346 = a.t3346;
  t3502length = a.t3502length;
  net = a.net;
  code = a.code;
  regtype = a.regtype;
  uplink = a.uplink;
  sessions = a.sessions;
  guti = a.guti;
  visited = a.visited;
  lastnet = a.lastnet;
  lastcode = a.lastcode;
  ksi = a.ksi;
  equivalents = a.equivalents;
  entries = a.entries;
}

-- the attempt counter
unfoldable pub with_attempts : ℕ → Access → Access
with_attempts attempts a = record {
  state = a.state;
  status = a.status;
  attempts = attempts;
  cardcounter = a.cardcounter;
  t3510 = a.t3510;
  t3511 = a.t3511;
  t3502 = a.t3502;
  t3346 = a.t3346;
  t3502length = a.t3502length;
  net = a.net;
  code = a.code;
  regtype = a.regtype;
  uplink = a.uplink;
  sessions = a.sessions;
  guti = a.guti;
  visited = a.visited;
  lastnet = a.lastnet;
  lastcode = a.lastcode;
  ksi = a.ksi;
  equivalents = a.equivalents;
  entries = a.entries;
}

-- "Clear identity": GUTI, last area removed, ngKSI 7
unfoldable pub forgotten : Access → Access
forgotten a = record {
  state = a.state;
  status = a.status;
  attempts = a.attempts;
  cardcounter = a.cardcounter;
  t3510 = a.t3510;
  t3511 = a.t3511;
  t3502 = a.t3502;
  t3346 = a.t3346;
  t3502length = a.t3502length;
  net = a.net;
  code = a.code;
  regtype = a.regtype;
  uplink = a.uplink;
  sessions = a.sessions;
  guti = 0;
  visited = 0;
  lastnet = a.lastnet;
  lastcode = a.lastcode;
  ksi = 7;
  equivalents = a.equivalents;
  entries = a.entries;
}

-- equivalents emptied
unfoldable pub emptied : Access → Access
emptied a = record {
  state = a.state;
  status = a.status;
  attempts = a.attempts;
  cardcounter = a.cardcounter;
  t3510 = a.t3510;
  t3511 = a.t3511;
  t3502 = a.t3502;
  t3346 = a.t3346;
  t3502length = a.t3502length;
  net = a.net;
  code = a.code;
  regtype = a.regtype;
  uplink = a.uplink;
  sessions = a.sessions;
  guti = a.guti;
  visited = a.visited;
  lastnet = a.lastnet;
  lastcode = a.lastcode;
  ksi = a.ksi;
  equivalents = 0;
  entries = a.entries;
}

-- the card counter
unfoldable pub counted : ℕ → Access → Access
counted n a = record {
  state = a.state;
  status = a.status;
  attempts = a.attempts;
  cardcounter = n;
  t3510 = a.t3510;
  t3511 = a.t3511;
  t3502 = a.t3502;
  t3346 = a.t3346;
  t3502length = a.t3502length;
  net = a.net;
  code = a.code;
  regtype = a.regtype;
  uplink = a.uplink;
  sessions = a.sessions;
  guti = a.guti;
  visited = a.visited;
  lastnet = a.lastnet;
  lastcode = a.lastcode;
  ksi = a.ksi;
  equivalents = a.equivalents;
  entries = a.entries;
}

-- the pending network and area, the registration's type and its octets of 40 and 50
unfoldable pub pending : ℕ → ℕ → ℕ → ℕ → ℕ → Access → Access
pending regtype net code uplink sessions a = record {
  state = a.state;
  status = a.status;
  attempts = a.attempts;
  cardcounter = a.cardcounter;
  t3510 = a.t3510;
  t3511 = a.t3511;
  t3502 = a.t3502;
  t3346 = a.t3346;
  t3502length = a.t3502length;
  net = net;
  code = code;
  regtype = regtype;
  uplink = uplink;
  sessions = sessions;
  guti = a.guti;
  visited = a.visited;
  lastnet = a.lastnet;
  lastcode = a.lastcode;
  ksi = a.ksi;
  equivalents = a.equivalents;
  entries = a.entries;
}

-- the key set, stored as ngKSI
unfoldable pub keyed : ℕ → Access → Access
keyed set a = record {
  state = a.state;
  status = a.status;
  attempts = a.attempts;
  cardcounter = a.cardcounter;
  t3510 = a.t3510;
  t3511 = a.t3511;
  t3502 = a.t3502;
  t3346 = a.t3346;
  t3502length = a.t3502length;
  net = a.net;
  code = a.code;
  regtype = a.regtype;
  uplink = a.uplink;
  sessions = a.sessions;
  guti = a.guti;
  visited = a.visited;
  lastnet = a.lastnet;
  lastcode = a.lastcode;
  ksi = set;
  equivalents = a.equivalents;
  entries = a.entries;
}

-- last area is the pending one, GUTI replaced if given, equivalent networks replaced (absent: emptied), T3502 length from the message, else 720 s
unfoldable pub taught : Bool → ℕ → ℕ → Access → Access
taught given count t3502length a = record {
  state = a.state;
  status = a.status;
  attempts = a.attempts;
  cardcounter = a.cardcounter;
  t3510 = a.t3510;
  t3511 = a.t3511;
  t3502 = a.t3502;
  t3346 = a.t3346;
  t3502length = t3502length;
  net = a.net;
  code = a.code;
  regtype = a.regtype;
  uplink = a.uplink;
  sessions = a.sessions;
  guti = cond given 1 a.guti;
  visited = 1;
  lastnet = a.net;
  lastcode = a.code;
  ksi = a.ksi;
  equivalents = count;
  entries = a.entries;
}

-- one entry more where the network had none
unfoldable pub entered : Bool → Access → Access
entered found a = record {
  state = a.state;
  status = a.status;
  attempts = a.attempts;
  cardcounter = a.cardcounter;
  t3510 = a.t3510;
  t3511 = a.t3511;
  t3502 = a.t3502;
  t3346 = a.t3346;
  t3502length = a.t3502length;
  net = a.net;
  code = a.code;
  regtype = a.regtype;
  uplink = a.uplink;
  sessions = a.sessions;
  guti = a.guti;
  visited = a.visited;
  lastnet = a.lastnet;
  lastcode = a.lastcode;
  ksi = a.ksi;
  equivalents = a.equivalents;
  entries = grown found a.entries;
}

-- so many entries
unfoldable pub with_entries : ℕ → Access → Access
with_entries entries a = record {
  state = a.state;
  status = a.status;
  attempts = a.attempts;
  cardcounter = a.cardcounter;
  t3510 = a.t3510;
  t3511 = a.t3511;
  t3502 = a.t3502;
  t3346 = a.t3346;
  t3502length = a.t3502length;
  net = a.net;
  code = a.code;
  regtype = a.regtype;
  uplink = a.uplink;
  sessions = a.sessions;
  guti = a.guti;
  visited = a.visited;
  lastnet = a.lastnet;
  lastcode = a.lastcode;
  ksi = a.ksi;
  equivalents = a.equivalents;
  entries = entries;
}
