-- A new record, from limits and capabilities. Assumes nothing.
use Rattle.std.specs.Prelude.{ℕ, Bool, cond, List, [], ◌∷◌, length, replicate}
use Rattle.laws.specs.Upto.{copied}
use Rattle.entries.specs.Entries.{none}
use Rattle.record.specs.Tests.{both, within}
use Rattle.record.specs.declared.Device.{Device}
use Rattle.record.specs.declared.Access.{Access}
use Rattle.record.specs.declared.Hot.{Hot}
use Rattle.record.specs.declared.Record.{Record}
use Rattle.record.specs.declared.Made.{Made}
use Rattle.record.specs.declared.Answer.TheVariants.{Taken, Range}

-- update status 5U1, 5U2 or 5U3
abbrev pub u1 : ℕ
u1 = 1

abbrev pub u2 : ℕ
u2 = 2

abbrev pub u3 : ℕ
u3 = 3

-- "no card, .., no timer, empty lists, zeros elsewhere"; T3512's time is "at first 3,240 s"; the edition is "document 01's" (document 02, R-7)
unfoldable pub new_device : ℕ → ℕ → ℕ → ℕ → ℕ → Device
new_device cardlimit banlimit n1limit capability security = record {
  card = 0;
  home = 0;
  t3512length = 3240;
  suci = 0;
  cardlimit = cardlimit;
  banlimit = banlimit;
  n1limit = n1limit;
  t3247 = 0;
  t3512 = 0;
  due = 0;
  capability = capability;
  security = security;
  roaming = 0;
  regional = 0;
  edition = 1;
}

-- ".. state 0, 5U2, T3502 length 720 s, ngKSI 7, no timer, empty lists, zeros elsewhere"; an initial registration's type; a card change has state 1
unfoldable pub new_access : ℕ → Access
new_access state = record {
  state = state;
  status = u2;
  attempts = 0;
  cardcounter = 0;
  t3510 = 0;
  t3511 = 0;
  t3502 = 0;
  t3346 = 0;
  t3502length = 720;
  net = 0;
  code = 0;
  regtype = 1;
  uplink = 0;
  sessions = 0;
  guti = 0;
  visited = 0;
  lastnet = 0;
  lastcode = 0;
  ksi = 7;
  equivalents = 0;
  entries = 0;
}

abbrev pub zeros : ℕ → List ℕ
zeros n = replicate n 0

-- the record with these numbers and capabilities, and nothing else held
unfoldable pub empty_record : Hot → List ℕ → List ℕ → List ℕ → Record
empty_record h suci capability security = record {
  hot = h;
  e0 = none;
  e1 = none;
  roaming = zeros 40;
  regional = zeros 40;
  guti0 = zeros 10;
  guti1 = zeros 10;
  equivalents0 = zeros 15;
  equivalents1 = zeros 15;
  suci = suci;
  capability = capability;
  security = security;
}

unfoldable pub new_record : ℕ → ℕ → ℕ → List ℕ → List ℕ → Record
new_record cardlimit banlimit n1limit capability security =
    empty_record
    (record { dev = new_device cardlimit banlimit n1limit (length capability) (length security); a0 = new_access 0; a1 = new_access 0 })
    (zeros 64)
    (copied (length capability) capability (zeros 13))
    (copied (length security) security (zeros 8))

-- three limits, each 1 to 10, 5GMM capability (1 to 13 octets), UE security capability (2 to 8 octets)
unfoldable pub may_make : ℕ → ℕ → ℕ → ℕ → ℕ → Bool
may_make cardlimit banlimit n1limit capability security =
    both (within 1 10 cardlimit)
    (both (within 1 10 banlimit)
    (both (within 1 10 n1limit)
    (both (within 1 13 capability) (within 2 8 security))))

-- bad ones: answer 1 and the smallest record
unfoldable pub made_of : ℕ → ℕ → ℕ → List ℕ → List ℕ → Made
made_of cardlimit banlimit n1limit capability security =
    cond (may_make cardlimit banlimit n1limit (length capability) (length security))
    (record { answer = Taken; made = new_record cardlimit banlimit n1limit capability security })
    (record { answer = Range; made = new_record 1 1 1 (0 ∷ []) (0 ∷ 0 ∷ []) })
