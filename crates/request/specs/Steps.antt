-- What the parts of the writer do: octets put into a buffer, one piece behind the other. Assumes nothing.
use Rattle.std.specs.Prelude.{ℕ, ◌+◌, ◌≤◌, ◌≡◌, Bool, true, cond, List, [], ◌∷◌, ◌++◌, length, take, leb, eqb, Result, Ok, Err}
use Rattle.laws.specs.Upto.{over}
use Rattle.record.specs.declared.Access.{Access}
use Rattle.record.specs.declared.Device.{Device}
use Rattle.record.specs.declared.Answer.{Answer}
use Rattle.record.specs.declared.Answer.TheVariants.{Short}
use Rattle.request.specs.Layout.{Fields, item_octets, opening}
use Rattle.request.specs.Layout.Form.{short_form, long_form, plain_form}
use Rattle.request.specs.Writing.{last_of, uplink_of, sessions_of, saying_of}
use Rattle.request.specs.declared.laying.Saying.{Saying}

-- what a lent request says
abbrev pub said : Saying → Fields
said s = record {
  regtype = s.regtype;
  ksi = s.ksi;
  identity = s.identity.now;
  capability = s.capability.now;
  security = s.security.now;
  last = s.last.now;
  uplink = s.uplink.now;
  sessions = s.sessions.now;
  additional = s.additional.now;
  status = s.status.now;
  attach = s.attach.now;
}

-- 52, 40 and 50, one behind the other; what stands before 77; and 77, 2B and 70
unfoldable pub tail_octets : Fields → List ℕ
tail_octets f = (item_octets plain_form 0x52 f.last ++ item_octets short_form 0x40 f.uplink) ++ item_octets short_form 0x50 f.sessions

unfoldable pub front_octets : Fields → List ℕ
front_octets f = ((opening f ++ item_octets short_form 0x10 f.capability) ++ item_octets short_form 0x2E f.security) ++ tail_octets f

unfoldable pub rear_octets : Fields → List ℕ
rear_octets f = (item_octets long_form 0x77 f.additional ++ item_octets short_form 0x2B f.status) ++ item_octets long_form 0x70 f.attach

-- how many octets an element takes with n octets of contents behind a lead of k
abbrev pub sized_of : ℕ → ℕ → ℕ
sized_of k n = cond (eqb n 0) 0 (k + n)

-- and a request
abbrev pub request_size : Fields → ℕ
request_size f =
    6
    + (length f.identity + (sized_of 2 (length f.capability) + (sized_of 2 (length f.security) + (sized_of 1 (length f.last) + (sized_of 2 (length f.uplink) + (sized_of 2 (length f.sessions) + (sized_of 3 (length f.additional) + (sized_of 2 (length f.status) + sized_of 3 (length f.attach)))))))))

-- What has room: each piece in its length, and the whole request in that of a 71
pub record Small (f : Fields) : Type 0 where
  pub regtype : f.regtype ≤ 3
  pub ksi : f.ksi ≤ 7
  pub identity : length f.identity ≤ 64
  pub capability : length f.capability ≤ 13
  pub security : length f.security ≤ 8
  pub last : length f.last ≤ 6
  pub uplink : length f.uplink ≤ 2
  pub sessions : length f.sessions ≤ 2
  pub additional : length f.additional ≤ 11
  pub status : length f.status ≤ 1
  pub attach : length f.attach ≤ 65000

-- what is written of octets into a buffer, if they have room there
unfoldable pub sent_of : List ℕ → ℕ → Result ℕ Answer
sent_of octets n = cond (leb (length octets) n) (Ok (length octets)) (Err Short)

unfoldable pub sent_over : List ℕ → List ℕ → List ℕ
sent_over octets buffer = cond (leb (length octets) (length buffer)) (over octets buffer) buffer

-- what the writer goes on with: an identity that has room, x if one is mapped, or else the best one
pub record Identifiable (a : Access) (d : Device) (x best m : List ℕ) (mapped : Bool) : Type 0 where
  pub from4g : length x ≤ 64
  pub identity : length best ≤ 64
  pub additional : mapped ≡ true → length best ≤ 11
  pub capable : d.capability ≤ 13
  pub secure : d.security ≤ 8
  pub ksi : a.ksi ≤ 7
  pub regtype : a.regtype ≤ 3
  pub attach : length m ≤ 65000

unfoldable pub identified_of : Access → Device → Bool → (from4g best capability security attach : List ℕ) → Fields
identified_of a d mapped from4g best capability security attach =
    saying_of a.regtype a.ksi (cond mapped from4g best) (take d.capability capability) (take d.security security) (last_of a) (uplink_of a) (sessions_of a)
    (cond mapped best []) (cond mapped (0x00 ∷ []) []) (cond mapped attach [])
