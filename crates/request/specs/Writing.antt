-- The writing of a request: what a record says in it, the checks, and the buffer. Assumes nothing.
use Rattle.std.specs.Prelude.{ℕ, ◌/◌, ◌%◌, Bool, cond, List, [], ◌∷◌, ◌++◌, length, take, replicate, leb, eqb, Result, Ok, Err}
use Rattle.laws.specs.Upto.{over}
use Rattle.networks.specs.Networks.{octets3}
use Rattle.record.specs.Tests.{both, either}
use Rattle.ranges.specs.Valid.{valid_of}
use Rattle.record.specs.Answers.{is_taken}
use Rattle.record.specs.Sides.{access_of}
use Rattle.record.specs.declared.Access.{Access}
use Rattle.record.specs.declared.Hot.{Hot}
use Rattle.record.specs.declared.Record.{Record}
use Rattle.record.specs.declared.Answer.{Answer}
use Rattle.record.specs.declared.Answer.TheVariants.{Taken, Range, State, Short}
use Rattle.identity.specs.declared.S1.{S1}
use Rattle.identity.specs.Identity.{Identities, source_of, identity_of, is_mapped, best_guti}
use Rattle.request.specs.Layout.{Fields, layout}

-- F2 and ten octets for each access
unfoldable pub gutis_of : List ℕ → List ℕ → List ℕ
gutis_of guti0 guti1 = (0xF2 ∷ guti0) ++ (0xF2 ∷ guti1)

-- a network with a three-octet code, if a last area is held
unfoldable pub last_of : Access → List ℕ
last_of a = cond (eqb a.visited 0) [] (octets3 a.lastnet ++ octets3 a.lastcode)

-- two octets, the first one low
abbrev pub octets2 : ℕ → List ℕ
octets2 n = (n % 256) ∷ (n / 256 % 256) ∷ []

-- "the uplink data status (40, if not empty)": of types 2 and 3, left out if zero
unfoldable pub uplink_of : Access → List ℕ
uplink_of a = cond (either (leb a.regtype 1) (eqb a.uplink 0)) [] (octets2 a.uplink)

-- "and PDU session status (50) over sixteen sessions": of types 2 and 3, zero or not
unfoldable pub sessions_of : Access → List ℕ
sessions_of a = cond (leb a.regtype 1) [] (octets2 a.sessions)

-- what a request says with these
unfoldable pub saying_of : ℕ → ℕ → List ℕ → List ℕ → List ℕ → List ℕ → List ℕ → List ℕ → List ℕ → List ℕ → List ℕ → Fields
saying_of regtype ksi identity capability security last uplink sessions additional status attach = record {
  regtype = regtype;
  ksi = ksi;
  identity = identity;
  capability = capability;
  security = security;
  last = last;
  uplink = uplink;
  sessions = sessions;
  additional = additional;
  status = status;
  attach = attach;
}

-- what the router holds of identities, and what is lent from S1 mode
unfoldable pub identities_of : Hot → ℕ → Access → (guti0 guti1 suci equivalents : List ℕ) → S1 → Identities
identities_of h access a guti0 guti1 suci equivalents s1 = record {
  gutis = gutis_of guti0 guti1;
  suci = take h.dev.suci suci;
  access = access;
  held0 = h.a0.guti;
  held1 = h.a1.guti;
  net = a.net;
  regtype = a.regtype;
  equivalents = equivalents;
  count = a.equivalents;
  s1 = s1;
}

-- "sends the GUTI mapped from it (handed back by value) and adds its best 5G-GUTI as element 77"
unfoldable pub additional_of : ℕ → Identities → List ℕ
additional_of edition h = cond (is_mapped (source_of edition h)) (best_guti h) []

-- "The UE status element (2B) goes with the mapped case": bit 1 is 0, "UE is not in EMM-REGISTERED state", and so is all else
unfoldable pub status_of : ℕ → Identities → List ℕ
status_of edition h = cond (is_mapped (source_of edition h)) (0x00 ∷ []) []

-- "the attach message .., the last goes in 70"
unfoldable pub attach_of : ℕ → Identities → List ℕ → List ℕ
attach_of edition h attach = cond (is_mapped (source_of edition h)) attach []

-- what an access says with these capabilities
unfoldable pub says_by : ℕ → Identities → Access → List ℕ → List ℕ → List ℕ → Fields
says_by edition h a capability security attach =
    saying_of a.regtype a.ksi (identity_of edition h) capability security (last_of a) (uplink_of a) (sessions_of a)
    (additional_of edition h) (status_of edition h) (attach_of edition h attach)

-- what a record says in the request over an access, a of the access's numbers and its equivalents
unfoldable pub says_of : Record → ℕ → Access → List ℕ → S1 → List ℕ → Fields
says_of r access a equivalents s1 attach =
    says_by r.hot.dev.edition (identities_of r.hot access a r.guti0 r.guti1 r.suci equivalents s1) a
    (take r.hot.dev.capability r.capability)
    (take r.hot.dev.security r.security)
    attach

unfoldable pub fields_of : Record → ℕ → S1 → List ℕ → Fields
fields_of r access s1 attach = says_of r access (access_of r.hot access) (cond (eqb access 0) r.equivalents0 r.equivalents1) s1 attach

unfoldable pub request_of : Record → ℕ → S1 → List ℕ → List ℕ
request_of r access s1 attach = layout (fields_of r access s1 attach)

-- "1 for .. an attach message above 65,000 octets", used or not
unfoldable pub may_request : Record → ℕ → ℕ → Bool
may_request r access attach = both (leb attach 65000) (both (leb access 1) (valid_of r))

-- "1, 6, 12 for writing a request", over a buffer of n octets
unfoldable pub writing_answer : Record → ℕ → S1 → List ℕ → ℕ → Answer
writing_answer r access s1 attach n =
    cond (may_request r access (length attach))
    (cond (eqb (access_of r.hot access).state 4)
    (cond (leb (length (request_of r access s1 attach)) n) Taken Short)
    State)
    Range

-- how many octets are written, or why none are
unfoldable pub written_of : Record → ℕ → S1 → List ℕ → ℕ → Result ℕ Answer
written_of r access s1 attach n = cond (is_taken (writing_answer r access s1 attach n)) (Ok (length (request_of r access s1 attach))) (Err (writing_answer r access s1 attach n))

-- "a longer one keeps its further octets"
unfoldable pub buffer_of : Record → ℕ → S1 → List ℕ → List ℕ → List ℕ
buffer_of r access s1 attach buffer = cond (is_taken (writing_answer r access s1 attach (length buffer))) (over (request_of r access s1 attach) buffer) buffer

-- nothing lent from S1 mode: no fact, and no attach message
abbrev pub no_s1 : S1
no_s1 = record { registered = 0; n26 = 0; context = 0; valid = 0; native = 0; guti = replicate 10 0 }
