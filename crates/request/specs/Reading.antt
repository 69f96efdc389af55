-- What a request read back says by its own octets: "Reading a request back accepts, elements in any order: ..". Requests inside it: Levels. Assumes nothing.
use Rattle.std.specs.Prelude.{ℕ, ◌+◌, ◌*◌, ◌/◌, ◌%◌, Bool, true, false, cond, List, [], length, get_or, take, drop, ltb, leb, eqb, Option, Some, None, Result, Ok, Err, ⊤}
use Rattle.octets.specs.declared.Fault.{Fault}
use Rattle.octets.specs.declared.Fault.TheVariants.{Cut, Kind}
use Rattle.octets.specs.declared.Part.{Part}
use Rattle.octets.specs.declared.Malformed.{Malformed}
use Rattle.octets.specs.Element.{Elements, malformed, first_of}
use Rattle.messages.specs.Message.{opened_by, begun_by, fault_number}
use Rattle.record.specs.Tests.{both, either, within}
use Rattle.request.specs.Layout.{Fields}
use Rattle.request.specs.declared.Request.{Request}
use Rattle.request.specs.declared.Unread.{Unread}
use Rattle.request.specs.declared.Unread.TheVariants as unread

-- the identity's two-octet length
abbrev pub identity_in : List ℕ → ℕ
identity_in s = get_or s 4 0 * 256 + get_or s 5 0

-- 41 request; octet 4 and an identity with two-octet length, all of it in the message
abbrev pub fixed_reading : List ℕ → Result ⊤ Malformed
fixed_reading s = opened_by malformed s 2 0x41 Kind (cond (ltb (length s) (6 + identity_in s)) (malformed Cut (length s)) (Ok tt))

-- "All begin 7E 00 and a type": what stands before the elements, and how it ends
unfoldable pub head_of : List ℕ → Result ⊤ Malformed
head_of s = begun_by malformed s (fixed_reading s)

-- "octet 4 with low half 1 and high half 0 to 7"; 2 and 3 are updates
unfoldable pub is_fourth : ℕ → Bool
is_fourth o = both (within 1 3 (o % 16)) (leb (o / 16) 7)

-- "identity F2 and 10 octets, or 01 and 9 to 64 octets in all"
unfoldable pub is_identity : ℕ → ℕ → Bool
is_identity o n = either (both (eqb o 0xF2) (eqb n 11)) (both (eqb o 0x01) (within 9 64 n))

-- "2E present", no longer than its range, and one too short is absent
unfoldable pub is_security : Option Part → Bool
is_security None = false
is_security (Some q) = within 2 8 q.len

-- "10 .. or not", no longer than its range
unfoldable pub is_capability : Option Part → Bool
is_capability None = true
is_capability (Some p) = leb p.len 13

-- what a request with an identity of n octets has to be, by its elements
unfoldable pub is_request : List ℕ → ℕ → Elements → Bool
is_request s n l = both (is_fourth (get_or s 3 0)) (both (is_identity (get_or s 6 0) n) (both (is_capability (first_of 0x10 l)) (is_security (first_of 0x2E l))))

-- one of no octets is too short: absent, as 10 and 70 are, and "an empty 71 is absent"
unfoldable pub filled_of : Option Part → Option Part
filled_of None = None
filled_of (Some p) = cond (eqb p.len 0) None (Some p)

-- an element of so many octets is its first ones: "Extra octets at an element's end are ignored; a known element too short is absent"
unfoldable pub leading_of : ℕ → Option Part → Option Part
leading_of n None = None
leading_of n (Some p) = cond (ltb p.len n) None (Some (record { start = p.start; len = n }))

-- "77 GUTI (F2, then 10 octets) .. A 77 not opening with F2 is absent"
unfoldable pub guti_in : List ℕ → Option Part → Option Part
guti_in s None = None
guti_in s (Some p) = cond (eqb (get_or s p.start 0) 0xF2) (leading_of 11 (Some p)) None

-- 40, 50, 77, 2B and 70 may stand in a request of any type, and none is a reason to refuse it
unfoldable pub request_in : List ℕ → ℕ → Elements → Request
request_in s n l = record {
  regtype = get_or s 3 0 % 16;
  ksi = get_or s 3 0 / 16;
  identity = record { start = 6; len = n };
  capability = filled_of (first_of 0x10 l);
  security = first_of 0x2E l;
  last = first_of 0x52 l;
  uplink = leading_of 2 (first_of 0x40 l);
  sessions = leading_of 2 (first_of 0x50 l);
  additional = guti_in s (first_of 0x77 l);
  status = leading_of 1 (first_of 0x2B l);
  attach = filled_of (first_of 0x70 l);
}

-- a fault and its offset, as a reading refuses them
abbrev pub refused : {A : Type 0} → Fault → ℕ → Result A Unread
refused f at = Err (unread.Malformed (record { fault = f; at = at }))

unfoldable pub judged_of : List ℕ → ℕ → Elements → Result Request Unread
judged_of s n l = cond (is_request s n l) (Ok (request_in s n l)) (Err unread.Unfit)

-- the octets of a part, and of one that may be absent
abbrev pub part_of : List ℕ → Part → List ℕ
part_of s p = take p.len (drop p.start s)

unfoldable pub cut_of : List ℕ → Option Part → List ℕ
cut_of s None = []
cut_of s (Some p) = part_of s p

-- what octets say, if they are a request
pub data Said : Type 0 where
  says : Fields → Said
  nothing : Said

unfoldable pub told_by : List ℕ → Result Request Unread → Said
told_by s (Ok q) = says (record {
  regtype = q.regtype;
  ksi = q.ksi;
  identity = part_of s q.identity;
  capability = cut_of s q.capability;
  security = cut_of s q.security;
  last = cut_of s q.last;
  uplink = cut_of s q.uplink;
  sessions = cut_of s q.sessions;
  additional = cut_of s q.additional;
  status = cut_of s q.status;
  attach = cut_of s q.attach;
})
told_by s (Err u) = nothing

-- the number for each case: a fault's own, "19 for a third level", and "Number 3 stays for a well-formed request that breaks document 01's request layout"
abbrev pub asking_number : Result Request Unread → ℕ
asking_number (Ok q) = 0
asking_number (Err (unread.Malformed m)) = fault_number m.fault
asking_number (Err (unread.Deep at)) = 19
asking_number (Err unread.Unfit) = 3

-- the offset of the octet at fault, of a third level its 71, 0 where there is none
abbrev pub asking_offset : Result Request Unread → ℕ
asking_offset (Ok q) = 0
asking_offset (Err (unread.Malformed m)) = m.at
asking_offset (Err (unread.Deep at)) = at
asking_offset (Err unread.Unfit) = 0

-- the type that this call reads, and what its reading tells of faults
abbrev pub is_asking : ℕ → Bool
is_asking type = eqb type 0x41

unfoldable pub asking_told : Result Request Unread → Result ⊤ Malformed
asking_told (Ok q) = Ok tt
asking_told (Err (unread.Malformed m)) = Err m
asking_told (Err (unread.Deep at)) = Ok tt
asking_told (Err unread.Unfit) = Ok tt
