-- The layout of a request, apart from its writer and its reader: from what a request says to its octets. Assumes nothing.
use Rattle.std.specs.Prelude.{ℕ, zero, suc, ◌+◌, ◌*◌, ◌/◌, ◌%◌, ◌≤◌, ◌≡◌, ◌⊎◌, cond, List, [], ◌∷◌, ◌++◌, length, get_or, eqb}

-- What a request says. A capability, a last area, an uplink data status, a PDU session status, an additional GUTI, a UE status or an attach message of no
-- octets is none.
pub record Fields : Type 0 where
  pub regtype : ℕ
  pub ksi : ℕ
  pub identity : List ℕ
  pub capability : List ℕ
  pub security : List ℕ
  pub last : List ℕ
  pub uplink : List ℕ
  pub sessions : List ℕ
  pub additional : List ℕ
  pub status : List ℕ
  pub attach : List ℕ

-- How long the length of an element is: one octet, two octets, or none
pub data Form : Type 0 where
  short_form : Form
  long_form : Form
  plain_form : Form

-- An element as it is laid out: its form, its identifier and its contents
pub data Item : Type 0 where
  item : Form → ℕ → List ℕ → Item

-- the length of n octets of contents, the high octet first
unfoldable pub length_in : Form → ℕ → List ℕ
length_in short_form n = n ∷ []
length_in long_form n = (n / 256) ∷ (n % 256) ∷ []
length_in plain_form n = []

-- contents behind their lead; an element with no contents is left out
unfoldable pub with_lead : List ℕ → List ℕ → List ℕ
with_lead lead [] = []
with_lead lead (o ∷ c) = lead ++ (o ∷ c)

unfoldable pub item_octets : Form → ℕ → List ℕ → List ℕ
item_octets f id c = with_lead (id ∷ length_in f (length c)) c

-- elements one behind the other
unfoldable pub laid : List Item → List ℕ
laid [] = []
laid (item f id c ∷ l) = item_octets f id c ++ laid l

-- "All begin 7E 00 and a type: 41 request"; octet 4 is ngKSI times 16 plus the type; "identity with two-octet length"
unfoldable pub opening_head : ℕ → ℕ → ℕ → List ℕ
opening_head regtype ksi n = 0x7E ∷ 0x00 ∷ 0x41 ∷ (ksi * 16 + regtype) ∷ length_in long_form n

-- what every request opens with
unfoldable pub opening : Fields → List ℕ
opening f = opening_head f.regtype f.ksi (length f.identity) ++ f.identity

-- "then 10 (5GMM capability), 2E, and 52 if a last area is held": one line an element, in their order; "beside 10 the uplink data status (40, if not
-- empty) and PDU session status (50) .., in this order after 52"; "its best 5G-GUTI as element 77", "the UE status element (2B)", the attach message "in 70;
-- 77, 2B and 70 come last"
unfoldable pub items_of : Fields → List Item
items_of f =
    item short_form 0x10 f.capability
    ∷ item short_form 0x2E f.security
    ∷ item plain_form 0x52 f.last
    ∷ item short_form 0x40 f.uplink
    ∷ item short_form 0x50 f.sessions
    ∷ item long_form 0x77 f.additional
    ∷ item short_form 0x2B f.status
    ∷ item long_form 0x70 f.attach
    ∷ []

unfoldable pub octets_of : Fields → List ℕ
octets_of f = opening f ++ laid (items_of f)

-- "the clear part (identity, 2E)"; 77, 2B and 70 are "in the clear part before 71" too
unfoldable pub clear : Fields → Fields
clear f = record {
  regtype = f.regtype;
  ksi = f.ksi;
  identity = f.identity;
  capability = [];
  security = f.security;
  last = [];
  uplink = [];
  sessions = [];
  additional = f.additional;
  status = f.status;
  attach = f.attach;
}

-- "the request is the clear part (identity, 2E), then 71 with the whole request in it" (document 02, R-3): the whole request, so many levels in
unfoldable pub nested : ℕ → Fields → List ℕ
nested zero f = octets_of f
nested (suc d) f = octets_of (clear f) ++ item_octets long_form 0x71 (nested d f)

-- "With ngKSI 7 only 2E follows the identity."
unfoldable pub shown : Fields → Fields
shown f = cond (eqb f.ksi 7) (clear f) f

-- "with a valid security context, and only then, hidden elements travel in a NAS message container": with ngKSI below 7, one level in
unfoldable pub levels_of : Fields → ℕ
levels_of f = cond (eqb f.ksi 7) 0 1

unfoldable pub layout : Fields → List ℕ
layout f = nested (levels_of f) (shown f)

-- What a request may say: type 1 to 3; an identity of F2 and 10 octets, or 01 and 9 to 64 octets in all; a capability of at most 13 octets,
-- a security capability of 2 to 8; a last area of six octets or none, each status of sessions of two or none; an additional GUTI of F2 and 10 octets or none, a
-- UE status of one octet or none; any attach message
pub record Fit (f : Fields) : Type 0 where
  pub regtype : (1 ≤ f.regtype) × (f.regtype ≤ 3)
  pub ksi : f.ksi ≤ 7
  pub identity : ((get_or f.identity 0 0 ≡ 0xF2) × (length f.identity ≡ 11)) ⊎ ((get_or f.identity 0 0 ≡ 0x01) × ((9 ≤ length f.identity) × (length f.identity ≤ 64)))
  pub capability : length f.capability ≤ 13
  pub security : (2 ≤ length f.security) × (length f.security ≤ 8)
  pub last : (f.last ≡ []) ⊎ (length f.last ≡ 6)
  pub uplink : (f.uplink ≡ []) ⊎ (length f.uplink ≡ 2)
  pub sessions : (f.sessions ≡ []) ⊎ (length f.sessions ≡ 2)
  pub additional : (f.additional ≡ []) ⊎ ((get_or f.additional 0 0 ≡ 0xF2) × (length f.additional ≡ 11))
  pub status : (f.status ≡ []) ⊎ (length f.status ≡ 1)
