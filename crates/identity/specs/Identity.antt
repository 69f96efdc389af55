-- The identity that a request opens with, in three editions: each an ordered list of sources, and the first source held is sent. Assumes nothing.
use Rattle.std.specs.Prelude.{ℕ, ◌+◌, ◌*◌, Bool, true, false, cond, not, List, [], ◌∷◌, ◌++◌, length, get_or, take, drop, ltb, eqb}
use Rattle.laws.specs.Bounds.{at_most}
use Rattle.laws.specs.Upto.{seek_to}
use Rattle.record.specs.Tests.{both}
use Rattle.networks.specs.Networks.{network_of}
use Rattle.identity.specs.Mapping.{mapped_guti}
use Rattle.identity.specs.declared.S1.{S1}

-- The access that the request goes over, and the other one
pub data Side : Type 0 where
  this : Side
  other : Side

-- Where an identity comes from
pub data Source : Type 0 where
  -- a 5G-GUTI mapped from a valid 4G-GUTI, and from a valid native one
  mapped : Source
  mapped_native : Source
  -- a valid 5G-GUTI that was assigned, over this access or the other, by the network of the registration, by an equivalent one, by any
  of_pending : Side → Source
  of_equivalent : Side → Source
  of_any : Side → Source
  suci : Source

-- b), c) and d) of each source: "a GUTI of the pending network, else of an equivalent one (this access's list), else any ..; within each, this access's first"
unfoldable pub gutis_5g : List Source
gutis_5g = of_pending this ∷ of_pending other ∷ of_equivalent this ∷ of_equivalent other ∷ of_any this ∷ of_any other ∷ []

-- Edition 1, document 01 and source 001: "a) Void", then b) to d), then e) "if a SUCI is available"
unfoldable pub edition1 : List Source
edition1 = gutis_5g ++ (suci ∷ [])

-- Edition 2, source 002: a) "EPS security context and a valid 4G-GUTI are available", then b) to d), then e)
unfoldable pub edition2 : List Source
edition2 = mapped ∷ (gutis_5g ++ (suci ∷ []))

-- Edition 3, source 003: a) "EPS security context and a valid native 4G-GUTI are available", then b) to d), then e)
unfoldable pub edition3 : List Source
edition3 = mapped_native ∷ (gutis_5g ++ (suci ∷ []))

-- an edition that is none of 2 and 3 counts as 1
unfoldable pub order_of : ℕ → List Source
order_of edition = cond (eqb edition 2) edition2 (cond (eqb edition 3) edition3 edition1)

-- What a router holds when it writes a request
pub record Identities : Type 0 where
  -- the GUTIs as sent, F2 and ten octets for access 0, then for access 1; a slot is 0 or 1 for the GUTI of that access. Others than 22 octets are none
  pub gutis : List ℕ
  pub suci : List ℕ
  -- the request's access, 0, and any other counts as 1; whether access 0 holds a GUTI, and access 1
  pub access : ℕ
  pub held0 : ℕ
  pub held1 : ℕ
  -- the pending network and registration type, and this access's equivalents, of which a count above fifteen counts as fifteen
  pub net : ℕ
  pub regtype : ℕ
  pub equivalents : List ℕ
  pub count : ℕ
  -- what is lent from S1 mode
  pub s1 : S1

-- 0 is no, any other number yes
abbrev pub is_yes : ℕ → Bool
is_yes n = not (eqb n 0)

-- the slot of a side, and whether its GUTI is held
unfoldable pub slot_on : Side → ℕ → ℕ
slot_on this access = cond (eqb access 0) 0 1
slot_on other access = cond (eqb access 0) 1 0

unfoldable pub has_guti : Identities → Side → Bool
has_guti h this = both (eqb (length h.gutis) 22) (is_yes (cond (eqb h.access 0) h.held0 h.held1))
has_guti h other = both (eqb (length h.gutis) 22) (is_yes (cond (eqb h.access 0) h.held1 h.held0))

-- The network of a GUTI is its first three octets.
abbrev pub guti_net : List ℕ → ℕ → ℕ
guti_net g slot = network_of (get_or g (slot * 11 + 1) 0) (get_or g (slot * 11 + 2) 0) (get_or g (slot * 11 + 3) 0)

unfoldable pub equivalents_held : ℕ → ℕ
equivalents_held count = at_most 15 count

unfoldable pub is_among : ℕ → ℕ → List ℕ → Bool
is_among net n nets = ltb (seek_to (eqb net) n nets) n

-- "in an initial registration a device once registered in S1 mode, told that interworking without N26 is not supported, with an EPS security context and a
-- valid 4G-GUTI": a) 1) i), ii) and 2) of source 002
unfoldable pub is_from_s1 : ℕ → S1 → Bool
is_from_s1 regtype s = both (eqb regtype 1) (both (is_yes s.registered) (both (is_yes s.n26) (both (is_yes s.context) (is_yes s.valid))))

-- and source 003 "wants that 4G-GUTI native"
unfoldable pub is_from_native : ℕ → S1 → Bool
is_from_native regtype s = both (is_from_s1 regtype s) (is_yes s.native)

unfoldable pub is_held : Identities → Source → Bool
is_held h mapped = is_from_s1 h.regtype h.s1
is_held h mapped_native = is_from_native h.regtype h.s1
is_held h (of_pending side) = both (has_guti h side) (eqb (guti_net h.gutis (slot_on side h.access)) h.net)
is_held h (of_equivalent side) = both (has_guti h side) (is_among (guti_net h.gutis (slot_on side h.access)) (equivalents_held h.count) h.equivalents)
is_held h (of_any side) = has_guti h side
is_held h suci = not (eqb (length h.suci) 0)

-- the first source held; where none is, the SUCI, which then has no octets
unfoldable pub first_held : (Source → Bool) → List Source → Source
first_held held [] = suci
first_held held (x ∷ l) = cond (held x) x (first_held held l)

unfoldable pub source_of : ℕ → Identities → Source
source_of edition h = first_held (is_held h) (order_of edition)

-- the octets of a source, as they are sent
unfoldable pub guti_on : Identities → Side → List ℕ
guti_on h side = take 11 (drop (slot_on side h.access * 11) h.gutis)

unfoldable pub octets_from : Identities → Source → List ℕ
octets_from h mapped = mapped_guti h.s1.guti
octets_from h mapped_native = mapped_guti h.s1.guti
octets_from h (of_pending side) = guti_on h side
octets_from h (of_equivalent side) = guti_on h side
octets_from h (of_any side) = guti_on h side
octets_from h suci = h.suci

unfoldable pub identity_of : ℕ → Identities → List ℕ
identity_of edition h = octets_from h (source_of edition h)

-- "The UE status element (2B) goes with the mapped case", and so do 77 and 70
unfoldable pub is_mapped : Source → Bool
is_mapped mapped = true
is_mapped mapped_native = true
is_mapped (of_pending side) = false
is_mapped (of_equivalent side) = false
is_mapped (of_any side) = false
is_mapped suci = false

-- the best 5G-GUTI, if one is held: "in the following order: 1) .. by the same PLMN ..; 2) .. by an equivalent PLMN ..; 3) .. by any other PLMN"
unfoldable pub guti_5g_from : Identities → Source → List ℕ
guti_5g_from h mapped = []
guti_5g_from h mapped_native = []
guti_5g_from h (of_pending side) = guti_on h side
guti_5g_from h (of_equivalent side) = guti_on h side
guti_5g_from h (of_any side) = guti_on h side
guti_5g_from h suci = []

unfoldable pub best_guti : Identities → List ℕ
best_guti h = guti_5g_from h (first_held (is_held h) gutis_5g)
