-- The faults of a message in the sentences of document 02, R-1, and what it is to tell the lowest of them. No reader has a part in it.
-- Assumes nothing.
use Rattle.std.specs.Prelude.{ℕ, zero, suc, ◌+◌, ◌*◌, ◌≤◌, ◌<◌, ◌≡◌, Bool, true, false, cond, ◌⊎◌, List, length, get_or, drop, eqb, Result, Ok, Err, ⊤}
use Rattle.octets.specs.declared.Fault.{Fault}
use Rattle.octets.specs.declared.Fault.TheVariants.{Cut, First, Second, Kind, Past, Strange}
use Rattle.octets.specs.declared.Malformed.{Malformed}
use Rattle.octets.specs.Element.{size_of}
use Rattle.messages.specs.Message.{fault_number}

-- "the fixed octets", those before the elements: of a request (41) up to the end of its identity, of an accept (42) up to the end of its
-- result, of a reject (44) its cause; of any other type only the three that all messages have
unfoldable pub fixed_of : List ℕ → ℕ
fixed_of s =
    cond (eqb (get_or s 2 0) 0x41) (6 + (get_or s 4 0 * 256 + get_or s 5 0))
    (cond (eqb (get_or s 2 0) 0x42) (4 + get_or s 3 0)
    (cond (eqb (get_or s 2 0) 0x44) 4 3))

-- whether it is a request, where 52 is seven octets
abbrev pub in_request : List ℕ → Bool
in_request s = eqb (get_or s 2 0) 0x41

-- how many octets the element at a place takes
abbrev pub size_at : Bool → List ℕ → ℕ → ℕ
size_at request s at = size_of request (get_or s at 0) (drop (suc at) s)

-- where an element begins, by its number: the first at a place, each further one behind the one before it
unfoldable pub place_of : Bool → List ℕ → ℕ → ℕ → ℕ
place_of request s from zero = from
place_of request s from (suc n) = place_of request s (from + size_at request s from) n

-- one of the elements from a place on begins here
abbrev pub Begins : Bool → List ℕ → ℕ → ℕ → Type 0
Begins request s from at = (at < length s) × ((n : ℕ) × (place_of request s from n ≡ at))

-- the faults of the elements from a place on, each at "an element's identifier"
unfoldable pub ElementFault : Bool → List ℕ → ℕ → Fault → ℕ → Type 0
-- "an element past the end"
ElementFault request s from Past at = Begins request s from at × (length s < at + size_at request s at)
-- "an unknown element that must be understood": none of 00 to 0F is known
ElementFault request s from Strange at = Begins request s from at × (get_or s at 0 < 0x10)
ElementFault request s from Cut at = ⊥
ElementFault request s from First at = ⊥
ElementFault request s from Second at = ⊥
ElementFault request s from Kind at = ⊥

-- The faults of a message and their offsets, for a call that reads some types
unfoldable pub Faulty : (ℕ → Bool) → List ℕ → Fault → ℕ → Type 0
-- "fewer than the fixed octets", at "its length"; "An accept whose result has length 0 is cut at its length octet"
Faulty reads s Cut at = ((length s < fixed_of s) × (at ≡ length s)) ⊎ ((get_or s 2 0 ≡ 0x42) × ((3 < length s) × ((get_or s 3 0 ≡ 0) × (at ≡ 3))))
-- "octet 1 not 7E"
Faulty reads s First at = (0 < length s) × ((get_or s 0 0 ≡ 0x7E → ⊥) × (at ≡ 0))
-- "octet 2 not 00"
Faulty reads s Second at = (1 < length s) × ((get_or s 1 0 ≡ 0x00 → ⊥) × (at ≡ 1))
-- "type not one this call reads"
Faulty reads s Kind at = (2 < length s) × ((reads (get_or s 2 0) ≡ false) × (at ≡ 2))
Faulty reads s Past at = ElementFault (in_request s) s (fixed_of s) Past at
Faulty reads s Strange at = ElementFault (in_request s) s (fixed_of s) Strange at

-- "The lowest offset is told, at a tie the lower number": what is told is a fault, and each one lies behind it, or at the same octet with no lower number;
-- nothing is told only where there is none
unfoldable pub Lowest : (Fault → ℕ → Type 0) → Result ⊤ Malformed → Type 0
Lowest Has (Err m) = Has m.fault m.at × ((g : Fault) (b : ℕ) → Has g b → (m.at < b) ⊎ ((m.at ≡ b) × (fault_number m.fault ≤ fault_number g)))
Lowest Has (Ok _) = (g : Fault) (b : ℕ) → Has g b → ⊥

-- the types that a message event reads, and the one that the reject reader for C does
abbrev pub is_answer : ℕ → Bool
is_answer type = cond (eqb type 0x42) true (eqb type 0x44)

abbrev pub is_reject : ℕ → Bool
is_reject type = eqb type 0x44

-- what a reading tells of faults
unfoldable pub fault_told : {A : Type 0} → Result A Malformed → Result ⊤ Malformed
fault_told (Ok x) = Ok tt
fault_told (Err m) = Err m
