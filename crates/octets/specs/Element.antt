-- Optional elements (TS 24.007), sentence by sentence as document 01 has them. Assumes nothing.
use Rattle.std.specs.Prelude.{ℕ, zero, suc, ◌+◌, ◌-◌, ◌*◌, Bool, cond, List, [], ◌∷◌, length, get_or, drop, ltb, leb, eqb, Option, Some, None, Result, Ok, Err, ⊤}
use Rattle.octets.specs.declared.Fault.{Fault}
use Rattle.octets.specs.declared.Fault.TheVariants.{Past, Strange}
use Rattle.octets.specs.declared.Layout.{Layout}
use Rattle.octets.specs.declared.Layout.TheVariants.{Whole, LongLength, ShortLength, SevenInRequest, MustBeKnown}
use Rattle.octets.specs.declared.Element.{Element}
use Rattle.octets.specs.declared.Element.TheVariants.{End, Bad, At}
use Rattle.octets.specs.declared.Walked.{Walked}
use Rattle.octets.specs.declared.Part.{Part}
use Rattle.octets.specs.declared.Malformed.{Malformed}
use Rattle.octets.specs.declared.Gathered.{Gathered}

-- "The format for each of the 256 identifier octets is a table": its rule, by ranges
unfoldable pub format_of : ℕ → Layout
format_of i =
    -- "An identifier of 80 hex or more is one octet with its contents"
    cond (leb 128 i) Whole
    -- "70 to 7F has a two-octet length"
    (cond (leb 112 i) LongLength
    -- "52 in a request is seven octets in all": elsewhere as below 70
    (cond (eqb i 82) SevenInRequest
    -- "an unknown 00 to 0F is malformed": a one-octet length, and it must be understood
    (cond (ltb i 16) MustBeKnown
    -- "below that a one-octet length"
    ShortLength)))

-- the number that the table has for a format
unfoldable pub code_of : Layout → ℕ
code_of Whole = 0
code_of ShortLength = 1
code_of LongLength = 2
code_of MustBeKnown = 3
code_of SevenInRequest = 4

-- the octets of an element before its contents: none, or its identifier and its length
unfoldable pub lead_by : Bool → Layout → ℕ
lead_by request Whole = 0
lead_by request LongLength = 3
lead_by request ShortLength = 2
lead_by request SevenInRequest = cond request 1 2
lead_by request MustBeKnown = 2

unfoldable pub lead_of : Bool → ℕ → ℕ
lead_of request i = lead_by request (format_of i)

-- the octets of its contents, by what follows the identifier
unfoldable pub contents_by : Bool → Layout → List ℕ → ℕ
contents_by request Whole s = 1
contents_by request LongLength s = get_or s 0 0 * 256 + get_or s 1 0
contents_by request ShortLength s = get_or s 0 0
contents_by request SevenInRequest s = cond request 6 (get_or s 0 0)
contents_by request MustBeKnown s = get_or s 0 0

unfoldable pub contents_of : Bool → ℕ → List ℕ → ℕ
contents_of request i s = contents_by request (format_of i) s

-- the octets it takes in all
unfoldable pub size_of : Bool → ℕ → List ℕ → ℕ
size_of request i s = lead_of request i + contents_of request i s

-- "Unknown ones are skipped, but an unknown 00 to 0F is malformed": none of those is known
unfoldable pub read_as : Layout → Element → Element
read_as Whole e = e
read_as LongLength e = e
read_as ShortLength e = e
read_as SevenInRequest e = e
read_as MustBeKnown e = Bad Strange

-- the element that begins with identifier i at offset at, before the octets s: "as is an element past the end"
unfoldable pub element_of : Bool → ℕ → ℕ → List ℕ → Element
element_of request at i s =
    cond (ltb (length (i ∷ s)) (size_of request i s)) (Bad Past)
    (read_as (format_of i) (At i (at + lead_of request i) (contents_of request i s) (at + size_of request i s)))

-- the element at a place of a message
unfoldable pub element_at : Bool → List ℕ → ℕ → Element
element_at request s at = cond (ltb at (length s)) (element_of request at (get_or s at 0) (drop (suc at) s)) End

-- the place after an element, or the same place where there is none
unfoldable pub after_of : Element → ℕ → ℕ
after_of End at = at
after_of (Bad f) at = at
after_of (At i start n next) at = next

-- one step of a walker: the element at its place, and the place after it
unfoldable pub walked_at : Bool → List ℕ → ℕ → Walked
walked_at request s at = record { here = element_at request s at; next = after_of (element_at request s at) at }

-- The elements of a message from a place on: its end, a fault and its offset, or an element and those behind it
pub data Elements : Type 0 where
  over : Elements
  broken : Fault → ℕ → Elements
  element : ℕ → ℕ → ℕ → Elements → Elements

-- what an element at offset at makes of those behind it
unfoldable pub joined : Element → ℕ → Elements → Elements
joined End at l = over
joined (Bad f) at l = broken f at
joined (At i start n next) at l = element i start n l

-- Read octet by octet: the first number is how many octets of the element begun are still to pass, the second the offset.
-- Each identifier is skipped with its contents, known or not, and the next one follows: order is free.
unfoldable pub elements_of : Bool → ℕ → ℕ → List ℕ → Elements
elements_of request k at [] = over
elements_of request zero at (i ∷ s) = joined (element_of request at i s) at (elements_of request (size_of request i s - 1) (suc at) s)
elements_of request (suc k) at (o ∷ s) = elements_of request k (suc at) s

-- those of a message from a place on
unfoldable pub elements_from : Bool → List ℕ → ℕ → Elements
elements_from request s from = elements_of request 0 from (drop from s)

-- what is told of a fault and its offset
abbrev pub malformed : {A : Type 0} → Fault → ℕ → Result A Malformed
malformed f at = Err (record { fault = f; at = at })

-- "First of a repeat counts, even where it reads as absent": what is found is where it stood in the message
unfoldable pub first_of : ℕ → Elements → Option Part
first_of x over = None
first_of x (broken f at) = None
first_of x (element i start n l) = cond (eqb i x) (Some (record { start = start; len = n })) (first_of x l)

unfoldable pub wanted_of : Option ℕ → Elements → Option Part
wanted_of None l = None
wanted_of (Some x) l = first_of x l

-- with the message, or with the first fault and its offset
abbrev pub Ending : Type 0
Ending = Result ⊤ Malformed

-- how the elements end: with the message, or with the first fault and its offset
unfoldable pub end_of : Elements → Result ⊤ Malformed
end_of over = Ok tt
end_of (broken f at) = malformed f at
end_of (element i start n l) = end_of l

-- their end, and the first ones with four identifiers
unfoldable pub gather_of : Option ℕ → Option ℕ → Option ℕ → Option ℕ → Elements → Gathered
gather_of x y z u l = record { end = end_of l; first = wanted_of x l; second = wanted_of y l; third = wanted_of z l; fourth = wanted_of u l }
