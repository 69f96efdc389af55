-- Requests octet by octet as another decoder reads them: the layout gives these octets, and they are read so, the inner one by its offsets in the outermost
-- message; then bad ones, each with its fault. By computation. Assumes nothing.
use Prim.Native.Nat.{ℕ}
use mathlib.Core.Path.{◌≡◌, refl}
use mathlib.Core.List.{List, [], ◌∷◌, ◌++◌}
use Rattle.std.specs.Prelude.{Option, Some, None, Ok, Err}
use Rattle.octets.specs.declared.Fault.TheVariants.{Cut, Kind, Past}
use Rattle.octets.specs.declared.Part.{Part}
use Rattle.octets.specs.Element as octets
use Rattle.messages.specs.Message as messages
use Rattle.request.specs.Layout.{Fields, length_in, with_lead, item_octets, laid, opening_head, opening, items_of, octets_of, clear, nested, shown, levels_of, layout}
use Rattle.request.specs.Reading.{head_of, is_fourth, is_identity, is_security, is_capability, is_request, filled_of, leading_of, guti_in, request_in, judged_of, cut_of, refused}
use Rattle.request.specs.Levels.{shifted_part, shifted_request, shifted, around_of, asked_by, message_by, read_to, asking_of}
use Rattle.request.specs.declared.Unread.TheVariants as unread

-- capability 00, security F0 F0, last area 00 F2 20 with code 00 00 2A
abbrev saying : ℕ → ℕ → List ℕ → List ℕ → List ℕ → Fields
saying regtype ksi identity uplink sessions = record {
  regtype = regtype;
  ksi = ksi;
  identity = identity;
  capability = 0x00 ∷ [];
  security = 0xF0 ∷ 0xF0 ∷ [];
  last = 0x00 ∷ 0xF2 ∷ 0x20 ∷ 0x00 ∷ 0x00 ∷ 0x2A ∷ [];
  uplink = uplink;
  sessions = sessions;
  additional = [];
  status = [];
  attach = [];
}

abbrev suci : List ℕ
suci = 0x01 ∷ 0x00 ∷ 0xF1 ∷ 0x10 ∷ 0xF0 ∷ 0xFF ∷ 0x00 ∷ 0x00 ∷ 0x07 ∷ []

abbrev guti : List ℕ
guti = 0xF2 ∷ 0x00 ∷ 0xF1 ∷ 0x10 ∷ 0x80 ∷ 0x01 ∷ 0xC5 ∷ 0xD1 ∷ 0xC2 ∷ 0xB3 ∷ 0xA4 ∷ []

-- ngKSI 7 and a SUCI
abbrev pub first : List ℕ
first = 0x7E ∷ 0x00 ∷ 0x41 ∷ 0x71 ∷ 0x00 ∷ 0x09 ∷ 0x01 ∷ 0x00 ∷ 0xF1 ∷ 0x10 ∷ 0xF0 ∷ 0xFF ∷ 0x00 ∷ 0x00 ∷ 0x07 ∷ 0x2E ∷ 0x02 ∷ 0xF0 ∷ 0xF0 ∷ []

-- ngKSI 3 and a GUTI, with all three elements: the whole request, and the clear part before it
abbrev whole : List ℕ
whole =
    0x7E ∷ 0x00 ∷ 0x41 ∷ 0x31 ∷ 0x00 ∷ 0x0B ∷ 0xF2 ∷ 0x00 ∷ 0xF1 ∷ 0x10 ∷ 0x80 ∷ 0x01 ∷ 0xC5 ∷ 0xD1 ∷ 0xC2 ∷ 0xB3 ∷ 0xA4
    ∷ 0x10 ∷ 0x01 ∷ 0x00 ∷ 0x2E ∷ 0x02 ∷ 0xF0 ∷ 0xF0 ∷ 0x52 ∷ 0x00 ∷ 0xF2 ∷ 0x20 ∷ 0x00 ∷ 0x00 ∷ 0x2A ∷ []

abbrev clear_part : List ℕ
clear_part = 0x7E ∷ 0x00 ∷ 0x41 ∷ 0x31 ∷ 0x00 ∷ 0x0B ∷ 0xF2 ∷ 0x00 ∷ 0xF1 ∷ 0x10 ∷ 0x80 ∷ 0x01 ∷ 0xC5 ∷ 0xD1 ∷ 0xC2 ∷ 0xB3 ∷ 0xA4 ∷ 0x2E ∷ 0x02 ∷ 0xF0 ∷ 0xF0 ∷ []

abbrev pub second : List ℕ
second = clear_part ++ (0x71 ∷ 0x00 ∷ 0x1F ∷ whole)

-- a mobility update: the same with type 2, and session 5 in 40 and in 50
abbrev moving : List ℕ
moving =
    0x7E ∷ 0x00 ∷ 0x41 ∷ 0x32 ∷ 0x00 ∷ 0x0B ∷ 0xF2 ∷ 0x00 ∷ 0xF1 ∷ 0x10 ∷ 0x80 ∷ 0x01 ∷ 0xC5 ∷ 0xD1 ∷ 0xC2 ∷ 0xB3 ∷ 0xA4
    ∷ 0x10 ∷ 0x01 ∷ 0x00 ∷ 0x2E ∷ 0x02 ∷ 0xF0 ∷ 0xF0 ∷ 0x52 ∷ 0x00 ∷ 0xF2 ∷ 0x20 ∷ 0x00 ∷ 0x00 ∷ 0x2A ∷ 0x40 ∷ 0x02 ∷ 0x20 ∷ 0x00 ∷ 0x50 ∷ 0x02 ∷ 0x20 ∷ 0x00 ∷ []

abbrev pub third : List ℕ
third = (0x7E ∷ 0x00 ∷ 0x41 ∷ 0x32 ∷ 0x00 ∷ 0x0B ∷ 0xF2 ∷ 0x00 ∷ 0xF1 ∷ 0x10 ∷ 0x80 ∷ 0x01 ∷ 0xC5 ∷ 0xD1 ∷ 0xC2 ∷ 0xB3 ∷ 0xA4 ∷ 0x2E ∷ 0x02 ∷ 0xF0 ∷ 0xF0 ∷ []) ++ (0x71 ∷ 0x00 ∷ 0x27 ∷ moving)

-- a periodic update with ngKSI 7: only 2E follows the identity
abbrev pub fourth : List ℕ
fourth = 0x7E ∷ 0x00 ∷ 0x41 ∷ 0x73 ∷ 0x00 ∷ 0x0B ∷ 0xF2 ∷ 0x00 ∷ 0xF1 ∷ 0x10 ∷ 0x80 ∷ 0x01 ∷ 0xC5 ∷ 0xD1 ∷ 0xC2 ∷ 0xB3 ∷ 0xA4 ∷ 0x2E ∷ 0x02 ∷ 0xF0 ∷ 0xF0 ∷ []

abbrev five : List ℕ
five = 0x20 ∷ 0x00 ∷ []

pub first-laid : layout (saying 1 7 suci [] []) ≡ first
unfolding layout levels_of shown clear nested octets_of opening opening_head items_of laid item_octets with_lead length_in
first-laid = refl

pub second-laid : layout (saying 1 3 guti [] []) ≡ second
unfolding layout levels_of shown clear nested octets_of opening opening_head items_of laid item_octets with_lead length_in
second-laid = refl

pub third-laid : layout (saying 2 3 guti five five) ≡ third
unfolding layout levels_of shown clear nested octets_of opening opening_head items_of laid item_octets with_lead length_in
third-laid = refl

pub fourth-laid : layout (saying 3 7 guti five five) ≡ fourth
unfolding layout levels_of shown clear nested octets_of opening opening_head items_of laid item_octets with_lead length_in
fourth-laid = refl

-- so many octets from an offset on
abbrev place : ℕ → ℕ → Part
place start len = record { start = start; len = len }

abbrev part : ℕ → ℕ → Option Part
part start len = Some (place start len)

pub first_read : asking_of first ≡ Ok (record { regtype = 1; ksi = 7; identity = place 6 9; capability = None; security = part 17 2; last = None; uplink = None; sessions = None; additional = None; status = None; attach = None })
unfolding asking_of read_to message_by head_of asked_by around_of judged_of request_in filled_of leading_of guti_in cut_of shifted shifted_request shifted_part is_request is_fourth is_identity is_capability is_security messages.opened_by messages.ended_by octets.elements_from octets.elements_of octets.joined octets.element_of octets.read_as octets.size_of octets.contents_of octets.contents_by octets.lead_of octets.lead_by octets.format_of octets.first_of octets.end_of
first_read = refl

pub second-read : asking_of second ≡ Ok (record { regtype = 1; ksi = 3; identity = place 30 11; capability = part 43 1; security = part 46 2; last = part 49 6; uplink = None; sessions = None; additional = None; status = None; attach = None })
unfolding asking_of read_to message_by head_of asked_by around_of judged_of request_in filled_of leading_of guti_in cut_of shifted shifted_request shifted_part is_request is_fourth is_identity is_capability is_security messages.opened_by messages.ended_by octets.elements_from octets.elements_of octets.joined octets.element_of octets.read_as octets.size_of octets.contents_of octets.contents_by octets.lead_of octets.lead_by octets.format_of octets.first_of octets.end_of
second-read = refl

pub third-read : asking_of third ≡ Ok (record { regtype = 2; ksi = 3; identity = place 30 11; capability = part 43 1; security = part 46 2; last = part 49 6; uplink = part 57 2; sessions = part 61 2; additional = None; status = None; attach = None })
unfolding asking_of read_to message_by head_of asked_by around_of judged_of request_in filled_of leading_of guti_in cut_of shifted shifted_request shifted_part is_request is_fourth is_identity is_capability is_security messages.opened_by messages.ended_by octets.elements_from octets.elements_of octets.joined octets.element_of octets.read_as octets.size_of octets.contents_of octets.contents_by octets.lead_of octets.lead_by octets.format_of octets.first_of octets.end_of
third-read = refl

pub fourth-read : asking_of fourth ≡ Ok (record { regtype = 3; ksi = 7; identity = place 6 11; capability = None; security = part 19 2; last = None; uplink = None; sessions = None; additional = None; status = None; attach = None })
unfolding asking_of read_to message_by head_of asked_by around_of judged_of request_in filled_of leading_of guti_in cut_of shifted shifted_request shifted_part is_request is_fourth is_identity is_capability is_security messages.opened_by messages.ended_by octets.elements_from octets.elements_of octets.joined octets.element_of octets.read_as octets.size_of octets.contents_of octets.contents_by octets.lead_of octets.lead_by octets.format_of octets.first_of octets.end_of
fourth-read = refl

-- with a key set and no 71 it is read as it stands, and so it is behind an empty 71, whatever another one holds
pub flat-read : (asking_of whole ≡ Ok (record { regtype = 1; ksi = 3; identity = place 6 11; capability = part 19 1; security = part 22 2; last = part 25 6; uplink = None; sessions = None; additional = None; status = None; attach = None }))
    × (asking_of (clear_part ++ (0x71 ∷ 0x00 ∷ 0x00 ∷ 0x71 ∷ 0x00 ∷ 0x1F ∷ whole)) ≡ Ok (record { regtype = 1; ksi = 3; identity = place 6 11; capability = None; security = part 19 2; last = None; uplink = None; sessions = None; additional = None; status = None; attach = None }))
unfolding asking_of read_to message_by head_of asked_by around_of judged_of request_in filled_of leading_of guti_in cut_of shifted shifted_request shifted_part is_request is_fourth is_identity is_capability is_security messages.opened_by messages.ended_by octets.elements_from octets.elements_of octets.joined octets.element_of octets.read_as octets.size_of octets.contents_of octets.contents_by octets.lead_of octets.lead_by octets.format_of octets.first_of octets.end_of
flat-read = (refl, refl)

-- a request in a 71 in a 71
abbrev threefold : List ℕ
threefold = clear_part ++ (0x71 ∷ 0x00 ∷ 0x37 ∷ second)

-- the inner one cut, and at the same octet an element past the end; an inner reject; a container that says more than there is
pub faults-told : (asking_of (clear_part ++ (0x71 ∷ 0x00 ∷ 0x02 ∷ 0x7E ∷ 0x00 ∷ 0x16 ∷ [])) ≡ refused Cut 26)
    × (asking_of (clear_part ++ (0x71 ∷ 0x00 ∷ 0x04 ∷ 0x7E ∷ 0x00 ∷ 0x44 ∷ 0x0B ∷ [])) ≡ refused Kind 26)
    × (asking_of (clear_part ++ (0x71 ∷ 0x00 ∷ 0x20 ∷ whole)) ≡ refused Past 21)
unfolding asking_of read_to message_by head_of asked_by around_of judged_of request_in filled_of leading_of guti_in cut_of shifted shifted_request shifted_part is_request is_fourth is_identity is_capability is_security messages.opened_by messages.ended_by octets.elements_from octets.elements_of octets.joined octets.element_of octets.read_as octets.size_of octets.contents_of octets.contents_by octets.lead_of octets.lead_by octets.format_of octets.first_of octets.end_of
faults-told = (refl, refl, refl)

-- a third level, and a fault behind it; what it holds is not looked at
pub levels-told : (asking_of threefold ≡ Err (unread.Deep 45)) × (asking_of (threefold ++ (0x05 ∷ [])) ≡ refused Past 79)
    × (asking_of (clear_part ++ (0x71 ∷ 0x00 ∷ 0x19 ∷ (clear_part ++ (0x71 ∷ 0x00 ∷ 0x01 ∷ 0xFF ∷ [])))) ≡ Err (unread.Deep 45))
unfolding asking_of read_to message_by head_of asked_by around_of judged_of request_in filled_of leading_of guti_in cut_of shifted shifted_request shifted_part is_request is_fourth is_identity is_capability is_security messages.opened_by messages.ended_by octets.elements_from octets.elements_of octets.joined octets.element_of octets.read_as octets.size_of octets.contents_of octets.contents_by octets.lead_of octets.lead_by octets.format_of octets.first_of octets.end_of
levels-told = (refl, refl, refl)
