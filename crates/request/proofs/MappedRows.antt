-- Requests of the mapped case octet by octet: the 4G-GUTI as another decoder splits it, the layout, and what is read, also in the order that it reads whole and of elements too
-- long, too short or empty. By computation. Assumes nothing.
use Prim.Native.Nat.{ℕ}
use mathlib.Core.Path.{◌≡◌, refl}
use mathlib.Core.List.{List, [], ◌∷◌, ◌++◌}
use Rattle.std.specs.Prelude.{Option, Some, None, Ok}
use Rattle.octets.specs.declared.Part.{Part}
use Rattle.octets.specs.Element as octets
use Rattle.messages.specs.Message as messages
use Rattle.identity.specs.Mapping as mapping
use Rattle.request.specs.Layout.{Fields, length_in, with_lead, item_octets, laid, opening_head, opening, items_of, octets_of, clear, nested, shown, levels_of, layout}
use Rattle.request.specs.Reading.{head_of, is_fourth, is_identity, is_security, is_capability, is_request, filled_of, leading_of, guti_in, request_in, judged_of, cut_of}
use Rattle.request.specs.Levels.{shifted_part, shifted_request, shifted, around_of, asked_by, message_by, read_to, asking_of}

-- MME group 8001, code C5: AMF region 128, set 7, pointer 5
abbrev guti_4g : List ℕ
guti_4g = 0x00 ∷ 0xF1 ∷ 0x10 ∷ 0x80 ∷ 0x01 ∷ 0xC5 ∷ 0xD1 ∷ 0xC2 ∷ 0xB3 ∷ 0xA4 ∷ []

pub fields-mapped : (mapping.region_of 0x8001 ≡ 128) × (mapping.set_of 0x8001 0xC5 ≡ 7) × (mapping.pointer_of 0xC5 ≡ 5)
fields-mapped = (refl, refl, refl)

pub guti-mapped : mapping.mapped_guti guti_4g ≡ 0xF2 ∷ 0x00 ∷ 0xF1 ∷ 0x10 ∷ 0x80 ∷ 0x01 ∷ 0xC5 ∷ 0xD1 ∷ 0xC2 ∷ 0xB3 ∷ 0xA4 ∷ []
unfolding mapping.mapped_guti mapping.amf_of mapping.amf_octets
guti-mapped = refl

-- capability 00, security F0 F0, last area 00 F2 20 with code 00 00 2A, a GUTI of 00 F2 20 in 77, an attach message of two octets
abbrev saying : ℕ → Fields
saying ksi = record {
  regtype = 1;
  ksi = ksi;
  identity = mapping.mapped_guti guti_4g;
  capability = 0x00 ∷ [];
  security = 0xF0 ∷ 0xF0 ∷ [];
  last = 0x00 ∷ 0xF2 ∷ 0x20 ∷ 0x00 ∷ 0x00 ∷ 0x2A ∷ [];
  uplink = [];
  sessions = [];
  additional = 0xF2 ∷ 0x00 ∷ 0xF2 ∷ 0x20 ∷ 0x11 ∷ 0x22 ∷ 0x83 ∷ 0x0A ∷ 0x0B ∷ 0x0C ∷ 0x0D ∷ [];
  status = 0x00 ∷ [];
  attach = 0x07 ∷ 0x41 ∷ [];
}

-- ngKSI 7: 77, 2B and 70 behind 2E
abbrev bare : List ℕ
bare = 0x7E ∷ 0x00 ∷ 0x41 ∷ 0x71 ∷ 0x00 ∷ 0x0B ∷ 0xF2 ∷ 0x00 ∷ 0xF1 ∷ 0x10 ∷ 0x80 ∷ 0x01 ∷ 0xC5 ∷ 0xD1 ∷ 0xC2 ∷ 0xB3 ∷ 0xA4 ∷ 0x2E ∷ 0x02 ∷ 0xF0 ∷ 0xF0 ∷ 0x77 ∷ 0x00 ∷ 0x0B ∷ 0xF2 ∷ 0x00 ∷ 0xF2 ∷ 0x20 ∷ 0x11 ∷ 0x22 ∷ 0x83 ∷ 0x0A ∷ 0x0B ∷ 0x0C ∷ 0x0D ∷ 0x2B ∷ 0x01 ∷ 0x00 ∷ 0x70 ∷ 0x00 ∷ 0x02 ∷ 0x07 ∷ 0x41 ∷ []

-- ngKSI 3: before 71, and at the end of what it holds
abbrev enclosed : List ℕ
enclosed =
    (0x7E ∷ 0x00 ∷ 0x41 ∷ 0x31 ∷ 0x00 ∷ 0x0B ∷ 0xF2 ∷ 0x00 ∷ 0xF1 ∷ 0x10 ∷ 0x80 ∷ 0x01 ∷ 0xC5 ∷ 0xD1 ∷ 0xC2 ∷ 0xB3 ∷ 0xA4 ∷ 0x2E ∷ 0x02 ∷ 0xF0 ∷ 0xF0 ∷ 0x77 ∷ 0x00 ∷ 0x0B ∷ 0xF2 ∷ 0x00 ∷ 0xF2 ∷ 0x20 ∷ 0x11 ∷ 0x22 ∷ 0x83 ∷ 0x0A ∷ 0x0B ∷ 0x0C ∷ 0x0D ∷ 0x2B ∷ 0x01 ∷ 0x00 ∷ 0x70 ∷ 0x00 ∷ 0x02 ∷ 0x07 ∷ 0x41 ∷ [])
    ++ (0x71 ∷ 0x00 ∷ 0x35 ∷ 0x7E ∷ 0x00 ∷ 0x41 ∷ 0x31 ∷ 0x00 ∷ 0x0B ∷ 0xF2 ∷ 0x00 ∷ 0xF1 ∷ 0x10 ∷ 0x80 ∷ 0x01 ∷ 0xC5 ∷ 0xD1 ∷ 0xC2 ∷ 0xB3 ∷ 0xA4 ∷ 0x10 ∷ 0x01 ∷ 0x00 ∷ 0x2E ∷ 0x02 ∷ 0xF0 ∷ 0xF0 ∷ 0x52 ∷ 0x00 ∷ 0xF2 ∷ 0x20 ∷ 0x00 ∷ 0x00 ∷ 0x2A ∷ 0x77 ∷ 0x00 ∷ 0x0B ∷ 0xF2 ∷ 0x00 ∷ 0xF2 ∷ 0x20 ∷ 0x11 ∷ 0x22 ∷ 0x83 ∷ 0x0A ∷ 0x0B ∷ 0x0C ∷ 0x0D ∷ 0x2B ∷ 0x01 ∷ 0x00 ∷ 0x70 ∷ 0x00 ∷ 0x02 ∷ 0x07 ∷ 0x41 ∷ [])

pub bare-laid : layout (saying 7) ≡ bare
unfolding layout levels_of shown clear nested octets_of opening opening_head items_of laid item_octets with_lead length_in mapping.mapped_guti mapping.amf_of mapping.amf_octets
bare-laid = refl

pub enclosed-laid : layout (saying 3) ≡ enclosed
unfolding layout levels_of shown clear nested octets_of opening opening_head items_of laid item_octets with_lead length_in mapping.mapped_guti mapping.amf_of mapping.amf_octets
enclosed-laid = refl

-- so many octets from an offset on
abbrev place : ℕ → ℕ → Part
place start len = record { start = start; len = len }

abbrev part : ℕ → ℕ → Option Part
part start len = Some (place start len)

pub mapped-read : (asking_of bare ≡ Ok (record { regtype = 1; ksi = 7; identity = place 6 11; capability = None; security = part 19 2; last = None; uplink = None; sessions = None; additional = part 24 11; status = part 37 1; attach = part 41 2 }))
    × (asking_of enclosed ≡ Ok (record { regtype = 1; ksi = 3; identity = place 52 11; capability = part 65 1; security = part 68 2; last = part 71 6; uplink = None; sessions = None; additional = part 80 11; status = part 93 1; attach = part 97 2 }))
unfolding asking_of read_to message_by head_of asked_by around_of judged_of request_in filled_of leading_of guti_in cut_of shifted shifted_request shifted_part is_request is_fourth is_identity is_capability is_security messages.opened_by messages.ended_by octets.elements_from octets.elements_of octets.joined octets.element_of octets.read_as octets.size_of octets.contents_of octets.contents_by octets.lead_of octets.lead_by octets.format_of octets.first_of octets.end_of
mapped-read = (refl, refl)

-- 2B, 77, 70
pub table-order : asking_of (0x7E ∷ 0x00 ∷ 0x41 ∷ 0x71 ∷ 0x00 ∷ 0x0B ∷ 0xF2 ∷ 0x00 ∷ 0xF1 ∷ 0x10 ∷ 0x80 ∷ 0x01 ∷ 0xC5 ∷ 0xD1 ∷ 0xC2 ∷ 0xB3 ∷ 0xA4 ∷ 0x2E ∷ 0x02 ∷ 0xF0 ∷ 0xF0 ∷ 0x2B ∷ 0x01 ∷ 0x00 ∷ 0x77 ∷ 0x00 ∷ 0x0B ∷ 0xF2 ∷ 0x00 ∷ 0xF2 ∷ 0x20 ∷ 0x11 ∷ 0x22 ∷ 0x83 ∷ 0x0A ∷ 0x0B ∷ 0x0C ∷ 0x0D ∷ 0x70 ∷ 0x00 ∷ 0x02 ∷ 0x07 ∷ 0x41 ∷ [])
    ≡ Ok (record { regtype = 1; ksi = 7; identity = place 6 11; capability = None; security = part 19 2; last = None; uplink = None; sessions = None; additional = part 27 11; status = part 23 1; attach = part 41 2 })
unfolding asking_of read_to message_by head_of asked_by around_of judged_of request_in filled_of leading_of guti_in cut_of shifted shifted_request shifted_part is_request is_fourth is_identity is_capability is_security messages.opened_by messages.ended_by octets.elements_from octets.elements_of octets.joined octets.element_of octets.read_as octets.size_of octets.contents_of octets.contents_by octets.lead_of octets.lead_by octets.format_of octets.first_of octets.end_of
table-order = refl

-- a 77 of twelve octets and a 2B of two are their first ones; a 77 of ten or with F3, an empty 2B and an empty 70 are absent
pub ends-ignored : asking_of (0x7E ∷ 0x00 ∷ 0x41 ∷ 0x71 ∷ 0x00 ∷ 0x0B ∷ 0xF2 ∷ 0x00 ∷ 0xF1 ∷ 0x10 ∷ 0x80 ∷ 0x01 ∷ 0xC5 ∷ 0xD1 ∷ 0xC2 ∷ 0xB3 ∷ 0xA4 ∷ 0x2E ∷ 0x02 ∷ 0xF0 ∷ 0xF0 ∷ 0x77 ∷ 0x00 ∷ 0x0C ∷ 0xF2 ∷ 0x00 ∷ 0xF2 ∷ 0x20 ∷ 0x11 ∷ 0x22 ∷ 0x83 ∷ 0x0A ∷ 0x0B ∷ 0x0C ∷ 0x0D ∷ 0x0E ∷ 0x2B ∷ 0x02 ∷ 0x01 ∷ 0x00 ∷ [])
    ≡ Ok (record { regtype = 1; ksi = 7; identity = place 6 11; capability = None; security = part 19 2; last = None; uplink = None; sessions = None; additional = part 24 11; status = part 38 1; attach = None })
unfolding asking_of read_to message_by head_of asked_by around_of judged_of request_in filled_of leading_of guti_in cut_of shifted shifted_request shifted_part is_request is_fourth is_identity is_capability is_security messages.opened_by messages.ended_by octets.elements_from octets.elements_of octets.joined octets.element_of octets.read_as octets.size_of octets.contents_of octets.contents_by octets.lead_of octets.lead_by octets.format_of octets.first_of octets.end_of
ends-ignored = refl

pub too_short : (asking_of (0x7E ∷ 0x00 ∷ 0x41 ∷ 0x71 ∷ 0x00 ∷ 0x0B ∷ 0xF2 ∷ 0x00 ∷ 0xF1 ∷ 0x10 ∷ 0x80 ∷ 0x01 ∷ 0xC5 ∷ 0xD1 ∷ 0xC2 ∷ 0xB3 ∷ 0xA4 ∷ 0x2E ∷ 0x02 ∷ 0xF0 ∷ 0xF0 ∷ 0x77 ∷ 0x00 ∷ 0x0A ∷ 0xF2 ∷ 0x00 ∷ 0xF2 ∷ 0x20 ∷ 0x11 ∷ 0x22 ∷ 0x83 ∷ 0x0A ∷ 0x0B ∷ 0x0C ∷ 0x2B ∷ 0x00 ∷ 0x70 ∷ 0x00 ∷ 0x00 ∷ []) ≡ Ok (record { regtype = 1; ksi = 7; identity = place 6 11; capability = None; security = part 19 2; last = None; uplink = None; sessions = None; additional = None; status = None; attach = None }))
    × (asking_of (0x7E ∷ 0x00 ∷ 0x41 ∷ 0x71 ∷ 0x00 ∷ 0x0B ∷ 0xF2 ∷ 0x00 ∷ 0xF1 ∷ 0x10 ∷ 0x80 ∷ 0x01 ∷ 0xC5 ∷ 0xD1 ∷ 0xC2 ∷ 0xB3 ∷ 0xA4 ∷ 0x2E ∷ 0x02 ∷ 0xF0 ∷ 0xF0 ∷ 0x77 ∷ 0x00 ∷ 0x0B ∷ 0xF3 ∷ 0x00 ∷ 0xF2 ∷ 0x20 ∷ 0x11 ∷ 0x22 ∷ 0x83 ∷ 0x0A ∷ 0x0B ∷ 0x0C ∷ 0x0D ∷ []) ≡ Ok (record { regtype = 1; ksi = 7; identity = place 6 11; capability = None; security = part 19 2; last = None; uplink = None; sessions = None; additional = None; status = None; attach = None }))
unfolding asking_of read_to message_by head_of asked_by around_of judged_of request_in filled_of leading_of guti_in cut_of shifted shifted_request shifted_part is_request is_fourth is_identity is_capability is_security messages.opened_by messages.ended_by octets.elements_from octets.elements_of octets.joined octets.element_of octets.read_as octets.size_of octets.contents_of octets.contents_by octets.lead_of octets.lead_by octets.format_of octets.first_of octets.end_of
too_short = (refl, refl)
