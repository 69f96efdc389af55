-- A 5G-GUTI mapped from a 4G-GUTI, by the bit fields of TS 23.003, 2.10.2. Assumes nothing.
use Rattle.std.specs.Prelude.{ℕ, ◌+◌, ◌*◌, ◌/◌, ◌%◌, List, [], ◌∷◌, ◌++◌, get_or}

-- The 4G-GUTI: the network in three octets, the MME group in two, the high one first, the MME code in one, the M-TMSI in four
abbrev pub group_of : ℕ → ℕ → ℕ
group_of high low = high * 256 + low

-- AMF region, 8 bits: bits 15 to 8 of the MME group
abbrev pub region_of : ℕ → ℕ
region_of group = group / 256

-- AMF set, 10 bits: bits 9 to 2 are bits 7 to 0 of the MME group, bits 1 and 0 are bits 7 and 6 of the MME code
abbrev pub set_of : ℕ → ℕ → ℕ
set_of group code = group % 256 * 4 + code / 64

-- AMF pointer, 6 bits: bits 5 to 0 of the MME code
abbrev pub pointer_of : ℕ → ℕ
pointer_of code = code % 64

-- as sent: the region, bits 9 to 2 of the set, then its bits 1 and 0 with the pointer
unfoldable pub amf_octets : ℕ → ℕ → ℕ → List ℕ
amf_octets region set pointer = region ∷ (set / 4) ∷ (set % 4 * 64 + pointer) ∷ []

unfoldable pub amf_of : ℕ → ℕ → ℕ → List ℕ
amf_of high low code = amf_octets (region_of (group_of high low)) (set_of (group_of high low) code) (pointer_of code)

-- The 5G-GUTI as sent: F2, the same network, the AMF, and the M-TMSI as 5G-TMSI
unfoldable pub mapped_guti : List ℕ → List ℕ
mapped_guti g =
    0xF2 ∷ get_or g 0 0 ∷ get_or g 1 0 ∷ get_or g 2 0
    ∷ (amf_of (get_or g 3 0) (get_or g 4 0) (get_or g 5 0)
    ++ (get_or g 6 0 ∷ get_or g 7 0 ∷ get_or g 8 0 ∷ get_or g 9 0 ∷ []))
