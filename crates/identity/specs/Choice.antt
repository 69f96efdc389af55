-- Document 01's order as the chooser has it, by slots: "a GUTI of the pending network, else of an equivalent one (this access's list), else any, else SUCI; within
-- each, this access's first." That it is edition 1, and what it is for the others: proofs/Editions. Assumes nothing.
use Rattle.std.specs.Prelude.{ℕ, ◌+◌, ◌-◌, ◌*◌, Bool, false, cond, List, length, take, drop, eqb, Option, Some, None}
use Rattle.record.specs.Tests.{both}
use Rattle.identity.specs.Identity.{is_yes, guti_net, equivalents_held, is_among, is_from_s1, is_from_native}
use Rattle.identity.specs.declared.S1.{S1}

-- The GUTIs as sent, F2 and ten octets for access 0, then for access 1. A slot is 0 or 1 for the GUTI of that access, and none for the SUCI.

-- a GUTI of the pending network
unfoldable pub is_pending : List ℕ → ℕ → ℕ → ℕ → Bool
is_pending g slot held net = both (is_yes held) (eqb (guti_net g slot) net)

-- a GUTI of an equivalent network
unfoldable pub is_equivalent : List ℕ → ℕ → ℕ → List ℕ → ℕ → Bool
is_equivalent g slot held equivalents count = both (is_yes held) (is_among (guti_net g slot) (equivalents_held count) equivalents)

-- this access's first, then the other's, else what comes next
unfoldable pub own_first : Bool → Bool → ℕ → Option ℕ → Option ℕ
own_first here there own next = cond here (Some own) (cond there (Some (1 - own)) next)

unfoldable pub slot_by : List ℕ → ℕ → ℕ → ℕ → ℕ → List ℕ → ℕ → Option ℕ
slot_by g own here there net equivalents count =
    own_first (is_pending g own here net) (is_pending g (1 - own) there net) own
    (own_first (is_equivalent g own here equivalents count) (is_equivalent g (1 - own) there equivalents count) own
    (own_first (is_yes here) (is_yes there) own None))

-- access 0, and any other counts as 1; GUTIs that are not 22 octets are none
unfoldable pub slot_of : List ℕ → ℕ → ℕ → ℕ → ℕ → List ℕ → ℕ → Option ℕ
slot_of g access held0 held1 net equivalents count =
    cond (eqb (length g) 22)
    (cond (eqb access 0) (slot_by g 0 held0 held1 net equivalents count) (slot_by g 1 held1 held0 net equivalents count))
    None

-- the octets of a slot
unfoldable pub part_of : List ℕ → List ℕ → Option ℕ → List ℕ
part_of g s None = s
part_of g s (Some slot) = take 11 (drop (slot * 11) g)

-- where they lie: the block and the offset in it
unfoldable pub part_at : ℕ × ℕ → ℕ × ℕ → Option ℕ → ℕ × ℕ
part_at g s None = s
part_at g s (Some slot) = (g.0, slot * 11 + g.1)

unfoldable pub chosen_of : List ℕ → List ℕ → ℕ → ℕ → ℕ → ℕ → List ℕ → ℕ → List ℕ
chosen_of g s access held0 held1 net equivalents count = part_of g s (slot_of g access held0 held1 net equivalents count)

-- whether a request goes with a mapped GUTI, by its edition
unfoldable pub is_mapped_by : ℕ → ℕ → S1 → Bool
is_mapped_by edition regtype s = cond (eqb edition 2) (is_from_s1 regtype s) (cond (eqb edition 3) (is_from_native regtype s) false)
