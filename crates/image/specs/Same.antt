-- Whether two records are one, field by field: an event that leaves it so needs no save. Assumes nothing.
use Rattle.std.specs.Prelude.{ℕ, Bool, true, false, cond, List, [], ◌∷◌, eqb}
use Rattle.entries.specs.declared.Entries.{Entries}
use Rattle.record.specs.Tests.{both}
use Rattle.record.specs.declared.Device.{Device}
use Rattle.record.specs.declared.Access.{Access}
use Rattle.record.specs.declared.Hot.{Hot}
use Rattle.record.specs.declared.Record.{Record}
use Rattle.image.specs.Layout.{device_words, device_octets, access_words, access_pairs, access_octets}

unfoldable pub same_numbers : List ℕ → List ℕ → Bool
same_numbers [] [] = true
same_numbers [] (y ∷ ys) = false
same_numbers (x ∷ xs) [] = false
same_numbers (x ∷ xs) (y ∷ ys) = cond (eqb x y) (same_numbers xs ys) false

unfoldable pub same_device : Device → Device → Bool
same_device d f = both (same_numbers (device_words d) (device_words f)) (same_numbers (device_octets d) (device_octets f))

unfoldable pub same_access : Access → Access → Bool
same_access a b =
    both (same_numbers (access_words a) (access_words b))
    (both (same_numbers (access_pairs a) (access_pairs b)) (same_numbers (access_octets a) (access_octets b)))

unfoldable pub same_hot : Hot → Hot → Bool
same_hot g h = both (same_device g.dev h.dev) (both (same_access g.a0 h.a0) (same_access g.a1 h.a1))

unfoldable pub same_marks : Entries → Entries → Bool
same_marks t u = both (same_numbers t.forbidden u.forbidden) (both (same_numbers t.barred u.barred) (same_numbers t.ranks u.ranks))

unfoldable pub same_entries : Entries → Entries → Bool
same_entries t u = both (both (same_numbers t.nets u.nets) (both (same_numbers t.bans u.bans) (same_numbers t.n1s u.n1s))) (same_marks t u)

-- areas, GUTIs, equivalent networks
unfoldable pub same_areas : Record → Record → Bool
same_areas r q =
    both (both (same_numbers r.roaming q.roaming) (same_numbers r.regional q.regional))
    (both (both (same_numbers r.guti0 q.guti0) (same_numbers r.guti1 q.guti1))
    (both (same_numbers r.equivalents0 q.equivalents0) (same_numbers r.equivalents1 q.equivalents1)))

-- the SUCI and the capabilities
unfoldable pub same_card : Record → Record → Bool
same_card r q = both (same_numbers r.suci q.suci) (both (same_numbers r.capability q.capability) (same_numbers r.security q.security))

-- all that is no number of the device or of an access
unfoldable pub same_arrays : Record → Record → Bool
same_arrays r q = both (both (same_entries r.e0 q.e0) (same_entries r.e1 q.e1)) (both (same_areas r q) (same_card r q))

unfoldable pub same_record : Record → Record → Bool
same_record r q = both (same_hot r.hot q.hot) (same_arrays r q)

-- 1 if the record is another than it was, else 0
abbrev pub changed_of : Record → Record → ℕ
changed_of r q = cond (same_record r q) 0 1
