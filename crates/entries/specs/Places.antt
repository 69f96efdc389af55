-- Where a network's entry stands among an access's sixteen, and what is read and written there. Assumes nothing.
use Rattle.std.specs.Prelude.{ℕ, Bool, cond, List, ltb, eqb, set, get_or}
use Rattle.laws.specs.Bounds.{at_most}
use Rattle.laws.specs.Upto.{seek_to}

abbrev pub same_net : ℕ → ℕ → Bool
same_net a b = eqb b a

-- entries in use: a count above sixteen counts as sixteen
unfoldable pub entries_held : ℕ → ℕ
entries_held n = at_most 16 n

-- the entry of a network, or the first free place
unfoldable pub place_in : ℕ → ℕ → List ℕ → ℕ
place_in count net nets = seek_to (same_net net) (entries_held count) nets

unfoldable pub has_entry : ℕ → ℕ → List ℕ → Bool
has_entry count net nets = ltb (place_in count net nets) (entries_held count)

-- what stands at a place in use, else nothing
unfoldable pub peek_at : List ℕ → ℕ → ℕ → ℕ
peek_at xs at n = cond (ltb at n) (get_or xs at 0) 0

-- sixteen is the place in a full table: nothing is stored there
unfoldable pub put_at : {A : Type 0} → List A → ℕ → A → List A
put_at xs at v = cond (ltb at 16) (set xs at v) xs
