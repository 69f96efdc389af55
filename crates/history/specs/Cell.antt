-- What a record holds of one network on one access, whether it has an entry there, and whose entries those are. Assumes nothing.
use Rattle.std.specs.Prelude.{ℕ, ◌<◌, ◌≡◌, Bool, cond, List, eqb, length, get_or}
use Rattle.entries.specs.declared.Entries.{Entries}
use Rattle.entries.specs.Places.{entries_held, place_in, has_entry, peek_at}
use Rattle.record.specs.declared.Record.{Record}
use Rattle.record.specs.Sides.{access_of}
use Rattle.history.specs.Tale.{Cell}

-- a column at the network's place; 0 where it has no entry
abbrev pub column_in : ℕ → List ℕ → List ℕ → ℕ → ℕ
column_in count nets xs n = peek_at xs (place_in count n nets) (entries_held count)

unfoldable pub cell_in : ℕ → Entries → ℕ → Cell
cell_in count t n = record {
  ban = column_in count t.nets t.bans n;
  n1 = column_in count t.nets t.n1s n;
  forbidden = column_in count t.nets t.forbidden n;
  barred = column_in count t.nets t.barred n;
}

-- the entries of access w
unfoldable pub entries_in : Record → ℕ → Entries
entries_in r w = cond (eqb w 0) r.e0 r.e1

-- network n on access w
unfoldable pub cell_of : Record → ℕ → ℕ → Cell
cell_of r w n = cell_in (access_of r.hot w).entries (entries_in r w) n

unfoldable pub held_in : Record → ℕ → ℕ → Bool
held_in r w n = has_entry (access_of r.hot w).entries n (entries_in r w).nets

-- so many entries are those of the networks of a list, in its order
pub record Lined (count : ℕ) (nets held : List ℕ) : Type 0 where
  pub many : length held ≡ count
  pub same : (i : ℕ) → i < count → get_or nets i 0 ≡ get_or held i 0
