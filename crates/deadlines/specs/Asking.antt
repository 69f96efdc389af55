-- The table of ten slots, and whom an ask names. Assumes nothing.
use Rattle.std.specs.Prelude.{◌≡◌, ℕ, zero, suc, ◌<◌, ◌≤◌, true, cond, List, Option, Some, None, length, replicate, ◌==◌, nat_lt, slice_index, slice_set}
use Rattle.deadlines.specs.Clock.{since}
use Rattle.deadlines.specs.Slots.{rolled, due, weight}
use Rattle.deadlines.specs.declared.Slot.{Slot}
use Rattle.deadlines.specs.declared.Table.{Table}
use Rattle.deadlines.specs.declared.Best.{Best}

abbrev pub table_of : List ℕ → List ℕ → List ℕ → Table
table_of held ends rests = record { rests = rests; ends = ends; held = held }

-- no timer has a deadline
abbrev pub empty_table : Table
empty_table = table_of (replicate 10 0) (replicate 10 0) (replicate 10 0)

abbrev pub slot_at : Table → ℕ → Slot
slot_at t i = record { held = slice_index t.held i; ends = slice_index t.ends i; rests = slice_index t.rests i }

-- outside the ten nothing is stored
unfoldable pub put_at : Table → ℕ → Slot → Table
put_at t i s =
    cond (nat_lt i 10)
    (table_of (slice_set t.held i s.held) (slice_set t.ends i s.ends) (slice_set t.rests i s.rests))
    t

-- the first n slots rolled
unfoldable pub roll_to : ℕ → ℕ → Table → Table
roll_to now zero t = t
roll_to now (suc n) t = put_at (roll_to now n t) n (rolled now (slot_at (roll_to now n t) n))

abbrev pub no_best : Best
no_best = record { at = 10; most = 0 }

unfoldable pub better : Best → ℕ → ℕ → Best
better b i w = cond (nat_lt b.most w) (record { at = i; most = w }) b

-- the furthest past of the first n slots; of equals the first
unfoldable pub best_to : ℕ → ℕ → Table → Best
best_to now zero t = no_best
best_to now (suc n) t = better (best_to now n t) n (weight now (slot_at t n))

abbrev pub named_by : Best → Option ℕ
named_by b = cond (b.most == 0) None (Some b.at)

-- an ask first goes on to the lap that runs
unfoldable pub after_ask : ℕ → Table → Table
after_ask now t = roll_to now 10 t

-- "for a time now, name the timer due"; "No timer due is its own reply"
unfoldable pub asked : ℕ → Table → Option ℕ
asked now t = named_by (best_to now 10 (after_ask now t))

-- the slot named, or 10
unfoldable pub place_of : Option ℕ → ℕ
place_of (Some at) = at
place_of None = 10

-- an array of ten is a list of ten
pub record Ten (t : Table) : Type 0 where
  pub held : length t.held ≡ 10
  pub ends : length t.ends ≡ 10
  pub rests : length t.rests ≡ 10

-- "the one furthest past its deadline, by the wrapped difference taken as signed, ties in the order" of the slots
pub record Furthest (now : ℕ) (t : Table) (j : ℕ) : Type 0 where
  pub below : j < 10
  pub ripe : due now (slot_at t j) ≡ true
  pub most : (i : ℕ) → i < 10 → due now (slot_at t i) ≡ true → since now (slot_at t i).ends ≤ since now (slot_at t j).ends
  pub first : (i : ℕ) → i < j → due now (slot_at t i) ≡ true → since now (slot_at t i).ends < since now (slot_at t j).ends
