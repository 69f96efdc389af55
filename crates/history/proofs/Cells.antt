-- What each deed on an access's entries makes of the cell of each network: column by column. Assumes nothing.
use Prim.Native.Nat.{ℕ, ◌+◌}
use mathlib.Core.Path.{◌≡◌, refl, ◌∙◌, ap}
use mathlib.Core.Bool.{Bool, true, false, cond, not, true≢false, ◌&&◌}
use mathlib.Core.List.{List}
use lib.Dec.{ltb, eqb}
use lib.ListN.{length, get_or}
use borrow.Author.Tests.{ltb-false, eqb-true}
use Rattle.entries.specs.declared.Entries.{Entries}
use Rattle.entries.specs.declared.Seat.{Seat}
use Rattle.entries.specs.Places.{entries_held, place_in, has_entry, put_at}
use Rattle.entries.specs.Entries.{lift_mark, bumped, raised, unforbidden, n1_to_limit, swept, powered, none, grown}
use Rattle.entries.specs.Entries as entries
use Rattle.validity.specs.Sized.{Columns}
use Rattle.history.specs.Cell.{column_in, cell_in}
use Rattle.history.specs.Tale.{Cell, Limits}
use Rattle.history.proofs.Said.{raise, cell, blank, count_after, mark_after, cell_after, banned, barred, reached, ended, quiet}
use Rattle.history.proofs.Said as history
use Rattle.history.proofs.Columns.{column-if, column-zero, column-upto, missed}
use Rattle.history.proofs.Giving.{Placed, is_left, read-own, left_other, written, cleared}

-- protected or not: the two ways to say it
raise-is : (limit protected n : ℕ) → bumped limit protected n ≡ raise limit (not (eqb protected 0)) n
unfolding bumped
raise-is limit protected n = elim (eqb protected 0) as (λ b. cond b (cond (ltb n limit) (n + 1) n) limit ≡ raise limit (not b) n) [ true ↦ refl | false ↦ refl ]

-- four columns
pub cells : {a a' b b' f f' g g' : ℕ} → a ≡ a' → b ≡ b' → f ≡ f' → g ≡ g' → cell a b f g ≡ cell a' b' f' g'
cells p q s t = cc

-- a ban or a bar of this network, or of another
module _ (l : Limits) where
  ban-after : (b p : Bool) (c : Cell) → cell (cond b (raise l.ban p c.ban) c.ban) c.n1 (cond b 1 c.forbidden) c.barred ≡ cell_after l (cond b (banned p) quiet) c
  unfolding cell_after count_after mark_after
  ban-after true p c = refl
  ban-after false p c = refl

  bar-after : (b p : Bool) (c : Cell) → cell c.ban (cond b (raise l.n1 p c.n1) c.n1) c.forbidden (cond b 1 c.barred) ≡ cell_after l (cond b (barred p) quiet) c
  unfolding cell_after count_after mark_after
  bar-after true p c = refl
  bar-after false p c = refl

-- the one that gives up its place is another, and nothing is left of it
ban-left : (x b : Bool) → (x ≡ true → b ≡ false) → (a : ℕ) (c : Cell)
    → cell (cond b a (cond x 0 c.ban)) (cond x 0 c.n1) (cond b 1 (cond x 0 c.forbidden)) (cond x 0 c.barred) ≡ cond x blank (cell (cond b a c.ban) c.n1 (cond b 1 c.forbidden) c.barred)
ban-left true true f a c = absurd (true≢false (f refl))
ban-left true false f a c = refl
ban-left false b f a c = refl

bar-left : (x b : Bool) → (x ≡ true → b ≡ false) → (a : ℕ) (c : Cell)
    → cell (cond x 0 c.ban) (cond b a (cond x 0 c.n1)) (cond x 0 c.forbidden) (cond b 1 (cond x 0 c.barred)) ≡ cond x blank (cell c.ban (cond b a c.n1) c.forbidden (cond b 1 c.barred))
bar-left true true f a c = absurd (true≢false (f refl))
bar-left true false f a c = refl
bar-left false b f a c = refl

pub cell-none : (count m : ℕ) → cell_in count none m ≡ blank
unfolding cell_in none
cell-none count m =
    cells (column-zero count none.nets m) (column-zero count none.nets m) (column-zero count none.nets m) (column-zero count none.nets m)

lift-zero : (limit : ℕ) → lift_mark limit 0 0 ≡ 0
unfolding lift_mark
lift-zero limit = refl

-- a protected 27 over the other access reaches a network that has an entry, and its N1 counter alone
reached-if : (l : Limits) (b : Bool) (c : Cell) → cell c.ban (cond b l.n1 c.n1) c.forbidden c.barred ≡ cell_after l (cond b reached quiet) c
unfolding cell_after count_after mark_after
reached-if l true c = refl
reached-if l false c = refl

pub cell-limited : (l : Limits) (count net : ℕ) (t : Entries) → Columns t → (m : ℕ)
    → cell_in count (n1_to_limit net count l.n1 t) m ≡ cell_after l (cond (eqb net m && has_entry count m t.nets) reached quiet) (cell_in count t m)
unfolding cell_in n1_to_limit
cell-limited l count net t w m = cells refl (column-if count t.nets net t.n1s w.n1s l.n1 m) refl refl ∙ reached-if l (eqb net m && has_entry count m t.nets) (cell_in count t m)

pub cell-swept : (l : Limits) (count : ℕ) (t : Entries) → Columns t → (m : ℕ) → cell_in count (swept count l.ban l.n1 t) m ≡ cell_after l ended (cell_in count t m)
unfolding cell_in swept count_after mark_after cell_after
cell-swept l count t w m =
    cells refl refl
    (column-upto count t.nets (lift_mark l.ban) (lift-zero l.ban) t.bans t.forbidden w.forbidden m)
    (column-upto count t.nets (lift_mark l.n1) (lift-zero l.n1) t.n1s t.barred w.barred m)

pub cell-cycled : (l : Limits) (count : ℕ) (t : Entries) → Columns t → (m : ℕ) → cell_in count (powered count l.ban t) m ≡ cell_after l history.cycled (cell_in count t m)
unfolding cell_in powered count_after mark_after cell_after
cell-cycled l count t w m =
    cells refl refl
    (column-upto count t.nets (lift_mark l.ban) (lift-zero l.ban) t.bans t.forbidden w.forbidden m)
    (column-zero count t.nets m)

-- a ban or a bar at the network's place
module _ (l : Limits) (count net protected : ℕ) (t : Entries) (w : Columns t) (at : ℕ) (pl : Placed count net t.nets at) where
  abbrev found : Bool
  found = has_entry count net t.nets

  abbrev seat : Seat
  seat = record { at = at; found = found; net = net; protected = protected }

  abbrev left : ℕ → Bool
  left m = is_left count net t.nets at m

  -- a counter's new number is by what is read of the network
  abbrev counted : ℕ → List ℕ → ℕ → ℕ
  counted limit xs n = raise limit (not (eqb protected 0)) (column_in count t.nets xs n)

  raised_is : (xs : List ℕ) (limit : ℕ) → raised xs at found limit protected ≡ put_at xs at (counted limit xs net)
  unfolding raised has_entry
  raised_is xs limit =
      ap (λ (n : ℕ). put_at xs at n) (raise-is limit protected (cond found (get_or xs at 0) 0) ∙ ap (raise limit (not (eqb protected 0))) (read-own count net t.nets w.nets at pl xs))

  -- a counter's column, for each network
  counts : (limit : ℕ) (xs : List ℕ) → length xs ≡ 16 → (m : ℕ)
      → column_in (grown found count) (put_at t.nets at net) (raised xs at found limit protected) m ≡ cond (eqb net m) (counted limit xs m) (cond (left m) 0 (column_in count t.nets xs m))
  unfolding has_entry
  counts limit xs len m = rw (raised_is xs limit) (written count net t.nets w.nets at pl xs len (counted limit xs net) m ∙ go (eqb net m) refl)
    where
      go : (b : Bool) → eqb net m ≡ b
          → cond (eqb net m) (counted limit xs net) (cond (left m) 0 (column_in count t.nets xs m)) ≡ cond (eqb net m) (counted limit xs m) (cond (left m) 0 (column_in count t.nets xs m))
      go true q = rw q (ap (counted limit xs) (eqb-true net m q))
      go false q = rw q

  pub cell-banned : (m : ℕ)
      → cell_in (grown found count) (entries.banned seat l.ban t) m ≡ cond (left m) blank (cell_after l (cond (eqb net m) (banned (not (eqb protected 0))) quiet) (cell_in count t m))
  unfolding cell_in entries.banned has_entry
  cell-banned m =
      cells (counts l.ban t.bans w.bans m) (cleared count net t.nets w.nets at pl t.n1s w.n1s m)
      (written count net t.nets w.nets at pl t.forbidden w.forbidden 1 m) (cleared count net t.nets w.nets at pl t.barred w.barred m)
      ∙ ban-left (left m) (eqb net m) (left_other count net t.nets w.nets at pl m) (counted l.ban t.bans m) (cell_in count t m)
      ∙ ap (cond (left m) blank) (ban-after l (eqb net m) (not (eqb protected 0)) (cell_in count t m))

  pub cell-barred : (m : ℕ)
      → cell_in (grown found count) (entries.barred_by seat l.n1 t) m ≡ cond (left m) blank (cell_after l (cond (eqb net m) (barred (not (eqb protected 0))) quiet) (cell_in count t m))
  unfolding cell_in entries.barred_by has_entry
  cell-barred m =
      cells (cleared count net t.nets w.nets at pl t.bans w.bans m) (counts l.n1 t.n1s w.n1s m)
      (cleared count net t.nets w.nets at pl t.forbidden w.forbidden m) (written count net t.nets w.nets at pl t.barred w.barred 1 m)
      ∙ bar-left (left m) (eqb net m) (left_other count net t.nets w.nets at pl m) (counted l.n1 t.n1s m) (cell_in count t m)
      ∙ ap (cond (left m) blank) (bar-after l (eqb net m) (not (eqb protected 0)) (cell_in count t m))

-- an accept clears the mark where there is an entry; elsewhere there is none to clear
pub cell-accepted : (l : Limits) (count : ℕ) (s : Seat) (t : Entries) → Columns t → s.found ≡ has_entry count s.net t.nets → (has_entry count s.net t.nets ≡ true → s.at ≡ place_in count s.net t.nets) → (m : ℕ)
    → cell_in count (unforbidden s t) m ≡ cell_after l (cond (eqb s.net m) history.accepted quiet) (cell_in count t m)
unfolding cell_in unforbidden has_entry count_after mark_after cell_after
cell-accepted l count s t w f p m = go (eqb s.net m) refl
  where
    same : (b : Bool) → has_entry count s.net t.nets ≡ b
        → cond (has_entry count s.net t.nets) (put_at t.forbidden s.at 0) t.forbidden ≡ cond (has_entry count s.net t.nets) (put_at t.forbidden (place_in count s.net t.nets) 0) t.forbidden
    same true q = rw (q, p q)
    same false q = rw q

    unmark : column_in count t.nets (cond s.found (put_at t.forbidden s.at 0) t.forbidden) m ≡ cond (eqb s.net m) 0 (column_in count t.nets t.forbidden m)
    unmark =
        rw f (ap (λ (xs : List ℕ). column_in count t.nets xs m) (same (has_entry count s.net t.nets) refl))
        ∙ column-if count t.nets s.net t.forbidden w.forbidden 0 m ∙ anyway (eqb s.net m) (ltb (place_in count m t.nets) (entries_held count)) refl
      where
        anyway : (b b' : Bool) → ltb (place_in count m t.nets) (entries_held count) ≡ b'
            → cond (b && b') 0 (column_in count t.nets t.forbidden m) ≡ cond b 0 (column_in count t.nets t.forbidden m)
        anyway true true q = refl
        anyway true false q = missed count t.nets m (ltb-false (place_in count m t.nets) (entries_held count) q) t.forbidden
        anyway false b' q = refl

    go : (b : Bool) → eqb s.net m ≡ b
        → cell_in count (unforbidden s t) m ≡ cell_after l (cond (eqb s.net m) history.accepted quiet) (cell_in count t m)
    go true q = rw q (cells refl refl (rw q at unmark) refl)
    go false q = rw q (cells refl refl (rw q at unmark) refl)
