-- A column read at a network's place, after a store at another or the same place: a place is the first that fits, so a store at the network's own place,
-- or at the first free one where it has none, changes what is read of it alone. Assumes nothing.
use Prim.Native.Nat.{ℕ, zero, suc, ◌+◌, ◌≤◌, ◌<◌}
use mathlib.Core.Path.{◌≡◌, refl, sym, ◌∙◌, ap}
use mathlib.Core.Bool.{Bool, true, false, cond, ◌&&◌, ◌||◌}
use mathlib.Core.List.{List}
use mathlib.Core.Logic.{◌≢◌}
use native.Mathlib.Omega.{arith}
use lib.Dec.{ltb, eqb}
use lib.ListN.{length, get_or, set}
use lib.Seq.{get_or-set_same, get_or-set_other, set-get_or}
use borrow.Author.Tests.{ltb-true, ltb-false, lt-ltb, le-ltb, eqb-true, eqb-false}
use Rattle.laws.specs.Upto.{upto, seek_to}
use Rattle.entries.specs.Places.{same_net, entries_held, place_in, has_entry, peek_at, put_at}
use Rattle.entries.specs.Entries.{clear_unless, grown}
use Rattle.entries.proofs.Joining.{has-joined}
use Rattle.record.specs.New.{zeros}
use Rattle.validity.proofs.Bools.{most-fits}
use Rattle.laws.proofs.Seek.{seek-le, seek_found, seek-before, seek_is}
use Rattle.laws.proofs.Arrays.{upto-reads}
use Rattle.history.specs.Cell.{column_in}

zero-at : (n k : ℕ) → get_or (zeros n) k 0 ≡ 0
zero-at zero k = refl
zero-at (suc n) zero = refl
zero-at (suc n) (suc k) = zero-at n k

pub size_fits : (count : ℕ) → entries_held count ≤ 16
unfolding entries_held
size_fits count = most-fits 16 count

pub size_is : (count : ℕ) → count < 16 → entries_held count ≡ count
unfolding entries_held
size_is count h = rw (lt-ltb count 16 h)

below : (count : ℕ) → entries_held count < 16 → count < 16
unfolding entries_held
below count h = go (ltb count 16) refl h
  where
    go : (b : Bool) → ltb count 16 ≡ b → cond (ltb count 16) count 16 < 16 → count < 16
    go true q j = ltb-true count 16 q
    go false q j = absurd (let g : 16 < 16 = rw q at j in omega arith)

pub peek-in : (xs : List ℕ) (at n : ℕ) → at < n → peek_at xs at n ≡ get_or xs at 0
unfolding peek_at
peek-in xs at n h = rw (lt-ltb at n h)

pub peek-out : (xs : List ℕ) (at n : ℕ) → n ≤ at → peek_at xs at n ≡ 0
unfolding peek_at
peek-out xs at n h = rw (le-ltb at n h)

pub put_in : (xs : List ℕ) (at v : ℕ) → at < 16 → put_at xs at v ≡ set xs at v
unfolding put_at
put_in xs at v h = rw (lt-ltb at 16 h)

module _ (count : ℕ) (nets : List ℕ) where
  -- a column of zeros, a column changed by the one beside it
  pub column-zero : (m : ℕ) → column_in count nets (zeros 16) m ≡ 0
  unfolding peek_at
  column-zero m = elim (ltb (place_in count m nets) (entries_held count)) as (λ b. cond b (get_or (zeros 16) (place_in count m nets) 0) 0 ≡ 0) [
    | true ↦ zero-at 16 (place_in count m nets)
    | false ↦ refl
  ]

  pub column-upto : (f : ℕ → ℕ → ℕ) → f 0 0 ≡ 0 → (xs ys : List ℕ) → length ys ≡ 16 → (m : ℕ)
      → column_in count nets (upto f (entries_held count) xs ys) m ≡ f (column_in count nets xs m) (column_in count nets ys m)
  column-upto f z xs ys l m = go (ltb at size) refl
    where
      at : ℕ
      at = place_in count m nets

      size : ℕ
      size = entries_held count

      go : (b : Bool) → ltb at size ≡ b → peek_at (upto f size xs ys) at size ≡ f (peek_at xs at size) (peek_at ys at size)
      go true q =
          let h : at < size = ltb-true at size q in
          rw (peek-in (upto f size xs ys) at size h, peek-in xs at size h, peek-in ys at size h) (upto-reads f size xs ys at (λ x. x ≡ f (get_or xs at 0) (get_or ys at 0)) h refl (λ g. absurd (omega (arith, size_fits count))))
      go false q =
          let h : size ≤ at = ltb-false at size q in
          rw (peek-out (upto f size xs ys) at size h, peek-out xs at size h, peek-out ys at size h) (sym z)

  found-net : (m : ℕ) → place_in count m nets < entries_held count → get_or nets (place_in count m nets) 0 ≡ m
  unfolding place_in
  found-net m h = eqb-true (get_or nets (seek_to (same_net m) (entries_held count) nets) 0) m (seek_found (same_net m) (entries_held count) nets h)

  -- a store at the place of a network that has an entry
  column-set : (net : ℕ) → place_in count net nets < entries_held count → (xs : List ℕ) → length xs ≡ 16 → (v m : ℕ)
      → column_in count nets (set xs (place_in count net nets) v) m ≡ cond (eqb net m) v (column_in count nets xs m)
  column-set net h xs l v m = go (eqb net m) refl (ltb here size) refl
    where
      at : ℕ
      at = place_in count net nets

      here : ℕ
      here = place_in count m nets

      size : ℕ
      size = entries_held count

      go : (b : Bool) → eqb net m ≡ b → (b' : Bool) → ltb here size ≡ b' → column_in count nets (set xs at v) m ≡ cond (eqb net m) v (column_in count nets xs m)
      go true q b' q' =
          rw (q, ← eqb-true net m q, peek-in (set xs at v) at size h) (get_or-set_same xs at v 0 (omega (arith, size_fits count)))
      go false q true q' =
          let g : here < size = ltb-true here size q' in
          rw (q, peek-in (set xs at v) here size g, peek-in xs here size g)
          (get_or-set_other xs at here v 0 (λ e. eqb-false net m q (sym (found-net net h) ∙ ap (λ (i : ℕ). get_or nets i 0) (sym e) ∙ found-net m g)))
      go false q false q' =
          let g : size ≤ here = ltb-false here size q' in
          rw (q, peek-out (set xs at v) here size g, peek-out xs here size g)

  -- the same, if the network has one
  pub column-if : (net : ℕ) (xs : List ℕ) → length xs ≡ 16 → (v m : ℕ)
      → column_in count nets (cond (has_entry count net nets) (put_at xs (place_in count net nets) v) xs) m ≡ cond (eqb net m && has_entry count m nets) v (column_in count nets xs m)
  unfolding has_entry
  column-if net xs l v m = go (eqb net m) refl (ltb at size) refl
    where
      at : ℕ
      at = place_in count net nets

      size : ℕ
      size = entries_held count

      go : (b : Bool) → eqb net m ≡ b → (b' : Bool) → ltb at size ≡ b'
          → column_in count nets (cond (ltb at size) (put_at xs at v) xs) m ≡ cond (eqb net m && ltb (place_in count m nets) size) v (column_in count nets xs m)
      go true q true q' =
          let h : at < size = ltb-true at size q' in
          rw (q', put_in xs at v (omega (arith, size_fits count))) (column-set net h xs l v m ∙ rw (q, ← eqb-true net m q, q'))
      go false q true q' =
          let h : at < size = ltb-true at size q' in
          rw (q', put_in xs at v (omega (arith, size_fits count))) (column-set net h xs l v m ∙ rw q)
      go true q false q' = rw (q, ← eqb-true net m q, q')
      go false q false q' = rw (q, q')

  -- a network that has none
  pub missed : (m : ℕ) → entries_held count ≤ place_in count m nets → (xs : List ℕ) → column_in count nets xs m ≡ 0
  missed m h xs = peek-out xs (place_in count m nets) (entries_held count) h

-- A store at the first free place, which a network without an entry takes.
module _ (count : ℕ) (nets : List ℕ) (l : length nets ≡ 16) (room : count < 16) (net : ℕ) where
  -- one entry more
  abbrev more : List ℕ
  more = set nets count net

  -- those before the new one are as they were
  kept : (k : ℕ) → k < count → get_or more k 0 ≡ get_or nets k 0
  kept k h = get_or-set_other nets count k net 0 (λ e. omega arith)

  added : get_or more count 0 ≡ net
  added = get_or-set_same nets count net 0 (omega arith)

  sized : entries_held (count + 1) ≡ suc count
  unfolding entries_held
  sized = go (ltb (count + 1) 16) refl
    where
      go : (b : Bool) → ltb (count + 1) 16 ≡ b → cond (ltb (count + 1) 16) (count + 1) 16 ≡ suc count
      go true q = rw q (omega arith)
      go false q = rw q (omega (arith, ltb-false (count + 1) 16 q))

  module _ (m : ℕ) where
    was : ℕ
    was = seek_to (same_net m) count nets

    old-false : (k : ℕ) → k < was → same_net m (get_or more k 0) ≡ false
    unfolding was
    old-false k h = rw (kept k (omega (arith, seek-le (same_net m) count nets))) (seek-before (same_net m) count nets k h)

    -- it is found where it was
    same_place : was < count → seek_to (same_net m) (suc count) more ≡ was
    unfolding was
    same_place h =
        seek_is (same_net m) (suc count) more was (omega arith) old-false
        (λ g. rw (kept was h) (seek_found (same_net m) count nets h))

    -- it is the new one
    new-place : count ≤ was → eqb net m ≡ true → seek_to (same_net m) (suc count) more ≡ count
    new-place h q = seek_is (same_net m) (suc count) more count (omega arith) (λ k g. old-false k (omega arith)) (λ g. rw added q)

    -- it is none of them
    no_place : count ≤ was → eqb net m ≡ false → seek_to (same_net m) (suc count) more ≡ suc count
    no_place h q = seek_is (same_net m) (suc count) more (suc count) (omega arith) none (λ g. absurd (omega arith))
      where
        none : (k : ℕ) → k < suc count → same_net m (get_or more k 0) ≡ false
        none k g = go (eqb k count) refl
          where
            go : (b : Bool) → eqb k count ≡ b → same_net m (get_or more k 0) ≡ false
            go true e = rw (eqb-true k count e, added) q
            go false e = old-false k (let d : k ≢ count = eqb-false k count e in omega arith)

  -- what is read of each network after it
  column-add : count ≤ place_in count net nets → (xs : List ℕ) → length xs ≡ 16 → (v m : ℕ)
      → column_in (count + 1) more (set xs count v) m ≡ cond (eqb net m) v (column_in count nets xs m)
  unfolding place_in was
  column-add free xs k v m = rw (sized, size_is count room) (go (eqb net m) refl (ltb (was m) count) refl)
    where
      none : eqb net m ≡ true → count ≤ was m
      none q = let e : net ≡ m = eqb-true net m q in rw (size_is count room, e) at free

      go : (b : Bool) → eqb net m ≡ b → (b' : Bool) → ltb (was m) count ≡ b'
          → peek_at (set xs count v) (seek_to (same_net m) (suc count) more) (suc count) ≡ cond (eqb net m) v (peek_at xs (was m) count)
      go true q b' q' =
          rw (q, new-place m (none q) q, peek-in (set xs count v) count (suc count) (omega arith)) (get_or-set_same xs count v 0 (omega arith))
      go false q true q' =
          let h : was m < count = ltb-true (was m) count q' in
          rw (q, same_place m h, peek-in (set xs count v) (was m) (suc count) (omega arith), peek-in xs (was m) count h) (get_or-set_other xs count (was m) v 0 (λ e. omega arith))
      go false q false q' =
          let h : count ≤ was m = ltb-false (was m) count q' in
          rw (q, no_place m h q, peek-out (set xs count v) (suc count) (suc count) (omega arith), peek-out xs (was m) count h)

-- A store at a network's place, found or new, as a ban or a bar makes it.
module _ (count net : ℕ) (nets : List ℕ) (l : length nets ≡ 16) (room : place_in count net nets < 16) where
  abbrev at : ℕ
  at = place_in count net nets

  abbrev found : Bool
  found = ltb at (entries_held count)

  -- the network's own column
  same-nets : at < entries_held count → set nets at net ≡ nets
  same-nets h = ap (λ (n : ℕ). set nets at n) (sym (found-net count nets net h)) ∙ set-get_or nets at 0

  free : entries_held count ≤ at → (count < 16) × (at ≡ count)
  unfolding place_in
  free h =
      let g : entries_held count < 16 = omega arith in
      let s : entries_held count ≡ count = size_is count (below count g) in
      (below count g, omega (arith, seek-le (same_net net) (entries_held count) nets))

  -- the column that is written
  pub touched : (xs : List ℕ) → length xs ≡ 16 → (v m : ℕ)
      → column_in (grown found count) (put_at nets at net) (put_at xs at v) m ≡ cond (eqb net m) v (column_in count nets xs m)
  touched xs k v m = rw (put_in nets at net room, put_in xs at v room) (go (ltb at (entries_held count)) refl)
    where
      go : (b : Bool) → ltb at (entries_held count) ≡ b
          → column_in (grown found count) (set nets at net) (set xs at v) m ≡ cond (eqb net m) v (column_in count nets xs m)
      go true q =
          let h : at < entries_held count = ltb-true at (entries_held count) q in
          rw (q, same-nets h) (column-set count nets net h xs k v m)
      go false q =
          let h : entries_held count ≤ at = ltb-false at (entries_held count) q in
          let f : (count < 16) × (at ≡ count) = free h in
          rw (q, lt-ltb count 16 f.0, f.1) (column-add count nets l f.0 net (omega arith) xs k v m)

  -- the other columns, which a new entry has at zero
  pub spared : (xs : List ℕ) → length xs ≡ 16 → (m : ℕ)
      → column_in (grown found count) (put_at nets at net) (clear_unless found xs at) m ≡ column_in count nets xs m
  unfolding clear_unless
  spared xs k m = go (ltb at (entries_held count)) refl
    where
      go : (b : Bool) → ltb at (entries_held count) ≡ b → column_in (grown found count) (put_at nets at net) (cond found xs (put_at xs at 0)) m ≡ column_in count nets xs m
      go true q = rw (q, put_in nets at net room, same-nets (ltb-true at (entries_held count) q))
      go false q = rw q (rw q at (touched xs k 0 m)) ∙ zero' (eqb net m) refl
        where
          zero' : (b : Bool) → eqb net m ≡ b → cond (eqb net m) 0 (column_in count nets xs m) ≡ column_in count nets xs m
          zero' true e = rw e (rw (eqb-true net m e) at (sym (missed count nets net (ltb-false at (entries_held count) q) xs)))
          zero' false e = rw e

-- the networks that have an entry after it: one more
either_is : (a b : Bool) → cond a true b ≡ (a || b)
either_is true b = refl
either_is false b = refl

pub held_after : (count net : ℕ) (nets : List ℕ) → length nets ≡ 16 → place_in count net nets < 16 → (m : ℕ)
    → has_entry (grown (has_entry count net nets) count) m (put_at nets (place_in count net nets) net) ≡ (eqb net m || has_entry count m nets)
held_after count net nets l room m = has-joined count net nets l room m ∙ either_is (eqb net m) (has_entry count m nets)
