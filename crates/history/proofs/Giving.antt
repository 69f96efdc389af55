-- What is read of each network after a store at a network's place: its own, a free one, or one that another network gives up. Where it is given up the
-- networks stand once each and the newcomer had no entry: so it is found there, the other nowhere, and the rest where they were. Assumes nothing.
use Prim.Native.Nat.{ℕ, ◌+◌, ◌≤◌, ◌<◌}
use mathlib.Core.Path.{◌≡◌, refl, sym, ◌∙◌, ap}
use mathlib.Core.Bool.{Bool, true, false, cond, true≢false, ◌&&◌}
use mathlib.Core.List.{List}
use native.Mathlib.Omega.{arith}
use lib.Dec.{leb, ltb, eqb}
use lib.ListN.{length, get_or, set}
use lib.Seq.{get_or-set_same, get_or-set_other}
use borrow.Author.Tests.{le-leb, lt-leb, ltb-true, ltb-false, le-ltb, eqb-true, eqb-false, eq-eqb, ne_eqb}
use Rattle.laws.specs.Upto.{seek_to}
use Rattle.laws.proofs.Seek.{seek-le, seek_found, seek-before, seek_is}
use Rattle.entries.specs.Places.{same_net, entries_held, place_in, peek_at, put_at}
use Rattle.entries.specs.Entries.{clear_unless, grown}
use Rattle.history.specs.Cell.{column_in}
use Rattle.history.proofs.Columns.{size_fits, size_is, peek-in, peek-out, put_in, missed, touched, spared}

-- A store at the place that another network gives up: no entry is free, and no network stands twice.
module _ (count net : ℕ) (nets : List ℕ) (l : length nets ≡ 16) (full : 16 ≤ place_in count net nets) (at : ℕ) (inside : at < 16)
    (once : (i : ℕ) → i < 16 → (i ≡ at → ⊥) → get_or nets i 0 ≡ get_or nets at 0 → ⊥) where
  abbrev old : ℕ
  old = get_or nets at 0

  abbrev new : List ℕ
  new = set nets at net

  all_held : entries_held count ≡ 16
  unfolding place_in
  all_held = omega (arith, seek-le (same_net net) (entries_held count) nets, size_fits count)

  no-entry : (i : ℕ) → i < 16 → eqb (get_or nets i 0) net ≡ false
  unfolding place_in
  no-entry i h = seek-before (same_net net) (entries_held count) nets i (omega arith)

  here : get_or new at 0 ≡ net
  here = get_or-set_same nets at net 0 (omega arith)

  there : (i : ℕ) → (i ≡ at → ⊥) → get_or new i 0 ≡ get_or nets i 0
  there i d = get_or-set_other nets at i net 0 d

  -- where it is found then
  placed : (m : ℕ) → seek_to (same_net m) 16 new ≡ cond (eqb net m) at (cond (eqb old m) 16 (seek_to (same_net m) 16 nets))
  placed m = go (eqb net m) refl (eqb old m) refl
    where
      was : ℕ
      was = seek_to (same_net m) 16 nets

      -- elsewhere it is found as it was
      other : (i : ℕ) → eqb net m ≡ false → ((i ≡ at → ⊥) → eqb (get_or nets i 0) m ≡ false) → eqb (get_or new i 0) m ≡ false
      other i p f = by (eqb i at) refl
        where
          by : (b : Bool) → eqb i at ≡ b → eqb (get_or new i 0) m ≡ false
          by true q = rw (eqb-true i at q, here) p
          by false q = rw (there i (eqb-false i at q)) (f (eqb-false i at q))

      go : (b : Bool) → eqb net m ≡ b → (b' : Bool) → eqb old m ≡ b' → seek_to (same_net m) 16 new ≡ cond (eqb net m) at (cond (eqb old m) 16 was)
      go true p b' q =
          rw p (seek_is (same_net m) 16 new at (omega arith)
          (λ k h. rw (there k (λ e. omega arith), ← eqb-true net m p) (no-entry k (omega arith))) (λ h. rw (here, ← eqb-true net m p) (eq-eqb net net refl)))
      go false p true q =
          rw (p, q) (seek_is (same_net m) 16 new 16 (omega arith)
          (λ k h. other k p (λ d. rw (← eqb-true old m q) (ne_eqb (get_or nets k 0) old (once k h d)))) (λ h. absurd (omega arith)))
      go false p false q =
          rw (p, q) (seek_is (same_net m) 16 new was (seek-le (same_net m) 16 nets)
          (λ k h. other k p (λ d. seek-before (same_net m) 16 nets k h))
          (λ h. rw (there was (apart h)) (seek_found (same_net m) 16 nets h)))
        where
          apart : was < 16 → was ≡ at → ⊥
          apart h e = true≢false (sym (seek_found (same_net m) 16 nets h) ∙ ap (λ (i : ℕ). eqb (get_or nets i 0) m) e ∙ q)

  -- what is read of each network after it: of the one that gave it up nothing
  column-given : (xs : List ℕ) → length xs ≡ 16 → (v m : ℕ)
      → column_in count new (set xs at v) m ≡ cond (eqb net m) v (cond (eqb old m) 0 (column_in count nets xs m))
  unfolding place_in
  column-given xs k v m = rw (all_held, placed m) (go (eqb net m) refl (eqb old m) refl)
    where
      was : ℕ
      was = seek_to (same_net m) 16 nets

      go : (b : Bool) → eqb net m ≡ b → (b' : Bool) → eqb old m ≡ b'
          → peek_at (set xs at v) (cond (eqb net m) at (cond (eqb old m) 16 was)) 16 ≡ cond (eqb net m) v (cond (eqb old m) 0 (peek_at xs was 16))
      go true p b' q = rw p (peek-in (set xs at v) at 16 inside ∙ get_or-set_same xs at v 0 (omega arith))
      go false p true q = rw (p, q) (peek-out (set xs at v) 16 16 (omega arith))
      go false p false q = rw (p, q) (by (ltb was 16) refl)
        where
          by : (b : Bool) → ltb was 16 ≡ b → peek_at (set xs at v) was 16 ≡ peek_at xs was 16
          by true e =
              let h : was < 16 = ltb-true was 16 e in
              rw (peek-in (set xs at v) was 16 h, peek-in xs was 16 h)
              (get_or-set_other xs at was v 0 (λ d. true≢false (sym (seek_found (same_net m) 16 nets h) ∙ ap (λ (i : ℕ). eqb (get_or nets i 0) m) d ∙ q)))
          by false e =
              let h : 16 ≤ was = ltb-false was 16 e in
              rw (peek-out (set xs at v) was 16 h, peek-out xs was 16 h)

-- A network's place: its own or a free one, or the one that another gives up.
pub data Placed (count net : ℕ) (nets : List ℕ) (at : ℕ) : Type 0 where
  own : at ≡ place_in count net nets → at < 16 → Placed count net nets at
  given : 16 ≤ place_in count net nets → at < 16 → ((i : ℕ) → i < 16 → (i ≡ at → ⊥) → get_or nets i 0 ≡ get_or nets at 0 → ⊥) → Placed count net nets at

-- who gives it up
abbrev pub is_left : ℕ → ℕ → List ℕ → ℕ → ℕ → Bool
is_left count net nets at m = leb 16 (place_in count net nets) && eqb (get_or nets at 0) m

module _ (count net : ℕ) (nets : List ℕ) (l : length nets ≡ 16) (at : ℕ) where
  abbrev is_found : Bool
  is_found = ltb (place_in count net nets) (entries_held count)

  own-none : at ≡ place_in count net nets → at < 16 → (m : ℕ) → is_left count net nets at m ≡ false
  own-none e h m = rw (lt-leb 16 (place_in count net nets) (omega arith))

  -- the count that is full, and not found
  given-all : 16 ≤ place_in count net nets → (is_found ≡ false) × (grown is_found count ≡ count)
  unfolding place_in
  given-all f = (q, rw q (go (ltb count 16) refl))
    where
      q : is_found ≡ false
      q = le-ltb (place_in count net nets) (entries_held count) (omega (arith, size_fits count))

      go : (b : Bool) → ltb count 16 ≡ b → cond (ltb count 16) (count + 1) count ≡ count
      go true p = absurd (omega (arith, size_is count (ltb-true count 16 p), ltb-true count 16 p, seek-le (same_net net) (entries_held count) nets))
      go false p = rw p

  -- the newcomer had no entry, so it is another
  pub left_other : Placed count net nets at → (m : ℕ) → is_left count net nets at m ≡ true → eqb net m ≡ false
  left_other (own e h) m q = absurd (true≢false (sym q ∙ own-none e h m))
  left_other (given f h once) m q = ne_eqb net m (λ e. true≢false (sym (rw (le-leb 16 (place_in count net nets) f, ← e) at q) ∙ no-entry count net nets l f at h once at h))

  -- what is read of the network before
  pub read-own : Placed count net nets at → (xs : List ℕ) → cond is_found (get_or xs at 0) 0 ≡ column_in count nets xs net
  unfolding peek_at
  read-own (own e h) xs = rw e
  read-own (given f h once) xs = rw (given-all f).0

  pub written : Placed count net nets at → (xs : List ℕ) → length xs ≡ 16 → (v m : ℕ)
      → column_in (grown is_found count) (put_at nets at net) (put_at xs at v) m ≡ cond (eqb net m) v (cond (is_left count net nets at m) 0 (column_in count nets xs m))
  written (own e h) xs k v m = rw (own-none e h m) (rw e (touched count net nets l (rw e at h) xs k v m))
  written (given f h once) xs k v m =
      rw ((given-all f).1, put_in nets at net h, put_in xs at v h, le-leb 16 (place_in count net nets) f) (column-given count net nets l f at h once xs k v m)

  pub cleared : Placed count net nets at → (xs : List ℕ) → length xs ≡ 16 → (m : ℕ)
      → column_in (grown is_found count) (put_at nets at net) (clear_unless is_found xs at) m ≡ cond (is_left count net nets at m) 0 (column_in count nets xs m)
  unfolding clear_unless
  cleared (own e h) xs k m = rw (own-none e h m) (rw e (spared count net nets l (rw e at h) xs k m))
  cleared (given f h once) xs k m = rw (given-all f).0 (rw (given-all f).0 at (written (given f h once) xs k 0 m)) ∙ none (eqb net m) refl
    where
      none : (b : Bool) → eqb net m ≡ b → cond (eqb net m) 0 (cond (is_left count net nets at m) 0 (column_in count nets xs m)) ≡ cond (is_left count net nets at m) 0 (column_in count nets xs m)
      none true q = rw q (rw (← eqb-true net m q) (zero' (is_left count net nets at net) (missed count nets net (omega (arith, size_fits count)) xs)))
        where
          zero' : (b : Bool) → column_in count nets xs net ≡ 0 → 0 ≡ cond b 0 (column_in count nets xs net)
          zero' true z = refl
          zero' false z = sym z
      none false q = rw q
