-- What becomes of an area list keeps it valid: an area is put behind the others only where it was not found, one already listed keeps its area,
-- a full list drops its oldest, and those that stay were there before. Assumes nothing.
use Prim.Native.Nat.{ℕ, ◌+◌, ◌*◌, ◌/◌, ◌≤◌, ◌<◌}
use mathlib.Core.Path.{◌≡◌, refl, sym, ◌∙◌, ap}
use mathlib.Core.Bool.{Bool, true, false, cond}
use mathlib.Core.List.{List, [], ◌∷◌, ◌++◌}
use mathlib.Core.Logic.{◌≢◌}
use native.Mathlib.Omega.{arith}
use lib.Dec.{ltb, eqb}
use lib.ListN.{length, get_or, set, take, drop, replicate, length-drop, get_or-append}
use lib.Seq.{get_or-set_same, get_or-set_other, get_or-drop, get_or-append_seam}
use borrow.Author.Tests.{leb-true, le-leb, ltb-true, ltb-false, lt-ltb, eqb-true, eqb-false}
use Rattle.laws.specs.Upto.{seek_to}
use Rattle.areas.specs.declared.Task.{Task}
use Rattle.areas.specs.declared.Task.TheVariants as task
use Rattle.areas.specs.Areas.{kept, area_of, is_protected, same_area, areas_held, area_place, listed_in, marked, remarked, placed, placed_count, stayed, swept_list, list_after, count_after}
use Rattle.record.specs.Tests.{up_to, is_short}
use Rattle.ranges.specs.Valid.{is_item, halved}
use Rattle.validity.proofs.Bools.{most-is}
use Rattle.laws.proofs.Seek.{seek_found, seek-before}
use Rattle.laws.proofs.Arrays.{set_reads}
use Rattle.validity.proofs.Good.{Listing}
use Rattle.validity.proofs.Filter.{kept-le, kept-all, kept-once}

size_is : (n : ℕ) → up_to 40 n ≡ true → areas_held n ≡ n
unfolding areas_held
size_is n e = most-is 40 n e

-- an element is read back as its area
half-marked : (area protected : ℕ) → halved (marked area protected) ≡ area
half-marked area protected = elim (eqb protected 0) as (λ b. (area * 2 + cond b 0 1) / 2 ≡ area) [ true ↦ omega arith | false ↦ omega arith ]

half-remarked : (area protected x : ℕ) → halved x ≡ area → halved (remarked area protected x) ≡ area
half-remarked area protected x e = elim (eqb protected 0) as (λ b. cond b x (area * 2 + 1) / 2 ≡ area) [ true ↦ e | false ↦ omega arith ]

module _ (area : ℕ) (small : area < 281474976710656) where
  item-marked : (protected : ℕ) → is_item (marked area protected) ≡ true
  item-marked protected = elim (eqb protected 0) as (λ b. is_item (area * 2 + cond b 0 1) ≡ true) [
    | true ↦ lt-ltb (area * 2 + 0) 562949953421312 (omega arith)
    | false ↦ lt-ltb (area * 2 + 1) 562949953421312 (omega arith)
  ]

  item-remarked : (protected x : ℕ) → is_item x ≡ true → is_item (remarked area protected x) ≡ true
  item-remarked protected x e = elim (eqb protected 0) as (λ b. is_item (cond b x (area * 2 + 1)) ≡ true) [ true ↦ e | false ↦ lt-ltb (area * 2 + 1) 562949953421312 (omega arith) ]

module _ (n : ℕ) (xs : List ℕ) (len : length xs ≡ 40) (g : Listing n xs) where
  bound : n ≤ 40
  bound = leb-true n 40 g.count

  -- an element changed that keeps its area
  changed : (i v : ℕ) → i < n → halved v ≡ halved (get_or xs i 0) → is_item v ≡ true → Listing n (set xs i v)
  changed i v h e q = record {
    count = g.count;
    items = λ k l. set_reads xs i v k (λ x. is_item x ≡ true) (λ _. q) (λ _. refl) (λ _. g.items k l);
    once = λ a b l m w. g.once a b l m (sym (same a) ∙ w ∙ same b);
  }
    where
      same : (k : ℕ) → halved (get_or (set xs i v) k 0) ≡ halved (get_or xs k 0)
      same k = go (eqb k i) refl
        where
          go : (b : Bool) → eqb k i ≡ b → halved (get_or (set xs i v) k 0) ≡ halved (get_or xs k 0)
          go true w = rw (eqb-true k i w) (ap halved (get_or-set_same xs i v 0 (omega (arith, bound))) ∙ e)
          go false w = ap halved (get_or-set_other xs i k v 0 (eqb-false k i w))

  module _ (v : ℕ) (q : is_item v ≡ true) (f : (k : ℕ) → k < n → halved (get_or xs k 0) ≢ halved v) where
    -- one more behind the others
    added : n < 40 → Listing (n + 1) (set xs n v)
    added h = record {
      count = le-leb (n + 1) 40 (omega arith);
      items = λ k l. set_reads xs n v k (λ x. is_item x ≡ true) (λ _. q) (λ _. refl) (λ ne. g.items k (omega arith));
      once = λ i j l m. go i j l m (eqb j n) refl;
    }
      where
        go : (i j : ℕ) → i < j → j < n + 1 → (b : Bool) → eqb j n ≡ b → halved (get_or (set xs n v) i 0) ≡ halved (get_or (set xs n v) j 0) → ⊥
        go i j l m true w e =
            let w' : j ≡ n = eqb-true j n w in
            f i (omega arith) (ap halved (sym (get_or-set_other xs n i v 0 (omega arith))) ∙ e ∙ ap (λ (k : ℕ). halved (get_or (set xs n v) k 0)) w' ∙ ap halved (get_or-set_same xs n v 0 (omega arith)))
        go i j l m false w e =
            let ne : j ≢ n = eqb-false j n w in
            g.once i j l (omega arith) (ap halved (sym (get_or-set_other xs n i v 0 (omega arith))) ∙ e ∙ ap halved (get_or-set_other xs n j v 0 ne))

    -- one more, and the oldest gone
    shifted : 40 ≤ n → Listing n (drop 1 xs ++ (v ∷ []))
    shifted h = record {
      count = g.count;
      items = λ k l. go k l (ltb k 39) refl;
      once = λ i j l m. apart i j l m (ltb j 39) refl;
    }
      where
        rest : length (drop 1 xs) ≡ 39
        rest = let e = length-drop 1 xs in omega arith

        early : (k : ℕ) → k < 39 → get_or (drop 1 xs ++ (v ∷ [])) k 0 ≡ get_or xs (1 + k) 0
        early k l = get_or-append (drop 1 xs) (v ∷ []) 0 k (omega (arith, rest)) ∙ get_or-drop 1 xs k 0

        last : (k : ℕ) → k < n → 39 ≤ k → get_or (drop 1 xs ++ (v ∷ [])) k 0 ≡ v
        last k l m = let e : k ≡ length (drop 1 xs) = omega (arith, rest, bound) in rw e (get_or-append_seam (drop 1 xs) v [] 0)

        go : (k : ℕ) → k < n → (b : Bool) → ltb k 39 ≡ b → is_item (get_or (drop 1 xs ++ (v ∷ [])) k 0) ≡ true
        go k l true w = let s : k < 39 = ltb-true k 39 w in rw (early k s) (g.items (1 + k) (omega arith))
        go k l false w = rw (last k l (ltb-false k 39 w)) q

        apart : (i j : ℕ) → i < j → j < n → (b : Bool) → ltb j 39 ≡ b → halved (get_or (drop 1 xs ++ (v ∷ [])) i 0) ≡ halved (get_or (drop 1 xs ++ (v ∷ [])) j 0) → ⊥
        apart i j l m true w e =
            let s : j < 39 = ltb-true j 39 w in
            g.once (1 + i) (1 + j) (omega arith) (omega arith) (ap halved (sym (early i (omega arith))) ∙ e ∙ ap halved (early j s))
        apart i j l m false w e = f (1 + i) (omega (arith, bound)) (ap halved (sym (early i (omega (arith, bound)))) ∙ e ∙ ap halved (last j m (ltb-false j 39 w)))

  -- a reject puts an area there
  placed-listing : (area protected : ℕ) → area < 281474976710656 → Listing (placed_count area n xs) (placed area protected n xs)
  unfolding placed_count placed listed_in area_place
  placed-listing area protected small = rw (size_is n g.count) (go (ltb (seek_to (same_area area) n xs) n) refl)
    where
      at : ℕ
      at = seek_to (same_area area) n xs

      fresh : n ≤ at → (k : ℕ) → k < n → halved (get_or xs k 0) ≢ halved (marked area protected)
      fresh h k l e = eqb-false (halved (get_or xs k 0)) area (seek-before (same_area area) n xs k (omega arith)) (e ∙ half-marked area protected)

      full : (b : Bool) → ltb n 40 ≡ b → n ≤ at
          → Listing (cond (ltb n 40) (n + 1) n) (cond (ltb n 40) (set xs n (marked area protected)) (drop 1 xs ++ (marked area protected ∷ [])))
      full true w h = rw w (added (marked area protected) (item-marked area small protected) (fresh h) (ltb-true n 40 w))
      full false w h = rw w (shifted (marked area protected) (item-marked area small protected) (fresh h) (ltb-false n 40 w))

      go : (b : Bool) → ltb at n ≡ b
          → Listing (cond (ltb at n) n (cond (ltb n 40) (n + 1) n))
          (cond (ltb at n) (set xs at (remarked area protected (get_or xs at 0))) (cond (ltb n 40) (set xs n (marked area protected)) (drop 1 xs ++ (marked area protected ∷ []))))
      go true w =
          let h : at < n = ltb-true at n w in
          let e : halved (get_or xs at 0) ≡ area = eqb-true (halved (get_or xs at 0)) area (seek_found (same_area area) n xs h) in
          rw w (changed at (remarked area protected (get_or xs at 0)) h (half-remarked area protected (get_or xs at 0) e ∙ sym e) (item-remarked area small protected (get_or xs at 0) (g.items at h)))
      go false w = rw w (full (ltb n 40) refl (ltb-false at n w))

  -- T3247 out
  swept-listing : Listing (length (stayed n xs)) (swept_list n xs)
  unfolding stayed swept_list
  swept-listing = rw (size_is n g.count) (record {
    count = le-leb (length (kept is_protected (take n xs))) 40 (omega (arith, kept-le is_protected n xs, bound));
    items = kept-all is_protected is_item n xs (drop (length (kept is_protected (take n xs))) xs) (omega (arith, bound)) g.items;
    once = kept-once is_protected halved n xs (drop (length (kept is_protected (take n xs))) xs) (omega (arith, bound)) g.once;
  })

-- no area in use
none-listing : (xs : List ℕ) → Listing 0 xs
none-listing xs = record { count = refl; items = λ k h. absurd (omega arith); once = λ i j l h. absurd (omega arith) }

-- an area of three octets and three octets
area_small : (net code : ℕ) → is_short net ≡ true → is_short code ≡ true → area_of net code < 281474976710656
area_small net code p q = omega (arith, ltb-true net 16777216 p, ltb-true code 16777216 q)

-- an area that a task puts there is of three octets and three octets
abbrev pub Short : Task → Type 0
Short task.Nothing = Unit {0}
Short (task.Put net code protected) = (is_short net ≡ true) × (is_short code ≡ true)
Short task.Sweep = Unit {0}
Short task.Clear = Unit {0}

pub list-kept : (t : Task) (n : ℕ) (xs : List ℕ) → length xs ≡ 40 → Listing n xs → Short t → Listing (count_after t n xs) (list_after t n xs)
unfolding list_after count_after
list-kept task.Nothing n xs len g f = g
list-kept (task.Put net code protected) n xs len g f = placed-listing n xs len g (area_of net code) protected (area_small net code f.0 f.1)
list-kept task.Sweep n xs len g f = swept-listing n xs len g
list-kept task.Clear n xs len g f = none-listing (replicate 40 0)
