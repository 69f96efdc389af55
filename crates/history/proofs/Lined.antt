-- The entries in use are the networks of a list, in its order: so who has an entry is read off the list, and one entry more, or one in another's place, is one
-- network more, or one in another's place. Assumes nothing.
use Prim.Native.Nat.{ℕ, zero, suc, ◌+◌, ◌≤◌, ◌<◌}
use mathlib.Core.Path.{◌≡◌, refl, sym, ◌∙◌, ap}
use mathlib.Core.Bool.{Bool, true, false, cond, true≢false, ◌||◌}
use mathlib.Core.List.{List, [], ◌∷◌, ◌++◌}
use native.Mathlib.Omega.{arith}
use lib.Dec.{ltb, eqb}
use lib.ListN.{length, get_or, set, length-append, get_or-append}
use lib.Seq.{get_or-set_same, get_or-set_other, get_or-append_seam}
use borrow.Author.Tests.{ltb-false, lt-ltb, eqb-true, eqb-false, eq-eqb, ne_eqb}
use Rattle.laws.specs.Upto.{seek_to}
use Rattle.laws.proofs.Seek.{seek-le, seek_found, seek-before, seek_is, ltb-suc}
use Rattle.entries.specs.Places.{same_net, entries_held, place_in, has_entry, put_at}
use Rattle.history.specs.Cell.{Lined}
use Rattle.history.specs.Tale.{is_one_of, swapped}

pub held_whole : (n : ℕ) → n ≤ 16 → entries_held n ≡ n
unfolding entries_held
held_whole n h = go (ltb n 16) refl
  where
    go : (b : Bool) → ltb n 16 ≡ b → cond (ltb n 16) n 16 ≡ n
    go true q = rw q
    go false q = rw q (omega (arith, ltb-false n 16 q))

-- a search goes by the elements that it looks at
seek-same : (p : ℕ → Bool) (n : ℕ) (xs ys : List ℕ) → ((i : ℕ) → i < n → get_or xs i 0 ≡ get_or ys i 0) → seek_to p n xs ≡ seek_to p n ys
seek-same p n xs ys e =
    seek_is p n xs (seek_to p n ys) (seek-le p n ys) (λ k h. rw (e k (omega (arith, seek-le p n ys))) (seek-before p n ys k h)) (λ h. rw (e (seek_to p n ys) h) (seek_found p n ys h))

one_of : (m : ℕ) (ms : List ℕ) → ltb (seek_to (same_net m) (length ms) ms) (length ms) ≡ is_one_of m ms
unfolding seek_to is_one_of
one_of m [] = refl
one_of m (x ∷ ms) = go (eqb x m) (one_of m ms)
  where
    go : (b : Bool) → ltb (seek_to (same_net m) (length ms) ms) (length ms) ≡ is_one_of m ms
        → ltb (cond b 0 (suc (seek_to (same_net m) (length ms) ms))) (suc (length ms)) ≡ (b || is_one_of m ms)
    go true ih = lt-ltb 0 (suc (length ms)) (omega arith)
    go false ih = ltb-suc (seek_to (same_net m) (length ms) ms) (length ms) ∙ ih

pub lined-has : {count : ℕ} {nets held : List ℕ} → count ≤ 16 → Lined count nets held → (m : ℕ) → has_entry count m nets ≡ is_one_of m held
unfolding has_entry place_in
lined-has {count} {nets} {held} h l m =
    rw (held_whole count h, seek-same (same_net m) count nets held l.same, ← l.many) (one_of m held)

-- whoever stands there has an entry
pub used-has : (n : ℕ) (nets : List ℕ) → n ≤ 16 → (i : ℕ) → i < n → has_entry n (get_or nets i 0) nets ≡ true
unfolding has_entry place_in
used-has n nets few i h = rw (held_whole n few) (go (ltb (seek_to (same_net (get_or nets i 0)) n nets) n) refl)
  where
    go : (b : Bool) → ltb (seek_to (same_net (get_or nets i 0)) n nets) n ≡ b → ltb (seek_to (same_net (get_or nets i 0)) n nets) n ≡ true
    go true q = q
    go false q =
        let p : n ≤ seek_to (same_net (get_or nets i 0)) n nets = ltb-false (seek_to (same_net (get_or nets i 0)) n nets) n q in
        absurd (true≢false (sym (eq-eqb (get_or nets i 0) (get_or nets i 0) refl) ∙ seek-before (same_net (get_or nets i 0)) n nets i (omega arith)))

pub lined-none : (nets : List ℕ) → Lined 0 nets []
lined-none nets = record { many = refl; same = λ i h. absurd (omega arith) }

-- the networks elsewhere stay
pub lined-more : (count : ℕ) (nets held : List ℕ) (n : ℕ) → length nets ≡ 16 → count < 16 → Lined count nets held → Lined (count + 1) (put_at nets count n) (held ++ n ∷ [])
unfolding put_at
lined-more count nets held n w h l = rw (lt-ltb count 16 h) (record {
  many = length-append held (n ∷ []) ∙ rw l.many (omega arith);
  same = λ i k. go i k (eqb i count) refl;
})
  where
    go : (i : ℕ) → i < count + 1 → (b : Bool) → eqb i count ≡ b → get_or (set nets count n) i 0 ≡ get_or (held ++ n ∷ []) i 0
    go i k true q = rw (eqb-true i count q) (get_or-set_same nets count n 0 (omega arith) ∙ sym (rw l.many at (get_or-append_seam held n [] 0)))
    go i k false q =
        let d : i ≡ count → ⊥ = eqb-false i count q in
        get_or-set_other nets count i n 0 d ∙ l.same i (omega arith) ∙ sym (get_or-append held (n ∷ []) 0 i (rw l.many (omega arith)))

swap-long : (v n : ℕ) (ms : List ℕ) → length (swapped v n ms) ≡ length ms
unfolding swapped
swap-long v n [] = refl
swap-long v n (m ∷ ms) = ap suc (swap-long v n ms)

swap_at : (v n : ℕ) (ms : List ℕ) (i : ℕ) → i < length ms → get_or (swapped v n ms) i 0 ≡ cond (eqb (get_or ms i 0) v) n (get_or ms i 0)
unfolding swapped
swap_at v n [] i h = absurd (omega arith)
swap_at v n (m ∷ ms) zero h = refl
swap_at v n (m ∷ ms) (suc i) h = swap_at v n ms i (omega arith)

pub lined-swap : (count : ℕ) (nets held : List ℕ) (n p : ℕ) → length nets ≡ 16 → p < 16 → p < count → ((i : ℕ) → i < count → (i ≡ p → ⊥) → get_or nets i 0 ≡ get_or nets p 0 → ⊥) → Lined count nets held
    → Lined count (put_at nets p n) (swapped (get_or nets p 0) n held)
unfolding put_at
lined-swap count nets held n p w h inside apart l = rw (lt-ltb p 16 h) (record {
  many = swap-long (get_or nets p 0) n held ∙ l.many;
  same = λ i k. go i k (eqb i p) refl;
})
  where
    there : (i : ℕ) → i < count → get_or (swapped (get_or nets p 0) n held) i 0 ≡ cond (eqb (get_or nets i 0) (get_or nets p 0)) n (get_or nets i 0)
    there i k = swap_at (get_or nets p 0) n held i (rw l.many k) ∙ rw (← (l.same i k))

    go : (i : ℕ) → i < count → (b : Bool) → eqb i p ≡ b → get_or (set nets p n) i 0 ≡ get_or (swapped (get_or nets p 0) n held) i 0
    go i k true q = rw (eqb-true i p q) (get_or-set_same nets p n 0 (omega arith) ∙ sym (there p inside ∙ rw (eq-eqb (get_or nets p 0) (get_or nets p 0) refl)))
    go i k false q =
        let d : i ≡ p → ⊥ = eqb-false i p q in
        get_or-set_other nets p i n 0 d ∙ sym (there i k ∙ rw (ne_eqb (get_or nets i 0) (get_or nets p 0) (apart i k d)))
