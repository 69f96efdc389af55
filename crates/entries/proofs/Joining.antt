-- A network written down at its place, found or new, has an entry from then on, and nobody else's changes; so the networks of a list get one entry each
-- for those that are new. Assumes nothing.
use Prim.Native.Nat.{ℕ, suc, ◌+◌, ◌≤◌, ◌<◌}
use mathlib.Core.Path.{◌≡◌, refl, sym, ◌∙◌, ap}
use mathlib.Core.Bool.{Bool, true, false, cond}
use mathlib.Core.List.{List, ◌∷◌}
use native.Mathlib.Numerals.{add-one}
use native.Mathlib.Omega.{arith}
use lib.Dec.{ltb, leb, eqb}
use lib.ListN.{length, get_or, set}
use lib.Seq.{set-get_or}
use borrow.Author.Tests.{ltb-true, ltb-false, lt-ltb, leb-false, lt-leb, eqb-true}
use Rattle.laws.specs.Upto.{seek_to}
use Rattle.laws.proofs.Seek.{seek-le, seek_found, seek-added}
use Rattle.entries.specs.declared.Entries.{Entries}
use Rattle.entries.specs.Places.{same_net, entries_held, place_in, has_entry, put_at}
use Rattle.entries.specs.Entries.{grown, imported, new_in}
use Rattle.entries.proofs.Counting.{new-same}

pub held_fits : (n : ℕ) → entries_held n ≤ 16
unfolding entries_held
held_fits n = elim (ltb n 16) as (λ b. ltb n 16 ≡ b → cond b n 16 ≤ 16) [ true ↦ λ q. omega (arith, ltb-true n 16 q) | false ↦ λ q. omega arith ] refl

-- below sixteen a count is itself
held-is : (n : ℕ) → entries_held n < 16 → (n < 16) × (entries_held n ≡ n)
unfolding entries_held
held-is n = elim (ltb n 16) as (λ b. ltb n 16 ≡ b → cond b n 16 < 16 → (n < 16) × (cond b n 16 ≡ n)) [
  | true ↦ λ q h. (ltb-true n 16 q, refl)
  | false ↦ λ q h. absurd (omega arith)
] refl

held_more : (n : ℕ) → n < 16 → entries_held (n + 1) ≡ n + 1
unfolding entries_held
held_more n h = elim (ltb (n + 1) 16) as (λ b. ltb (n + 1) 16 ≡ b → cond b (n + 1) 16 ≡ n + 1) [ true ↦ λ q. refl | false ↦ λ q. omega (arith, ltb-false (n + 1) 16 q) ] refl

module _ (n net : ℕ) (nets : List ℕ) (l : length nets ≡ 16) (room : place_in n net nets < 16) (m : ℕ) where
  abbrev at : ℕ
  at = place_in n net nets

  pub has-joined : has_entry (grown (has_entry n net nets) n) m (put_at nets at net) ≡ cond (eqb net m) true (has_entry n m nets)
  unfolding has_entry place_in put_at
  has-joined = rw (lt-ltb at 16 room) (go (ltb at (entries_held n)) refl)
    where
      -- it was there
      here : at < entries_held n → set nets at net ≡ nets
      here h = ap (λ (x : ℕ). set nets at x) (sym (eqb-true (get_or nets at 0) net (seek_found (same_net net) (entries_held n) nets h))) ∙ set-get_or nets at 0

      known : (b : Bool) → eqb net m ≡ b → ltb at (entries_held n) ≡ true → has_entry n m nets ≡ cond b true (has_entry n m nets)
      known true q h = rw (← eqb-true net m q) h
      known false q h = refl

      swap : (a b : Bool) → cond a true b ≡ cond b true a
      swap true true = refl
      swap true false = refl
      swap false true = refl
      swap false false = refl

      go : (b : Bool) → ltb at (entries_held n) ≡ b
          → has_entry (grown (ltb at (entries_held n)) n) m (set nets at net) ≡ cond (eqb net m) true (has_entry n m nets)
      go true q = rw (q, here (ltb-true at (entries_held n) q)) (known (eqb net m) refl q)
      go false q =
          let p : at ≡ entries_held n = omega (arith, ltb-false at (entries_held n) q, seek-le (same_net net) (entries_held n) nets) in
          let f : (n < 16) × (entries_held n ≡ n) = held-is n (omega arith) in
          rw (q, p, f.1, lt-ltb n 16 f.0, held_more n f.0, add-one, seek-added (same_net m) net n nets (omega (arith, f.0))) (swap (ltb (seek_to (same_net m) n nets) n) (eqb net m))

-- an import's networks one after the other, where all find an entry
module _ (net : ℕ) (rest : List ℕ) (n : ℕ) (t : Entries) (l : length t.nets ≡ 16) (fits : n + length (new_in (λ m. has_entry n m t.nets) (net ∷ rest)) ≤ 16) where
  abbrev found : Bool
  found = has_entry n net t.nets

  -- where it has none there is a free one
  pub new-free : found ≡ false → leb 16 n ≡ false
  unfolding new_in
  new-free q = let h : n + length (cond found (new_in (λ m. has_entry n m t.nets) rest) (net ∷ new_in (λ m. cond (eqb net m) true (has_entry n m t.nets)) rest)) ≤ 16 = fits in
      let g : n + suc (length (new_in (λ m. cond (eqb net m) true (has_entry n m t.nets)) rest)) ≤ 16 = rw q at h in lt-leb 16 n (omega arith)

  pub new-room : place_in n net t.nets < 16
  unfolding has_entry place_in entries_held
  new-room = go found refl
    where
      go : (b : Bool) → found ≡ b → seek_to (same_net net) (entries_held n) t.nets < 16
      go true q = omega (arith, ltb-true (seek_to (same_net net) (entries_held n) t.nets) (entries_held n) q, held_fits n)
      go false q =
          let h : n < 16 = leb-false 16 n (new-free q) in
          let e : entries_held n ≡ n = rw (lt-ltb n 16 h) in
          omega (arith, seek-le (same_net net) (entries_held n) t.nets)

  -- who has an entry after it
  abbrev after : ℕ → Bool
  after m = has_entry (grown found n) m (imported net n t).nets

  joined : (m : ℕ) → cond (eqb net m) true (has_entry n m t.nets) ≡ after m
  unfolding imported
  joined m = sym (has-joined n net t.nets l new-room m)

  pub new-step : n + length (new_in (λ m. has_entry n m t.nets) (net ∷ rest)) ≡ grown found n + length (new_in after rest)
  unfolding new_in
  new-step = go found refl
    where
      known : found ≡ true → (m : ℕ) → has_entry n m t.nets ≡ after m
      known q m = same (eqb net m) refl ∙ joined m
        where
          same : (b : Bool) → eqb net m ≡ b → has_entry n m t.nets ≡ cond (eqb net m) true (has_entry n m t.nets)
          same true e = rw (e, ← eqb-true net m e) q
          same false e = rw e

      go : (b : Bool) → found ≡ b
          → n + length (cond found (new_in (λ m. has_entry n m t.nets) rest) (net ∷ new_in (λ m. cond (eqb net m) true (has_entry n m t.nets)) rest)) ≡ grown found n + length (new_in after rest)
      go true q = rw (new-same (λ m. has_entry n m t.nets) after (known q) rest, q)
      go false q =
          let h : n < 16 = leb-false 16 n (new-free q) in
          rw (new-same (λ m. cond (eqb net m) true (has_entry n m t.nets)) after joined rest, q, lt-ltb n 16 h) (omega arith)
