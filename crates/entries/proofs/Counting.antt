-- Counting an import's networks: one that is passed by changes nothing, one that is not is known from then on and is one more. Assumes nothing.
use Prim.Native.Nat.{ℕ, suc, ◌+◌, ◌≤◌, ◌<◌}
use mathlib.Core.Path.{◌≡◌, refl, sym, ◌∙◌, ap}
use mathlib.Core.Bool.{Bool, true, false, cond}
use mathlib.Core.List.{List, [], ◌∷◌, ◌++◌}
use native.Mathlib.Nat.{add-zero}
use native.Mathlib.Numerals.{add-one}
use native.Mathlib.Omega.{arith}
use lib.Dec.{ltb, eqb}
use lib.ListN.{length, set, length-set}
use borrow.Author.Tests.{lt-ltb, le-ltb}
use Rattle.laws.specs.Bounds.{at_most}
use Rattle.laws.specs.Upto.{seek_to}
use Rattle.laws.proofs.Seek.{seek-added}
use Rattle.networks.specs.Networks.{unused, network_at, used_by, networks_in}
use Rattle.entries.specs.Places.{same_net, entries_held, place_in, has_entry, put_at}
use Rattle.entries.specs.Entries.{new_in, held_with}
use Rattle.entries.specs.Counting.{known_to, known_both, is_passed}
use Rattle.entries.proofs.Chunks.{chunk-next, chunk-over}

-- it goes by who is known, however that is said
pub new-same : (f g : ℕ → Bool) → ((m : ℕ) → f m ≡ g m) → (xs : List ℕ) → new_in f xs ≡ new_in g xs
unfolding new_in
new-same f g e [] = refl
new-same f g e (x ∷ xs) = rw (e x) (go (g x) (new-same f g e xs) (new-same (λ m. cond (eqb x m) true (f m)) (λ m. cond (eqb x m) true (g m)) (λ m. ap (cond (eqb x m) true) (e m)) xs))
  where
    go : (b : Bool) → new_in f xs ≡ new_in g xs → new_in (λ m. cond (eqb x m) true (f m)) xs ≡ new_in (λ m. cond (eqb x m) true (g m)) xs
        → cond b (new_in f xs) (x ∷ new_in (λ m. cond (eqb x m) true (f m)) xs) ≡ cond b (new_in g xs) (x ∷ new_in (λ m. cond (eqb x m) true (g m)) xs)
    go true p q = p
    go false p q = ap (λ (r : List ℕ). x ∷ r) q

-- the networks with an entry are the first n of these
module _ (n : ℕ) (nets : List ℕ) where
  module _ (net k : ℕ) (new : List ℕ) (h : n + k ≤ 16) (l : length new ≡ 16) where
    -- how many are new with it, and which
    abbrev k' : ℕ
    k' = cond (is_passed net n nets k new) k (k + 1)

    abbrev new' : List ℕ
    new' = cond (is_passed net n nets k new) new (put_at new k net)

    joined_length : length new' ≡ 16
    unfolding put_at
    joined_length = elim (is_passed net n nets k new) as (λ b. length (cond b new (cond (ltb k 16) (set new k net) new)) ≡ 16) [
      | true ↦ l
      | false ↦ elim (ltb k 16) as (λ b. length (cond b (set new k net) new) ≡ 16) [ true ↦ length-set new k net ∙ l | false ↦ l ]
    ]

    -- one more is known: those that were, and the new one
    known-added : k < 16 → (m : ℕ) → cond (eqb net m) true (known_both n nets k new m) ≡ known_both n nets (k + 1) (put_at new k net) m
    unfolding put_at
    known-added g m = rw (lt-ltb k 16 g, add-one, seek-added (same_net m) net k new (omega arith)) (last (eqb net m) (known_to n nets m) (known_to k new m))
      where
        last : (a b c : Bool) → cond a true (cond b true c) ≡ cond b true (cond c true a)
        last true true c = refl
        last true false true = refl
        last true false false = refl
        last false true c = refl
        last false false true = refl
        last false false false = refl

    -- what is counted of a network and those behind it
    joined : (rest : List ℕ) → n + k' ≤ 16 → n + k + length (new_in (known_both n nets k new) (used_by net rest)) ≡ n + k' + length (new_in (known_both n nets k' new') rest)
    unfolding new_in
    joined rest f = go (eqb net unused) refl (known_both n nets k new net) refl f
      where
        go : (b : Bool) → eqb net unused ≡ b → (b' : Bool) → known_both n nets k new net ≡ b' → n + k' ≤ 16
            → n + k + length (new_in (known_both n nets k new) (used_by net rest)) ≡ n + k' + length (new_in (known_both n nets k' new') rest)
        go true q b' q' j = rw q
        go false q true q' j = rw (q, q')
        go false q false q' j =
            let g : n + (k + 1) ≤ 16 = rw (q, q') at j in
            rw (q, q') (ap (λ (xs : List ℕ). n + k + suc (length xs)) (new-same (λ m. cond (eqb net m) true (known_both n nets k new m)) (known_both n nets (k + 1) (put_at new k net)) (known-added (omega arith)) rest) ∙ omega arith)

    -- a seventeenth
    full : (rest : List ℕ) → 16 < n + k' → 17 ≡ at_most 17 (n + k + length (new_in (known_both n nets k new) (used_by net rest)))
    unfolding new_in
    full rest f = go (eqb net unused) refl (known_both n nets k new net) refl f
      where
        go : (b : Bool) → eqb net unused ≡ b → (b' : Bool) → known_both n nets k new net ≡ b' → 16 < n + k'
            → 17 ≡ at_most 17 (n + k + length (new_in (known_both n nets k new) (used_by net rest)))
        go true q b' q' j = let g : 16 < n + k = rw q at j in absurd (omega arith)
        go false q true q' j = let g : 16 < n + k = rw (q, q') at j in absurd (omega arith)
        go false q false q' j =
            let g : 16 < n + (k + 1) = rw (q, q') at j in
            rw (q, q') (rw (le-ltb (n + k + suc (length (new_in (λ m. cond (eqb net m) true (known_both n nets k new m)) rest))) 17 (omega arith)))

-- none are left
counted : (n : ℕ) (known : ℕ → Bool) → n ≤ 16 → n ≡ at_most 17 (n + length (new_in known []))
unfolding new_in
counted n known h = let e : n + 0 ≡ n = omega arith in rw (e, lt-ltb n 17 (omega arith))

-- how far a count has come: k are new so far, and those of what is left are still to be counted
module _ (count : ℕ) (file nets : List ℕ) (n : ℕ) where
  abbrev pub Counting : List ℕ → ℕ → List ℕ → Type 0
  Counting new k s =
      (n + k ≤ 16) × (length new ≡ 16) × (held_with count file nets ≡ at_most 17 (n + k + length (new_in (known_both n nets k new) (networks_in s))))

  pub count-first : (new : List ℕ) → length new ≡ 16 → n ≡ entries_held count → n ≤ 16 → Counting new 0 file
  unfolding held_with has_entry place_in seek_to
  count-first new l e h = (
    omega arith,
    l,
    rw (← e, add-zero n) (ap (λ (xs : List ℕ). at_most 17 (n + length xs)) (new-same (known_to n nets) (known_both n nets 0 new) (λ m. none (known_to n nets m)) (networks_in file))),
  )
    where
      none : (b : Bool) → b ≡ cond b true false
      none true = refl
      none false = refl

  module _ (new : List ℕ) (k : ℕ) (s : List ℕ) (c : Counting new k s) (x rest : List ℕ) (split : s ≡ x ++ rest) (three : length x ≡ 3) (net : ℕ) (q : net ≡ network_at x 0) (next : ℕ) (e : next ≡ cond (is_passed net n nets k new) k (k + 1)) where
    still : held_with count file nets ≡ at_most 17 (n + k + length (new_in (known_both n nets k new) (used_by net (networks_in rest))))
    still = c.2 ∙ ap (λ (xs : List ℕ). at_most 17 (n + k + length (new_in (known_both n nets k new) xs))) (chunk-next s x rest split three ∙ ap (λ (m : ℕ). used_by m (networks_in rest)) (sym q))

    pub count_next : (more : List ℕ) → more ≡ cond (is_passed net n nets k new) new (put_at new k net) → n + next ≤ 16 → Counting more next rest
    count_next more f g =
        rw (e, f) (rw e at g, joined_length n nets net k new c.0 c.1, still ∙ ap (at_most 17) (joined n nets net k new c.0 c.1 (networks_in rest) (rw e at g)))

    pub count-full : 16 < n + next → 17 ≡ held_with count file nets
    count-full g = full n nets net k new c.0 c.1 (networks_in rest) (rw e at g) ∙ sym still

  pub count-over : (new : List ℕ) (k : ℕ) (s : List ℕ) → Counting new k s → length s < 3 → n + k ≡ held_with count file nets
  count-over new k s c h =
      counted (n + k) (known_both n nets k new) c.0 ∙ sym (c.2 ∙ ap (λ (xs : List ℕ). at_most 17 (n + k + length (new_in (known_both n nets k new) xs))) (chunk-over s h))
