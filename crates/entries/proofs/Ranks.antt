-- The order of the last marking. The entry that is marked gets the highest rank and those above it fall by one, so each rank stays below their number and
-- none stands twice. By the same step ranks follow ages: of two entries the later one has the lower rank exactly if its age is greater, and the one just
-- marked has age 0. The entry that gives up its place is found by keeping the best so far. Assumes nothing.
use Prim.Native.Nat.{ℕ, zero, suc, ◌+◌, ◌-◌, ◌≤◌, ◌<◌}
use mathlib.Core.Path.{◌≡◌, refl, sym, ◌∙◌, ap}
use mathlib.Core.Bool.{Bool, true, false, cond, true≢false}
use mathlib.Core.List.{List}
use native.Mathlib.Omega.{arith}
use lib.Dec.{ltb, eqb}
use lib.ListN.{length, get_or, set, length-set}
use lib.Seq.{get_or-set_same, get_or-set_other}
use borrow.Author.Tests.{ltb-true, ltb-false, lt-ltb, le-ltb, eqb-true, eqb-false}
use Rattle.laws.specs.Upto.{upto}
use Rattle.laws.proofs.Arrays.{upto-reads, upto-length}
use Rattle.entries.specs.Places.{put_at}
use Rattle.entries.specs.Order.{fallen, last_at, last_to, rank_at, has_neither, leaver_to}

-- each rank below the number of entries, and none twice
pub record Order (n : ℕ) (ranks : List ℕ) : Type 0 where
  pub low : (i : ℕ) → i < n → get_or ranks i 0 < n
  pub apart : (i j : ℕ) → i < j → j < n → get_or ranks i 0 ≡ get_or ranks j 0 → ⊥

-- of two places the later one has the lower rank exactly if its key is greater
abbrev pub Follows : ℕ → (ℕ → ℕ) → List ℕ → Type 0
Follows n key ranks = (i j : ℕ) → i < j → j < n → ltb (get_or ranks j 0) (get_or ranks i 0) ≡ ltb (key i) (key j)

-- the same places by other keys
follows_by : {n : ℕ} {a b : ℕ → ℕ} (ranks : List ℕ) → Follows n a ranks → ((i : ℕ) → i < n → b i ≡ a i) → Follows n b ranks
follows_by ranks f e i j h k = f i j h k ∙ rw (e i (omega arith), e j k)

ltb-alike : (a b c d : ℕ) → (a < b → c < d) → (c < d → a < b) → ltb a b ≡ ltb c d
ltb-alike a b c d f g = go (ltb c d) refl
  where
    go : (x : Bool) → ltb c d ≡ x → ltb a b ≡ ltb c d
    go true q = lt-ltb a b (g (ltb-true c d q)) ∙ sym q
    go false q = le-ltb a b (not (ltb a b) refl) ∙ sym q
      where
        not : (y : Bool) → ltb a b ≡ y → b ≤ a
        not true p = let h : c < d = f (ltb-true a b p) in absurd (omega (arith, ltb-false c d q))
        not false p = ltb-false a b p

data Spot (i p : ℕ) : Type 0 where
  there : i ≡ p → Spot i p
  off : (i ≡ p → ⊥) → Spot i p

spot : (i p : ℕ) → Spot i p
spot i p = go (eqb i p) refl
  where
    go : (b : Bool) → eqb i p ≡ b → Spot i p
    go true q = there (eqb-true i p q)
    go false q = off (eqb-false i p q)

-- a rank that is not the one that goes to the end
data Fell (r k : ℕ) : Type 0 where
  above : r < k → fallen r k ≡ k - 1 → Fell r k
  below : k < r → fallen r k ≡ k → Fell r k

fell : (r k : ℕ) → (k ≡ r → ⊥) → Fell r k
unfolding fallen
fell r k d = go (ltb r k) refl
  where
    go : (b : Bool) → ltb r k ≡ b → Fell r k
    go true q = above (ltb-true r k q) (rw q)
    go false q = below (omega (arith, ltb-false r k q, d)) (rw q)

fallen-low : (n r k : ℕ) → (k ≡ r → ⊥) → k < n → r < n → fallen r k < n - 1
fallen-low n r k d h g = go (fell r k d)
  where
    go : Fell r k → fallen r k < n - 1
    go (above x e) = rw e (omega arith)
    go (below x e) = rw e (omega arith)

fallen-order : (r k m : ℕ) → (k ≡ r → ⊥) → (m ≡ r → ⊥) → ltb (fallen r k) (fallen r m) ≡ ltb k m
fallen-order r k m d d' = go (fell r k d) (fell r m d')
  where
    go : Fell r k → Fell r m → ltb (fallen r k) (fallen r m) ≡ ltb k m
    go (above h e) (above h' e') = rw (e, e') (ltb-alike (k - 1) (m - 1) k m (λ x. omega arith) (λ x. omega arith))
    go (above h e) (below h' e') = rw (e, e') (ltb-alike (k - 1) m k m (λ x. omega arith) (λ x. omega arith))
    go (below h e) (above h' e') = rw (e, e') (ltb-alike k (m - 1) k m (λ x. omega arith) (λ x. omega arith))
    go (below h e) (below h' e') = rw (e, e')

fallen-apart : (r k m : ℕ) → (k ≡ r → ⊥) → (m ≡ r → ⊥) → fallen r k ≡ fallen r m → k ≡ m
fallen-apart r k m d d' = go (fell r k d) (fell r m d')
  where
    go : Fell r k → Fell r m → fallen r k ≡ fallen r m → k ≡ m
    go (above h e) (above h' e') q = omega arith
    go (above h e) (below h' e') q = omega arith
    go (below h e) (above h' e') q = omega arith
    go (below h e) (below h' e') q = omega arith

pub put-length : (xs : List ℕ) (at v : ℕ) → length (put_at xs at v) ≡ length xs
unfolding put_at
put-length xs at v = elim (ltb at 16) as (λ b. length (cond b (set xs at v) xs) ≡ length xs) [ true ↦ length-set xs at v | false ↦ refl ]

pub last-length : (at n : ℕ) (ranks : List ℕ) → length (last_at at n ranks) ≡ length ranks
unfolding last_at
last-length at n ranks = go (ltb at n)
  where
    falling : List ℕ
    falling = upto (λ x. fallen (get_or ranks at 0)) 16 ranks ranks

    go : (b : Bool) → length (cond b (put_at falling at (n - 1)) (put_at ranks at n)) ≡ length ranks
    go true = put-length falling at (n - 1) ∙ upto-length (λ x. fallen (get_or ranks at 0)) 16 ranks ranks
    go false = put-length ranks at n

pub last_to-length : (named : ℕ → Bool) (n k : ℕ) (nets ranks : List ℕ) → length (last_to named n k nets ranks) ≡ length ranks
unfolding last_to
last_to-length named n zero nets ranks = refl
last_to-length named n (suc k) nets ranks = go (named (get_or nets k 0)) (last_to-length named n k nets ranks)
  where
    go : (b : Bool) → length (last_to named n k nets ranks) ≡ length ranks
        → length (cond b (last_at k n (last_to named n k nets ranks)) (last_to named n k nets ranks)) ≡ length ranks
    go true ih = last-length k n (last_to named n k nets ranks) ∙ ih
    go false ih = ih

-- the place `at` of n goes to the end
module _ (at n : ℕ) (ranks : List ℕ) (long : length ranks ≡ 16) (few : n ≤ 16) (inside : at < n) where
  abbrev r : ℕ
  r = get_or ranks at 0

  abbrev new : ℕ → ℕ
  new i = get_or (last_at at n ranks) i 0

  falling-length : length (upto (λ x. fallen r) 16 ranks ranks) ≡ 16
  falling-length = upto-length (λ x. fallen r) 16 ranks ranks ∙ long

  last_set : last_at at n ranks ≡ set (upto (λ x. fallen r) 16 ranks ranks) at (n - 1)
  unfolding last_at put_at
  last_set = rw (lt-ltb at n inside, lt-ltb at 16 (omega arith))

  last-at : new at ≡ n - 1
  last-at = rw last_set (get_or-set_same (upto (λ x. fallen r) 16 ranks ranks) at (n - 1) 0 (omega (arith, falling-length)))

  last_off : (i : ℕ) → (i ≡ at → ⊥) → i < n → new i ≡ fallen r (get_or ranks i 0)
  last_off i d h =
      rw (last_set, get_or-set_other (upto (λ x. fallen r) 16 ranks ranks) at i (n - 1) 0 d)
      (upto-reads (λ x. fallen r) 16 ranks ranks i (λ x. x ≡ fallen r (get_or ranks i 0)) (omega arith) refl (λ g. absurd (omega arith)))

  module _ (o : Order n ranks) where
    differ : (i : ℕ) → (i ≡ at → ⊥) → i < n → get_or ranks i 0 ≡ r → ⊥
    differ i d h e = go (ltb i at) refl
      where
        go : (x : Bool) → ltb i at ≡ x → ⊥
        go true q = o.apart i at (ltb-true i at q) inside e
        go false q = o.apart at i (omega (arith, ltb-false i at q, d)) h (sym e)

    here : (i : ℕ) → i ≡ at → new i ≡ n - 1
    here i e = rw e last-at

    below_end : (i : ℕ) → (i ≡ at → ⊥) → i < n → new i < n - 1
    below_end i d h = rw (last_off i d h) (fallen-low n r (get_or ranks i 0) (differ i d h) (o.low i h) (o.low at inside))

    pub last-order : Order n (last_at at n ranks)
    last-order = record { low = low; apart = apart }
      where
        low : (i : ℕ) → i < n → new i < n
        low i h = go (spot i at)
          where
            go : Spot i at → new i < n
            go (there e) = omega (arith, here i e)
            go (off d) = omega (arith, below_end i d h)

        apart : (i j : ℕ) → i < j → j < n → new i ≡ new j → ⊥
        apart i j h k e = go (spot i at) (spot j at)
          where
            go : Spot i at → Spot j at → ⊥
            go (there x) (there y) = omega arith
            go (there x) (off y) = omega (arith, here i x, below_end j y k)
            go (off x) (there y) = omega (arith, here j y, below_end i x (omega arith))
            go (off x) (off y) =
                o.apart i j h k (fallen-apart r (get_or ranks i 0) (get_or ranks j 0) (differ i x (omega arith)) (differ j y k)
                (sym (last_off i x (omega arith)) ∙ e ∙ last_off j y k))

    pub last-follows : (key : ℕ → ℕ) → Follows n key ranks → (key' : ℕ → ℕ) → key' at ≡ 0 → ((i : ℕ) → i < n → (i ≡ at → ⊥) → key' i ≡ key i)
        → ((j : ℕ) → at < j → j < n → 0 < key j) → Follows n key' (last_at at n ranks)
    last-follows key f key' fresh same later i j h k = go (spot i at) (spot j at)
      where
        go : Spot i at → Spot j at → ltb (new j) (new i) ≡ ltb (key' i) (key' j)
        go (there x) (there y) = absurd (omega arith)
        go (there x) (off y) =
            lt-ltb (new j) (new i) (omega (arith, here i x, below_end j y k))
            ∙ sym (lt-ltb (key' i) (key' j) (omega (arith, ap key' x, fresh, same j k y, later j (omega arith) k)))
        go (off x) (there y) =
            le-ltb (new j) (new i) (omega (arith, here j y, below_end i x (omega arith)))
            ∙ sym (le-ltb (key' i) (key' j) (omega (arith, ap key' y, fresh)))
        go (off x) (off y) =
            rw (last_off i x (omega arith), last_off j y k) (fallen-order r (get_or ranks j 0) (get_or ranks i 0) (differ j y k) (differ i x (omega arith)))
            ∙ f i j h k
            ∙ rw (same i (omega arith) x, same j k y)

-- one entry more
module _ (n : ℕ) (ranks : List ℕ) where
  pub last-new : last_at n n ranks ≡ put_at ranks n n
  unfolding last_at
  last-new = rw (le-ltb n n (omega arith))

  module _ (long : length ranks ≡ 16) (room : n < 16) (o : Order n ranks) where
    abbrev more : ℕ → ℕ
    more i = get_or (put_at ranks n n) i 0

    end : (i : ℕ) → i ≡ n → more i ≡ n
    unfolding put_at
    end i e = rw (e, lt-ltb n 16 room) (get_or-set_same ranks n n 0 (omega arith))

    as-was : (i : ℕ) → (i ≡ n → ⊥) → more i ≡ get_or ranks i 0
    unfolding put_at
    as-was i d = rw (lt-ltb n 16 room) (get_or-set_other ranks n i n 0 d)

    pub new-order : Order (n + 1) (put_at ranks n n)
    new-order = record { low = low; apart = apart }
      where
        low : (i : ℕ) → i < n + 1 → more i < n + 1
        low i h = go (spot i n)
          where
            go : Spot i n → more i < n + 1
            go (there e) = omega (arith, end i e)
            go (off d) = omega (arith, as-was i d, o.low i (omega (arith, d)))

        apart : (i j : ℕ) → i < j → j < n + 1 → more i ≡ more j → ⊥
        apart i j h k e = go (spot j n)
          where
            go : Spot j n → ⊥
            go (there x) = omega (arith, end j x, as-was i (λ y. omega arith), o.low i (omega arith))
            go (off d) = o.apart i j h (omega (arith, d)) (sym (as-was i (λ y. omega (arith, d))) ∙ e ∙ as-was j d)

    pub new-follows : (key : ℕ → ℕ) → Follows n key ranks → ((i : ℕ) → i < n → key n ≤ key i) → Follows (n + 1) key (put_at ranks n n)
    new-follows key f newest i j h k = go (spot j n)
      where
        go : Spot j n → ltb (more j) (more i) ≡ ltb (key i) (key j)
        go (there x) =
            le-ltb (more j) (more i) (omega (arith, end j x, as-was i (λ y. omega arith), o.low i (omega arith)))
            ∙ sym (le-ltb (key i) (key j) (omega (arith, ap key x, newest i (omega arith))))
        go (off d) = rw (as-was i (λ y. omega (arith, d)), as-was j d) (f i j h (omega (arith, d)))

-- of n entries, in their order, each that is named
module _ (named : ℕ → Bool) (n : ℕ) (nets ranks : List ℕ) (long : length ranks ≡ 16) (few : n ≤ 16) (o : Order n ranks) where
  abbrev after : ℕ → List ℕ
  after k = last_to named n k nets ranks

  after-long : (k : ℕ) → length (after k) ≡ 16
  after-long k = last_to-length named n k nets ranks ∙ long

  pub last_to-order : (k : ℕ) → k ≤ n → Order n (last_to named n k nets ranks)
  unfolding last_to
  last_to-order zero h = o
  last_to-order (suc k) h = go (named (get_or nets k 0)) (last_to-order k (omega arith))
    where
      go : (b : Bool) → Order n (after k) → Order n (cond b (last_at k n (after k)) (after k))
      go true ih = last-order k n (after k) (after-long k) few (omega arith) ih
      go false ih = ih

  module _ (key : ℕ → ℕ) (f : Follows n key ranks) (old : (j : ℕ) → j < n → 0 < key j) where
    abbrev key_now : ℕ → ℕ
    key_now i = cond (named (get_or nets i 0)) 0 (key i)

    abbrev key_after : ℕ → ℕ → ℕ
    key_after k i = cond (ltb i k) (key_now i) (key i)

    key-off : (k i : ℕ) → (i ≡ k → ⊥) → key_after (suc k) i ≡ key_after k i
    key-off k i d = rw (ltb-alike i (suc k) i k (λ x. omega (arith, d)) (λ x. omega arith))

    key-at : (k : ℕ) → key_after (suc k) k ≡ key_now k
    key-at k = rw (lt-ltb k (suc k) (omega arith))

    key-later : (k i : ℕ) → k ≤ i → key_after k i ≡ key i
    key-later k i h = rw (le-ltb i k h)

    to : (k : ℕ) → k ≤ n → Follows n (key_after k) (after k)
    unfolding last_to
    to zero h = follows_by ranks f (λ i g. key-later 0 i (omega arith))
    to (suc k) h = go (named (get_or nets k 0)) refl (to k (omega arith))
      where
        go : (b : Bool) → named (get_or nets k 0) ≡ b → Follows n (key_after k) (after k) → Follows n (key_after (suc k)) (cond b (last_at k n (after k)) (after k))
        go true q ih =
            last-follows k n (after k) (after-long k) few (omega arith) (last_to-order k (omega arith)) (key_after k) ih (key_after (suc k)) (key-at k ∙ rw q)
            (λ i g d. key-off k i d) (λ j g l. rw (key-later k j (omega arith)) (old j l))
        go false q ih = follows_by (after k) ih (λ i g. same i (spot i k))
          where
            same : (i : ℕ) → Spot i k → key_after (suc k) i ≡ key_after k i
            same i (there e) = rw e (key-at k ∙ (rw q) ∙ sym (key-later k k (omega arith)))
            same i (off d) = key-off k i d

    pub last_to-follows : Follows n (λ i. cond (named (get_or nets i 0)) 0 (key i)) (last_to named n n nets ranks)
    last_to-follows = follows_by {a = key_after n} {b = key_now} (after n) (to n (omega arith)) (λ i h. sym (rw (lt-ltb i n h)))

-- of the first n: all have a mark, or this is the one with neither that was marked longest ago
pub data Leaver (n at : ℕ) (forbidden barred ranks : List ℕ) : Type 0 where
  nobody : at ≡ 16 → ((i : ℕ) → i < n → has_neither forbidden barred i ≡ false) → Leaver n at forbidden barred ranks
  oldest : at < n → has_neither forbidden barred at ≡ true → ((i : ℕ) → i < n → has_neither forbidden barred i ≡ true → get_or ranks at 0 ≤ get_or ranks i 0)
      → Leaver n at forbidden barred ranks

module _ (forbidden barred ranks : List ℕ) where
  abbrev best : ℕ → ℕ
  best n = leaver_to n forbidden barred ranks

  abbrev free : ℕ → Bool
  free i = has_neither forbidden barred i

  module _ (o : Order 16 ranks) where
    -- below n + 1: the last one, or below n
    one_more : (P : ℕ → Type 0) (n : ℕ) → ((i : ℕ) → i < n → P i) → P n → (i : ℕ) → i < suc n → P i
    one_more P n f p i h = go (spot i n)
      where
        go : Spot i n → P i
        go (there e) = rw e p
        go (off d) = f i (omega (arith, d))

    abbrev Least : ℕ → ℕ → Type 0
    Least p i = free i ≡ true → get_or ranks p 0 ≤ get_or ranks i 0

    marked : {A : Type 0} (i : ℕ) → free i ≡ false → free i ≡ true → A
    marked i q t = absurd (true≢false (sym t ∙ q))

    among : (n : ℕ) → n ≤ 16 → Leaver n (best n) forbidden barred ranks
    unfolding leaver_to rank_at
    among zero h = nobody refl (λ i g. absurd (omega arith))
    among (suc n) h = go (free n) refl (ltb (get_or ranks n 0) (rank_at ranks (best n))) refl (among n (omega arith))
      where
        rank : best n < 16 → rank_at ranks (best n) ≡ get_or ranks (best n) 0
        rank l = rw (lt-ltb (best n) 16 l)

        none : best n ≡ 16 → rank_at ranks (best n) ≡ 16
        none e = rw e

        go : (x : Bool) → free n ≡ x → (y : Bool) → ltb (get_or ranks n 0) (rank_at ranks (best n)) ≡ y → Leaver n (best n) forbidden barred ranks
            → Leaver (suc n) (cond (cond x y false) n (best n)) forbidden barred ranks
        go false q y s (nobody e f) = nobody e (one_more (λ i. free i ≡ false) n f q)
        go false q y s (oldest l t f) = oldest (omega arith) t (one_more (Least (best n)) n f (marked n q))
        go true q true s (nobody e f) = oldest (omega arith) q (one_more (Least n) n (λ i g. marked i (f i g)) (λ t. omega arith))
        go true q false s (nobody e f) =
            absurd (omega (arith, ltb-false (get_or ranks n 0) (rank_at ranks (best n)) s, none e, o.low n (omega arith)))
        go true q true s (oldest l t f) =
            let d : get_or ranks n 0 < get_or ranks (best n) 0 = rw (rank (omega arith)) at (ltb-true (get_or ranks n 0) (rank_at ranks (best n)) s) in
            oldest (omega arith) q (one_more (Least n) n (λ i g u. omega (arith, f i g u)) (λ u. omega arith))
        go true q false s (oldest l t f) =
            let d : get_or ranks (best n) 0 ≤ get_or ranks n 0 = rw (rank (omega arith)) at (ltb-false (get_or ranks n 0) (rank_at ranks (best n)) s) in
            oldest (omega arith) t (one_more (Least (best n)) n f (λ u. d))

    pub leaver : Leaver 16 (leaver_to 16 forbidden barred ranks) forbidden barred ranks
    leaver = among 16 (omega arith)
