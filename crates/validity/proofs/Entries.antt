-- What becomes of an access's entries keeps them valid: a ban or a bar goes to the network's own place, else to the first free one, else to one that is given up,
-- so no network stands twice; counters stop at their limits; marks stay marks; the one just marked is last in the order. Assumes nothing.
use Prim.Native.Nat.{ℕ, ◌+◌, ◌≤◌, ◌<◌}
use mathlib.Core.Path.{◌≡◌, refl, sym, ◌∙◌}
use mathlib.Core.Bool.{Bool, true, false, cond}
use mathlib.Core.List.{List}
use mathlib.Core.Logic.{◌≢◌}
use native.Mathlib.Omega.{arith}
use lib.Dec.{leb, ltb, eqb}
use lib.ListN.{length, get_or, set, get_or-replicate}
use lib.Seq.{get_or-set_same, get_or-set_other}
use borrow.Author.Tests.{leb-true, leb-false, le-leb, ltb-true, ltb-false, lt-ltb, eqb-true, eqb-false}
use Rattle.laws.specs.Upto.{upto, seek_to}
use Rattle.laws.proofs.Arrays.{set_reads, upto-reads}
use Rattle.entries.specs.declared.Entries.{Entries}
use Rattle.entries.specs.declared.Seat.{Seat}
use Rattle.entries.specs.Places.{same_net, entries_held, place_in, has_entry, put_at}
use Rattle.entries.specs.Order.{last_at, last_to, leaver_to}
use Rattle.entries.specs.Entries.{place_for, lift_mark, bumped, clear_unless, raised, with_ranks, banned, barred_by, unforbidden, n1_to_limit, swept, powered, grown, imported}
use Rattle.entries.proofs.Ranks.{Order, last-order, last-new, new-order, last_to-order}
use Rattle.record.specs.Tests.{up_to, is_flag}
use Rattle.record.specs.Network.{is_network}
use Rattle.ranges.specs.Valid.{itself}
use Rattle.validity.specs.Sized.{Columns}
use Rattle.validity.proofs.Bools.{most-is, more-fits}
use Rattle.laws.proofs.Seek.{seek-le, seek_found, seek-before}
use Rattle.validity.proofs.Arrays.{All, Once}
use Rattle.validity.proofs.Good.{Held}

-- the place of a network: its own, else the first free one, else, where all sixteen are in use, one of those
pub record Sought (n net at : ℕ) (found : Bool) (nets : List ℕ) : Type 0 where
  pub room : at < 16
  pub hit : found ≡ true → (at < n) × (get_or nets at 0 ≡ net)
  pub miss : found ≡ false → (k : ℕ) → k < n → get_or nets k 0 ≢ net
  pub free : found ≡ false → n < 16 → at ≡ n

size_is : (n : ℕ) → up_to 16 n ≡ true → entries_held n ≡ n
unfolding entries_held
size_is n e = most-is 16 n e

module _ (n net : ℕ) (nets : List ℕ) (e : up_to 16 n ≡ true) where
  -- where the search ends
  abbrev end : ℕ
  end = seek_to (same_net net) n nets

  ends : end ≤ n
  ends = seek-le (same_net net) n nets

  sought-at : (at : ℕ) → at < 16 → (end < 16 → at ≡ end) → Sought n net at (ltb end n) nets
  sought-at at room same = record {
    room = room;
    hit = λ q.
        let l : end < n = ltb-true end n q in
        let s : at ≡ end = same (omega (arith, leb-true n 16 e)) in
        (omega arith, rw s (eqb-true (get_or nets end 0) net (seek_found (same_net net) n nets l)));
    miss = λ q k h. eqb-false (get_or nets k 0) net (seek-before (same_net net) n nets k (omega (arith, ltb-false end n q)));
    free = λ q h. let s : at ≡ end = same (omega (arith, ends)) in omega (arith, ltb-false end n q, ends);
  }

  -- a network that has an entry, or there is a free one
  sought : (has_entry n net nets ≡ false → leb 16 n ≡ false) → Sought n net (place_in n net nets) (has_entry n net nets) nets
  unfolding place_in has_entry
  sought r = rw (size_is n e) (sought-at end (go (ltb end n) refl) (λ h. refl))
    where
      free : ltb end n ≡ false → leb 16 n ≡ false
      free = rw (size_is n e) at r

      go : (b : Bool) → ltb end n ≡ b → end < 16
      go true q = omega (arith, ltb-true end n q, leb-true n 16 e)
      go false q = omega (arith, ends, leb-false 16 n (free q))

  -- the same, or one gives up its place
  pub sought-for : (forbidden barred ranks : List ℕ) → leb 16 (place_for n net nets forbidden barred ranks) ≡ false
      → Sought n net (place_for n net nets forbidden barred ranks) (has_entry n net nets) nets
  unfolding place_for place_in has_entry
  sought-for forbidden barred ranks r =
      rw (size_is n e) (sought-at (cond (ltb end 16) end (leaver_to 16 forbidden barred ranks)) (leb-false 16 _ (rw (size_is n e) at r)) (λ h. rw (lt-ltb end 16 h)))

bump-fits : (limit protected n : ℕ) → up_to limit n ≡ true → up_to limit (bumped limit protected n) ≡ true
unfolding bumped
bump-fits limit protected n e =
    elim (eqb protected 0) as (λ b. up_to limit (cond b (cond (ltb n limit) (n + 1) n) limit) ≡ true) [ true ↦ more-fits limit n e | false ↦ le-leb limit limit (omega arith) ]

lift-fits : (limit n mark : ℕ) → is_flag mark ≡ true → is_flag (lift_mark limit n mark) ≡ true
unfolding lift_mark
lift-fits limit n mark e = elim (eqb n 0) as (λ b. is_flag (cond b mark (cond (ltb n limit) 0 mark)) ≡ true) [
  | true ↦ e
  | false ↦ elim (ltb n limit) as (λ b. is_flag (cond b 0 mark) ≡ true) [ true ↦ refl | false ↦ e ]
]

module _ (n net at : ℕ) (found : Bool) (nets : List ℕ) (s : Sought n net at found nets) where
  -- below the new count and not at the place: below the old one
  below : (k : ℕ) → k < grown found n → k ≢ at → k < n
  below k h ne = go found refl (ltb n 16) refl
    where
      go : (b : Bool) → found ≡ b → (c : Bool) → ltb n 16 ≡ c → k < n
      go true q c p = rw q at h
      go false q true p =
          let f : at ≡ n = s.free q (ltb-true n 16 p) in
          let g : k < n + 1 = rw (q, p) at h in
          omega (arith, ne)
      go false q false p = rw (q, p) at h

  put_all : (p : ℕ → Bool) (xs : List ℕ) (v : ℕ) → length xs ≡ 16 → p v ≡ true → All p n xs → All p (grown found n) (put_at xs at v)
  unfolding put_at
  put_all p xs v len e f k h = rw (lt-ltb at 16 s.room) (set_reads xs at v k (λ x. p x ≡ true) (λ l. e) (λ l. absurd (omega (arith, s.room))) (λ ne. f k (below k h ne)))

  clear-all : (p : ℕ → Bool) (xs : List ℕ) → length xs ≡ 16 → p 0 ≡ true → All p n xs → All p (grown found n) (clear_unless found xs at)
  unfolding clear_unless
  clear-all p xs len e f k h = go found refl
    where
      go : (b : Bool) → found ≡ b → p (get_or (cond found xs (put_at xs at 0)) k 0) ≡ true
      go true q = rw q (f k (rw q at h))
      go false q = rw q (put_all p xs 0 len e f k h)

  raised_all : (limit protected : ℕ) (xs : List ℕ) → length xs ≡ 16 → All (up_to limit) n xs → All (up_to limit) (grown found n) (raised xs at found limit protected)
  unfolding raised
  raised_all limit protected xs len f = put_all (up_to limit) xs (bumped limit protected (cond found (get_or xs at 0) 0)) len (bump-fits limit protected (cond found (get_or xs at 0) 0) (go found refl)) f
    where
      go : (b : Bool) → found ≡ b → up_to limit (cond found (get_or xs at 0) 0) ≡ true
      go true q = rw q (f at (s.hit q).0)
      go false q = rw q (le-leb 0 limit (omega arith))

  -- no other entry is the network's
  alone : Once itself n nets → (k : ℕ) → k < n → k ≢ at → get_or nets k 0 ≢ net
  alone f k h ne e = go found refl (ltb k at) refl
    where
      go : (b : Bool) → found ≡ b → (c : Bool) → ltb k at ≡ c → ⊥
      go true q true p = f k at (ltb-true k at p) (s.hit q).0 (e ∙ sym (s.hit q).1)
      go true q false p = f at k (omega (arith, ltb-false k at p, ne)) h ((s.hit q).1 ∙ sym e)
      go false q c p = s.miss q k h e

  put-once : length nets ≡ 16 → Once itself n nets → Once itself (grown found n) (put_at nets at net)
  unfolding put_at
  put-once len f i j l h = rw (lt-ltb at 16 s.room) (go (eqb i at) (eqb j at) refl refl)
    where
      here : (k : ℕ) → k ≡ at → get_or (set nets at net) k 0 ≡ net
      here k e = rw e (get_or-set_same nets at net 0 (omega (arith, s.room)))

      other : (k : ℕ) → k ≢ at → get_or (set nets at net) k 0 ≡ get_or nets k 0
      other k ne = get_or-set_other nets at k net 0 ne

      go : (b c : Bool) → eqb i at ≡ b → eqb j at ≡ c → get_or (set nets at net) i 0 ≡ get_or (set nets at net) j 0 → ⊥
      go true true p q e = let p' : i ≡ at = eqb-true i at p in let q' : j ≡ at = eqb-true j at q in absurd (omega arith)
      go true false p q e =
          let ne : j ≢ at = eqb-false j at q in
          alone f j (below j h ne) ne (sym (other j ne) ∙ sym e ∙ here i (eqb-true i at p))
      go false true p q e =
          let ne : i ≢ at = eqb-false i at p in
          alone f i (below i (omega arith) ne) ne (sym (other i ne) ∙ e ∙ here j (eqb-true j at q))
      go false false p q e = f i j l (below j h (eqb-false j at q)) (sym (other i (eqb-false i at p)) ∙ e ∙ other j (eqb-false j at q))

  -- a place in use makes no entry more
  grown-same : at < n → grown found n ≡ n
  grown-same h = go found refl (ltb n 16) refl
    where
      go : (b : Bool) → found ≡ b → (c : Bool) → ltb n 16 ≡ c → grown found n ≡ n
      go true q c p = rw q
      go false q true p = absurd (let f : at ≡ n = s.free q (ltb-true n 16 p) in omega arith)
      go false q false p = rw (q, p)

  -- the first free one makes one more, which is last
  new-order-at : (ranks : List ℕ) → length ranks ≡ 16 → found ≡ false → n < 16 → Order n ranks → Order (grown found n) (put_at ranks at n)
  new-order-at ranks len q h o = rw (s.free q h, q, lt-ltb n 16 h) (new-order n ranks len h o)

  last-kept : (ranks : List ℕ) → length ranks ≡ 16 → n ≤ 16 → Order n ranks → Order (grown found n) (last_at at n ranks)
  last-kept ranks len few o = go (ltb at n) refl found refl
    where
      go : (b : Bool) → ltb at n ≡ b → (c : Bool) → found ≡ c → Order (grown found n) (last_at at n ranks)
      go true q c p = rw (grown-same (ltb-true at n q)) (last-order at n ranks len few (ltb-true at n q) o)
      go false q true p = absurd (omega (arith, ltb-false at n q, (s.hit p).0))
      go false q false p =
          let h : n < 16 = omega (arith, ltb-false at n q, s.room) in
          let f : last_at at n ranks ≡ put_at ranks at n = rw (s.free p h) (last-new n ranks) in
          rw f (new-order-at ranks len p h o)

-- a number stored at a place, where there is an entry
stored-all : (p : ℕ → Bool) (n : ℕ) (xs : List ℕ) (found : Bool) (at v : ℕ) → p v ≡ true → p 0 ≡ true → All p n xs → All p n (cond found (put_at xs at v) xs)
unfolding put_at
stored-all p n xs false at v e z f i h = f i h
stored-all p n xs true at v e z f i h = elim (ltb at 16) as (λ b. p (get_or (cond b (set xs at v) xs) i 0) ≡ true) [
  | true ↦ set_reads xs at v i (λ x. p x ≡ true) (λ l. e) (λ l. z) (λ ne. f i h)
  | false ↦ f i h
]

module _ (banlimit n1limit n : ℕ) (t : Entries) (w : Columns t) (g : Held banlimit n1limit n t) where
  module _ (k : Seat) (s : Sought n k.net k.at k.found t.nets) (net : is_network k.net ≡ true) (e : up_to 16 n ≡ true) where
    order-kept : Order (grown k.found n) (last_at k.at (entries_held n) t.ranks)
    order-kept = rw (size_is n e) (last-kept n k.net k.at k.found t.nets s t.ranks w.ranks (leb-true n 16 e) g.order)

    pub banned-held : Held banlimit n1limit (grown k.found n) (with_ranks (last_at k.at (entries_held n) t.ranks) (banned k banlimit t))
    unfolding banned
    banned-held = record {
      nets = put_all n k.net k.at k.found t.nets s is_network t.nets k.net w.nets net g.nets;
      bans = raised_all n k.net k.at k.found t.nets s banlimit k.protected t.bans w.bans g.bans;
      n1s = clear-all n k.net k.at k.found t.nets s (up_to n1limit) t.n1s w.n1s (le-leb 0 n1limit (omega arith)) g.n1s;
      forbidden = put_all n k.net k.at k.found t.nets s is_flag t.forbidden 1 w.forbidden refl g.forbidden;
      barred = clear-all n k.net k.at k.found t.nets s is_flag t.barred w.barred refl g.barred;
      once = put-once n k.net k.at k.found t.nets s w.nets g.once;
      order = order-kept;
    }

    pub barred-held : Held banlimit n1limit (grown k.found n) (with_ranks (last_at k.at (entries_held n) t.ranks) (barred_by k n1limit t))
    unfolding barred_by
    barred-held = record {
      nets = put_all n k.net k.at k.found t.nets s is_network t.nets k.net w.nets net g.nets;
      bans = clear-all n k.net k.at k.found t.nets s (up_to banlimit) t.bans w.bans (le-leb 0 banlimit (omega arith)) g.bans;
      n1s = raised_all n k.net k.at k.found t.nets s n1limit k.protected t.n1s w.n1s g.n1s;
      forbidden = clear-all n k.net k.at k.found t.nets s is_flag t.forbidden w.forbidden refl g.forbidden;
      barred = put_all n k.net k.at k.found t.nets s is_flag t.barred 1 w.barred refl g.barred;
      once = put-once n k.net k.at k.found t.nets s w.nets g.once;
      order = order-kept;
    }

  pub imported-held : (net : ℕ) → up_to 16 n ≡ true → (has_entry n net t.nets ≡ false → leb 16 n ≡ false) → is_network net ≡ true
      → Held banlimit n1limit (grown (has_entry n net t.nets) n) (imported net n t)
  unfolding imported
  imported-held net e r i = record {
    nets = put_all n net (place_in n net t.nets) (has_entry n net t.nets) t.nets s is_network t.nets net w.nets i g.nets;
    bans = clear-all n net (place_in n net t.nets) (has_entry n net t.nets) t.nets s (up_to banlimit) t.bans w.bans (le-leb 0 banlimit (omega arith)) g.bans;
    n1s = clear-all n net (place_in n net t.nets) (has_entry n net t.nets) t.nets s (up_to n1limit) t.n1s w.n1s (le-leb 0 n1limit (omega arith)) g.n1s;
    forbidden = put_all n net (place_in n net t.nets) (has_entry n net t.nets) t.nets s is_flag t.forbidden 1 w.forbidden refl g.forbidden;
    barred = clear-all n net (place_in n net t.nets) (has_entry n net t.nets) t.nets s is_flag t.barred w.barred refl g.barred;
    once = put-once n net (place_in n net t.nets) (has_entry n net t.nets) t.nets s w.nets g.once;
    order = rw (size_is n e) (order (has_entry n net t.nets) refl);
  }
    where
      s : Sought n net (place_in n net t.nets) (has_entry n net t.nets) t.nets
      s = sought n net t.nets e r

      order : (b : Bool) → has_entry n net t.nets ≡ b
          → Order (grown (has_entry n net t.nets) n) (cond (has_entry n net t.nets) t.ranks (put_at t.ranks (place_in n net t.nets) n))
      order true q = rw q g.order
      order false q =
          let o = new-order-at n net (place_in n net t.nets) (has_entry n net t.nets) t.nets s t.ranks w.ranks q (leb-false 16 n (r q)) g.order in
          rw q (rw q at o)

  pub accepted-held : (k : Seat) → Held banlimit n1limit n (unforbidden k t)
  unfolding unforbidden
  accepted-held k = record {
    nets = g.nets;
    bans = g.bans;
    n1s = g.n1s;
    forbidden = stored-all is_flag n t.forbidden k.found k.at 0 refl refl g.forbidden;
    barred = g.barred;
    once = g.once;
    order = g.order;
  }

  pub limit-held : (net : ℕ) → Held banlimit n1limit n (n1_to_limit net n n1limit t)
  unfolding n1_to_limit
  limit-held net = record {
    nets = g.nets;
    bans = g.bans;
    n1s = stored-all (up_to n1limit) n t.n1s (has_entry n net t.nets) (place_in n net t.nets) n1limit (le-leb n1limit n1limit (omega arith)) (le-leb 0 n1limit (omega arith)) g.n1s;
    forbidden = g.forbidden;
    barred = g.barred;
    once = g.once;
    order = g.order;
  }

  lifted : (limit : ℕ) (counters marks : List ℕ) → up_to 16 n ≡ true → All is_flag n marks → All is_flag n (upto (lift_mark limit) (entries_held n) counters marks)
  lifted limit counters marks e f i h =
      rw (size_is n e) (upto-reads (lift_mark limit) n counters marks i (λ x. is_flag x ≡ true) h (lift-fits limit (get_or counters i 0) (get_or marks i 0) (f i h)) (λ _. refl))

  pub swept-held : up_to 16 n ≡ true → Held banlimit n1limit n (swept n banlimit n1limit t)
  unfolding swept
  swept-held e = record {
    nets = g.nets;
    bans = g.bans;
    n1s = g.n1s;
    forbidden = lifted banlimit t.bans t.forbidden e g.forbidden;
    barred = lifted n1limit t.n1s t.barred e g.barred;
    once = g.once;
    order = g.order;
  }

  pub cycled-held : up_to 16 n ≡ true → Held banlimit n1limit n (powered n banlimit t)
  unfolding powered
  cycled-held e = record {
    nets = g.nets;
    bans = g.bans;
    n1s = g.n1s;
    forbidden = lifted banlimit t.bans t.forbidden e g.forbidden;
    barred = λ i h. rw (get_or-replicate {A = ℕ} 16 i 0 0 (omega (arith, leb-true n 16 e)));
    once = g.once;
    order = g.order;
  }

-- with none in use all holds
pub none-held : (banlimit n1limit : ℕ) (t : Entries) → Held banlimit n1limit 0 t
none-held banlimit n1limit t = record {
  nets = λ k h. absurd (omega arith);
  bans = λ k h. absurd (omega arith);
  n1s = λ k h. absurd (omega arith);
  forbidden = λ k h. absurd (omega arith);
  barred = λ k h. absurd (omega arith);
  once = λ i j l h. absurd (omega arith);
  order = record { low = λ i h. absurd (omega arith); apart = λ i j l h. absurd (omega arith) };
}

-- the last marked are those that are named
pub settled-held : (banlimit n1limit n : ℕ) (t : Entries) → Columns t → Held banlimit n1limit n t → up_to 16 n ≡ true → (named : ℕ → Bool)
    → Held banlimit n1limit n (with_ranks (last_to named (entries_held n) (entries_held n) t.nets t.ranks) t)
settled-held banlimit n1limit n t w g e named = record {
  nets = g.nets;
  bans = g.bans;
  n1s = g.n1s;
  forbidden = g.forbidden;
  barred = g.barred;
  once = g.once;
  order = rw (size_is n e) (last_to-order named n t.nets t.ranks w.ranks (leb-true n 16 e) g.order n (omega arith));
}
