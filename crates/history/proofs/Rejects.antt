-- A reject that marks keeps the fit: at its network's own place, at a free one, or at the one that another network gives up, which the history names too.
-- Assumes nothing.
use Prim.Native.Nat.{ℕ, suc, ◌≤◌, ◌<◌}
use mathlib.Core.Path.{◌≡◌, refl, sym, ◌∙◌, ap}
use mathlib.Core.Bool.{Bool, true, false, cond, ◌||◌}
use mathlib.Core.List.{List, [], ◌∷◌}
use mathlib.Core.Option.{Option, none, some}
use native.Mathlib.Omega.{arith}
use lib.Dec.{ltb, eqb}
use lib.ListN.{length, get_or, set}
use lib.Seq.{get_or-set_same, get_or-set_other, set-get_or}
use borrow.Author.Tests.{le-leb, lt-leb, ltb-true, ltb-false, lt-ltb, le-ltb, eqb-true, eqb-false, ne_eqb}
use Rattle.laws.proofs.Seek.{seek-le, seek_found, seek-before, ltb-suc}
use Rattle.entries.specs.declared.Entries.{Entries}
use Rattle.entries.specs.Places.{same_net, entries_held, place_in, has_entry, put_at}
use Rattle.entries.specs.Order.{last_at, leaver_to}
use Rattle.entries.specs.Entries.{grown}
use Rattle.entries.proofs.Ranks.{Follows, last-follows, last-new, new-follows}
use Rattle.history.specs.Cell.{cell_in}
use Rattle.history.specs.Tale.{Limits, News, said_by, puts, is_one_of, Tale, enrolled, filed, age, eldest, leaver, in_place_of, turned_away}
use Rattle.history.proofs.Said.{blank, cell_after, said-none}
use Rattle.history.proofs.Columns.{put_in}
use Rattle.history.proofs.Giving.{Placed, own, given, is_left}
use Rattle.history.proofs.Lined.{held_whole, lined-has, lined-more, lined-swap}
use Rattle.history.proofs.Leaving.{Left, all-marked, gives, leaving}
use Rattle.history.proofs.Fit.{Fit, Sound, age-quiet, age-mark, said_more, apart, neither-is}

-- where there is a place there is one that gives it up
left_is : (at : ℕ) (nets : List ℕ) (o : Option ℕ) → Left at nets o → at < 16 → o ≡ some (get_or nets at 0)
left_is at nets none (all-marked e) h = absurd (omega arith)
left_is at nets (some v) (gives i) h = refl

module _ (l : Limits) (count : ℕ) (t : Entries) (k : Tale) (s : Sound count t) (g : Fit l count t k) (net at : ℕ) (pl : Placed count net t.nets at)
    (d : ℕ → News) (marks : puts (d net) ≡ true) (quiet : (m : ℕ) → eqb net m ≡ false → puts (d m) ≡ false) where
  abbrev nets : List ℕ
  nets = t.nets

  abbrev found : Bool
  found = has_entry count net nets

  abbrev key : ℕ → ℕ
  key i = age (k.news (get_or nets i 0))

  whole : entries_held count ≡ count
  whole = held_whole count s.few

  long : length k.held ≡ count
  long = g.lined.many

  named : is_one_of net k.held ≡ found
  named = sym (lined-has s.few g.lined net)

  -- the order, where the place was in use: all others are a taken event older
  module _ (inside : at < count) (other : (i : ℕ) → i < count → (i ≡ at → ⊥) → eqb net (get_or nets i 0) ≡ false) (news' : ℕ → List News) (z : age (news' net) ≡ 0)
      (older : (i : ℕ) → i < count → (i ≡ at → ⊥) → age (news' (get_or nets i 0)) ≡ suc (key i)) where
    order-used : Follows count (λ i. age (news' (get_or (put_at nets at net) i 0))) (last_at at (entries_held count) t.ranks)
    order-used =
        rw (whole, put_in nets at net (omega (arith, s.few)))
        (last-follows at count t.ranks s.columns.ranks s.few inside s.ranked (λ i. suc (key i)) (λ i j h p. g.order i j h p ∙ sym (ltb-suc (key i) (key j)))
        (λ i. age (news' (get_or (set nets at net) i 0)))
        (ap (λ (m : ℕ). age (news' m)) (get_or-set_same nets at net 0 (omega (arith, s.columns.nets, s.few))) ∙ z)
        (λ i h e. ap (λ (m : ℕ). age (news' m)) (get_or-set_other nets at i net 0 e) ∙ older i h e)
        (λ j h p. omega arith))

  -- of those news
  marked : age (d net ∷ k.news net) ≡ 0
  marked = age-mark (d net) (k.news net) marks

  quieter : (m : ℕ) → eqb net m ≡ false → age (d m ∷ k.news m) ≡ suc (age (k.news m))
  quieter m q = age-quiet (d m) (k.news m) (quiet m q)

  module _ (t' : Entries) (en : t'.nets ≡ put_at nets at net) (er : t'.ranks ≡ last_at at (entries_held count) t.ranks)
      (ec : (m : ℕ) → cell_in (grown found count) t' m ≡ cond (is_left count net nets at m) blank (cell_after l (d m) (cell_in count t m))) where
    -- nobody gives up a place
    module _ (e : at ≡ place_in count net nets) (room : at < 16) where
      none_left : (m : ℕ) → is_left count net nets at m ≡ false
      none_left m = rw (lt-leb 16 (place_in count net nets) (omega arith))

      own-cells : (m : ℕ) → cell_in (grown found count) t' m ≡ said_by l (d m ∷ k.news m)
      own-cells m = said_more l (d m) (k.news m) (cell_in count t m) (cell_in (grown found count) t' m) (g.cells m) (rw (none_left m) at (ec m))

      -- it has an entry
      fit_found : found ≡ true → Fit l (grown found count) t' (filed (net ∷ []) d k)
      unfolding filed enrolled has_entry place_in
      fit_found q = record {
        cells = own-cells;
        lined = rw (named, q, en, same) g.lined;
        order = rw (q, en, er) (order-used inside other (λ m. d m ∷ k.news m) marked (λ i h p. quieter (get_or nets i 0) (other i h p)));
      }
        where
          inside : at < count
          inside = let h : place_in count net nets < entries_held count = ltb-true (place_in count net nets) (entries_held count) q in omega (arith, whole)

          is : get_or nets at 0 ≡ net
          is = rw e (eqb-true (get_or nets (place_in count net nets) 0) net (seek_found (same_net net) (entries_held count) nets (ltb-true (place_in count net nets) (entries_held count) q)))

          same : put_at nets at net ≡ nets
          same = put_in nets at net room ∙ ap (λ (n : ℕ). set nets at n) (sym is) ∙ set-get_or nets at 0

          other : (i : ℕ) → i < count → (i ≡ at → ⊥) → eqb net (get_or nets i 0) ≡ false
          other i h p = ne_eqb net (get_or nets i 0) (λ x. apart l count t k s g at inside i h p (sym x ∙ sym is))

      free-at : found ≡ false → (at ≡ count) × (count < 16)
      unfolding has_entry place_in
      free-at q =
          let h : entries_held count ≤ place_in count net nets = ltb-false (place_in count net nets) (entries_held count) q in
          let p : at ≡ count = omega (arith, whole, seek-le (same_net net) (entries_held count) nets) in
          (p, omega arith)

      stays : leaver l net k ≡ none
      unfolding leaver
      stays = go found refl
        where
          go : (b : Bool) → found ≡ b → cond (is_one_of net k.held || ltb (length k.held) 16) none (eldest l k.news k.held) ≡ none
          go true q = rw (named, q)
          go false q = rw (named, q, long, lt-ltb count 16 (free-at q).1)

      -- a free one
      fit_free : found ≡ false → Fit l (grown found count) t' (filed (net ∷ []) d k)
      unfolding filed enrolled has_entry place_in
      fit_free q = record {
        cells = own-cells;
        lined = rw (named, q, en, lt-ltb count 16 few, free) (lined-more count nets k.held net s.columns.nets few g.lined);
        order = rw (q, en, er, lt-ltb count 16 few, free, whole, last-new count t.ranks) (new-follows count t.ranks s.columns.ranks few s.ranked (λ i. age (d (at' i) ∷ k.news (at' i))) before (λ i h. omega (arith, zero)));
      }
        where
          free : at ≡ count
          free = (free-at q).0

          few : count < 16
          few = (free-at q).1

          at' : ℕ → ℕ
          at' i = get_or (put_at nets count net) i 0

          zero : age (d (at' count) ∷ k.news (at' count)) ≡ 0
          zero = ap (λ (m : ℕ). age (d m ∷ k.news m)) (rw (put_in nets count net few) (get_or-set_same nets count net 0 (omega (arith, s.columns.nets, few)))) ∙ marked

          keyed : (i : ℕ) → i < count → age (d (at' i) ∷ k.news (at' i)) ≡ suc (key i)
          keyed i h =
              ap (λ (m : ℕ). age (d m ∷ k.news m)) (rw (put_in nets count net few) (get_or-set_other nets count i net 0 (λ x. omega arith)))
              ∙ quieter (get_or nets i 0) (ne_eqb net (get_or nets i 0) (λ x. eqb-false (get_or nets i 0) net (seek-before (same_net net) (entries_held count) nets i (omega (arith, free, e))) (sym x)))

          before : Follows count (λ i. age (d (at' i) ∷ k.news (at' i))) t.ranks
          before i j h p = g.order i j h p ∙ sym (rw (keyed i (omega arith), keyed j p) (ltb-suc (key i) (key j)))

    -- another network gives it up
    module _ (f : 16 ≤ place_in count net nets) (room : at < 16) (lv : at ≡ leaver_to 16 t.forbidden t.barred t.ranks) where
      abbrev v : ℕ
      v = get_or nets at 0

      full : count ≡ 16
      unfolding place_in
      full = omega (arith, whole, seek-le (same_net net) (entries_held count) nets, s.few)

      absent : (i : ℕ) → i < count → eqb net (get_or nets i 0) ≡ false
      unfolding place_in
      absent i h = ne_eqb net (get_or nets i 0) (λ x. eqb-false (get_or nets i 0) net (seek-before (same_net net) (entries_held count) nets i (omega (arith, full))) (sym x))

      new : found ≡ false
      unfolding has_entry
      new = le-ltb (place_in count net nets) (entries_held count) (omega (arith, whole, full))

      leaves : leaver l net k ≡ some v
      unfolding leaver
      leaves =
          rw (named, new, long, full)
          (left_is at nets (eldest l k.news k.held) (rw lv (leaving l k.news nets k.held t.forbidden t.barred t.ranks (rw full at g.lined) (rw full at s.ranked) (rw full at g.order)
          (λ i h. neither-is l count t k s g i (omega (arith, full))))) room)

      news' : ℕ → List News
      news' m = cond (eqb v m) [] (d m ∷ k.news m)

      fit-given : Fit l (grown found count) t' (in_place_of (some v) net d k)
      unfolding in_place_of news'
      fit-given = record {
        cells = λ m. ec m ∙ rw (le-leb 16 (place_in count net nets) f) (said m (eqb v m) refl);
        lined = rw (new, en, le-ltb count 16 (omega (arith, full))) (lined-swap count nets k.held net at s.columns.nets room inside (apart l count t k s g at inside) g.lined);
        order = rw (new, en, er, le-ltb count 16 (omega (arith, full))) (order-used inside (λ i h p. absent i h) news' (rw (not-net at inside) marked) (λ i h p. rw (ne_eqb v (get_or nets i 0) (λ x. apart l count t k s g at inside i h p (sym x))) (quieter (get_or nets i 0) (absent i h))));
      }
        where
          inside : at < count
          inside = omega (arith, full)

          not-net : (i : ℕ) → i < count → eqb (get_or nets i 0) net ≡ false
          not-net i h = ne_eqb (get_or nets i 0) net (λ x. eqb-false net (get_or nets i 0) (absent i h) (sym x))

          said : (m : ℕ) (b : Bool) → eqb v m ≡ b → cond (eqb v m) blank (cell_after l (d m) (cell_in count t m)) ≡ said_by l (cond (eqb v m) [] (d m ∷ k.news m))
          said m true q = rw q (sym (said-none l))
          said m false q = rw q (said_more l (d m) (k.news m) (cell_in count t m) (cell_after l (d m) (cell_in count t m)) (g.cells m) refl)

    pub fit-struck : (16 ≤ place_in count net nets → at ≡ leaver_to 16 t.forbidden t.barred t.ranks) → Fit l (grown found count) t' (turned_away l net d k)
    unfolding turned_away in_place_of
    fit-struck lv = go pl found refl
      where
        go : Placed count net nets at → (b : Bool) → found ≡ b → Fit l (grown found count) t' (turned_away l net d k)
        go (own e h) true q = rw (stays e h) (fit_found e h q)
        go (own e h) false q = rw (stays e h) (fit_free e h q)
        go (given f h once) b q = rw (leaves f h (lv f)) (fit-given f h (lv f))
