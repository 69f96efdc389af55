-- An import keeps the fit: network by network of its file each that is new gets a free place, and once all are in, those that were named are the last marked.
-- Until then a new one counts as marked a taken event ago, so that its rank may stand behind all others. Assumes nothing.
use Prim.Native.Nat.{ℕ, suc, ◌+◌, ◌≤◌, ◌<◌}
use mathlib.Core.Path.{◌≡◌, refl, sym, ◌∙◌, ap}
use mathlib.Core.Bool.{Bool, true, false, cond, true≢false, ◌||◌}
use mathlib.Core.List.{List, [], ◌∷◌, ◌++◌}
use native.Mathlib.Nat.{add-zero}
use native.Mathlib.Omega.{arith}
use lib.Dec.{eqb}
use lib.ListN.{length, get_or, set}
use lib.Seq.{get_or-set_same, get_or-set_other, set-get_or}
use borrow.Author.Tests.{leb-false, ltb-true, ltb-false, lt-ltb, eqb-true}
use Rattle.laws.proofs.Seek.{seek-le, seek_found, ltb-suc}
use Rattle.entries.specs.declared.Entries.{Entries}
use Rattle.entries.specs.Places.{same_net, entries_held, place_in, has_entry, put_at}
use Rattle.entries.specs.Entries.{grown, imported_all, new_in, is_filed}
use Rattle.entries.specs.Entries as entries
use Rattle.entries.proofs.Joining.{has-joined, new-free, new-room, new-step}
use Rattle.entries.proofs.Ranks.{Order, Follows, new-order, new-follows, last_to-follows}
use Rattle.validity.specs.Sized.{Columns}
use Rattle.validity.proofs.Sizes.{imported-columns}
use Rattle.validity.proofs.Imports.{news}
use Rattle.history.specs.Cell.{cell_in, Lined}
use Rattle.history.specs.Tale.{Cell, Limits, News, puts, is_put, is_one_of, Tale, enrolled, filed, age}
use Rattle.history.proofs.Said.{cell, count_after, mark_after, cell_after, imported, quiet}
use Rattle.history.proofs.Cells.{cells}
use Rattle.history.proofs.Columns.{put_in, touched, spared, held_after}
use Rattle.history.proofs.Lined.{held_whole, lined-has, used-has, lined-more}
use Rattle.history.proofs.Fit.{Fit, Sound, age-quiet, age-mark, said_more}

module _ (l : Limits) where
  -- this network, or another
  put-after : (b : Bool) (c : Cell) → cell c.ban c.n1 (cond b 1 c.forbidden) c.barred ≡ cell_after l (cond b imported quiet) c
  unfolding cell_after count_after mark_after
  put-after true c = refl
  put-after false c = refl

  -- put there twice is put there once
  put-twice : (a b : Bool) (c : Cell) → cell_after l (cond b imported quiet) (cell_after l (cond a imported quiet) c) ≡ cell_after l (cond (cond a true b) imported quiet) c
  unfolding cell_after count_after mark_after
  put-twice true true c = refl
  put-twice true false c = refl
  put-twice false true c = refl
  put-twice false false c = refl

  -- one network
  cell-imported : (count net : ℕ) (t : Entries) → Columns t → place_in count net t.nets < 16 → (m : ℕ)
      → cell_in (grown (has_entry count net t.nets) count) (entries.imported net count t) m ≡ cell_after l (cond (eqb net m) imported quiet) (cell_in count t m)
  unfolding cell_in entries.imported has_entry
  cell-imported count net t w room m =
      cells (spared count net t.nets w.nets room t.bans w.bans m) (spared count net t.nets w.nets room t.n1s w.n1s m)
      (touched count net t.nets w.nets room t.forbidden w.forbidden 1 m) (spared count net t.nets w.nets room t.barred w.barred m)
      ∙ put-after (eqb net m) (cell_in count t m)

-- networks one after the other, those of a list; named are those of the whole file
module _ (named : ℕ → Bool) where
  module _ (l : Limits) where
    pub all-cells : (xs : List ℕ) (n : ℕ) (t : Entries) → Columns t → n + length (news xs n t) ≤ 16 → (m : ℕ)
        → cell_in (n + length (news xs n t)) (imported_all named xs n t) m ≡ cell_after l (cond (is_filed m xs) imported quiet) (cell_in n t m)
    unfolding imported_all new_in is_filed cell_in
    all-cells [] n t w f m = rw (add-zero n) (put-after l false (cell_in n t m))
    all-cells (net ∷ xs) n t w f m =
        let more = new-step net xs n t w.nets f in
        rw more (all-cells xs (grown (has_entry n net t.nets) n) (entries.imported net n t) (imported-columns t w net n) (rw more at f) m)
        ∙ ap (cell_after l (cond (is_filed m xs) imported quiet)) (cell-imported l n net t w (new-room net xs n t w.nets f) m)
        ∙ put-twice l (eqb net m) (is_filed m xs) (cell_in n t m)

  or-last : (a b c : Bool) → (a || (b || c)) ≡ (cond b true a || c)
  or-last true true c = refl
  or-last true false c = refl
  or-last false true c = refl
  or-last false false c = refl

  all-entered : (xs : List ℕ) (n : ℕ) (t : Entries) → Columns t → n + length (news xs n t) ≤ 16 → (m : ℕ)
      → has_entry (n + length (news xs n t)) m (imported_all named xs n t).nets ≡ (is_filed m xs || has_entry n m t.nets)
  unfolding imported_all new_in is_filed entries.imported
  all-entered [] n t w f m = rw (add-zero n)
  all-entered (net ∷ xs) n t w f m =
      let more = new-step net xs n t w.nets f in
      rw more (all-entered xs (grown (has_entry n net t.nets) n) (entries.imported net n t) (imported-columns t w net n) (rw more at f) m)
      ∙ ap (λ (s : Bool). is_filed m xs || s) (held_after n net t.nets w.nets (new-room net xs n t w.nets f) m) ∙ or-last (is_filed m xs) (eqb net m) (has_entry n m t.nets)

  -- one network: its entry, or a free one
  module _ (net : ℕ) (xs : List ℕ) (n : ℕ) (t : Entries) (w : Columns t) (fits : n + length (news (net ∷ xs) n t) ≤ 16) (few : n ≤ 16) where
    abbrev found : Bool
    found = has_entry n net t.nets

    there : found ≡ true → put_at t.nets (place_in n net t.nets) net ≡ t.nets
    unfolding has_entry place_in
    there q =
        let h : place_in n net t.nets < entries_held n = ltb-true (place_in n net t.nets) (entries_held n) q in
        put_in t.nets (place_in n net t.nets) net (new-room net xs n t w.nets fits)
        ∙ ap (λ (m : ℕ). set t.nets (place_in n net t.nets) m) (sym (eqb-true (get_or t.nets (place_in n net t.nets) 0) net (seek_found (same_net net) (entries_held n) t.nets h)))
        ∙ set-get_or t.nets (place_in n net t.nets) 0

    free : found ≡ false → (n < 16) × (place_in n net t.nets ≡ n)
    unfolding has_entry place_in
    free q =
        let h : n < 16 = leb-false 16 n (new-free net xs n t w.nets fits q) in
        (h, omega (arith, held_whole n few, seek-le (same_net net) (entries_held n) t.nets, ltb-false (place_in n net t.nets) (entries_held n) q))

    lined-one : (held : List ℕ) → Lined n t.nets held → Lined (grown found n) (entries.imported net n t).nets (cond (is_one_of net held) held (held ++ net ∷ []))
    unfolding entries.imported
    lined-one held g = rw (← (lined-has few g net)) (go found refl)
      where
        go : (b : Bool) → found ≡ b → Lined (grown found n) (put_at t.nets (place_in n net t.nets) net) (cond found held (held ++ net ∷ []))
        go true q = rw (there q, q) g
        go false q = let f = free q in rw (q, lt-ltb n 16 f.0, f.1) (lined-more n t.nets held net w.nets f.0 g)

    module _ (key : ℕ → ℕ) (new : (m : ℕ) → has_entry n m t.nets ≡ false → key m ≡ 1) (old : (m : ℕ) → 0 < key m) (o : Order n t.ranks) (f : Follows n (λ i. key (get_or t.nets i 0)) t.ranks) where
      one-ranked : Order (grown found n) (entries.imported net n t).ranks × Follows (grown found n) (λ i. key (get_or (entries.imported net n t).nets i 0)) (entries.imported net n t).ranks
      unfolding entries.imported
      one-ranked = go found refl
        where
          go : (b : Bool) → found ≡ b
              → Order (grown found n) (cond found t.ranks (put_at t.ranks (place_in n net t.nets) (entries_held n)))
              × Follows (grown found n) (λ i. key (get_or (put_at t.nets (place_in n net t.nets) net) i 0)) (cond found t.ranks (put_at t.ranks (place_in n net t.nets) (entries_held n)))
          go true q = rw (there q, q) (o, f)
          go false q = rw (q, lt-ltb n 16 (free q).0, (free q).1, held_whole n few) (new-order n t.ranks w.ranks (free q).0 o, new-follows n t.ranks w.ranks (free q).0 o now before (λ i h. omega (arith, last, old (get_or (put_at t.nets n net) i 0))))
            where
              now : ℕ → ℕ
              now i = key (get_or (put_at t.nets n net) i 0)

              last : now n ≡ 1
              last = ap key (rw (put_in t.nets n net (free q).0) (get_or-set_same t.nets n net 0 (omega (arith, w.nets, (free q).0)))) ∙ new net q

              as-was : (i : ℕ) → i < n → now i ≡ key (get_or t.nets i 0)
              as-was i h = ap key (rw (put_in t.nets n net (free q).0) (get_or-set_other t.nets n i net 0 (λ x. omega arith)))

              before : Follows n now t.ranks
              before i j h p = f i j h p ∙ sym (rw (as-was i (omega arith), as-was j p))

      -- who has none then had none
      one-new : (m : ℕ) → has_entry (grown found n) m (entries.imported net n t).nets ≡ false → key m ≡ 1
      unfolding entries.imported
      one-new m q = new m (go (eqb net m) (sym (has-joined n net t.nets w.nets (new-room net xs n t w.nets fits) m) ∙ q))
        where
          go : (b : Bool) → cond b true (has_entry n m t.nets) ≡ false → has_entry n m t.nets ≡ false
          go true e = absurd (true≢false e)
          go false e = e

  lined-all : (xs : List ℕ) (n : ℕ) (t : Entries) → Columns t → n + length (news xs n t) ≤ 16 → (held : List ℕ) → Lined n t.nets held
      → Lined (n + length (news xs n t)) (imported_all named xs n t).nets (enrolled xs held)
  unfolding imported_all new_in enrolled
  lined-all [] n t w f held g = rw (add-zero n) g
  lined-all (net ∷ xs) n t w f held g =
      let more = new-step net xs n t w.nets f in
      rw more (lined-all xs (grown (has_entry n net t.nets) n) (entries.imported net n t) (imported-columns t w net n) (rw more at f) (cond (is_one_of net held) held (held ++ net ∷ []))
      (lined-one net xs n t w f (omega arith) held g))

  module _ (key : ℕ → ℕ) (old : (m : ℕ) → 0 < key m) where
    ranked-all : (xs : List ℕ) (n : ℕ) (t : Entries) → Columns t → n + length (news xs n t) ≤ 16 → ((m : ℕ) → has_entry n m t.nets ≡ false → key m ≡ 1) → Order n t.ranks
        → Follows n (λ i. key (get_or t.nets i 0)) t.ranks
        → Follows (n + length (news xs n t)) (λ i. cond (named (get_or (imported_all named xs n t).nets i 0)) 0 (key (get_or (imported_all named xs n t).nets i 0))) (imported_all named xs n t).ranks
    unfolding imported_all new_in
    ranked-all [] n t w f new o g =
        let few : n ≤ 16 = rw (add-zero n) at f in
        rw (add-zero n, held_whole n few) (last_to-follows named n t.nets t.ranks w.ranks few o (λ i. key (get_or t.nets i 0)) g (λ j h. old (get_or t.nets j 0)))
    ranked-all (net ∷ xs) n t w f new o g =
        let more = new-step net xs n t w.nets f in
        let one = one-ranked net xs n t w f (omega arith) key new old o g in
        rw more (ranked-all xs (grown (has_entry n net t.nets) n) (entries.imported net n t) (imported-columns t w net n) (rw more at f) (one-new net xs n t w f (omega arith) key new old o g) one.0 one.1)

module _ (l : Limits) (count : ℕ) (t : Entries) (k : Tale) (s : Sound count t) (g : Fit l count t k) (xs : List ℕ) (fits : count + length (news xs count t) ≤ 16)
    (d : ℕ → News) (is : (m : ℕ) → d m ≡ cond (is_filed m xs) imported quiet) where
  abbrev named : ℕ → Bool
  named m = is_filed m xs

  abbrev after : Entries
  after = imported_all named xs count t

  abbrev many : ℕ
  many = count + length (news xs count t)

  -- a network's age with this event, and one for who has no entry
  abbrev key : ℕ → ℕ
  key m = cond (is_one_of m k.held) (suc (age (k.news m))) 1

  held-has : (m : ℕ) → has_entry count m t.nets ≡ is_one_of m k.held
  held-has m = lined-has s.few g.lined m

  key-used : (m : ℕ) → has_entry count m t.nets ≡ true → key m ≡ suc (age (k.news m))
  key-used m h = rw (sym (held-has m) ∙ h)

  old : (m : ℕ) → 0 < key m
  old m = elim (is_one_of m k.held) as (λ b. 0 < cond b (suc (age (k.news m))) 1) [ true ↦ omega arith | false ↦ omega arith ]

  before : Follows count (λ i. key (get_or t.nets i 0)) t.ranks
  before i j h p =
      g.order i j h p ∙ sym (rw (key-used (get_or t.nets i 0) (used-has count t.nets s.few i (omega arith)), key-used (get_or t.nets j 0) (used-has count t.nets s.few j p))
      (ltb-suc (age (k.news (get_or t.nets i 0))) (age (k.news (get_or t.nets j 0)))))

  -- the ages after it
  aged : (i : ℕ) → i < many → age (d (get_or after.nets i 0) ∷ k.news (get_or after.nets i 0)) ≡ cond (named (get_or after.nets i 0)) 0 (key (get_or after.nets i 0))
  unfolding puts is_put
  aged i h = go (named m) refl
    where
      m : ℕ
      m = get_or after.nets i 0

      entered : (is_filed m xs || has_entry count m t.nets) ≡ true
      entered = sym (all-entered named xs count t s.columns fits m) ∙ used-has many after.nets fits i h

      go : (b : Bool) → named m ≡ b → age (d m ∷ k.news m) ≡ cond (named m) 0 (key m)
      go true q = rw q (age-mark (d m) (k.news m) (ap puts (is m) ∙ rw q))
      go false q = rw q (age-quiet (d m) (k.news m) (ap puts (is m) ∙ rw q) ∙ sym (key-used m (rw q at entered)))

  pub fit-filed : Fit l many after (filed xs d k)
  unfolding filed
  fit-filed = record {
    cells = λ m. said_more l (d m) (k.news m) (cell_in count t m) (cell_in many after m) (g.cells m) (all-cells named l xs count t s.columns fits m ∙ ap (λ (x : News). cell_after l x (cell_in count t m)) (sym (is m)));
    lined = lined-all named xs count t s.columns fits k.held g.lined;
    order = λ i j h p. ranked-all named key old xs count t s.columns fits (λ m q. rw (sym (held-has m) ∙ q)) s.ranked before i j h p ∙ sym (rw (aged i (omega arith), aged j p));
  }
