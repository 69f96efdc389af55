-- A reject is answered 4 exactly if it needs an entry, its network has none, none is free and all sixteen have a mark: where one has neither, the search
-- for the one that was marked longest ago finds a place. Assumes nothing.
use Prim.Native.Nat.{ℕ, zero, suc, ◌≤◌, ◌<◌}
use mathlib.Core.Path.{◌≡◌, refl, ◌∙◌, ap}
use mathlib.Core.Bool.{Bool, true, false, cond}
use mathlib.Core.List.{List}
use native.Mathlib.Omega.{arith}
use lib.Dec.{leb, ltb, eqb}
use lib.ListN.{get_or}
use borrow.Author.Tests.{le-leb, lt-leb, ltb-true, ltb-false, eqb-true, eqb-false}
use Rattle.laws.proofs.Seek.{seek-le}
use Rattle.entries.specs.declared.Entries.{Entries}
use Rattle.entries.specs.declared.Seat.{Seat}
use Rattle.entries.specs.Places.{same_net, entries_held, place_in, has_entry}
use Rattle.entries.specs.Order.{has_neither, leaver_to}
use Rattle.entries.specs.Entries.{place_for}
use Rattle.entries.proofs.Ranks.{Leaver, nobody, oldest, leaver}
use Rattle.record.specs.declared.Record.{Record}
use Rattle.record.specs.Sides.{access_of}
use Rattle.record.specs.Tests.{both, either, flip}
use Rattle.turns.specs.declared.Draws.{Draws}
use Rattle.turns.specs.declared.Row.{Row}
use Rattle.turns.specs.Rejects.{needs_entry}
use Rattle.checks.specs.Answers.{is_full}
use Rattle.rules.specs.declared.Event.TheVariants.{Message}
use Rattle.ranges.specs.Valid.{valid_of}
use Rattle.validity.specs.Answered.{seen_at}
use Rattle.validity.specs.Sized.{Sized}
use Rattle.history.specs.Cell.{entries_in, held_in}
use Rattle.history.specs.Full.{all_marked, is_crowded}
use Rattle.history.proofs.Lined.{held_whole}
use Rattle.history.proofs.Fit.{Sound}
use Rattle.history.proofs.Stays.{seen-seat}
use Rattle.history.proofs.News.{sound}

-- a mark, or both
marked : (f b : Bool) → either (flip f) (flip b) ≡ flip (cond f b false)
marked true true = refl
marked true false = refl
marked false b = refl

module _ (t : Entries) where
  abbrev free : ℕ → Bool
  free i = has_neither t.forbidden t.barred i

  all-marked : (n : ℕ) → ((i : ℕ) → i < n → free i ≡ false) → all_marked n t ≡ true
  unfolding all_marked
  all-marked zero f = refl
  all-marked (suc n) f =
      rw (all-marked n (λ i h. f i (omega arith)), marked (eqb (get_or t.forbidden n 0) 0) (eqb (get_or t.barred n 0) 0), f n (omega arith))

  one_free : (n p : ℕ) → p < n → free p ≡ true → all_marked n t ≡ false
  unfolding all_marked
  one_free zero p h q = absurd (omega arith)
  one_free (suc n) p h q = go (eqb p n) refl (λ i. one_free n p i q)
    where
      go : (b : Bool) → eqb p n ≡ b → (p < n → all_marked n t ≡ false) → both (all_marked n t) (either (flip (eqb (get_or t.forbidden n 0) 0)) (flip (eqb (get_or t.barred n 0) 0))) ≡ false
      go true e ih = rw (marked (eqb (get_or t.forbidden n 0) 0) (eqb (get_or t.barred n 0) 0), ← eqb-true p n e, q) (never (all_marked p t))
        where
          never : (b : Bool) → both b false ≡ false
          never true = refl
          never false = refl
      go false e ih = let d : p ≡ n → ⊥ = eqb-false p n e in rw (ih (omega (arith, d)))

  module _ (count net : ℕ) (s : Sound count t) where
    abbrev at : ℕ
    at = place_for count net t.nets t.forbidden t.barred t.ranks

    abbrev found : Bool
    found = has_entry count net t.nets

    crowded : leb 16 at ≡ both (flip found) (both (leb 16 count) (all_marked 16 t))
    unfolding place_for has_entry place_in
    crowded = go (ltb (place_in count net t.nets) 16) refl (ltb (place_in count net t.nets) (entries_held count)) refl
      where
        le : place_in count net t.nets ≤ entries_held count
        le = seek-le (same_net net) (entries_held count) t.nets

        whole : entries_held count ≡ count
        whole = held_whole count s.few

        -- none is free and it has none
        left : 16 ≤ place_in count net t.nets → leb 16 (leaver_to 16 t.forbidden t.barred t.ranks) ≡ all_marked 16 t
        left h = by (leaver t.forbidden t.barred t.ranks (rw full at s.ranked))
          where
            full : count ≡ 16
            full = omega (arith, le, whole, s.few)

            by : Leaver 16 (leaver_to 16 t.forbidden t.barred t.ranks) t.forbidden t.barred t.ranks → leb 16 (leaver_to 16 t.forbidden t.barred t.ranks) ≡ all_marked 16 t
            by (nobody e f) = rw (e, all-marked 16 f)
            by (oldest i q f) = rw (lt-leb 16 (leaver_to 16 t.forbidden t.barred t.ranks) i, one_free 16 (leaver_to 16 t.forbidden t.barred t.ranks) i q)

        go : (b : Bool) → ltb (place_in count net t.nets) 16 ≡ b → (c : Bool) → ltb (place_in count net t.nets) (entries_held count) ≡ c
            → leb 16 (cond (ltb (place_in count net t.nets) 16) (place_in count net t.nets) (leaver_to 16 t.forbidden t.barred t.ranks))
            ≡ both (flip (ltb (place_in count net t.nets) (entries_held count))) (both (leb 16 count) (all_marked 16 t))
        go true p true q = rw (p, q, lt-leb 16 (place_in count net t.nets) (ltb-true (place_in count net t.nets) 16 p))
        go true p false q =
            let h : place_in count net t.nets < 16 = ltb-true (place_in count net t.nets) 16 p in
            rw (p, q, lt-leb 16 (place_in count net t.nets) h, lt-leb 16 count (omega (arith, whole, ltb-false (place_in count net t.nets) (entries_held count) q)))
        go false p true q = absurd (omega (arith, whole, s.few, ltb-false (place_in count net t.nets) 16 p, ltb-true (place_in count net t.nets) (entries_held count) q))
        go false p false q =
            let h : 16 ≤ place_in count net t.nets = ltb-false (place_in count net t.nets) 16 p in
            rw (p, q, le-leb 16 count (omega (arith, le, whole))) (left h)

pub full-exactly : (r : Record) → valid_of r ≡ true → Sized r → (w : ℕ) → w < 2 → (protected : ℕ) (draws : Draws) (octets : List ℕ) (row : Row)
    → is_full row (seen_at r (Message w protected draws) octets) ≡ both (needs_entry row) (is_crowded r w (access_of r.hot w).net)
unfolding is_full is_crowded held_in
full-exactly r v z w hw protected draws octets row =
    ap (λ (b : Bool). both (needs_entry row) b)
    (ap (λ (x : Seat). leb 16 x.at) (seen-seat r octets w protected draws hw protected)
    ∙ crowded (entries_in r w) (access_of r.hot w).entries (access_of r.hot w).net (sound r v z.e0 z.e1 w))
