-- An access's entries fit what is told of it: the cells are what the news say, the networks stand in the order told, and ranks follow ages. Each deed keeps
-- that, whoever gives up its place. Assumes nothing.
use Prim.Native.Nat.{ℕ, suc, ◌≤◌, ◌<◌}
use mathlib.Core.Path.{◌≡◌, refl, sym, ◌∙◌, ap}
use mathlib.Core.Bool.{Bool, true, false, cond, not, ◌||◌}
use mathlib.Core.List.{List, ◌∷◌}
use native.Mathlib.Omega.{arith}
use lib.Dec.{ltb, eqb}
use lib.ListN.{get_or}
use borrow.Author.Tests.{ltb-true, ltb-false, eq-eqb, ne_eqb}
use Rattle.laws.proofs.Seek.{seek_is, ltb-suc}
use Rattle.entries.specs.declared.Entries.{Entries}
use Rattle.entries.specs.Places.{same_net, entries_held, place_in}
use Rattle.entries.specs.Order.{has_neither}
use Rattle.entries.proofs.Ranks.{Order, Follows}
use Rattle.validity.specs.Sized.{Columns}
use Rattle.history.specs.Cell.{column_in, cell_in, Lined}
use Rattle.history.specs.Tale.{Cell, Limits, News, puts, stands, mark_of, bans_in, bars_in, said_by, Tale, told, age, is_listed}
use Rattle.history.proofs.Said.{cell_after, said-step}
use Rattle.history.proofs.Columns.{peek-in}
use Rattle.history.proofs.Lined.{held_whole}

pub record Fit (l : Limits) (count : ℕ) (t : Entries) (k : Tale) : Type 0 where
  pub cells : (m : ℕ) → cell_in count t m ≡ said_by l (k.news m)
  pub lined : Lined count t.nets k.held
  pub order : Follows count (λ i. age (k.news (get_or t.nets i 0))) t.ranks

-- what is known of the entries of a valid record
pub record Sound (count : ℕ) (t : Entries) : Type 0 where
  pub few : count ≤ 16
  pub columns : Columns t
  pub once : (i j : ℕ) → i < j → j < count → get_or t.nets i 0 ≡ get_or t.nets j 0 → ⊥
  pub ranked : Order count t.ranks

pub age-quiet : (d : News) (ds : List News) → puts d ≡ false → age (d ∷ ds) ≡ suc (age ds)
unfolding age
age-quiet d ds q = rw q

pub age-mark : (d : News) (ds : List News) → puts d ≡ true → age (d ∷ ds) ≡ 0
unfolding age
age-mark d ds q = rw q

-- one piece of news more
pub said_more : (l : Limits) (d : News) (ds : List News) (c c' : Cell) → c ≡ said_by l ds → c' ≡ cell_after l d c → c' ≡ said_by l (d ∷ ds)
said_more l d ds c c' h e = e ∙ ap (cell_after l d) h ∙ sym (said-step l d ds)

module _ (l : Limits) (count : ℕ) (t : Entries) (k : Tale) (s : Sound count t) (g : Fit l count t k) where
  abbrev nets : List ℕ
  nets = t.nets

  abbrev key : ℕ → ℕ
  key i = age (k.news (get_or nets i 0))

  -- news that mark nobody
  pub fit-told : (t' : Entries) → t'.nets ≡ t.nets → t'.ranks ≡ t.ranks → (d : ℕ → News) → ((m : ℕ) → cell_in count t' m ≡ cell_after l (d m) (cell_in count t m)) → ((m : ℕ) → puts (d m) ≡ false)
      → Fit l count t' (told d k)
  unfolding told
  fit-told t' en er d h q = record {
    cells = λ m. said_more l (d m) (k.news m) (cell_in count t m) (cell_in count t' m) (g.cells m) (h m);
    lined = rw en g.lined;
    order = rw (en, er) (λ i j p r. g.order i j p r ∙ sym (later i j));
  }
    where
      later : (i j : ℕ) → ltb (age (d (get_or nets i 0) ∷ k.news (get_or nets i 0))) (age (d (get_or nets j 0) ∷ k.news (get_or nets j 0))) ≡ ltb (key i) (key j)
      later i j = rw (age-quiet (d (get_or nets i 0)) (k.news (get_or nets i 0)) (q (get_or nets i 0)), age-quiet (d (get_or nets j 0)) (k.news (get_or nets j 0)) (q (get_or nets j 0))) (ltb-suc (key i) (key j))

  -- no other place has the network of place p
  pub apart : (p : ℕ) → p < count → (i : ℕ) → i < count → (i ≡ p → ⊥) → get_or nets i 0 ≡ get_or nets p 0 → ⊥
  apart p hp i hi d e = go (ltb i p) refl
    where
      go : (b : Bool) → ltb i p ≡ b → ⊥
      go true q = s.once i p (ltb-true i p q) hp e
      go false q = s.once p i (omega (arith, ltb-false i p q, d)) hi (sym e)

  -- a network in use is found at its place
  found_at : (i : ℕ) → i < count → place_in count (get_or nets i 0) nets ≡ i
  unfolding place_in
  found_at i h =
      rw (held_whole count s.few) (seek_is (same_net (get_or nets i 0)) count nets i (omega arith)
      (λ j p. ne_eqb (get_or nets j 0) (get_or nets i 0) (apart i h j (omega arith) (λ e. omega arith))) (λ p. same))
    where
      same : eqb (get_or nets i 0) (get_or nets i 0) ≡ true
      same = eq-eqb (get_or nets i 0) (get_or nets i 0) refl

  -- its marks are what the history says
  mark-at : (xs : List ℕ) (i : ℕ) → i < count → column_in count nets xs (get_or nets i 0) ≡ get_or xs i 0
  mark-at xs i h = rw (found_at i h) (peek-in xs i (entries_held count) (rw (held_whole count s.few) h))

  pub neither-is : (i : ℕ) → i < count → has_neither t.forbidden t.barred i ≡ not (is_listed l (k.news (get_or nets i 0)))
  unfolding is_listed said_by cell_in
  neither-is i h =
      rw (← (mark-at t.forbidden i h), ← (mark-at t.barred i h), ap (λ (c : Cell). c.forbidden) (g.cells (get_or nets i 0)), ap (λ (c : Cell). c.barred) (g.cells (get_or nets i 0)))
      (go (stands l.ban (bans_in (k.news (get_or nets i 0)))) (stands l.n1 (bars_in (k.news (get_or nets i 0)))))
    where
      go : (a b : Bool) → cond (eqb (mark_of a) 0) (eqb (mark_of b) 0) false ≡ not (a || b)
      go true b = refl
      go false true = refl
      go false false = refl
