-- The history's eldest has neither mark; whoever else has neither and stands before it is younger, and behind it not older. Ranks follow ages, so it is the one
-- of lowest rank. Assumes nothing.
use Prim.Native.Nat.{ℕ, zero, suc, ◌≤◌, ◌<◌}
use mathlib.Core.Path.{◌≡◌, refl, sym, ◌∙◌}
use mathlib.Core.Bool.{Bool, true, false, cond, true≢false}
use mathlib.Core.List.{List, [], ◌∷◌}
use mathlib.Core.Option.{Option, none, some}
use native.Mathlib.Omega.{arith}
use lib.Dec.{ltb}
use lib.ListN.{length, get_or}
use borrow.Author.Tests.{ltb-true, ltb-false}
use Rattle.history.specs.Tale.{Limits, News, age, is_listed, older, eldest}

module _ (l : Limits) (news : ℕ → List News) where
  abbrev listed : ℕ → Bool
  listed m = is_listed l (news m)

  abbrev key : ℕ → ℕ
  key m = age (news m)

  pub record Eldest (ms : List ℕ) (v : ℕ) : Type 0 where
    pub at : ℕ
    pub inside : at < length ms
    pub is : get_or ms at 0 ≡ v
    pub neither : listed v ≡ false
    pub before : (i : ℕ) → i < at → listed (get_or ms i 0) ≡ false → key (get_or ms i 0) < key v
    pub behind : (i : ℕ) → at ≤ i → i < length ms → listed (get_or ms i 0) ≡ false → key (get_or ms i 0) ≤ key v

  -- all have a mark, or one is the eldest
  abbrev pub Found : List ℕ → Option ℕ → Type 0
  Found ms none = (i : ℕ) → i < length ms → listed (get_or ms i 0) ≡ true
  Found ms (some v) = Eldest ms v

  later : (m : ℕ) (ms : List ℕ) (v : ℕ) → Eldest ms v → (listed m ≡ false → key m < key v) → Eldest (m ∷ ms) v
  later m ms v e f = record {
    at = suc e.at;
    inside = omega (arith, e.inside);
    is = e.is;
    neither = e.neither;
    before = λ i h u. go i h u;
    behind = λ i h k u. on i h k u;
  }
    where
      go : (i : ℕ) → i < suc e.at → listed (get_or (m ∷ ms) i 0) ≡ false → key (get_or (m ∷ ms) i 0) < key v
      go zero h u = f u
      go (suc i) h u = e.before i (omega arith) u

      on : (i : ℕ) → suc e.at ≤ i → i < length (m ∷ ms) → listed (get_or (m ∷ ms) i 0) ≡ false → key (get_or (m ∷ ms) i 0) ≤ key v
      on zero h k u = absurd (omega arith)
      on (suc i) h k u = e.behind i (omega arith) (omega arith) u

  -- the first is the eldest, if none behind it is older
  first : (m : ℕ) (ms : List ℕ) → listed m ≡ false → ((i : ℕ) → i < length ms → listed (get_or ms i 0) ≡ false → key (get_or ms i 0) ≤ key m) → Eldest (m ∷ ms) m
  first m ms u f = record {
    at = 0;
    inside = omega arith;
    is = refl;
    neither = u;
    before = λ i h. absurd (omega arith);
    behind = λ i h k. on i k;
  }
    where
      on : (i : ℕ) → i < length (m ∷ ms) → listed (get_or (m ∷ ms) i 0) ≡ false → key (get_or (m ∷ ms) i 0) ≤ key m
      on zero k x = omega arith
      on (suc i) k x = f i (omega arith) x

  -- nobody is older than the eldest
  oldest : (ms : List ℕ) (v : ℕ) → Eldest ms v → (i : ℕ) → i < length ms → listed (get_or ms i 0) ≡ false → key (get_or ms i 0) ≤ key v
  oldest ms v e i h u = go (ltb i e.at) refl
    where
      go : (b : Bool) → ltb i e.at ≡ b → key (get_or ms i 0) ≤ key v
      go true q = omega (arith, e.before i (ltb-true i e.at q) u)
      go false q = e.behind i (ltb-false i e.at q) h u

  pub eldest-is : (ms : List ℕ) → Found ms (eldest l news ms)
  unfolding eldest older
  eldest-is [] = λ i h. absurd (omega arith)
  eldest-is (m ∷ ms) = go (listed m) refl (eldest l news ms) (eldest-is ms)
    where
      go : (b : Bool) → listed m ≡ b → (o : Option ℕ) → Found ms o → Found (m ∷ ms) (cond (listed m) o (older news m o))
      go true q none f = rw q all
        where
          all : (i : ℕ) → i < length (m ∷ ms) → listed (get_or (m ∷ ms) i 0) ≡ true
          all zero h = q
          all (suc i) h = f i (omega arith)
      go true q (some v) f = rw q (later m ms v f (λ u. absurd (true≢false (sym q ∙ u))))
      go false q none f = rw q (first m ms q (λ i h u. absurd (true≢false (sym (f i h) ∙ u))))
      go false q (some v) f = rw q (by (ltb (key m) (key v)) refl)
        where
          by : (b : Bool) → ltb (key m) (key v) ≡ b → Found (m ∷ ms) (older news m (some v))
          by true p = rw p (later m ms v f (λ u. ltb-true (key m) (key v) p))
          by false p = rw p (first m ms q (λ i h u. omega (arith, oldest ms v f i h u, ltb-false (key m) (key v) p)))
