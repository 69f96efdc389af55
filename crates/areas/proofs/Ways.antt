-- The three ways of putting an area in a list, from what a search found. Assumes nothing.
use mathlib.Core.Path.{◌≡◌, refl, sym}
use mathlib.Core.Bool.{Bool, true, false, cond}
use mathlib.Core.List.{List, [], ◌∷◌, ◌++◌}
use Prim.Native.Nat.{ℕ, suc, ◌+◌, ◌≤◌, ◌<◌}
use native.Mathlib.Omega.{arith}
use borrow.Author.Tests.{ltb-true, lt-ltb, le-ltb, eq-eqb, ne_eqb}
use lib.Dec.{ltb}
use lib.ListN.{length, set, take, drop}
use lib.Seq.{set-get_or, set-append_seam}
use Rattle.std.specs.Prelude.{Some, None}
use Rattle.areas.specs.Areas.{areas_held, area_place, area_found, listed_in, marked, placed, placed_count}

pub held_fits : (count : ℕ) → areas_held count ≤ 40
unfolding areas_held
held_fits count = elim (ltb count 40) as (λ b. ltb count 40 ≡ b → cond b count 40 ≤ 40) [ true ↦ λ q. omega (arith, ltb-true count 40 q) | false ↦ λ q. omega arith ] refl

module _ (area count : ℕ) (xs : List ℕ) where
  pub found : (at : ℕ) → Some at ≡ area_found area count xs → (listed_in area count xs ≡ true) × (at ≡ area_place area count xs)
  found at e = go (listed_in area count xs) refl
    where
      go : (b : Bool) → listed_in area count xs ≡ b → (listed_in area count xs ≡ true) × (at ≡ area_place area count xs)
      go true q = (q, let f : Some at ≡ Some (area_place area count xs) = rw q at e in cc)
      go false q = let f : Some at ≡ None = rw q at e in cc

  pub lost : None ≡ area_found area count xs → listed_in area count xs ≡ false
  lost e = go (listed_in area count xs) refl
    where
      go : (b : Bool) → listed_in area count xs ≡ b → listed_in area count xs ≡ false
      go true q = let f : None ≡ Some (area_place area count xs) = rw q at e in cc
      go false q = q

  pub inside : (at : ℕ) → Some at ≡ area_found area count xs → at < 40
  unfolding listed_in
  inside at e = let f = found at e in omega (arith, f.1, held_fits count, ltb-true (area_place area count xs) (areas_held count) f.0)

  module _ (protected x : ℕ) (m : x ≡ marked area protected) where
    pub put-over : (at : ℕ) → Some at ≡ area_found area count xs → (protected ≡ 0 → ⊥) → set xs at x ≡ placed area protected count xs
    unfolding placed
    put-over at e h = let f = found at e in rw (f.0, f.1, m, ne_eqb protected 0 h)

    pub put_behind : None ≡ area_found area count xs → count < 40 → set xs count x ≡ placed area protected count xs
    unfolding placed
    put_behind e h = rw (lost e, lt-ltb count 40 h, m)

    pub put_full : None ≡ area_found area count xs → 40 ≤ count → drop 1 xs ++ (x ∷ []) ≡ placed area protected count xs
    unfolding placed
    put_full e h = rw (lost e, le-ltb count 40 h, m)

  pub put-stays : (protected at : ℕ) → Some at ≡ area_found area count xs → protected ≡ 0 → xs ≡ placed area protected count xs
  unfolding placed
  put-stays protected at e h = let f = found at e in rw (f.0, eq-eqb protected 0 h) (sym (set-get_or xs (area_place area count xs) 0))

  pub same_count : (at : ℕ) → Some at ≡ area_found area count xs → count ≡ placed_count area count xs
  unfolding placed_count
  same_count at e = rw (found at e).0

  pub more_count : None ≡ area_found area count xs → count < 40 → count + 1 ≡ placed_count area count xs
  unfolding placed_count
  more_count e h = rw (lost e, lt-ltb count 40 h)

  pub full_count : None ≡ area_found area count xs → 40 ≤ count → count ≡ placed_count area count xs
  unfolding placed_count
  full_count e h = rw (lost e, le-ltb count 40 h)

-- the oldest goes to the end, and the new one comes in its place
pub turned : (n : ℕ) (xs : List ℕ) (x : ℕ) → length xs ≡ suc n → (ys : List ℕ) → ys ≡ drop 1 xs ++ take 1 xs → set ys n x ≡ drop 1 xs ++ (x ∷ [])
turned n [] x l ys e = absurd (omega arith)
turned n (y ∷ xs) x l ys e = let q : n ≡ length xs = omega arith in rw (e, q) (set-append_seam xs y [] x)
