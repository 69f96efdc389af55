-- What the tests of an image's frame decide. Each is one of a chain, so one that fails decides it, and what passed them all is long enough. Assumes nothing.
use Prim.Native.Nat.{ℕ, ◌≤◌, ◌<◌}
use mathlib.Core.Path.{◌≡◌, refl, ◌∙◌}
use mathlib.Core.Bool.{Bool, true, false, cond}
use mathlib.Core.List.{List}
use native.Mathlib.Omega.{arith}
use borrow.Author.Tests.{leb-true, eqb-true, le-leb, lt-leb, eq-eqb, ne_eqb}
use lib.Dec.{leb, eqb}
use lib.ListN.{length}
use Rattle.record.specs.Tests.{both}
use Rattle.record.proofs.Bounds.{one, rest}
use Rattle.std.specs.Prelude.{Ok, Err}
use Rattle.image.specs.declared.Refusal.TheVariants.{Version, Damaged}
use Rattle.image.specs.Numbers.{number_at}
use Rattle.image.specs.Image.{version_at, length_at, is_marked, has_room, sum_holds, is_whole, frame_of}

neither : (b : Bool) → cond b false false ≡ false
neither true = refl
neither false = refl

module _ (s : List ℕ) where
  pub whole-short : length s < 12 → false ≡ is_whole s
  unfolding is_whole
  whole-short h = rw (lt-leb 12 (length s) h)

  pub whole-unmarked : (w : ℕ) → w ≡ number_at 4 s 0 → (w ≡ 0x46524A54 → ⊥) → false ≡ is_whole s
  unfolding is_whole is_marked
  whole-unmarked w e h = rw (ne_eqb (number_at 4 s 0) 0x46524A54 (λ q. h (e ∙ q)), neither (leb 12 (length s)))

  pub whole-small : (n : ℕ) → n ≡ length_at s → n < 12 → false ≡ is_whole s
  unfolding is_whole has_room
  whole-small n e h = rw (lt-leb 12 (length_at s) (rw e at h), neither (both (leb 12 (length s)) (is_marked s)))

  pub whole-cut : (n : ℕ) → n ≡ length_at s → length s < n → false ≡ is_whole s
  unfolding is_whole has_room
  whole-cut n e h = rw (lt-leb (length_at s) (length s) (rw e at h), neither (leb 12 (length_at s)), neither (both (leb 12 (length s)) (is_marked s)))

  pub whole-rest : (w n : ℕ) (b : Bool) → w ≡ number_at 4 s 0 → n ≡ length_at s → 12 ≤ length s → w ≡ 0x46524A54 → 12 ≤ n → n ≤ length s → b ≡ sum_holds s → b ≡ is_whole s
  unfolding is_whole is_marked has_room
  whole-rest w n b e f h m g k q =
      rw (le-leb 12 (length s) h, eq-eqb (number_at 4 s 0) 0x46524A54 (rw e at m), le-leb 12 (length_at s) (rw f at g), le-leb (length_at s) (length s) (rw f at k)) q

  pub whole_long : is_whole s ≡ true → 12 ≤ length s
  unfolding is_whole
  whole_long h = leb-true 12 (length s) (one _ _ (one _ _ h))

  pub whole_room : is_whole s ≡ true → length_at s ≤ length s
  unfolding is_whole has_room
  whole_room h = leb-true (length_at s) (length s) (rest (leb 12 (length_at s)) _ (one _ (sum_holds s) (rest (both (leb 12 (length s)) (is_marked s)) _ h)))

  pub loaded-long : frame_of s ≡ Ok (tt {0}) → 1392 ≤ length s
  unfolding frame_of
  loaded-long h = go (is_whole s) (eqb (version_at s) 1) (eqb (length_at s) 1392) refl refl h
    where
      go : (w v l : Bool) → is_whole s ≡ w → eqb (length_at s) 1392 ≡ l → cond w (cond v (cond l (Ok (tt {0})) (Err Damaged)) (Err Version)) (Err Damaged) ≡ Ok (tt {0}) → 1392 ≤ length s
      go true true true p q r = omega (arith, whole_room p, eqb-true (length_at s) 1392 q)
      go true true false p q r = cc
      go true false l p q r = cc
      go false v l p q r = cc
