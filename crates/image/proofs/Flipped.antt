-- One octet of an image changed is found: where the octet is the length's, the image has another length; elsewhere the checksum is another, or it is the checksum's own. Assumes nothing.
use Prim.Native.Nat.{ℕ, zero, suc, ◌+◌, ◌-◌, ◌≤◌, ◌<◌}
use mathlib.Core.Path.{◌≡◌, refl, sym, ◌∙◌}
use mathlib.Core.Bool.{Bool, true, false, cond}
use mathlib.Core.List.{List, [], ◌∷◌}
use mathlib.Core.Logic.{◌⊎◌, inl, inr}
use native.Mathlib.Omega.{arith}
use native.Mathlib.Nat.{add-zero}
use lib.Dec.{eqb, leb, ltb}
use lib.ListN.{length, get_or, set, take}
use lib.Seq.{take-set-lt, take-set-le, get_or-set_same, get_or-set_other, get_or-take, length-take-le}
use borrow.Author.Tests.{eqb-true, eq-eqb, ne_eqb, ltb-true, ltb-false}
use Rattle.record.specs.Tests.{both}
use Rattle.record.specs.declared.Record.{Record}
use Rattle.record.proofs.Bounds.{rest}
use Rattle.deadlines.specs.declared.Table.{Table}
use Rattle.std.specs.Prelude.{Ok, Err}
use Rattle.image.specs.declared.Refusal.TheVariants.{Version, Damaged}
use Rattle.image.specs.Numbers.{number_at}
use Rattle.image.specs.Checksum.{checksum_of}
use Rattle.image.specs.Image.{version_at, length_at, is_marked, has_room, sum_holds, is_whole, frame_of, held, kept_by, load_by, load_of}
use Rattle.image.proofs.Judged.{whole_room}
use Rattle.image.proofs.Undone.{Octets, checksum-one}

octets-take : (n : ℕ) (s : List ℕ) → Octets s → Octets (take n s)
octets-take zero s h k = omega arith
octets-take (suc n) [] h k = omega arith
octets-take (suc n) (o ∷ s) h zero = h 0
octets-take (suc n) (o ∷ s) h (suc k) = octets-take n s (λ i. h (suc i)) k

-- what an image of this version and length has passed
pub record Framed (s : List ℕ) : Type 0 where
  pub version : version_at s ≡ 1
  pub long : length_at s ≡ 1392
  pub room : length_at s ≤ length s
  pub sum : checksum_of (take (length_at s - 4) s) ≡ number_at 4 s (length_at s - 4)

whole_sum : (s : List ℕ) → is_whole s ≡ true → checksum_of (take (length_at s - 4) s) ≡ number_at 4 s (length_at s - 4)
unfolding is_whole sum_holds
whole_sum s h = eqb-true (checksum_of (take (length_at s - 4) s)) (number_at 4 s (length_at s - 4)) (rest (has_room s) (sum_holds s) (rest (both (leb 12 (length s)) (is_marked s)) (both (has_room s) (sum_holds s)) h))

loaded-framed : (s : List ℕ) → frame_of s ≡ Ok (tt {0}) → Framed s
unfolding frame_of
loaded-framed s h = go (is_whole s) (eqb (version_at s) 1) (eqb (length_at s) 1392) refl refl refl h
  where
    go : (w v l : Bool) → is_whole s ≡ w → eqb (version_at s) 1 ≡ v → eqb (length_at s) 1392 ≡ l → cond w (cond v (cond l (Ok (tt {0})) (Err Damaged)) (Err Version)) (Err Damaged) ≡ Ok (tt {0}) → Framed s
    go true true true p q r e = record { version = eqb-true (version_at s) 1 q; long = eqb-true (length_at s) 1392 r; room = whole_room s p; sum = whole_sum s p }
    go true true false p q r e = cc
    go true false l p q r e = cc
    go false v l p q r e = cc

-- damaged are octets that are no whole image, and of this version those of another length
not-whole : (s : List ℕ) → (is_whole s ≡ true → ⊥) → frame_of s ≡ Err Damaged
unfolding frame_of
not-whole s h = go (is_whole s) refl
  where
    go : (w : Bool) → is_whole s ≡ w → cond w (cond (eqb (version_at s) 1) (cond (eqb (length_at s) 1392) (Ok (tt {0})) (Err Damaged)) (Err Version)) (Err Damaged) ≡ Err Damaged
    go false p = refl
    go true p = absurd (h p)

not-long : (s : List ℕ) → version_at s ≡ 1 → (length_at s ≡ 1392 → ⊥) → frame_of s ≡ Err Damaged
unfolding frame_of
not-long s v h = go (is_whole s)
  where
    go : (w : Bool) → cond w (cond (eqb (version_at s) 1) (cond (eqb (length_at s) 1392) (Ok (tt {0})) (Err Damaged)) (Err Version)) (Err Damaged) ≡ Err Damaged
    go false = refl
    go true = rw (eq-eqb (version_at s) 1 v, ne_eqb (length_at s) 1392 h)

-- an octet elsewhere leaves a number
number-other : (k : ℕ) (s : List ℕ) (at i y : ℕ) → (i < at) ⊎ (at + k ≤ i) → number_at k (set s i y) at ≡ number_at k s at
unfolding number_at
number-other zero s at i y h = refl
number-other (suc k) s at i y h = rw (get_or-set_other s i at y 0 (apart h), number-other k s (suc at) i y (on h))
  where
    apart : (i < at) ⊎ (at + suc k ≤ i) → at ≡ i → ⊥
    apart (inl l) e = omega (arith, l, e)
    apart (inr l) e = omega (arith, l, e)

    on : (i < at) ⊎ (at + suc k ≤ i) → (i < suc at) ⊎ (suc at + k ≤ i)
    on (inl l) = inl (omega (arith, l))
    on (inr l) = inr (omega (arith, l))

-- one of its own makes it another
number-another : (k : ℕ) (s : List ℕ) (at j y : ℕ) → j < k → at + j < length s → number_at k (set s (at + j) y) at ≡ number_at k s at → y ≡ get_or s (at + j) 0
unfolding number_at
number-another zero s at j y h l e = absurd (omega (arith, h))
number-another (suc k) s at zero y h l e =
    let p : get_or (set s (at + 0) y) at 0 ≡ y = rw (add-zero at) (get_or-set_same s at y 0 (omega (arith, l))) in
    let q : number_at k (set s (at + 0) y) (suc at) ≡ number_at k s (suc at) = number-other k s (suc at) (at + 0) y (inl (omega arith)) in
    let z : get_or s (at + 0) 0 ≡ get_or s at 0 = rw (add-zero at) in
    omega (arith, e, p, q, z)
number-another (suc k) s at (suc j) y h l e =
    let m : at + suc j ≡ suc at + j = omega arith in
    let p : get_or (set s (at + suc j) y) at 0 ≡ get_or s at 0 = get_or-set_other s (at + suc j) at y 0 (λ w. omega (arith, w)) in
    let n : number_at k (set s (at + suc j) y) (suc at) ≡ number_at k s (suc at) = omega (arith, e, p) in
    let q : number_at k (set s (suc at + j) y) (suc at) ≡ number_at k s (suc at) = rw m at n in
    rw m (number-another k s (suc at) j y (omega (arith, h)) (omega (arith, l)) q)

-- Every octet of an image of this version: another in its place, and it is damaged.
module _ (s : List ℕ) (octets : Octets s) (framed : frame_of s ≡ Ok (tt {0})) (i y : ℕ) (octet : y < 256) (other : y ≡ get_or s i 0 → ⊥) where
  abbrev f : Framed s
  f = loaded-framed s framed

  abbrev t : List ℕ
  t = set s i y

  -- the length stays
  module _ (e : length_at t ≡ 1392) where
    before-sum : i < 1388 → is_whole t ≡ true → ⊥
    before-sum l w =
        let a : take (1392 - 4) t ≡ set (take 1388 s) i y = take-set-lt 1388 s i y l in
        let n : number_at 4 t (1392 - 4) ≡ number_at 4 s 1388 = number-other 4 s 1388 i y (inl l) in
        let x : checksum_of (set (take 1388 s) i y) ≡ number_at 4 s 1388 = rw (e, a, n) at (whole_sum t w) in
        let z : checksum_of (take 1388 s) ≡ number_at 4 s 1388 = rw f.long at f.sum in
        let i-in : i < length (take 1388 s) = rw (length-take-le 1388 s (omega (arith, f.room, f.long))) l in
        other (checksum-one (take 1388 s) i y (octets-take 1388 s octets) octet i-in (x ∙ sym z) ∙ get_or-take 1388 s i 0 l)

    in_sum : (j : ℕ) → j < 4 → i ≡ 1388 + j → is_whole t ≡ true → ⊥
    in_sum j l p w =
        let a : take (1392 - 4) t ≡ take 1388 s = take-set-le 1388 s i y (omega (arith, p)) in
        let x : checksum_of (take 1388 s) ≡ number_at 4 t 1388 = rw (e, a) at (whole_sum t w) in
        let z : checksum_of (take 1388 s) ≡ number_at 4 s 1388 = rw f.long at f.sum in
        let n : number_at 4 (set s (1388 + j) y) 1388 ≡ number_at 4 s 1388 = rw p at (sym x ∙ z) in
        other (rw p (number-another 4 s 1388 j y l (omega (arith, l, f.room, f.long)) n))

  pub flipped : i < 1392 → frame_of t ≡ Err Damaged
  flipped l = go (ltb i 6) (ltb i 8) (ltb i 1388) refl refl refl
    where
      aside : (i < 6) ⊎ (8 ≤ i) → length_at t ≡ 1392
      aside h = number-other 2 s 6 i y h ∙ f.long

      go : (a b c : Bool) → ltb i 6 ≡ a → ltb i 8 ≡ b → ltb i 1388 ≡ c → frame_of t ≡ Err Damaged
      go true b c p q r = let h = ltb-true i 6 p in not-whole t (before-sum (aside (inl h)) (omega (arith, h)))
      go false true c p q r =
          let h : 6 ≤ i = ltb-false i 6 p in
          let k : i < 8 = ltb-true i 8 q in
          let m : 6 + (i - 6) ≡ i = omega (arith, h) in
          not-long t (number-other 2 s 4 i y (inr (omega (arith, h))) ∙ f.version) (λ e. other (rw m at (number-another 2 s 6 (i - 6) y (omega (arith, k, h)) (omega (arith, h, k, f.room, f.long)) (rw m (e ∙ sym f.long)))))
      go false false true p q r = not-whole t (before-sum (aside (inr (ltb-false i 8 q))) (ltb-true i 1388 r))
      go false false false p q r =
          let h : 1388 ≤ i = ltb-false i 1388 r in
          not-whole t (in_sum (aside (inr (ltb-false i 8 q))) (i - 1388) (omega (arith, h, l)) (omega (arith, h)))

  -- so that it is not loaded, and what the caller has stays
  pub flipped-left : i < 1392 → (load_of t ≡ Err Damaged) × ((q : Record) (u : Table) (m : ℕ) → kept_by q u m (load_of t) ≡ held q u m)
  unfolding load_of load_by
  flipped-left l = (rw (flipped l), λ q u m. rw (flipped l))
