-- Which slots a round may still name, as 1 or 0: those that are due, and T3502's also where T3510 of its access is due and fails at the last attempt, since its
-- length may be 0. No timer that runs out adds one, and its own is gone: T3510 is started by none, and T3502 out sets the attempts to 0. Assumes nothing.
use Prim.Native.Nat.{ℕ, zero, suc, ◌+◌, ◌-◌, ◌<◌, ◌≤◌}
use mathlib.Core.Path.{◌≡◌, refl}
use mathlib.Core.Bool.{Bool, true, false, cond}
use mathlib.Core.Logic.{◌⊎◌, ⊎_elim}
use native.Mathlib.Omega.{arith}
use lib.Dec.{ltb, eqb}
use borrow.Author.Tests.{eqb-true, eqb-false}
use Rattle.record.specs.Tests.{both}
use Rattle.rounds.proofs.Outs.{of-ten}

-- T3502's slot: due, or T3510 is due and the attempt is the last
unfoldable pub raised : ℕ → ℕ → ℕ → ℕ
raised (suc b) a c = 1
raised zero (suc a) c = c
raised zero zero c = 0

record Raised (b a c z : ℕ) : Type 0 where
  most : z ≤ 1
  due : b ≤ z
  started : a + c ≤ z + 1
  first : z ≤ b + a
  last : z ≤ b + c

raise : (b a c : ℕ) → b ≤ 1 → a ≤ 1 → c ≤ 1 → Raised b a c (raised b a c)
unfolding raised
raise (suc b) a c l m n = record { most = omega arith; due = omega arith; started = omega arith; first = omega arith; last = omega arith }
raise zero (suc a) c l m n = record { most = omega arith; due = omega arith; started = omega arith; first = omega arith; last = omega arith }
raise zero zero c l m n = record { most = omega arith; due = omega arith; started = omega arith; first = omega arith; last = omega arith }

-- by which slots are due, b, and by the accesses' last attempts, c
unfoldable pub chance : (ℕ → ℕ) → (ℕ → ℕ) → ℕ → ℕ
chance b c i = cond (both (ltb 3 i) (ltb i 6)) (raised (b i) (b (i - 4)) (c (i - 4))) (b i)

abbrev pub Bits : (ℕ → ℕ) → Type 0
Bits b = (i : ℕ) → b i ≤ 1

module _ (b c : ℕ → ℕ) (m : Bits b) (n : Bits c) where
  pub chance-most : (i : ℕ) → i < 10 → chance b c i ≤ 1
  unfolding chance
  chance-most =
      of-ten (λ i. chance b c i ≤ 1) (m 0) (m 1) (m 2) (m 3) (raise (b 4) (b 0) (c 0) (m 4) (m 0) (n 0)).most (raise (b 5) (b 1) (c 1) (m 5) (m 1) (n 1)).most (m 6) (m 7) (m 8) (m 9)

  -- a slot that is due has its chance
  pub chance-due : (i : ℕ) → i < 10 → b i ≤ chance b c i
  unfolding chance
  chance-due =
      of-ten (λ i. b i ≤ chance b c i) (omega arith) (omega arith) (omega arith) (omega arith) (raise (b 4) (b 0) (c 0) (m 4) (m 0) (n 0)).due (raise (b 5) (b 1) (c 1) (m 5) (m 1) (n 1)).due (omega arith) (omega arith) (omega arith) (omega arith)

-- the timer of slot `at` is out: b and c before it, d and e behind it
pub record Fired (at : ℕ) (b c d e : ℕ → ℕ) : Type 0 where
  pub below : at < 10
  pub bits : Bits b × Bits c × Bits d × Bits e
  pub ripe : b at ≡ 1
  pub stops : d at ≡ 0
  pub most : (i : ℕ) → i < 10 → (d i ≤ b i) ⊎ ((at < 2) × (i ≡ at + 4) × (c at ≡ 1))
  pub lasts : (w : ℕ) → w < 2 → eqb at w ≡ false → e w ≡ cond (eqb at (w + 4)) 0 (c w)

module _ (at : ℕ) (b c d e : ℕ → ℕ) (o : Fired at b c d e) where
  -- a slot that only a due deadline names
  plain : (i : ℕ) → i < 10 → ((at < 2) → i ≡ at + 4 → ⊥) → d i ≤ b i
  plain i l n = ⊎_elim (λ x. x) (λ x. absurd (n x.0 x.1)) (o.most i l)

  less : (w : ℕ) → w < 2 → eqb at w ≡ false → e w ≤ c w
  less w l q = go (eqb at (w + 4)) (o.lasts w l q)
    where
      go : (x : Bool) → e w ≡ cond x 0 (c w) → e w ≤ c w
      go true p = omega arith
      go false p = omega arith

  rests : (w : ℕ) → w < 2 → raised (d (w + 4)) (d w) (e w) ≤ raised (b (w + 4)) (b w) (c w)
  rests w l = go (eqb at w) refl
    where
      old : Raised (b (w + 4)) (b w) (c w) (raised (b (w + 4)) (b w) (c w))
      old = raise (b (w + 4)) (b w) (c w) (o.bits.0 (w + 4)) (o.bits.0 w) (o.bits.1 w)

      new : Raised (d (w + 4)) (d w) (e w) (raised (d (w + 4)) (d w) (e w))
      new = raise (d (w + 4)) (d w) (e w) (o.bits.2 (w + 4)) (o.bits.2 w) (o.bits.3 w)

      go : (x : Bool) → eqb at w ≡ x → raised (d (w + 4)) (d w) (e w) ≤ raised (b (w + 4)) (b w) (c w)
      go true q =
          let p : at ≡ w = eqb-true at w q in
          let s : d w ≡ 0 = rw p at o.stops in
          let t : b w ≡ 1 = rw p at o.ripe in
          ⊎_elim (λ x. omega (arith, x, new.first, old.due)) (λ x. omega (arith, rw p at x.2, new.most, old.started)) (o.most (w + 4) (omega arith))
      go false q =
          omega (arith, less w l q, plain w (omega arith) (λ x y. omega arith), plain (w + 4) (omega arith) (λ x y. eqb-false at w q (omega arith)), new.most, new.first, new.last, old.due, old.started)

  pub chance-stays : (i : ℕ) → i < 10 → chance d e i ≤ chance b c i
  unfolding chance
  chance-stays =
      of-ten (λ i. chance d e i ≤ chance b c i)
      (plain 0 (omega arith) (λ x y. omega arith))
      (plain 1 (omega arith) (λ x y. omega arith))
      (plain 2 (omega arith) (λ x y. omega arith))
      (plain 3 (omega arith) (λ x y. omega arith))
      (rests 0 (omega arith))
      (rests 1 (omega arith))
      (plain 6 (omega arith) (λ x y. omega arith))
      (plain 7 (omega arith) (λ x y. omega arith))
      (plain 8 (omega arith) (λ x y. omega arith))
      (plain 9 (omega arith) (λ x y. omega arith))

-- its own chance is gone
pub chance-gone : (b c d e : ℕ → ℕ) (at : ℕ) → at < 10 → Fired at b c d e → chance d e at ≡ 0
unfolding chance
chance-gone b c d e =
    of-ten (λ at. Fired at b c d e → chance d e at ≡ 0)
    (λ o. o.stops)
    (λ o. o.stops)
    (λ o. o.stops)
    (λ o. o.stops)
    (λ o. omega (arith, o.stops, o.lasts 0 (omega arith) refl, (raise (d 4) (d 0) (e 0) (o.bits.2 4) (o.bits.2 0) (o.bits.3 0)).last))
    (λ o. omega (arith, o.stops, o.lasts 1 (omega arith) refl, (raise (d 5) (d 1) (e 1) (o.bits.2 5) (o.bits.2 1) (o.bits.3 1)).last))
    (λ o. o.stops)
    (λ o. o.stops)
    (λ o. o.stops)
    (λ o. o.stops)

-- how many they are
unfoldable pub count : (ℕ → ℕ) → ℕ
count f = f 0 + f 1 + f 2 + f 3 + f 4 + f 5 + f 6 + f 7 + f 8 + f 9

abbrev every : (P : ℕ → Type 0) → ((i : ℕ) → i < 10 → P i) → P 0 × P 1 × P 2 × P 3 × P 4 × P 5 × P 6 × P 7 × P 8 × P 9
every P f =
    (f 0 (omega arith), f 1 (omega arith), f 2 (omega arith), f 3 (omega arith), f 4 (omega arith), f 5 (omega arith), f 6 (omega arith), f 7 (omega arith), f 8 (omega arith), f 9 (omega arith))

pub count_most : (f : ℕ → ℕ) → ((i : ℕ) → i < 10 → f i ≤ 1) → count f ≤ 10
unfolding count
count_most f m = omega (arith, every (λ i. f i ≤ 1) m)

pub count_none : (f : ℕ → ℕ) → count f ≤ 0 → (i : ℕ) → i < 10 → f i ≡ 0
unfolding count
count_none f m =
    of-ten (λ i. f i ≡ 0) (omega arith) (omega arith) (omega arith) (omega arith) (omega arith) (omega arith) (omega arith) (omega arith) (omega arith) (omega arith)

pub count-falls : (f g : ℕ → ℕ) → ((i : ℕ) → i < 10 → g i ≤ f i) → (at : ℕ) → at < 10 → g at < f at → count g < count f
unfolding count
count-falls f g m =
    of-ten (λ at. g at < f at → count g < count f)
    (λ l. omega (arith, every (λ i. g i ≤ f i) m))
    (λ l. omega (arith, every (λ i. g i ≤ f i) m))
    (λ l. omega (arith, every (λ i. g i ≤ f i) m))
    (λ l. omega (arith, every (λ i. g i ≤ f i) m))
    (λ l. omega (arith, every (λ i. g i ≤ f i) m))
    (λ l. omega (arith, every (λ i. g i ≤ f i) m))
    (λ l. omega (arith, every (λ i. g i ≤ f i) m))
    (λ l. omega (arith, every (λ i. g i ≤ f i) m))
    (λ l. omega (arith, every (λ i. g i ≤ f i) m))
    (λ l. omega (arith, every (λ i. g i ≤ f i) m))
