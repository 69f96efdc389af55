-- The table slot by slot: what an ask leaves in each, and whom it names. Assumes nothing.
use Rattle.std.proofs.Common.{◌≡◌, ℕ, zero, suc, ◌+◌, ◌<◌, ◌≤◌, Bool, true, false, cond, eqb, ltb, ◌⊎◌, set, refl, ap, ◌∙◌, inl, inr, ⊎_elim, arith, Option, Some, None, IfSome, length-set, get_or-set_other, get_or-set_same, ltb-false, ltb-true, lt-ltb, eqb-true}
use mathlib.Core.Path.{subst⁻¹}
use borrow.Author.Tests.{eqb-false}
use Rattle.deadlines.specs.declared.Slot.{Slot}
use Rattle.deadlines.specs.declared.Table.{Table}
use Rattle.deadlines.specs.declared.Best.{Best}
use Rattle.deadlines.specs.Clock.{since}
use Rattle.deadlines.specs.Slots.{rolled, due, weight}
use Rattle.deadlines.specs.Asking.{slot_at, put_at, roll_to, better, best_to, named_by, asked, after_ask}
use Rattle.deadlines.specs.Asking.{Ten, Furthest}

pub ten-put : (t : Table) (i : ℕ) (x : Slot) → Ten t → Ten (put_at t i x)
unfolding put_at
ten-put t i x h = go (ltb i 10)
  where
    go : (b : Bool) → Ten (cond b (record { held = set t.held i x.held; ends = set t.ends i x.ends; rests = set t.rests i x.rests }) t)
    go true = record { held = length-set t.held i x.held ∙ h.held; ends = length-set t.ends i x.ends ∙ h.ends; rests = length-set t.rests i x.rests ∙ h.rests }
    go false = h

pub put_same : (t : Table) (i : ℕ) (x : Slot) → Ten t → i < 10 → slot_at (put_at t i x) i ≡ x
unfolding put_at
put_same t i x h l = rw (lt-ltb i 10 l, get_or-set_same t.held i x.held 0 (omega (arith, h.held)), get_or-set_same t.ends i x.ends 0 (omega (arith, h.ends)), get_or-set_same t.rests i x.rests 0 (omega (arith, h.rests)))

pub put_other : (t : Table) (i j : ℕ) (x : Slot) → (j ≡ i → ⊥) → slot_at (put_at t i x) j ≡ slot_at t j
unfolding put_at
put_other t i j x n = go (ltb i 10)
  where
    go : (b : Bool) → slot_at (cond b (record { held = set t.held i x.held; ends = set t.ends i x.ends; rests = set t.rests i x.rests }) t) j ≡ slot_at t j
    go true = rw (get_or-set_other t.held i j x.held 0 n, get_or-set_other t.ends i j x.ends 0 n, get_or-set_other t.rests i j x.rests 0 n)
    go false = refl

pub ten-roll : (now n : ℕ) (t : Table) → Ten t → Ten (roll_to now n t)
unfolding roll_to
ten-roll now zero t h = h
ten-roll now (suc n) t h = ten-put (roll_to now n t) n (rolled now (slot_at (roll_to now n t) n)) (ten-roll now n t h)

roll-above : (now n : ℕ) (t : Table) (i : ℕ) → n ≤ i → slot_at (roll_to now n t) i ≡ slot_at t i
unfolding roll_to
roll-above now zero t i l = refl
roll-above now (suc n) t i l = put_other (roll_to now n t) n i (rolled now (slot_at (roll_to now n t) n)) (λ e. omega arith) ∙ roll-above now n t i (omega arith)

roll-below : (now n : ℕ) (t : Table) (i : ℕ) → Ten t → n ≤ 10 → i < n → slot_at (roll_to now n t) i ≡ rolled now (slot_at t i)
unfolding roll_to
roll-below now zero t i h m l = absurd (omega arith)
roll-below now (suc n) t i h m l = go (eqb i n) refl (λ w. roll-below now n t i h (omega arith) w)
  where
    go : (b : Bool) → eqb i n ≡ b → (i < n → slot_at (roll_to now n t) i ≡ rolled now (slot_at t i)) → slot_at (put_at (roll_to now n t) n (rolled now (slot_at (roll_to now n t) n))) i ≡ rolled now (slot_at t i)
    go true e f =
        let q : i ≡ n = eqb-true i n e in
        rw q (put_same (roll_to now n t) n (rolled now (slot_at (roll_to now n t) n)) (ten-roll now n t h) (omega arith) ∙ ap (rolled now) (roll-above now n t n (omega arith)))
    go false e f = put_other (roll_to now n t) n i (rolled now (slot_at (roll_to now n t) n)) (eqb-false i n e) ∙ f (omega (arith, eqb-false i n e))

-- an ask rolls each slot
pub slot-ask : (now : ℕ) (t : Table) (i : ℕ) → Ten t → i < 10 → slot_at (after_ask now t) i ≡ rolled now (slot_at t i)
unfolding after_ask
slot-ask now t i h l = roll-below now 10 t i h (omega arith) l

-- the best of the first n: none weighs more, and it stands at the first place that weighs so much
record Top (now n : ℕ) (t : Table) (b : Best) : Type 0 where
  most : (j : ℕ) → j < n → weight now (slot_at t j) ≤ b.most
  who : (b.most ≡ 0) ⊎ ((b.at < n) × (weight now (slot_at t b.at) ≡ b.most) × ((j : ℕ) → j < b.at → weight now (slot_at t j) < b.most))

top : (now n : ℕ) (t : Table) → Top now n t (best_to now n t)
unfolding best_to better
top now zero t = record { most = λ j l. absurd (omega arith); who = inl refl }
top now (suc n) t = go (best_to now n t) (top now n t) (ltb (best_to now n t).most (weight now (slot_at t n))) refl
  where
    at : (P : ℕ → Type 0) → ((j : ℕ) → j < n → P j) → P n → (j : ℕ) → j < suc n → P j
    at P f p j l = elim (eqb j n) as (λ b. eqb j n ≡ b → P j) [ true ↦ λ e. subst⁻¹ P (eqb-true j n e) p | false ↦ λ e. f j (omega (arith, eqb-false j n e)) ] refl

    go : (b : Best) → Top now n t b → (c : Bool) → ltb b.most (weight now (slot_at t n)) ≡ c → Top now (suc n) t (cond c (record { at = n; most = weight now (slot_at t n) }) b)
    go b h true e =
        let l : b.most < weight now (slot_at t n) = ltb-true b.most (weight now (slot_at t n)) e in
        record {
          most = at (λ j. weight now (slot_at t j) ≤ weight now (slot_at t n)) (λ j w. omega (arith, h.most j w)) (omega arith);
          who = inr (omega arith, refl, λ j w. omega (arith, h.most j w));
        }
    go b h false e =
        let l : weight now (slot_at t n) ≤ b.most = ltb-false b.most (weight now (slot_at t n)) e in
        record {
          most = at (λ j. weight now (slot_at t j) ≤ b.most) h.most l;
          who = ⊎_elim (λ z. inl z) (λ w. inr (omega (arith, w.0), w.1, w.2)) h.who;
        }

heavy : (now : ℕ) (x : Slot) → due now x ≡ true → weight now x ≡ since now x.ends + 1
unfolding weight
heavy now x e = rw e

light : (now : ℕ) (x : Slot) → weight now x ≡ 0 → due now x ≡ false
unfolding weight
light now x e = go (due now x) e
  where
    go : (b : Bool) → cond b (since now x.ends + 1) 0 ≡ 0 → b ≡ false
    go true f = absurd (omega arith)
    go false f = refl

ripe : (now : ℕ) (x : Slot) → 0 < weight now x → due now x ≡ true
unfolding weight
ripe now x l = go (due now x) l
  where
    go : (b : Bool) → 0 < cond b (since now x.ends + 1) 0 → b ≡ true
    go true f = refl
    go false f = absurd (omega arith)

none_named : (b : Best) → named_by b ≡ None → b.most ≡ 0
none_named b e = go (eqb b.most 0) refl e
  where
    go : (c : Bool) → eqb b.most 0 ≡ c → cond c None (Some b.at) ≡ None → b.most ≡ 0
    go true f g = eqb-true b.most 0 f
    go false f g = let z : ◌≡◌ {A = ℕ} 0 1 = cc in absurd (omega arith)

one-named : (b : Best) (j : ℕ) → named_by b ≡ Some j → (b.most ≡ 0 → ⊥) × (b.at ≡ j)
one-named b j e = go (eqb b.most 0) refl e
  where
    go : (c : Bool) → eqb b.most 0 ≡ c → cond c None (Some b.at) ≡ Some j → (b.most ≡ 0 → ⊥) × (b.at ≡ j)
    go true f g = let z : ◌≡◌ {A = ℕ} 0 1 = cc in absurd (omega arith)
    go false f g = (eqb-false b.most 0 f, cc)

-- "No timer due is its own reply"
pub nothing-due : (now : ℕ) (t : Table) → asked now t ≡ None → (i : ℕ) → i < 10 → due now (slot_at (after_ask now t) i) ≡ false
unfolding asked
nothing-due now t e i l =
    let z : (best_to now 10 (after_ask now t)).most ≡ 0 = none_named (best_to now 10 (after_ask now t)) e in
    light now (slot_at (after_ask now t) i) (omega (arith, (top now 10 (after_ask now t)).most i l))

pub furthest-named : (now : ℕ) (t : Table) (j : ℕ) → asked now t ≡ Some j → Furthest now (after_ask now t) j
unfolding asked
furthest-named now t j e = go (best_to now 10 (after_ask now t)) (top now 10 (after_ask now t)) (one-named (best_to now 10 (after_ask now t)) j e)
  where
    u : Table
    u = after_ask now t

    take : (b : Best) → Top now 10 u b → (b.at < 10) × (weight now (slot_at u b.at) ≡ b.most) × ((i : ℕ) → i < b.at → weight now (slot_at u i) < b.most) → (b.most ≡ 0 → ⊥) → Furthest now u b.at
    take b h w z =
        let r : due now (slot_at u b.at) ≡ true = ripe now (slot_at u b.at) (omega (arith, w.1)) in
        let v : weight now (slot_at u b.at) ≡ since now (slot_at u b.at).ends + 1 = heavy now (slot_at u b.at) r in
        record {
          below = w.0;
          ripe = r;
          most = λ i l d. omega (arith, h.most i l, heavy now (slot_at u i) d, w.1);
          first = λ i l d. omega (arith, w.2 i l, heavy now (slot_at u i) d, w.1);
        }

    go : (b : Best) → Top now 10 u b → (b.most ≡ 0 → ⊥) × (b.at ≡ j) → Furthest now u j
    go b h w = rw w.1 at (⊎_elim (λ z. absurd (w.0 z)) (λ g. take b h g w.0) h.who)

-- so whom an ask names is one of the ten
pub asked-within : (now : ℕ) (t : Table) → IfSome (asked now t) (λ at. at < 10)
asked-within now t = go (asked now t) refl
  where
    go : (x : Option ℕ) → asked now t ≡ x → IfSome x (λ at. at < 10)
    go (Some j) e = (furthest-named now t j e).below
    go None e = tt
