-- How long the wait is: the least time after which a lap of a slot that is held is over, 600 s at most; and whoever waits no longer sleeps over no deadline. Assumes nothing.
use Rattle.std.proofs.Common.{◌≡◌, ℕ, zero, suc, ◌+◌, ◌-◌, ◌%◌, ◌^◌, ◌<◌, ◌≤◌, Bool, true, false, cond, eqb, ltb, ◌⊎◌, refl, ◌∙◌, inl, inr, ⊎_elim, add-zero, arith, ltb-false, ltb-true, le-ltb, lt-ltb, ne_eqb, eqb-true}
use borrow.Author.Tests.{eqb-false}
use Rattle.deadlines.specs.declared.Slot.{Slot}
use Rattle.deadlines.specs.declared.Table.{Table}
use Rattle.deadlines.specs.Clock.{clock, since, past}
use Rattle.deadlines.specs.Asking.{slot_at}
use Rattle.deadlines.specs.Waiting.{lesser, left_in, spare_in, wait_to, wait_of}
use Rattle.deadlines.proofs.Kept.{shown}
use Rattle.deadlines.proofs.Turn.{past-yes, past-no, Live}

-- one of the two, and no more than either
lesser-is : (a b : ℕ) → ((lesser a b ≡ a) × (a ≤ b)) ⊎ ((lesser a b ≡ b) × (b < a))
unfolding lesser
lesser-is a b = go (ltb b a) refl
  where
    go : (c : Bool) → ltb b a ≡ c → ((cond c b a ≡ a) × (a ≤ b)) ⊎ ((cond c b a ≡ b) × (b < a))
    go true e = inr (refl, ltb-true b a e)
    go false e = inl (refl, ltb-false b a e)

-- it waits for none longer than for the next round, nor than for any one slot
pub wait-most : (now n : ℕ) (t : Table) → wait_to now n t ≤ 600000
unfolding wait_to
wait-most now zero t = omega arith
wait-most now (suc n) t = ⊎_elim (λ w. omega (arith, wait-most now n t, w.0)) (λ w. omega (arith, wait-most now n t, w.0, w.1)) (lesser-is (wait_to now n t) (spare_in now (slot_at t n)))

wait-low : (now n : ℕ) (t : Table) (i : ℕ) → i < n → wait_to now n t ≤ spare_in now (slot_at t i)
unfolding wait_to
wait-low now zero t i l = absurd (omega arith)
wait-low now (suc n) t i l = go (eqb i n) refl (λ m. wait-low now n t i m) (lesser-is (wait_to now n t) (spare_in now (slot_at t n)))
  where
    go : (b : Bool) → eqb i n ≡ b → (i < n → wait_to now n t ≤ spare_in now (slot_at t i)) → ((lesser (wait_to now n t) (spare_in now (slot_at t n)) ≡ wait_to now n t) × (wait_to now n t ≤ spare_in now (slot_at t n))) ⊎ ((lesser (wait_to now n t) (spare_in now (slot_at t n)) ≡ spare_in now (slot_at t n)) × (spare_in now (slot_at t n) < wait_to now n t)) → lesser (wait_to now n t) (spare_in now (slot_at t n)) ≤ spare_in now (slot_at t i)
    go true e f c = rw (eqb-true i n e) (⊎_elim (λ w. omega (arith, w.0, w.1)) (λ w. omega (arith, w.0)) c)
    go false e f c = let m : wait_to now n t ≤ spare_in now (slot_at t i) = f (omega (arith, eqb-false i n e)) in ⊎_elim (λ w. omega (arith, w.0)) (λ w. omega (arith, w.0, w.1)) c

-- and if it is less than for the next round, it is some slot's
wait-whose : (now n : ℕ) (t : Table) → wait_to now n t < 600000 → (i : ℕ) × (i < n) × (wait_to now n t ≡ spare_in now (slot_at t i))
unfolding wait_to
wait-whose now zero t l = absurd (omega arith)
wait-whose now (suc n) t l = ⊎_elim (λ w. on w.0 (wait-whose now n t (omega (arith, w.0)))) (λ w. (n, omega arith, w.0)) (lesser-is (wait_to now n t) (spare_in now (slot_at t n)))
  where
    on : lesser (wait_to now n t) (spare_in now (slot_at t n)) ≡ wait_to now n t → (i : ℕ) × (i < n) × (wait_to now n t ≡ spare_in now (slot_at t i)) → (i : ℕ) × (i < suc n) × (lesser (wait_to now n t) (spare_in now (slot_at t n)) ≡ spare_in now (slot_at t i))
    on e w = (w.0, omega (arith, w.1), e ∙ w.2)

-- a slot that is held waits for its lap's end, and no other for less than the next round
spare-held : (now : ℕ) (x : Slot) → (x.held ≡ 0 → ⊥) → spare_in now x ≡ left_in now x
unfolding spare_in
spare-held now x h = rw (ne_eqb _ _ h)

held-spare : (now : ℕ) (x : Slot) → spare_in now x < 600000 → x.held ≡ 0 → ⊥
unfolding spare_in
held-spare now x l z = omega (arith, rw z at l)

-- an end that is to come is past when the difference has gone by, and not before
past-then : (τ e : ℕ) → e < 2 ^ 32 → past (clock (τ + since e (clock τ))) e ≡ true
unfolding past since clock
past-then τ e m = lt-ltb (since (clock (τ + since e (clock τ))) e) (2 ^ 31) (omega arith)

opposite : (a e : ℕ) → a < 2 ^ 32 → e < 2 ^ 32 → 0 < since a e → since a e + since e a ≡ 2 ^ 32
unfolding since
opposite a e m n l = omega arith

goes_on : (τ v e : ℕ) → e < 2 ^ 32 → since (clock τ) e + v < 2 ^ 32 → since (clock (τ + v)) e ≡ since (clock τ) e + v
unfolding since clock
goes_on τ v e m l = omega arith

past-still : (τ v e : ℕ) → e < 2 ^ 32 → past (clock τ) e ≡ false → v < since e (clock τ) → past (clock (τ + v)) e ≡ false
unfolding past
past-still τ v e m f l =
    let k : 2 ^ 31 ≤ since (clock τ) e = ltb-false (since (clock τ) e) (2 ^ 31) f in
    let o : since (clock τ) e + since e (clock τ) ≡ 2 ^ 32 = opposite (clock τ) e (shown τ) m (omega arith) in
    le-ltb (since (clock (τ + v)) e) (2 ^ 31) (omega (arith, goes_on τ v e m (omega arith)))

left_over : (τ : ℕ) (x : Slot) → x.ends < 2 ^ 32 → past (clock (τ + left_in (clock τ) x)) x.ends ≡ true
unfolding left_in
left_over τ x m = go (past (clock τ) x.ends) refl
  where
    go : (b : Bool) → past (clock τ) x.ends ≡ b → past (clock (τ + cond b 0 (since x.ends (clock τ)))) x.ends ≡ true
    go true e = rw add-zero e
    go false e = past-then τ x.ends m

left-before : (τ v : ℕ) (x : Slot) → x.ends < 2 ^ 32 → v < left_in (clock τ) x → past (clock (τ + v)) x.ends ≡ false
unfolding left_in
left-before τ v x m l = go (past (clock τ) x.ends) refl l
  where
    go : (b : Bool) → past (clock τ) x.ends ≡ b → v < cond b 0 (since x.ends (clock τ)) → past (clock (τ + v)) x.ends ≡ false
    go true e l = absurd (omega arith)
    go false e l = past-still τ v x.ends m e l

-- before the wait is over no lap ends
pub none-ends : (τ v : ℕ) (t : Table) (i : ℕ) → i < 10 → ((slot_at t i).held ≡ 0 → ⊥) → (slot_at t i).ends < 2 ^ 32 → v < wait_of (clock τ) t → past (clock (τ + v)) (slot_at t i).ends ≡ false
none-ends τ v t i l h m n = left-before τ v (slot_at t i) m (omega (arith, wait-low (clock τ) 10 t i l, spare-held (clock τ) (slot_at t i) h))

-- and then one does, unless it is time for the next round
pub one-ends : (τ : ℕ) (t : Table) → ((i : ℕ) → i < 10 → (slot_at t i).ends < 2 ^ 32) → wait_of (clock τ) t < 600000 → (i : ℕ) × (i < 10) × ((slot_at t i).held ≡ 0 → ⊥) × (past (clock (τ + wait_of (clock τ) t)) (slot_at t i).ends ≡ true)
one-ends τ t m l =
    let w : (i : ℕ) × (i < 10) × (wait_of (clock τ) t ≡ spare_in (clock τ) (slot_at t i)) = wait-whose (clock τ) 10 t l in
    let h : (slot_at t w.0).held ≡ 0 → ⊥ = held-spare (clock τ) (slot_at t w.0) (omega (arith, w.2)) in
    (w.0, w.1, h, rw (w.2, spare-held (clock τ) (slot_at t w.0) h) (left_over τ (slot_at t w.0) (m w.0 w.1)))

-- by true time: until the lap's end d, if that is to come
gap : (τ d : ℕ) → τ < d → d ≤ τ + 2 ^ 31 → since (d % 2 ^ 32) (clock τ) ≡ d - τ
unfolding since clock
gap τ d a b = omega arith

left-true : (τ d : ℕ) (x : Slot) → x.ends ≡ d % 2 ^ 32 → τ < d → d ≤ τ + 2 ^ 31 → left_in (clock τ) x ≡ d - τ
unfolding left_in
left-true τ d x e a b = rw (e, past-no τ d a b) (gap τ d a b)

left-none : (τ d : ℕ) (x : Slot) → x.ends ≡ d % 2 ^ 32 → d ≤ τ → τ < d + 2 ^ 31 → left_in (clock τ) x ≡ 0
unfolding left_in
left-none τ d x e a b = rw (e, past-yes τ d a b)

-- nobody who waits no longer sleeps over a deadline that is to come
pub wait-live : (q τ whole : ℕ) (t : Table) (i : ℕ) → i < 10 → Live q whole (slot_at t i) → q ≤ τ → τ ≤ q + 600000 → (τ + wait_of (clock τ) t ≤ whole) ⊎ (whole ≤ τ)
wait-live q τ whole t i l h a b = go (ltb τ h.d) (ltb τ whole) refl refl
  where
    low : wait_of (clock τ) t ≤ left_in (clock τ) (slot_at t i)
    low = omega (arith, wait-low (clock τ) 10 t i l, spare-held (clock τ) (slot_at t i) (λ z. omega (arith, h.ends.on)))

    go : (b c : Bool) → ltb τ h.d ≡ b → ltb τ whole ≡ c → (τ + wait_of (clock τ) t ≤ whole) ⊎ (whole ≤ τ)
    go true c e f = let m : τ < h.d = ltb-true τ h.d e in inl (omega (arith, low, h.sum, left-true τ h.d (slot_at t i) h.ends.at m (omega (arith, h.high))))
    go false true e f = let m : h.d ≤ τ = ltb-false τ h.d e in inl (omega (arith, low, ltb-true τ whole f, left-none τ h.d (slot_at t i) h.ends.at m (omega (arith, h.low))))
    go false false e f = inr (ltb-false τ whole f)
