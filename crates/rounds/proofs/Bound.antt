-- A round ends within ten timers. The timer that runs out is stopped, and what it starts is not due yet, unless T3510 starts T3502 for 0 s at the last attempt.
-- So the count of the slots that have a chance to be named falls with each timer, and ten is the most that it can be. Assumes nothing.
use Prim.Native.Nat.{ℕ, zero, suc, ◌+◌, ◌*◌, ◌^◌, ◌<◌, ◌≤◌}
use mathlib.Core.Path.{◌≡◌, refl, sym, ap, ◌∙◌}
use mathlib.Core.Bool.{Bool, true, false, cond, true≢false}
use mathlib.Core.Logic.{◌⊎◌, inl, inr, ⊎_elim}
use native.Mathlib.Omega.{arith}
use lib.Dec.{eqb}
use lib.ListN.{get_or}
use borrow.Author.Tests.{eqb-true, eqb-false, leb-true}
use Rattle.record.specs.declared.Record.{Record}
use Rattle.record.specs.Sides.{access_of}
use Rattle.ranges.specs.Valid.{valid_of}
use Rattle.turns.specs.declared.Told.{Told}
use Rattle.turns.specs.declared.Told.TheVariants.{Left, Stopped, Started}
use Rattle.validity.specs.Sized.{Sized}
use Rattle.validity.proofs.Good.{Good}
use Rattle.validity.proofs.Valid.{valid-good}
use Rattle.deadlines.specs.declared.Slot.{Slot}
use Rattle.deadlines.specs.declared.Table.{Table}
use Rattle.std.proofs.Common.{Option, Some, None}
use Rattle.deadlines.specs.Clock.{clock}
use Rattle.deadlines.specs.Slots.{started, stopped, rolled, due}
use Rattle.deadlines.specs.Asking.{slot_at, asked, after_ask, Ten, Furthest}
use Rattle.deadlines.specs.Arming.{flags_of, armed, fits_to}
use Rattle.deadlines.proofs.Kept.{still, silent}
use Rattle.deadlines.proofs.Settled.{again}
use Rattle.deadlines.proofs.Turn.{live-start, turn}
use Rattle.deadlines.proofs.Choice.{slot-ask, nothing-due, furthest-named}
use Rattle.rounds.specs.Round.{tolds_in, out_of, behind, round_by, round_to}
use Rattle.rounds.specs.Acts.{told_at}
use Rattle.rounds.proofs.Fit.{slot_by, slot-armed, fit_at}
use Rattle.rounds.proofs.Matched.{Matched, ask-matched, out-matched}
use Rattle.rounds.proofs.Outs.{of-ten, Mild, last_in, last-most, out-tells, out-last}
use Rattle.rounds.proofs.Chance.{Bits, Fired, chance, chance-most, chance-due, chance-stays, chance-gone, count, count_most, count_none, count-falls}
use Rattle.rounds.proofs.Handed.{named-runs}

-- whether a slot is due, once rolled
unfoldable pub bit : ℕ → Slot → ℕ
bit now x = cond (due now (rolled now x)) 1 0

bit-most : (now : ℕ) (x : Slot) → bit now x ≤ 1
unfolding bit
bit-most now x = elim (due now (rolled now x)) as (λ b. cond b 1 0 ≤ 1) [ true ↦ omega arith | false ↦ omega arith ]

bit-due : (now : ℕ) (x : Slot) → due now (rolled now x) ≡ true → bit now x ≡ 1
unfolding bit
bit-due now x e = rw e

bit-none : (now : ℕ) (x : Slot) → due now (rolled now x) ≡ false → bit now x ≡ 0
unfolding bit
bit-none now x e = rw e

none-due : (now : ℕ) (x : Slot) → bit now x ≡ 0 → due now (rolled now x) ≡ false
unfolding bit
none-due now x e = go (due now (rolled now x)) e
  where
    go : (b : Bool) → cond {A = ℕ} b 1 0 ≡ 0 → b ≡ false
    go true f = absurd (omega arith)
    go false f = refl

bit-rolled : (now : ℕ) (x : Slot) → now < 2 ^ 32 → x.ends < 2 ^ 32 → bit now (rolled now x) ≡ bit now x
unfolding bit
bit-rolled now x n m = rw (again now x n m)

bit-stopped : (now : ℕ) → bit now stopped ≡ 0
bit-stopped now = bit-none now stopped (rw (still now) (silent now))

-- a length above 0 that is begun now is not over now
bit-started : (now l : ℕ) → now < 2 ^ 32 → 0 < l → bit now (started now l) ≡ 0
unfolding clock
bit-started now l n p = bit-none now (started now l) (rw e at later)
  where
    e : clock now ≡ now
    e = omega arith

    later : due (clock now) (rolled (clock now) (started (clock now) l)) ≡ false
    later = ⊎_elim (λ w. absurd (omega arith)) (λ w. w.1) (turn now now (now + l) (started (clock now) l) (live-start now l) (omega arith) (omega arith))

-- a slot by what is told of its timer
bit-told : (now c at i : ℕ) (p : Told) (x : Slot) → now < 2 ^ 32 → Mild c at i p → (bit now (slot_by now p x) ≤ bit now x) ⊎ ((at < 2) × (i ≡ at + 4) × (c ≡ 1))
bit-told now c at i Left x n m = inl (omega arith)
bit-told now c at i Stopped x n m = inl (omega (arith, bit-stopped now))
bit-told now c at i (Started s) x n m = go (eqb s 0) refl
  where
    go : (b : Bool) → eqb s 0 ≡ b → (bit now (started now (s * 1000)) ≤ bit now x) ⊎ ((at < 2) × (i ≡ at + 4) × (c ≡ 1))
    go true e = inr (m (eqb-true s 0 e))
    go false e = inl (omega (arith, bit-started now (s * 1000) n (omega (arith, eqb-false s 0 e))))

abbrev pub bits : ℕ → Table → ℕ → ℕ
bits now t i = bit now (slot_at t i)

-- which slots a round at now may name
abbrev pub chances : ℕ → Record → Table → ℕ → ℕ
chances now r t = chance (bits now t) (last_in r)

bits_most : (now : ℕ) (t : Table) → Bits (bits now t)
bits_most now t i = bit-most now (slot_at t i)

lasts-most : (r : Record) → Bits (last_in r)
lasts-most r w = last-most (access_of r.hot w)

chances-most : (now : ℕ) (r : Record) (t : Table) (i : ℕ) → i < 10 → chances now r t i ≤ 1
chances-most now r t i l = chance-most (bits now t) (last_in r) (bits_most now t) (lasts-most r) i l

chances-due : (now : ℕ) (r : Record) (t : Table) (i : ℕ) → i < 10 → bits now t i ≤ chances now r t i
chances-due now r t i l = chance-due (bits now t) (last_in r) (bits_most now t) (lasts-most r) i l

-- the table behind an ask and the timer of slot `at`
abbrev pub behind_out : ℕ → Record → Table → ℕ → Table
behind_out now r t at = armed now (tolds_in (out_of r at).reply) (after_ask now t)

-- nothing is named where no slot is due
none_named : (now : ℕ) (t : Table) → Ten t → ((i : ℕ) → i < 10 → bits now t i ≡ 0) → asked now t ≡ None
none_named now t h f = go (asked now t) refl
  where
    go : (x : Option ℕ) → asked now t ≡ x → asked now t ≡ None
    go None e = e
    go (Some j) e =
        let w : Furthest now (after_ask now t) j = furthest-named now t j e in
        absurd (true≢false (sym w.ripe ∙ (ap (due now) (slot-ask now t j h w.below) ∙ none-due now (slot_at t j) (f j w.below))))

module _ (r : Record) (t : Table) (now : ℕ) (n : now < 2 ^ 32) (h : Matched r t) where
  -- an ask leaves the count as it is
  bit-asked : (i : ℕ) → i < 10 → bits now (after_ask now t) i ≡ bits now t i
  bit-asked i l = rw (slot-ask now t i h.ten l) (bit-rolled now (slot_at t i) n (h.tidy i l).ends)

  -- and names nobody again
  asked-again : asked now t ≡ None → asked now (after_ask now t) ≡ None
  asked-again e =
      none_named now (after_ask now t) (ask-matched now r t h).ten
      (λ i l. bit-asked i l ∙ bit-none now (slot_at t i) (rw (slot-ask now t i h.ten l) at (nothing-due now t e i l)))

  -- a timer that runs out
  abbrev FiredAt : ℕ → Type 0
  FiredAt at = Fired at (bits now t) (last_in r) (bits now (behind_out now r t at)) (last_in (out_of r at).next)

  fired : (at : ℕ) → asked now t ≡ Some at → FiredAt at
  fired at e = record {
    below = w.below;
    bits = (bits_most now t, lasts-most r, bits_most now u, lasts-most (out_of r at).next);
    ripe = bit-due now (slot_at t at) (rw (slot-ask now t at h.ten w.below) at w.ripe);
    stops = rw (slot at w.below, (out-tells r at w.below runs).stops) (bit-stopped now);
    most = λ i l. rw (slot i l, ← (bit-asked i l)) (bit-told now (last_in r at) at i (told_at (tolds_in (out_of r at).reply) i) (slot_at (after_ask now t) i) n ((out-tells r at w.below runs).starts i));
    lasts = λ v l q. out-last r at v w.below l runs q;
  }
    where
      w : Furthest now (after_ask now t) at
      w = furthest-named now t at e

      u : Table
      u = behind_out now r t at

      runs : eqb (get_or (flags_of r.hot) at 0) 0 ≡ false
      runs = named-runs now r t at h e

      slot : (i : ℕ) → i < 10 → slot_at u i ≡ slot_by now (told_at (tolds_in (out_of r at).reply) i) (slot_at (after_ask now t) i)
      slot i l = slot-armed now (out_of r at).reply (after_ask now t) i (ask-matched now r t h).ten l

  -- takes its slot's chance, and gives none
  pub named-chance : (at : ℕ) → asked now t ≡ Some at → chances now r t at ≡ 1
  named-chance at e =
      let o : FiredAt at = fired at e in
      omega (arith, o.ripe, chances-due now r t at o.below, chances-most now r t at o.below)

  pub out-gone : (at : ℕ) → asked now t ≡ Some at → chances now (out_of r at).next (behind_out now r t at) at ≡ 0
  out-gone at e = chance-gone (bits now t) (last_in r) _ (last_in (out_of r at).next) at (fired at e).below (fired at e)

  pub out_stays : (at : ℕ) → asked now t ≡ Some at → (i : ℕ) → i < 10 → chances now (out_of r at).next (behind_out now r t at) i ≤ chances now r t i
  out_stays at e i l = chance-stays at (bits now t) (last_in r) _ (last_in (out_of r at).next) (fired at e) i l

  falls : (at : ℕ) → asked now t ≡ Some at → count (chances now (out_of r at).next (behind_out now r t at)) < count (chances now r t)
  falls at e = count-falls (chances now r t) _ (out_stays at e) at (fired at e).below (omega (arith, named-chance at e, out-gone at e))

-- a round of up to n timers leaves nobody due where n slots at most have a chance
pub quiet : (n : ℕ) (r : Record) (t : Table) (now : ℕ) → now < 2 ^ 32 → Matched r t → count (chances now r t) ≤ n → asked now (round_to n now r t).table ≡ None
unfolding round_to round_by behind
quiet zero r t now b h m = none_named now t h.ten (λ i l. omega (arith, chances-due now r t i l, count_none (chances now r t) m i l))
quiet (suc n) r t now b h m = go (asked now t) refl (λ q u k w. quiet n q u now b k w)
  where
    go : (x : Option ℕ) → asked now t ≡ x → ((q : Record) (u : Table) → Matched q u → count (chances now q u) ≤ n → asked now (round_to n now q u).table ≡ None)
        → asked now (round_by (round_to n now) now x r (after_ask now t)).table ≡ None
    go None e f = asked-again r t now b h e
    go (Some at) e f =
        f (out_of r at).next (behind_out now r t at) (out-matched now at r (after_ask now t) (ask-matched now r t h)) (omega (arith, falls r t now b h at e))

-- a valid record's flags are 0 or 1
flag-bit : (r : Record) → valid_of r ≡ true → (i : ℕ) → i < 10 → get_or (flags_of r.hot) i 0 ≤ 1
unfolding flags_of
flag-bit r v =
    let g : Good r = valid-good r v in
    of-ten (λ i. get_or (flags_of r.hot) i 0 ≤ 1)
    (leb-true r.hot.a0.t3510 1 g.half0.fit.flags.0)
    (leb-true r.hot.a1.t3510 1 g.half1.fit.flags.0)
    (leb-true r.hot.a0.t3511 1 g.half0.fit.flags.1)
    (leb-true r.hot.a1.t3511 1 g.half1.fit.flags.1)
    (leb-true r.hot.a0.t3502 1 g.half0.fit.flags.2)
    (leb-true r.hot.a1.t3502 1 g.half1.fit.flags.2)
    (leb-true r.hot.a0.t3346 1 g.half0.fit.flags.3)
    (leb-true r.hot.a1.t3346 1 g.half1.fit.flags.3)
    (leb-true r.hot.dev.t3512 1 g.fair.t3512)
    (leb-true r.hot.dev.t3247 1 g.fair.t3247)

-- a valid record, and a table that fits it
pub matches : (r : Record) (t : Table) → Sized r → valid_of r ≡ true → fits_to r.hot t.held ≡ true → Ten t → ((i : ℕ) → i < 10 → (slot_at t i).ends < 2 ^ 32) → Matched r t
matches r t z v f h e = record {
  valid = v;
  sized = z;
  ten = h;
  tidy = λ i l. record { bit = rw (fit_at r.hot t.held i f l) (flag-bit r v i l); ends = e i l };
  fits = f;
}

-- ten timers: after a round nobody is due
pub round-quiet : (r : Record) (t : Table) (now : ℕ) → now < 2 ^ 32 → Sized r → valid_of r ≡ true → fits_to r.hot t.held ≡ true → Ten t → ((i : ℕ) → i < 10 → (slot_at t i).ends < 2 ^ 32)
    → asked now (round_to 10 now r t).table ≡ None
round-quiet r t now b z v f h e = quiet 10 r t now b (matches r t z v f h e) (count_most (chances now r t) (chances-most now r t))
