-- The record and the table beside it, between acts and within a round: events and asks keep them valid, of their sizes, and fit for one another. Assumes nothing.
use Prim.Native.Nat.{ℕ, ◌*◌, ◌^◌, ◌<◌, ◌≤◌}
use mathlib.Core.Path.{◌≡◌, refl, ap, ◌∙◌, subst⁻¹}
use mathlib.Core.Bool.{Bool, true, false, cond, not}
use mathlib.Core.List.{List, []}
use native.Mathlib.Omega.{arith}
use lib.Dec.{eqb}
use lib.ListN.{get_or}
use Rattle.record.specs.declared.Record.{Record}
use Rattle.ranges.specs.Valid.{valid_of}
use Rattle.turns.specs.declared.Told.{Told}
use Rattle.turns.specs.declared.Told.TheVariants.{Left, Stopped, Started}
use Rattle.rules.specs.declared.Event.{Event}
use Rattle.events.specs.declared.Outcome.{Outcome}
use Rattle.events.specs.Step.{step_of}
use Rattle.validity.specs.Run.{Octets}
use Rattle.validity.specs.Sized.{Sized}
use Rattle.validity.proofs.Kept.{step-valid}
use Rattle.validity.proofs.Sizes.{step-sized}
use Rattle.deadlines.specs.declared.Slot.{Slot}
use Rattle.deadlines.specs.declared.Table.{Table}
use Rattle.deadlines.specs.Slots.{started, ended, roll, rolled, due}
use Rattle.deadlines.specs.Clock.{past}
use Rattle.deadlines.specs.Asking.{slot_at, after_ask, Ten}
use Rattle.deadlines.specs.Arming.{flags_of, armed, fits_to}
use Rattle.deadlines.proofs.Kept.{rolled-ends, started-ends}
use Rattle.deadlines.proofs.Settled.{all_true, nonzero, roll-not}
use Rattle.deadlines.proofs.Choice.{ten-roll, slot-ask}
use Rattle.rounds.specs.Round.{tolds_in, timer_out, out_of}
use Rattle.rounds.specs.Acts.{told_at}
use Rattle.rounds.proofs.Fit.{slot_by, ten-armed, slot-armed, same-all, fit_at, out_step, step_fits}

-- a slot as a table holds it beside a record
pub record Tidy (x : Slot) : Type 0 where
  pub bit : x.held ≤ 1
  pub ends : x.ends < 2 ^ 32

pub record Matched (r : Record) (t : Table) : Type 0 where
  pub valid : valid_of r ≡ true
  pub sized : Sized r
  pub ten : Ten t
  pub tidy : (i : ℕ) → i < 10 → Tidy (slot_at t i)
  pub fits : fits_to r.hot t.held ≡ true

-- a slot that is not held does not roll and is not due
pub unheld-rolled : (now : ℕ) (x : Slot) → x.held ≡ 0 → rolled now x ≡ x
unfolding rolled ended
unheld-rolled now x e =
    let n : ended now x ≡ false = rw e in
    rw (roll-not now x n, roll-not now x n)

pub unheld-due : (now : ℕ) (x : Slot) → x.held ≡ 0 → due now x ≡ false
unfolding due
unheld-due now x e = rw e

pub due-held : (now : ℕ) (x : Slot) → due now x ≡ true → x.held ≡ 0 → ⊥
unfolding due
due-held now x e = nonzero x.held (all_true (not (eqb x.held 0)) (eqb x.rests 0) (past now x.ends) e).0

-- rolling leaves held as it is: a lap that is over is of a slot that is held
roll-held : (now : ℕ) (x : Slot) → x.held ≤ 1 → (roll now x).held ≡ x.held
unfolding roll ended started
roll-held now x b = go (ended now x) refl
  where
    go : (c : Bool) → ended now x ≡ c → (cond c (started x.ends x.rests) x).held ≡ x.held
    go true e =
        let z : x.held ≡ 0 → ⊥ = nonzero x.held (all_true (not (eqb x.held 0)) (not (eqb x.rests 0)) (past now x.ends) e).0 in
        omega arith
    go false e = refl

pub rolled-held : (now : ℕ) (x : Slot) → x.held ≤ 1 → (rolled now x).held ≡ x.held
unfolding rolled
rolled-held now x b = roll-held now (roll now x) (omega (arith, roll-held now x b)) ∙ roll-held now x b

rolled-tidy : (now : ℕ) (x : Slot) → Tidy x → Tidy (rolled now x)
rolled-tidy now x h = record { bit = omega (arith, rolled-held now x h.bit); ends = rolled-ends now x h.ends }

told-tidy : (now : ℕ) (p : Told) (x : Slot) → Tidy x → Tidy (slot_by now p x)
unfolding started
told-tidy now Left x h = h
told-tidy now Stopped x h = record { bit = omega arith; ends = omega arith }
told-tidy now (Started seconds) x h = record { bit = omega arith; ends = started-ends now (seconds * 1000) }

ten-ask : (now : ℕ) (t : Table) → Ten t → Ten (after_ask now t)
unfolding after_ask
ten-ask now t h = ten-roll now 10 t h

-- an ask
pub ask-matched : (now : ℕ) (r : Record) (t : Table) → Matched r t → Matched r (after_ask now t)
unfolding fits_to
ask-matched now r t h = record {
  valid = h.valid;
  sized = h.sized;
  ten = ten-ask now t h.ten;
  tidy = λ i l. subst⁻¹ Tidy (slot-ask now t i h.ten l) (rolled-tidy now (slot_at t i) (h.tidy i l));
  fits = same-all 10 (after_ask now t).held (flags_of r.hot) held;
}
  where
    held : (i : ℕ) → i < 10 → get_or (after_ask now t).held i 0 ≡ get_or (flags_of r.hot) i 0
    held i l =
        ap (λ (x : Slot). x.held) (slot-ask now t i h.ten l)
        ∙ (rolled-held now (slot_at t i) (h.tidy i l).bit ∙ fit_at r.hot t.held i h.fits l)

-- an event, whose reply arms the table
pub event-matched : (now : ℕ) (r : Record) (t : Table) (e : Event) (octets : List ℕ) → Octets octets → Matched r t → Matched (step_of r e octets).next (armed now (tolds_in (step_of r e octets).reply) t)
event-matched now r t e octets o h = record {
  valid = step-valid r e octets h.sized o h.valid;
  sized = step-sized r e octets h.sized;
  ten = ten-armed now (step_of r e octets).reply t h.ten;
  tidy = λ i l. subst⁻¹ Tidy (slot-armed now (step_of r e octets).reply t i h.ten l) (told-tidy now (told_at (tolds_in (step_of r e octets).reply) i) (slot_at t i) (h.tidy i l));
  fits = step_fits r e octets now t h.ten h.fits;
}

-- a timer that is out
pub out-matched : (now at : ℕ) (r : Record) (t : Table) → Matched r t → Matched (out_of r at).next (armed now (tolds_in (out_of r at).reply) t)
out-matched now at r t h =
    subst⁻¹ (λ (o : Outcome). Matched o.next (armed now (tolds_in o.reply) t)) (out_step r at h.valid) (event-matched now r t (timer_out at) [] (λ k. omega arith) h)
