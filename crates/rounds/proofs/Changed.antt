-- Every timer that a round runs out changes the record: its flag was set, and it is clear behind it. Assumes nothing.
use Prim.Native.Nat.{ℕ, zero, suc, ◌<◌}
use mathlib.Core.Path.{◌≡◌, refl, sym, ap, ◌∙◌}
use mathlib.Core.Bool.{true≢false}
use mathlib.Core.List.{List, [], ◌∷◌}
use lib.ListN.{get_or}
use borrow.Author.Tests.{eq-eqb}
use Rattle.record.specs.declared.Record.{Record}
use Rattle.deadlines.specs.declared.Slot.{Slot}
use Rattle.std.proofs.Common.{Option, Some, None}
use Rattle.deadlines.specs.declared.Table.{Table}
use Rattle.deadlines.specs.Asking.{slot_at, asked, after_ask}
use Rattle.deadlines.specs.Arming.{flags_of, armed}
use Rattle.deadlines.proofs.Choice.{furthest-named}
use Rattle.rounds.specs.Words.{Ran}
use Rattle.rounds.specs.Round.{tolds_in, out_of, behind, round_by, round_to}
use Rattle.rounds.proofs.Fit.{slot_by, slot-armed, fit_at}
use Rattle.rounds.proofs.Matched.{Matched, ask-matched, out-matched}
use Rattle.rounds.proofs.Outs.{out-stops}
use Rattle.rounds.proofs.Handed.{named-runs}

-- the timer that an ask names does not run in the record behind it
pub out-clears : (now : ℕ) (r : Record) (t : Table) (at : ℕ) → Matched r t → asked now t ≡ Some at → get_or (flags_of (out_of r at).next.hot) at 0 ≡ 0
out-clears now r t at h e =
    sym (fit_at (out_of r at).next.hot u.held at (out-matched now at r (after_ask now t) m).fits small)
    ∙ ap (λ (x : Slot). x.held) (slot-armed now (out_of r at).reply (after_ask now t) at m.ten small ∙ ap (λ p. slot_by now p (slot_at (after_ask now t) at)) (out-stops r at small (named-runs now r t at h e)))
  where
    m : Matched r (after_ask now t)
    m = ask-matched now r t h

    u : Table
    u = armed now (tolds_in (out_of r at).reply) (after_ask now t)

    small : at < 10
    small = (furthest-named now t at e).below

pub out-changes : (now : ℕ) (r : Record) (t : Table) (at : ℕ) → Matched r t → asked now t ≡ Some at → (out_of r at).next ≡ r → ⊥
out-changes now r t at h e q =
    true≢false (sym (eq-eqb (get_or (flags_of r.hot) at 0) 0 (rw q at (out-clears now r t at h e))) ∙ named-runs now r t at h e)

-- from a record on, each of these timers changes the one that the timers before it left
abbrev pub AllChange : Record → List Ran → Type 0
AllChange r [] = Unit {0}
AllChange r (x ∷ xs) = ((out_of r x.at).next ≡ r → ⊥) × AllChange (out_of r x.at).next xs

pub ran-changes : (n now : ℕ) (r : Record) (t : Table) → Matched r t → AllChange r (round_to n now r t).ran
unfolding round_to round_by behind
ran-changes zero now r t h = tt
ran-changes (suc n) now r t h = go (asked now t) refl (λ q u m. ran-changes n now q u m)
  where
    go : (x : Option ℕ) → asked now t ≡ x → ((q : Record) (u : Table) → Matched q u → AllChange q (round_to n now q u).ran) → AllChange r (round_by (round_to n now) now x r (after_ask now t)).ran
    go None e f = tt
    go (Some at) e f = (
      out-changes now r t at h e,
      f (out_of r at).next (armed now (tolds_in (out_of r at).reply) (after_ask now t)) (out-matched now at r (after_ask now t) (ask-matched now r t h)),
    )
