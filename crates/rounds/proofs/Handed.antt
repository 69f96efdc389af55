-- Every event that a round hands out was taken: a slot that is named is held, so that its timer runs in the record. Assumes nothing.
use Prim.Native.Nat.{ℕ, zero, suc}
use mathlib.Core.Path.{◌≡◌, refl, ap}
use mathlib.Core.Bool.{false}
use mathlib.Core.List.{List, [], ◌∷◌}
use lib.Dec.{eqb}
use lib.ListN.{get_or}
use borrow.Author.Tests.{ne_eqb}
use Rattle.record.specs.declared.Record.{Record}
use Rattle.record.specs.declared.Answer.TheVariants.{Taken}
use Rattle.rules.specs.declared.Reply.{Reply}
use Rattle.rules.specs.Plan.{taken_reply}
use Rattle.std.proofs.Common.{Option, Some, None}
use Rattle.deadlines.specs.declared.Table.{Table}
use Rattle.deadlines.specs.Asking.{slot_at, asked, after_ask, Furthest}
use Rattle.deadlines.specs.Arming.{flags_of, armed}
use Rattle.deadlines.proofs.Choice.{furthest-named}
use Rattle.rounds.specs.Words.{Ran}
use Rattle.rounds.specs.Round.{tolds_in, out_of, behind, round_by, round_to}
use Rattle.rounds.proofs.Fit.{fit_at}
use Rattle.rounds.proofs.Matched.{Matched, due-held, ask-matched, out-matched}
use Rattle.rounds.proofs.Outs.{out-reply}

-- the timer that an ask names runs in the record
pub named-runs : (now : ℕ) (r : Record) (t : Table) (at : ℕ) → Matched r t → asked now t ≡ Some at → eqb (get_or (flags_of r.hot) at 0) 0 ≡ false
named-runs now r t at h e =
    let w : Furthest now (after_ask now t) at = furthest-named now t at e in
    rw (fit_at r.hot (after_ask now t).held at (ask-matched now r t h).fits w.below) at (ne_eqb (get_or (after_ask now t).held at 0) 0 (due-held now (slot_at (after_ask now t) at) w.ripe))

abbrev pub AllTaken : List Ran → Type 0
AllTaken [] = Unit {0}
AllTaken (x ∷ xs) = (x.reply.answer ≡ Taken) × AllTaken xs

pub ran-taken : (n now : ℕ) (r : Record) (t : Table) → Matched r t → AllTaken (round_to n now r t).ran
unfolding round_to round_by behind taken_reply
ran-taken zero now r t h = tt
ran-taken (suc n) now r t h = go (asked now t) refl (λ q u m. ran-taken n now q u m)
  where
    go : (x : Option ℕ) → asked now t ≡ x → ((q : Record) (u : Table) → Matched q u → AllTaken (round_to n now q u).ran) → AllTaken (round_by (round_to n now) now x r (after_ask now t)).ran
    go None e f = tt
    go (Some at) e f = (
      ap (λ (p : Reply). p.answer) (out-reply r at (furthest-named now t at e).below (named-runs now r t at h e)),
      f (out_of r at).next (armed now (tolds_in (out_of r at).reply) (after_ask now t)) (out-matched now at r (after_ask now t) (ask-matched now r t h)),
    )
