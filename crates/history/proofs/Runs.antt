-- A run, event by event: what each taken event keeps of the record and the taken events before it holds after any run; a refused one changes neither.
-- Assumes nothing.
use mathlib.Core.Path.{◌≡◌, refl, ◌∙◌, ap}
use mathlib.Core.Bool.{Bool, true, false, cond}
use mathlib.Core.List.{List, [], ◌∷◌, reverse_aux}
use lib.Dec.{eqb}
use Rattle.record.specs.Answers.{number_of, is_taken}
use Rattle.record.specs.declared.Record.{Record}
use Rattle.ranges.specs.Valid.{valid_of}
use Rattle.rules.specs.Plan.{refused_reply}
use Rattle.events.specs.declared.Outcome.{Outcome}
use Rattle.events.specs.Step.{advance_of, step_of}
use Rattle.validity.specs.Answered.{answered_by}
use Rattle.validity.specs.Run.{Heard, run_of}
use Rattle.record.proofs.Numbers.{taken-zero}
use Rattle.validity.proofs.Refusal.{refused, answer-told}
use Rattle.history.specs.Run.{answers_of}
use Rattle.history.specs.History.{taken_of}
use Rattle.history.proofs.Next.{next}

-- the taken events stand the latest first
module _ (P : Record → List Heard → Type 0)
    (kept : (r : Record) (t : List Heard) → P r t → (x : Heard) → valid_of r ≡ true → is_taken (answered_by r x.event x.octets) ≡ true → P (next r x.event x.octets) (x ∷ t)) where
  -- a step, by its answer's number
  step_keeps : (r : Record) (t : List Heard) → P r t → (x : Heard)
      → P (step_of r x.event x.octets).next (cond (eqb (number_of (step_of r x.event x.octets).reply.answer) 0) (x ∷ t) t)
  unfolding step_of number_of refused_reply
  step_keeps r t g x = go (valid_of r) refl (is_taken (answered_by r x.event x.octets)) refl
    where
      number : eqb (number_of (advance_of r x.event x.octets).reply.answer) 0 ≡ is_taken (answered_by r x.event x.octets)
      number = taken-zero (advance_of r x.event x.octets).reply.answer ∙ ap is_taken (answer-told r x.event x.octets)

      go : (b : Bool) → valid_of r ≡ b → (b' : Bool) → is_taken (answered_by r x.event x.octets) ≡ b'
          → P (step_of r x.event x.octets).next (cond (eqb (number_of (step_of r x.event x.octets).reply.answer) 0) (x ∷ t) t)
      go true q true q' = rw (q, number, q') (kept r t g x q q')
      go true q false q' = rw (q, number, q') (rw (ap (λ (o : Outcome). o.next) (refused r x.event x.octets q')) g)
      go false q b' q' = rw q g

  pub run-keeps : (xs : List Heard) (r : Record) (t : List Heard) → P r t → P (run_of r xs) (reverse_aux (taken_of xs (answers_of r xs)) t)
  unfolding run_of answers_of taken_of
  run-keeps [] r t g = g
  run-keeps (x ∷ xs) r t g = go (eqb (number_of (step_of r x.event x.octets).reply.answer) 0) refl (run-keeps xs (step_of r x.event x.octets).next) (step_keeps r t g x)
    where
      go : (b : Bool) → eqb (number_of (step_of r x.event x.octets).reply.answer) 0 ≡ b
          → ((t' : List Heard) → P (step_of r x.event x.octets).next t' → P (run_of (step_of r x.event x.octets).next xs) (reverse_aux (taken_of xs (answers_of (step_of r x.event x.octets).next xs)) t'))
          → P (step_of r x.event x.octets).next (cond (eqb (number_of (step_of r x.event x.octets).reply.answer) 0) (x ∷ t) t)
          → P (run_of r (x ∷ xs)) (reverse_aux (taken_of (x ∷ xs) (answers_of r (x ∷ xs))) t)
      go true q ih g' = rw q (ih (x ∷ t) (rw q at g'))
      go false q ih g' = rw q (ih t (rw q at g'))
