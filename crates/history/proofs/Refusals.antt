-- From a new record each answer is the table's: the record stays valid, so answer 1 is never for the record, and a refusal changes nothing. Assumes nothing.
use Prim.Native.Nat.{ℕ}
use mathlib.Core.Path.{◌≡◌, sym, ◌∙◌, ap}
use mathlib.Core.Bool.{false}
use mathlib.Core.List.{List}
use lib.Dec.{eqb}
use Rattle.record.specs.Answers.{number_of}
use Rattle.record.proofs.Numbers.{taken-zero}
use Rattle.rules.specs.declared.Event.{Event}
use Rattle.events.specs.declared.Outcome.{Outcome}
use Rattle.events.specs.Step.{step_of}
use Rattle.validity.specs.Answered.{answered_by}
use Rattle.validity.specs.Run.{Heard, AllOctets}
use Rattle.validity.proofs.Refusal.{answer-told, step-refusal}
use Rattle.validity.proofs.Runs.{ran, ran-step}

module _ (cardlimit banlimit n1limit : ℕ) (capability security : List ℕ) (xs : List Heard) (o : AllOctets xs) (e : Event) (octets : List ℕ) where
  -- the answer is the one that the checks of document 01 give, in their order
  pub table-answers : (step_of (ran cardlimit banlimit n1limit capability security xs) e octets).reply.answer
      ≡ answered_by (ran cardlimit banlimit n1limit capability security xs) e octets
  table-answers =
      ap (λ (x : Outcome). x.reply.answer) (ran-step cardlimit banlimit n1limit capability security xs o e octets)
      ∙ answer-told (ran cardlimit banlimit n1limit capability security xs) e octets

  -- "All but 0 change nothing", by document 01's numbers
  pub refusals : eqb (number_of (step_of (ran cardlimit banlimit n1limit capability security xs) e octets).reply.answer) 0 ≡ false
      → (step_of (ran cardlimit banlimit n1limit capability security xs) e octets).next ≡ ran cardlimit banlimit n1limit capability security xs
  refusals q = step-refusal (ran cardlimit banlimit n1limit capability security xs) e octets (sym (taken-zero _) ∙ q)
