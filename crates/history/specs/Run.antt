-- The answers of a run, as document 01 numbers them. Assumes nothing.
use Rattle.std.specs.Prelude.{ℕ, List, [], ◌∷◌}
use Rattle.record.specs.declared.Record.{Record}
use Rattle.record.specs.Answers.{number_of}
use Rattle.events.specs.Step.{step_of}
use Rattle.validity.specs.Run.{Heard}

unfoldable pub answers_of : Record → List Heard → List ℕ
answers_of r [] = []
answers_of r (x ∷ xs) = number_of (step_of r x.event x.octets).reply.answer ∷ answers_of (step_of r x.event x.octets).next xs
