-- What is given in place, by value. Assumes nothing.
use Rattle.std.proofs.Common.{sym, ◌∙◌}
use Rattle.rounds.proofs.Goes.{rounded-taken, rounded-refused}
use Rattle.rounds.proofs.value.round.Goals as goal

pub returns-in-Ok-clause-value : goal.returns-in-Ok-clause-value
returns-in-Ok-clause-value c = (rounded-taken _ _ _ _ _ _ _ (sym c.in-Ok.is ∙ c.run.ensures.value) c.run.ensures.next c.run.ensures.table_after, c.run.ensures.list_after)

pub returns-in-Err-clause-value : goal.returns-in-Err-clause-value
returns-in-Err-clause-value c = (rounded-refused _ _ _ _ _ _ _ (sym c.in-Err.is ∙ c.run.ensures.value) c.run.ensures.next c.run.ensures.table_after, c.run.ensures.list_after)
