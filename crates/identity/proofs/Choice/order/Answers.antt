-- What the calls ensure, joined.
use Rattle.identity.specs.Choice.{slot_by}
use Rattle.identity.proofs.Choice.order.Goals as goal

pub returns-clause-value : goal.returns-clause-value
unfolding slot_by
returns-clause-value c = cc (c.first-any.ensures.value, c.first-alike.ensures.value, c.first.ensures.value)
