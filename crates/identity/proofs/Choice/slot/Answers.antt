-- Each way rewrites by the tests that led to it.
use borrow.Author.Tests.{eq-eqb, ne_eqb}
use Rattle.identity.specs.Choice.{slot_of}
use Rattle.identity.proofs.Choice.slot.Goals as goal

pub returns-then-self-ne22-clause-value : goal.returns-then-self-ne22-clause-value
unfolding slot_of
returns-then-self-ne22-clause-value c = rw (ne_eqb _ _ c.if-self-ne22.true)

pub returns-then-self-eq0-clause-value : goal.returns-then-self-eq0-clause-value
unfolding slot_of
returns-then-self-eq0-clause-value c = rw (eq-eqb _ _ c.if-self-ne22.false, eq-eqb _ _ c.if-self-eq0.true) c.order.ensures.value

pub returns-else-self-eq0-clause-value : goal.returns-else-self-eq0-clause-value
unfolding slot_of
returns-else-self-eq0-clause-value c = rw (eq-eqb _ _ c.if-self-ne22.false, ne_eqb _ _ c.if-self-eq0.false) c.order-else-self-eq0.ensures.value
