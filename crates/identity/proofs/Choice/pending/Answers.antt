use borrow.Author.Tests.{eq-eqb, ne_eqb}
use Rattle.identity.specs.Choice.{is_pending}
use Rattle.identity.proofs.Choice.pending.Goals as goal

pub returns-then-held-ne0 : goal.returns-then-held-ne0
unfolding is_pending
returns-then-held-ne0 c = rw (ne_eqb _ _ c.if-held-ne0.true, ← c.net-own.ensures)

pub returns-else-held-ne0 : goal.returns-else-held-ne0
unfolding is_pending
returns-else-held-ne0 c = rw (eq-eqb _ _ c.if-held-ne0.false)
