use borrow.Author.Tests.{eq-eqb, ne_eqb}
use Rattle.identity.specs.Choice.{is_equivalent}
use Rattle.identity.proofs.Choice.equivalent.Goals as goal

pub returns-then-held-ne0 : goal.returns-then-held-ne0
unfolding is_equivalent
returns-then-held-ne0 c = rw (ne_eqb _ _ c.if-held-ne0.true, ← c.size.ensures.value, ← c.net-own.ensures) c.among.ensures

pub returns-else-held-ne0 : goal.returns-else-held-ne0
unfolding is_equivalent
returns-else-held-ne0 c = rw (eq-eqb _ _ c.if-held-ne0.false)
