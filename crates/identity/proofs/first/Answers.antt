-- Each way rewrites by the tests that led to it.
use Rattle.std.proofs.Common.{arith}
use Rattle.identity.specs.Choice.{own_first}
use Rattle.identity.proofs.first.Goals as goal

pub returns-then-here-clause-value : goal.returns-then-here-clause-value
unfolding own_first
returns-then-here-clause-value c = rw c.if-here.true

pub returns-then-there-clause-value : goal.returns-then-there-clause-value
unfolding own_first
returns-then-there-clause-value c = rw (c.if-here.false, c.if-there.true)

pub returns-else-there-clause-value : goal.returns-else-there-clause-value
unfolding own_first
returns-else-there-clause-value c = rw (c.if-here.false, c.if-there.false)
