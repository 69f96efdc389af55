-- The two ways of the test are the two of the definition.
use native.Mathlib.Omega.{arith}
use borrow.Author.Tests.{eq-eqb, ne_eqb}
use Rattle.areas.proofs.mark.Goals as goal

pub returns-then-protected-eq0 : goal.returns-then-protected-eq0
returns-then-protected-eq0 c = rw (eq-eqb _ _ c.if-protected-eq0.true) (omega arith)

pub returns-else-protected-eq0 : goal.returns-else-protected-eq0
returns-else-protected-eq0 c = simp (ne_eqb _ _ c.if-protected-eq0.false)
