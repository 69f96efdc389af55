-- By the call's answer. Assumes nothing.
use Rattle.identity.specs.Identity.{is_from_native}
use Rattle.identity.proofs.mapping.from_native.Goals as goal

pub returns-then-from_s1 : goal.returns-then-from_s1
unfolding is_from_native
returns-then-from_s1 c = rw (← c.from_s1.ensures, c.if-from_s1.true)

pub returns-else-from_s1 : goal.returns-else-from_s1
unfolding is_from_native
returns-else-from_s1 c = rw (← c.from_s1.ensures, c.if-from_s1.false)
