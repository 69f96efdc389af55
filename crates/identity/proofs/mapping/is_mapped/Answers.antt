-- Each way rewrites by the test that led to it. Assumes nothing.
use Rattle.std.proofs.Common.{arith}
use Rattle.std.proofs.lemmas.Bool.Decides.{nat_tests}
use Rattle.identity.specs.Choice.{is_mapped_by}
use Rattle.identity.proofs.mapping.is_mapped.Goals as goal

pub returns-in-2 : goal.returns-in-2
unfolding is_mapped_by
returns-in-2 c = rw c.in-2.is c.from_s1.ensures

pub returns-in-3 : goal.returns-in-3
unfolding is_mapped_by
returns-in-3 c = rw c.in-3.is c.from_native.ensures

pub returns-in_default : goal.returns-in_default
unfolding is_mapped_by
returns-in_default c = grind (arith, nat_tests)
