use Rattle.std.proofs.Common.{arith}
use Rattle.std.proofs.lemmas.Bool.Decides.{nat_tests}
use Rattle.request.specs.Reading.{is_identity}
use Rattle.request.proofs.reading.identity.Goals as goal

pub returns-in-242 : goal.returns-in-242
unfolding is_identity
returns-in-242 c = grind (arith, nat_tests)

pub returns-then-n-ge9 : goal.returns-then-n-ge9
unfolding is_identity
returns-then-n-ge9 c = grind (arith, nat_tests)

pub returns-else-n-ge9 : goal.returns-else-n-ge9
unfolding is_identity
returns-else-n-ge9 c = grind (arith, nat_tests)

pub returns-in_default : goal.returns-in_default
unfolding is_identity
returns-in_default c = grind (arith, nat_tests)
