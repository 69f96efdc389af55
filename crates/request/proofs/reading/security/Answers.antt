use Rattle.std.proofs.Common.{arith}
use Rattle.std.proofs.lemmas.Bool.Decides.{nat_tests}
use Rattle.request.specs.Reading.{is_security}
use Rattle.request.proofs.reading.security.Goals as goal

pub returns-then-q-ge2 : goal.returns-then-q-ge2
unfolding is_security
returns-then-q-ge2 c = grind (arith, nat_tests)

pub returns-else-q-ge2 : goal.returns-else-q-ge2
unfolding is_security
returns-else-q-ge2 c = grind (arith, nat_tests)

pub returns-in-None : goal.returns-in-None
unfolding is_security
returns-in-None c = grind (arith, nat_tests)
