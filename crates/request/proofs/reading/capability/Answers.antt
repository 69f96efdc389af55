use Rattle.std.proofs.Common.{arith}
use Rattle.std.proofs.lemmas.Bool.Decides.{nat_tests}
use Rattle.request.specs.Reading.{is_capability}
use Rattle.request.proofs.reading.capability.Goals as goal

pub returns-in-Some : goal.returns-in-Some
unfolding is_capability
returns-in-Some c = grind (arith, nat_tests)

pub returns-in-None : goal.returns-in-None
unfolding is_capability
returns-in-None c = grind (arith, nat_tests)
