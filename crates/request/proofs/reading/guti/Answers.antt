use Rattle.std.proofs.Common.{arith}
use Rattle.std.proofs.lemmas.Bool.Decides.{nat_tests}
use Rattle.request.specs.Reading.{guti_in}
use Rattle.request.proofs.reading.guti.Goals as goal

pub returns-in-Some : goal.returns-in-Some
unfolding guti_in
returns-in-Some c = grind (arith, nat_tests)

pub returns-in_default : goal.returns-in_default
unfolding guti_in
returns-in_default c = grind (arith, nat_tests)

pub returns-in_default-2 : goal.returns-in_default-2
unfolding guti_in
returns-in_default-2 c = grind (arith, nat_tests)
