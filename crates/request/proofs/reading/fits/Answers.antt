use Rattle.std.proofs.Common.{arith}
use Rattle.std.proofs.lemmas.Bool.Decides.{nat_tests}
use Rattle.request.specs.Reading.{is_request}
use Rattle.request.proofs.reading.fits.Goals as goal

pub returns-then-capability : goal.returns-then-capability
unfolding is_request
returns-then-capability c = grind (arith, nat_tests)

pub returns-else-capability : goal.returns-else-capability
unfolding is_request
returns-else-capability c = grind (arith, nat_tests)
