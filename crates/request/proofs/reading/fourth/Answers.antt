use Rattle.std.proofs.Common.{arith}
use Rattle.std.proofs.lemmas.Bool.Decides.{nat_tests}
use Rattle.request.specs.Reading.{is_fourth}
use Rattle.request.proofs.reading.fourth.Goals as goal

pub returns-then-matches : goal.returns-then-matches
unfolding is_fourth
returns-then-matches c = grind (arith, nat_tests)

pub returns-else-matches : goal.returns-else-matches
unfolding is_fourth
returns-else-matches c = grind (arith, nat_tests)
