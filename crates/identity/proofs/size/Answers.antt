use Rattle.std.proofs.Common.{arith}
use Rattle.std.proofs.lemmas.Bool.Decides.{nat_tests}
use Rattle.identity.specs.Identity.{equivalents_held}
use Rattle.identity.proofs.size.Goals as goal

pub returns-clause-value : goal.returns-clause-value
unfolding equivalents_held
returns-clause-value c = grind (arith, nat_tests)
