use Rattle.std.proofs.Common.{arith}
use Rattle.std.proofs.lemmas.Bool.Decides.{nat_tests}
use Rattle.request.specs.Levels.{around_of}
use Rattle.messages.specs.Message.{ended_by}
use Rattle.request.proofs.reading.enclosed.Goals as goal

pub returns-then-matches : goal.returns-then-matches
unfolding around_of ended_by
returns-then-matches c = grind (arith, nat_tests)

pub returns-in_err-end : goal.returns-in_err-end
unfolding around_of ended_by
returns-in_err-end c = grind (arith, nat_tests)

pub returns-in_err-inner : goal.returns-in_err-inner
unfolding around_of ended_by
returns-in_err-inner c = grind (arith, nat_tests)

pub returns : goal.returns
unfolding around_of ended_by
returns c = grind (arith, nat_tests)
