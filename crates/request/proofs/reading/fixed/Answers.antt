use Rattle.std.proofs.Common.{arith}
use Rattle.std.proofs.lemmas.Bool.Decides.{nat_tests}
use Rattle.messages.specs.Message.{opened_by}
use Rattle.request.proofs.reading.fixed.Goals as goal

pub returns-else-msg-identity_len : goal.returns-else-msg-identity_len
unfolding opened_by
returns-else-msg-identity_len c = grind (arith, nat_tests)

pub returns-then-msg-identity_len : goal.returns-then-msg-identity_len
unfolding opened_by
returns-then-msg-identity_len c = grind (arith, nat_tests)

pub returns-then-msg-le2 : goal.returns-then-msg-le2
unfolding opened_by
returns-then-msg-le2 c = grind (arith, nat_tests)

pub returns-then-msg-ne65 : goal.returns-then-msg-ne65
unfolding opened_by
returns-then-msg-ne65 c = grind (arith, nat_tests)
