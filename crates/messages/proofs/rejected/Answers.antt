-- `messages::rejected` meets its contract: each field is what its function ensures. Assumes nothing.
use native.Mathlib.Omega.{arith}
use mathlib.Core.Path.{ap}
use Rattle.octets.specs.Element.{wanted_of, gather_of}
use Rattle.octets.specs.declared.Gathered.{Gathered}
use Rattle.messages.specs.Message.{reject_of}
use Rattle.messages.proofs.Lengths.{timer2-fits}
use Rattle.messages.proofs.rejected.Goals as goal

pub overflow_cast-result : goal.overflow_cast-result
overflow_cast-result c = let h = timer2-fits c.args.msg.now c.args.g.first in rw (c.seconds.ensures, c.timer2_in.ensures) (omega (arith, h))

pub returns : goal.returns
unfolding reject_of gather_of wanted_of
returns c = λ l e. let first = ap (λ (g : Gathered). g.first) e in cc
