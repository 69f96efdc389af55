-- `messages::read_elements` meets its contract: what is gathered is the end of the elements and the first ones asked for. Assumes nothing.
use Rattle.std.proofs.Common.{rules}
use mathlib.Core.Path.{ap}
use Rattle.octets.specs.Element.{gather_of}
use Rattle.octets.specs.declared.Gathered.{Gathered}
use Rattle.messages.specs.Message.{accepted_of, ended_by}
use Rattle.messages.proofs.read_elements.Goals as goal

pub returns-in_err-g : goal.returns-in_err-g
unfolding accepted_of ended_by gather_of
returns-in_err-g c = rw (← ap (λ (g : Gathered). g.end) c.gather-g.ensures, c.in_err-g.was) (search rules)

pub returns : goal.returns
unfolding accepted_of ended_by gather_of
returns c = rw (← ap (λ (g : Gathered). g.end) c.gather-g.ensures, c.in_ok-g.was, c.accepted.ensures _ c.gather-g.ensures)
