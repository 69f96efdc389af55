-- `messages::accepted` meets its contract: each field is what its function ensures. Assumes nothing.
use mathlib.Core.Path.{ap}
use Rattle.octets.specs.Element.{wanted_of, gather_of}
use Rattle.octets.specs.declared.Gathered.{Gathered}
use Rattle.messages.specs.Message.{accept_of}
use Rattle.messages.proofs.Lengths.{timer2-fits}
use Rattle.messages.proofs.accepted.Goals as goal

pub timed-requires : goal.timed-requires
timed-requires c = rw c.timer2_in.ensures (timer2-fits _ _)

pub returns : goal.returns
unfolding accept_of gather_of wanted_of
returns c = λ l e.
    let first = ap (λ (g : Gathered). g.first) e in
    let second = ap (λ (g : Gathered). g.second) e in
    let third = ap (λ (g : Gathered). g.third) e in
    let fourth = ap (λ (g : Gathered). g.fourth) e in
    cc
