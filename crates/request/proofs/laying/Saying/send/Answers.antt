-- With ngKSI 7 the clear part is the layout, else it is both. Assumes nothing.
use Rattle.request.specs.Steps.{said}
use Rattle.request.proofs.Pieces.{clear-small, alone, composed}
use Rattle.request.proofs.laying.Saying.send.Goals as goal

pub bare-requires : goal.bare-requires
bare-requires c = rw c.clear.ensures (clear-small (said c.args.self) c.requires)

pub returns-then-self-eq7 : goal.returns-then-self-eq7
returns-then-self-eq7 c =
    let same = alone (said c.args.self) c.if-self-eq7.true in
    record { value = rw (c.clear.ensures, same) at c.bare.ensures.value; buffer_after = rw (c.clear.ensures, same) at c.bare.ensures.buffer_after }

pub returns-else-self-eq7 : goal.returns-else-self-eq7
returns-else-self-eq7 c =
    let same = composed (said c.args.self) c.if-self-eq7.false in
    record { value = rw same at c.enclose.ensures.value; buffer_after = rw same at c.enclose.ensures.buffer_after }
