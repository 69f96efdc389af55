-- The length tested is that of the clear part, the lead of 71 and the whole request, and these are put one behind the other. Assumes nothing.
use mathlib.Core.Path.{sym}
use native.Mathlib.Omega.{arith}
use Rattle.request.specs.Layout.{clear}
use Rattle.request.specs.Steps.{said}
use Rattle.request.proofs.Pieces.{clear-small, whole-small, nested-long, sent-short, sent-taken}
use Rattle.request.proofs.laying.Saying.enclose.Goals as goal

pub size-requires : goal.size-requires
size-requires c = rw c.clear.ensures (clear-small (said c.args.self) c.requires)

pub overflow_add-len : goal.overflow_add-len
overflow_add-len c =
    let f = said c.args.self in
    omega (arith, rw c.clear.ensures at c.size.ensures, whole-small (clear f) (clear-small f c.requires))

pub overflow_add-len-2 : goal.overflow_add-len-2
overflow_add-len-2 c =
    let f = said c.args.self in
    omega (arith, rw c.clear.ensures at c.size.ensures, whole-small (clear f) (clear-small f c.requires), whole-small f c.requires)

pub returns-then-buffer-len : goal.returns-then-buffer-len
returns-then-buffer-len c =
    let n = rw c.clear.ensures at c.size.ensures in
    let p = sent-short _ _ _ (nested-long (said c.args.self) (sym n) (sym c.size-whole.ensures)) c.if-buffer-len.true in
    record { value = p.0; buffer_after = p.1 }

pub nest-requires : goal.nest-requires
nest-requires c =
    let n = rw c.clear.ensures at c.size.ensures in
    (c.requires, (c.size-whole.ensures, omega (arith, nested-long (said c.args.self) (sym n) (sym c.size-whole.ensures))))

pub returns : goal.returns
returns c =
    let n = rw c.clear.ensures at c.size.ensures in
    let p = sent-taken _ _ _ _ _ (nested-long (said c.args.self) (sym n) (sym c.size-whole.ensures)) c.if-buffer-len.false c.nest.ensures in
    record { value = p.0; buffer_after = p.1 }
