-- The length tested is the request's, and what is put is the request. Assumes nothing.
use mathlib.Core.Path.{sym}
use Rattle.request.proofs.Pieces.{sent-short, sent-taken}
use Rattle.request.proofs.laying.Saying.bare.Goals as goal

pub returns-then-buffer-len : goal.returns-then-buffer-len
returns-then-buffer-len c =
    let p = sent-short _ _ _ (sym c.size-len.ensures) c.if-buffer-len.true in
    record { value = p.0; buffer_after = p.1 }

pub returns : goal.returns
returns c =
    let p = sent-taken _ _ _ _ _ (sym c.size-len.ensures) c.if-buffer-len.false c.lay.ensures in
    record { value = p.0; buffer_after = p.1 }
