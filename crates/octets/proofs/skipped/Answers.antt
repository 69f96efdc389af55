use mathlib.Core.Path.{sym, ◌∙◌, ap}
use Rattle.octets.specs.Element.{gather_of}
use Rattle.octets.proofs.Elements.{single}
use Rattle.octets.proofs.skipped.Goals as goal

pub loop-at-preserved : goal.loop-at-preserved
loop-at-preserved c = λ request.
    sym (c.plain.ensures c.if-not-plain.false _ _ _ _ c.if-msg-at-lt128.false) ∙ ap (gather_of c.args.x c.args.y c.args.z c.args.u) (sym (single request _ _ c.loop-at-test.true c.if-msg-at-lt128.false)) ∙ c.loop-at.invariant request
