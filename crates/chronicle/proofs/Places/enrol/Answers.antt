use mathlib.Core.Path.{◌∙◌}
use native.Mathlib.Omega.{arith}
use Rattle.std.proofs.lemmas.Result.{err_from_is_err_and}
use Rattle.chronicle.proofs.Entering.{enrol-next, enrol-full, enrol-over}
use Rattle.chronicle.proofs.Places.enrol.Goals as goal

pub returns-in_err-join : goal.returns-in_err-join
returns-in_err-join c =
    let step = c.in-Some.ensures.steps in
    let p = err_from_is_err_and c.from_residual.result c.from_residual.ensures.1 in
    rw (p.1, p.2) (enrol-full _ _ c.loop-part.self _ c.loop-part.invariant.2 _ _ step.1.0 (step.1.1 ∙ c.loop-part.invariant.0) _ c.network_at.ensures _ c.in_err-join.ensures.after)

pub loop-part-preserved : goal.loop-part-preserved
loop-part-preserved c =
    let step = c.in-Some.ensures.steps in
    (step.0 ∙ c.loop-part.invariant.0, c.in_ok-join.ensures.upper_bound, enrol-next _ _ c.loop-part.self _ c.loop-part.invariant.2 _ _ step.1.0 (step.1.1 ∙ c.loop-part.invariant.0) _ c.network_at.ensures _ c.in_ok-join.ensures.after)

pub returns : goal.returns
returns c =
    let step = c.in-None.ensures.steps in
    enrol-over _ _ _ _ c.loop-part.invariant.2 (omega arith)
