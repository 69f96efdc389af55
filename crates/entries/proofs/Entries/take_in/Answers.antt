use mathlib.Core.Path.{sym, ◌∙◌}
use native.Mathlib.Omega.{arith}
use Rattle.entries.proofs.Taking.{take_none, take-one, take-over}
use Rattle.entries.proofs.Entries.take_in.Goals as goal

pub loop-network-preserved : goal.loop-network-preserved
loop-network-preserved c =
    let step = c.in-Some.ensures.steps in
    (step.0 ∙ c.loop-network.invariant.0, take_none _ _ _ _ _ c.loop-network.invariant.1 _ _ step.1.0 (step.1.1 ∙ c.loop-network.invariant.0) _ c.network_at-net.ensures (sym c.is_unused.ensures ∙ c.if-not-is_unused.false))

pub loop-network-preserved-then-not-is_unused : goal.loop-network-preserved-then-not-is_unused
loop-network-preserved-then-not-is_unused c =
    let step = c.in-Some.ensures.steps in
    (step.0 ∙ c.loop-network.invariant.0, take-one _ _ _ _ _ c.loop-network.invariant.1 _ _ step.1.0 (step.1.1 ∙ c.loop-network.invariant.0) _ c.network_at-net.ensures (sym c.is_unused.ensures ∙ c.if-not-is_unused.true) _ c.admit-n.ensures.value _ c.admit-n.ensures.after)

pub returns : goal.returns
returns c =
    let step = c.in-None.ensures.steps in
    take-over _ _ _ _ _ c.loop-network.invariant.1 (omega arith) _ c.settle.ensures
