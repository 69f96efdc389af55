use mathlib.Core.Path.{sym, ◌∙◌}
use borrow.Author.Tests.{eq-eqb, ne_eqb}
use native.Mathlib.Omega.{arith}
use Rattle.entries.proofs.Naming.{among_none, named-here, named_behind, named_nowhere}
use Rattle.entries.proofs.import.names.Goals as goal

pub returns-then-is_unused : goal.returns-then-is_unused
returns-then-is_unused c = sym (among_none _ _ (sym c.is_unused.ensures ∙ c.if-is_unused.true))

pub returns-then-network_at-net : goal.returns-then-network_at-net
returns-then-network_at-net c =
    let step = c.in-Some.ensures.steps in
    sym (named-here _ _ (sym c.is_unused.ensures ∙ c.if-is_unused.false) _ c.loop-network.invariant.1 _ _ step.1.0 (step.1.1 ∙ c.loop-network.invariant.0) _ c.network_at.ensures (eq-eqb _ _ c.if-network_at-net.true))

pub loop-network-preserved : goal.loop-network-preserved
loop-network-preserved c =
    let step = c.in-Some.ensures.steps in
    (step.0 ∙ c.loop-network.invariant.0, named_behind _ _ (sym c.is_unused.ensures ∙ c.if-is_unused.false) _ c.loop-network.invariant.1 _ _ step.1.0 (step.1.1 ∙ c.loop-network.invariant.0) _ c.network_at.ensures (ne_eqb _ _ c.if-network_at-net.false))

pub returns : goal.returns
returns c =
    let step = c.in-None.ensures.steps in
    sym (named_nowhere _ _ (sym c.is_unused.ensures ∙ c.if-is_unused.false) _ c.loop-network.invariant.1 (omega arith))
