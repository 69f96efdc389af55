use mathlib.Core.Path.{◌∙◌}
use borrow.Author.Rules.{rules}
use native.Mathlib.Omega.{arith}
use Rattle.entries.proofs.Counting.{count-first, count_next, count-full, count-over}
use Rattle.entries.proofs.Entries.held_with.Goals as goal

pub loop-network-init : goal.loop-network-init
loop-network-init c =
    (cc, c.size-n.ensures.upper_bound, rw (c.into_iter-network-iterator.ensures.into_iter_gives, c.chunks_exact-network-items.ensures.rest) (count-first _ _ _ _ _ (search rules) c.size-n.ensures.value c.size-n.ensures.upper_bound))

pub join-k-requires : goal.join-k-requires
join-k-requires c = (search rules, omega arith)

pub returns-then-n-k-gt16 : goal.returns-then-n-k-gt16
returns-then-n-k-gt16 c =
    let step = c.in-Some.ensures.steps in
    count-full _ _ _ _ _ _ _ c.loop-network.invariant.2 _ _ step.1.0 (step.1.1 ∙ c.loop-network.invariant.0) _ c.network_at.ensures _ c.join-k.ensures.value c.if-n-k-gt16.true

pub loop-network-preserved : goal.loop-network-preserved
loop-network-preserved c =
    let step = c.in-Some.ensures.steps in
    (step.0 ∙ c.loop-network.invariant.0, c.loop-network.invariant.1, count_next _ _ _ _ _ _ _ c.loop-network.invariant.2 _ _ step.1.0 (step.1.1 ∙ c.loop-network.invariant.0) _ c.network_at.ensures _ c.join-k.ensures.value _ c.join-k.ensures.after (omega arith))

pub returns : goal.returns
returns c =
    let step = c.in-None.ensures.steps in
    count-over _ _ _ _ _ _ _ c.loop-network.invariant.2 (omega arith)
