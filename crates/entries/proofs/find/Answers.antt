use mathlib.Core.Path.{◌≡◌}
use native.Mathlib.Omega.{arith}
use lib.Count.{trailing_le}
use Rattle.entries.specs.Places.{same_net}
use Rattle.entries.proofs.Mask.{mask-none, mask-more, mask-hit, mask-miss}
use Rattle.entries.proofs.find.Goals as goal

pub loop-i-init : goal.loop-i-init
loop-i-init c = mask-none (same_net _) _

pub loop-i-preserved : goal.loop-i-preserved
loop-i-preserved c = rw (c.from.ensures, c.loop-i.invariant) (mask-more (same_net c.args.net) c.loop-i.i c.args.nets.now c.loop-i-test.true)

pub overflow_cast-at : goal.overflow_cast-at
overflow_cast-at c = omega (arith, trailing_le 16 c.loop-i.m)

pub returns-then-at-n : goal.returns-then-at-n
returns-then-at-n c =
    let e : c.loop-i.i ≡ 16 = omega arith in
    mask-hit (same_net _) _ _ _ (rw e at c.loop-i.invariant) (omega arith) (omega arith)

pub returns-else-at-n : goal.returns-else-at-n
returns-else-at-n c =
    let e : c.loop-i.i ≡ 16 = omega arith in
    mask-miss (same_net _) _ _ _ (rw e at c.loop-i.invariant) (omega arith)
