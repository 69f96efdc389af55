-- What the slots from i on are told begins with what slot i is told. Assumes nothing.
use Rattle.std.proofs.Common.{◌≡◌, arith}
use Rattle.deadlines.specs.Arming.{tolds_of, armed_from}
use Rattle.deadlines.proofs.Heeding.{heed_more}
use Rattle.deadlines.proofs.Table.arm.Goals as goal

pub loop-i-preserved : goal.loop-i-preserved
loop-i-preserved c = heed_more _ _ _ _ _ _ c.loop-i-test.true c.heed.ensures c.loop-i.invariant

pub returns : goal.returns
unfolding tolds_of armed_from
returns c = let e : c.loop-i.i ≡ 10 = omega arith in rw e at c.loop-i.invariant
