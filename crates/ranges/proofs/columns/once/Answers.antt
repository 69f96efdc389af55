use native.Mathlib.Omega.{arith}
use Rattle.laws.proofs.Taken.{apart_none, apart_more, apart-ends, apart-over}
use Rattle.ranges.proofs.columns.once.Goals as goal

pub loop-i-init : goal.loop-i-init
loop-i-init g c = apart_none g.T.PartialEq.eq _

pub returns-then-contains : goal.returns-then-contains
returns-then-contains g c =
    apart-ends g.T.PartialEq.eq c.args.xs.now c.args.count c.loop-i.i c.index-xs-i.result (omega arith) c.index-xs-i.is c.loop-i.invariant _ c.contains.ensures.value c.if-contains.true (omega arith)

pub loop-i-preserved : goal.loop-i-preserved
loop-i-preserved g c =
    apart_more g.T.PartialEq.eq c.args.xs.now c.loop-i.i c.index-xs-i.result (omega arith) c.index-xs-i.is c.loop-i.invariant _ c.contains.ensures.value c.if-contains.false

pub returns : goal.returns
returns g c = apart-over g.T.PartialEq.eq c.args.xs.now c.args.count c.loop-i.i c.loop-i.invariant (omega arith) (omega arith)
