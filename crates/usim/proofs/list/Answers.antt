use Rattle.std.proofs.Common.{rules, arith}
use borrow.Author.Tests.{eq-eqb, ne_eqb}
use Rattle.laws.specs.Upto.{over}
use Rattle.networks.specs.Networks.{octets_of}
use Rattle.usim.specs.Usim.{marked_to}
use Rattle.usim.proofs.Steps.{marked-most, pass, fits, lays, wrote}
use Rattle.usim.proofs.list.Goals as goal
use Rattle.usim.proofs.list.Goals.{then-marks-i-ne0, else-marks-i-ne0}

pub loop-i-init : goal.loop-i-init
unfolding over octets_of marked_to
loop-i-init c = search rules

pub lay-requires : goal.lay-requires
lay-requires c = fits _ _ _ _ c.requires.1 c.loop-i.file c.loop-i.at c.loop-i.i c.loop-i.invariant c.loop-i-test.true (ne_eqb _ _ c.if-marks-i-ne0.true)

pub overflow_add-at : goal.overflow_add-at
overflow_add-at c = omega (arith, c.loop-i.invariant.1, marked-most c.args.nets.now c.args.marks.now c.loop-i.i, c.requires.0)

pub loop-i-preserved : goal.loop-i-preserved
loop-i-preserved c = elim c.if-marks-i-ne0.branch [
  | then-marks-i-ne0 w ↦ rw (w.file-is, w.at-is, w.lay.ensures) (lays _ _ _ _ c.requires.1 c.loop-i.file c.loop-i.at c.loop-i.i c.loop-i.invariant c.loop-i-test.true (ne_eqb _ _ w.if-marks-i-ne0.true))
  | else-marks-i-ne0 w ↦ rw (w.file-is, w.at-is) (pass _ _ _ _ c.requires.1 c.loop-i.file c.loop-i.at c.loop-i.i c.loop-i.invariant c.loop-i-test.true (eq-eqb _ _ w.if-marks-i-ne0.false))
]

pub returns : goal.returns
returns c = wrote _ _ _ _ c.loop-i.file c.loop-i.at c.loop-i.i c.loop-i.invariant (omega arith)
