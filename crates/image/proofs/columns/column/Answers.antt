use Rattle.std.proofs.Common.{◌∙◌, arith}
use lib.ListN.{length-set, length-replicate}
use Rattle.image.proofs.Filled.{fill_none, fill_more, fill-all}
use Rattle.image.proofs.columns.column.Goals as goal

pub loop-i-init : goal.loop-i-init
loop-i-init g c =
    let n = g.T.Number in
    let m = g.met.T.Number in
    record { long = length-replicate g.row.N _; begun = length-replicate g.row.N _; read = fill_none n.number n.numbers n.WIDTH m.numbers_none m.numbers_more _ _ _ }

pub loop-i-preserved : goal.loop-i-preserved
loop-i-preserved g c =
    let n = g.T.Number in
    let m = g.met.T.Number in
    let h = c.loop-i.invariant in
    record {
      long = length-set c.loop-i.xs c.loop-i.i _ ∙ h.long;
      begun = h.begun;
      read = fill_more n.number n.numbers n.WIDTH m.numbers_none m.numbers_more _ _ _ _ _ _ h.read (rw c.WIDTH.ensures at c.read.ensures) (omega arith);
    }

pub returns : goal.returns
returns g c =
    let n = g.T.Number in
    let m = g.met.T.Number in
    let h = c.loop-i.invariant in
    rw h.begun at (fill-all n.number n.numbers n.WIDTH m.numbers_none m.numbers_more _ _ c.loop-i.i _ _ h.read (omega arith))
