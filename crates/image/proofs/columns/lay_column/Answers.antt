use Rattle.std.proofs.Common.{◌≡◌, length, sym, arith}
use Rattle.image.proofs.Lays.{room-for, part_none, part-more, part-all}
use Rattle.image.proofs.columns.lay_column.Goals as goal

pub loop-x-init : goal.loop-x-init
loop-x-init g c = let n = g.T.Number in let m = g.met.T.Number in part_none n.octets n.column n.WIDTH m.long m.column_none m.column_more

pub lay-place-requires : goal.lay-place-requires
lay-place-requires g c =
    room-for g.T.Number.WIDTH (length c.args.xs.now) c.loop-x.x-index c.args.at c.loop-x.place (length c.loop-x.buffer) c.loop-x-test.true (rw (sym c.loop-x.auto.buffer) at c.requires) c.loop-x.invariant.goes

pub loop-x-preserved : goal.loop-x-preserved
loop-x-preserved g c =
    let n = g.T.Number in
    let m = g.met.T.Number in
    part-more n.octets n.column n.WIDTH m.long m.column_none m.column_more c.loop-x.invariant (omega (arith, c.requires)) c.loop-x-test.true c.x-item.is c.lay-place.auto.buffer c.lay-place.ensures.laid

pub returns : goal.returns
returns g c =
    let n = g.T.Number in
    let m = g.met.T.Number in
    let e : c.loop-x.x-index ≡ length c.args.xs.now = omega arith in
    record { laid = part-all n.octets n.column n.WIDTH m.long m.column_none m.column_more c.loop-x.invariant c.loop-x-test.false; next = rw e at c.loop-x.invariant.goes }
