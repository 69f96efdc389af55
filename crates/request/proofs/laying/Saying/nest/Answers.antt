-- The clear part, the lead of 71 and the whole request, one behind the other. Assumes nothing.
use Prim.Native.Nat.{◌<◌}
use mathlib.Core.Path.{refl, sym}
use native.Mathlib.Omega.{arith}
use Rattle.request.specs.Layout.{length_in}
use Rattle.request.specs.Steps.{said}
use Rattle.request.proofs.Pieces.{clear-small, whole-small, nested-long, nests, two-octets}
use Rattle.request.proofs.laying.Saying.nest.Goals as goal

pub lay-at-requires : goal.lay-at-requires
lay-at-requires c =
    let f = said c.args.self in
    rw c.clear.ensures (clear-small f c.requires.0, omega (arith, nested-long f refl refl, c.requires.1.1))

pub overflow_cast-whole : goal.overflow_cast-whole
overflow_cast-whole c = omega (arith, c.requires.1.0, whole-small (said c.args.self) c.requires.0)

pub put-at-requires : goal.put-at-requires
put-at-requires c =
    let p = rw c.clear.ensures at c.lay-at.ensures in
    omega (arith, p.goes, nested-long (said c.args.self) refl refl, c.requires.1.1)

pub lay-requires : goal.lay-requires
lay-requires c =
    let p = rw c.clear.ensures at c.lay-at.ensures in
    (c.requires.0, omega (arith, p.goes, nested-long (said c.args.self) refl refl, c.requires.1.1))

pub returns : goal.returns
unfolding length_in
returns c =
    let small : c.args.whole < 65536 = omega (arith, c.requires.1.0, whole-small (said c.args.self) c.requires.0) in
    nests (said c.args.self) (sym c.requires.1.0) (rw c.clear.ensures at c.lay-at.ensures) (rw (c.to_be_bytes.ensures, two-octets _ small) at c.put-at.ensures) c.lay.ensures
