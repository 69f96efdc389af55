use mathlib.Core.Path.{◌≡◌, refl}
use native.Mathlib.Omega.{arith}
use borrow.Author.Tests.{eq-eqb, ne_eqb}
use Rattle.areas.specs.Areas.{is_protected, areas_held, stayed, swept_list}
use Rattle.areas.proofs.Keep.{kept-none, kept-all, kept_more, kept-skip}
use Rattle.areas.proofs.sweep.Goals as goal
use Rattle.areas.proofs.sweep.Goals.{then-x-eq1, else-x-eq1}

pub loop-i-init : goal.loop-i-init
loop-i-init c = (omega arith, kept-none is_protected _)

pub loop-i-preserved : goal.loop-i-preserved
loop-i-preserved c =
    let l = c.loop-i in
    elim c.if-x-eq1.branch [
      | then-x-eq1 w ↦ (omega (arith, w.j-is), kept_more is_protected _ l.i l.j l.list l.invariant.1 l.invariant.0 refl _ _ (eq-eqb _ _ w.if-x-eq1.true) w.j-is w.list-is)
      | else-x-eq1 w ↦ (omega (arith, w.j-is), kept-skip is_protected _ l.i l.j l.list l.invariant.1 l.invariant.0 _ _ (ne_eqb _ _ w.if-x-eq1.false) w.j-is w.list-is)
    ]

pub returns : goal.returns
unfolding swept_list stayed
returns c =
    let e : c.loop-i.i ≡ areas_held c.args.count = omega (arith, c.size-i-end.ensures.value) in
    let p = kept-all is_protected _ _ _ _ (rw e at c.loop-i.invariant.1) in
    record { list_after = p.0; value = p.1 }
