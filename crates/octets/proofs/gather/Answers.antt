use mathlib.Core.Path.{refl}
use native.Mathlib.Omega.{arith}
use Rattle.octets.proofs.Elements.{none_left, fault-next, one_more, passes}
use Rattle.octets.proofs.Held.{ended, broke, same, next}
use Rattle.octets.proofs.gather.Goals as goal

pub loop-g-init : goal.loop-g-init
loop-g-init c = record { ends = refl; gives = refl }

pub returns-in-End : goal.returns-in-End
returns-in-End c = ended _ _ _ _ _ _ (rw (none_left _ _ _ _ c.walk-w.ensures c.in-End.is) at (same _ _ _ _ _ _ _ _ (c.skipped-place.ensures.1 _) c.loop-g.invariant))

pub returns-in-Bad : goal.returns-in-Bad
returns-in-Bad c = broke _ _ _ _ _ _ _ _ (rw (fault-next _ _ _ _ c.walk-w.ensures _ c.in-Bad.is) at (same _ _ _ _ _ _ _ _ (c.skipped-place.ensures.1 _) c.loop-g.invariant))

pub loop-g-smaller : goal.loop-g-smaller
loop-g-smaller c = omega (arith, passes _ _ _ _ c.walk-w.ensures _ _ _ _ c.in-At.is)

pub loop-g-preserved : goal.loop-g-preserved
loop-g-preserved c = rw (c.kept-g.ensures, c.kept-g-in-At.ensures, c.kept-g-in-At-2.ensures, c.kept-g-in-At-3.ensures)
    (next _ _ _ _ _ _ _ _ _ _ (rw (one_more _ _ _ _ c.walk-w.ensures _ _ _ _ c.in-At.is) at (same _ _ _ _ _ _ _ _ (c.skipped-place.ensures.1 _) c.loop-g.invariant)))
