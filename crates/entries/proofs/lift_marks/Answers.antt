use Rattle.entries.specs.Entries.{lift_mark}
use Rattle.laws.proofs.Zip.{zip-none, zip-step}
use Rattle.entries.proofs.lift_marks.Goals as goal

pub loop-i-init : goal.loop-i-init
loop-i-init c = zip-none (lift_mark _) _ _

pub loop-i-preserved : goal.loop-i-preserved
loop-i-preserved c = zip-step (lift_mark _) _ _ _ _ _ _ c.loop-i.invariant c.lift.ensures
