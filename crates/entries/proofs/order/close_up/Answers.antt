use Rattle.entries.specs.Order.{fallen}
use Rattle.laws.proofs.Zip.{zip-none, zip-step}
use Rattle.entries.proofs.order.close_up.Goals as goal

pub loop-i-init : goal.loop-i-init
loop-i-init c = zip-none (λ x. fallen _) _ _

pub loop-i-preserved : goal.loop-i-preserved
loop-i-preserved c = zip-step (λ x. fallen _) _ _ _ _ _ _ c.loop-i.invariant c.fall.ensures
