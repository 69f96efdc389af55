use mathlib.Core.Path.{◌≡◌}
use native.Mathlib.Omega.{arith}
use Rattle.laws.specs.Upto.{first, copied}
use Rattle.laws.proofs.Zip.{zip-none, zip-step}
use Rattle.events.proofs.held.copy_guti.Goals as goal

pub loop-i-init : goal.loop-i-init
loop-i-init c = zip-none first _ _

pub loop-i-preserved : goal.loop-i-preserved
loop-i-preserved c = zip-step first _ _ _ _ 0 _ c.loop-i.invariant c.octet.ensures

pub returns : goal.returns
unfolding copied
returns c = let e : c.loop-i.i ≡ 10 = omega arith in rw e at c.loop-i.invariant
