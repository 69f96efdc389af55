use mathlib.Core.Path.{◌≡◌, sym, ◌∙◌}
use native.Mathlib.Omega.{arith}
use Rattle.laws.specs.Upto.{first, copied}
use Rattle.laws.proofs.Zip.{zip-none, zip-step}
use Rattle.events.proofs.Networks.{network-at}
use Rattle.events.proofs.held.copy_equivalents.Goals as goal

pub loop-i-init : goal.loop-i-init
loop-i-init c = zip-none first _ _

pub loop-i-preserved : goal.loop-i-preserved
loop-i-preserved c = zip-step first _ _ _ _ 0 _ c.loop-i.invariant (c.network.ensures ∙ sym (network-at _ _ _ (omega arith)))

pub returns : goal.returns
unfolding copied
returns c = let e : c.loop-i.i ≡ c.args.n = omega arith in rw e at c.loop-i.invariant
