use Rattle.std.proofs.Common.{◌≡◌, refl, ◌∙◌, arith}
use native.Mathlib.Nat.{add-zero, sub-zero}
use lib.ListN.{length-set}
use Rattle.image.proofs.Lays.{octet-more, octets-all}
use Rattle.image.proofs.columns.lay.Goals as goal

pub loop-i-init : goal.loop-i-init
loop-i-init c = record { long = refl; whole = rw (add-zero, sub-zero) }

pub loop-i-preserved : goal.loop-i-preserved
loop-i-preserved c =
    let l = c.loop-i in
    let a = c.args in
    record { long = length-set l.buffer _ _ ∙ l.invariant.long; whole = octet-more l.buffer a.at a.k l.rest l.i (omega arith) (omega arith) ∙ l.invariant.whole }

pub returns : goal.returns
returns c =
    let e : c.loop-i.i ≡ c.args.k = omega arith in
    record { laid = octets-all _ _ _ _ _ _ (rw e at c.loop-i.invariant.whole); next = refl }
