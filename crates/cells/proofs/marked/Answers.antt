use Rattle.std.proofs.Common.{sym, ◌∙◌, refl, arith}
use Rattle.cells.specs.Cells.{some_of}
use Rattle.cells.proofs.Steps.{none_yet, none_of, hit}
use Rattle.cells.proofs.marked.Goals as goal

pub loop-k-init : goal.loop-k-init
unfolding some_of
loop-k-init c = refl

pub returns-then-stands : goal.returns-then-stands
returns-then-stands c = sym (hit _ _ c.loop-k.k (omega arith) (sym c.stands.ensures ∙ c.if-stands.true))

pub loop-k-preserved : goal.loop-k-preserved
loop-k-preserved c = none_yet _ _ c.loop-k.invariant (sym c.stands.ensures ∙ c.if-stands.false)

pub returns : goal.returns
returns c = sym (none_of _ c.loop-k.k _ (omega arith) (omega arith) c.loop-k.invariant)
