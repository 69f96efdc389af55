use Rattle.std.proofs.Common.{eqb, sym, ◌∙◌, get_or, arith, rules}
use Rattle.cells.specs.Cells.{permitted_to, permitted_by}
use Rattle.cells.proofs.Steps.{any-some, was-heard, is-marked, is-new, left_out_lem, taken_in, all_read}
use Rattle.cells.proofs.choose.Goals as goal
use Rattle.cells.proofs.choose.Goals.{then-contains-via-then-contains, then-contains-via-else-contains+then-marked}

pub loop-i-init : goal.loop-i-init
unfolding permitted_to
loop-i-init c = search rules

pub loop-i-preserved-then-contains : goal.loop-i-preserved-then-contains
loop-i-preserved-then-contains c =
    left_out_lem _ _ _ _ _ _ _ _ _ c.loop-i.invariant c.loop-i-test.true (elim c.then-contains.branch [
      | then-contains-via-then-contains w ↦ was-heard _ _ _ _ _ _ (sym (c.contains.ensures.value ∙ any-some (λ x. eqb x (get_or c.args.heard.now c.loop-i.i 0)) c.args.heard.now c.loop-i.i (omega arith)) ∙ w.if-contains.true)
      | then-contains-via-else-contains+then-marked w ↦ is-marked _ _ _ _ _ _ (rw c.size-held.ensures.value at (sym w.marked.ensures ∙ w.if-marked.true))
    ])

pub loop-i-preserved : goal.loop-i-preserved
loop-i-preserved c =
    taken_in _ _ _ _ _ _ _ _ _ c.loop-i.invariant c.loop-i-test.true c.requires
    (is-new _ _ _ _ _ _ (sym (c.contains.ensures.value ∙ any-some (λ x. eqb x (get_or c.args.heard.now c.loop-i.i 0)) c.args.heard.now c.loop-i.i (omega arith)) ∙ c.if-contains.false) (rw c.size-held.ensures.value at (sym c.marked.ensures ∙ c.if-marked.false)))

pub returns : goal.returns
unfolding permitted_by
returns c =
    let p = all_read _ _ _ _ _ _ _ _ _ c.loop-i.invariant c.loop-i-test.false in
    record { value = p.0; out_after = p.1 }
