-- Each return is that of its answer: a refusal leaves the list. Assumes nothing.
use Rattle.std.proofs.Common.{sym, ◌∙◌}
use borrow.Author.Tests.{le-leb, lt-leb, eq-eqb, ne_eqb}
use Rattle.record.specs.Answers.{is_taken}
use Rattle.cells.specs.Cells.{permitted_of, choice_answer, choice_of, list_of}
use Rattle.cells.proofs.permitted.Goals as goal
use Rattle.cells.proofs.permitted.Goals.{then-access-eq0, else-access-eq0}

pub returns-then-not-may : goal.returns-then-not-may
unfolding choice_of list_of choice_answer is_taken
returns-then-not-may c =
    let fails = sym c.may.ensures ∙ c.if-not-may.true in
    record { value = rw fails; out_after = rw fails }

pub returns-then-out-heard : goal.returns-then-out-heard
unfolding choice_of list_of choice_answer is_taken
returns-then-out-heard c =
    let holds = sym c.may.ensures ∙ c.if-not-may.false in
    record { value = rw (holds, lt-leb _ _ c.if-out-heard.true); out_after = rw (holds, lt-leb _ _ c.if-out-heard.true) }

pub returns : goal.returns
unfolding choice_of list_of choice_answer permitted_of is_taken
returns c =
    let holds = sym c.may.ensures ∙ c.if-not-may.false in
    elim c.if-access-eq0.branch [
      | then-access-eq0 w ↦ record {
        value = rw (holds, le-leb _ _ c.if-out-heard.false, ← c.access_of-own.ensures, c.choose.ensures.value, eq-eqb _ _ w.if-access-eq0.true, w.e-is);
        out_after = c.choose.ensures.out_after ∙ rw (holds, le-leb _ _ c.if-out-heard.false, ← c.access_of-own.ensures, eq-eqb _ _ w.if-access-eq0.true, w.e-is);
      }
      | else-access-eq0 w ↦ record {
        value = rw (holds, le-leb _ _ c.if-out-heard.false, ← c.access_of-own.ensures, c.choose.ensures.value, ne_eqb _ _ w.if-access-eq0.false, w.e-is);
        out_after = c.choose.ensures.out_after ∙ rw (holds, le-leb _ _ c.if-out-heard.false, ← c.access_of-own.ensures, ne_eqb _ _ w.if-access-eq0.false, w.e-is);
      }
    ]
