-- Each way is one of the three laws, by what the search found.
use mathlib.Core.Path.{sym, ◌∙◌}
use native.Mathlib.Omega.{arith}
use Rattle.areas.proofs.Ways.{inside, put-over, put-stays, put_behind, put_full, same_count, more_count, full_count}
use Rattle.areas.proofs.put.Goals as goal

pub offset_bounds-list-at : goal.offset_bounds-list-at
offset_bounds-list-at c = let h = inside _ _ _ c.in-Some.at (sym c.in-Some.is ∙ c.seek.ensures) in omega arith

pub bounds-list-at : goal.bounds-list-at
bounds-list-at c = inside _ _ _ c.in-Some.at (sym c.in-Some.is ∙ c.seek.ensures)

pub returns-then-protected-ne0 : goal.returns-then-protected-ne0
returns-then-protected-ne0 c =
    let s = sym c.in-Some.is ∙ c.seek.ensures in
    record { list_after = put-over _ _ _ _ _ c.mark-x.ensures _ s c.if-protected-ne0.true; value = same_count _ _ _ _ s }

pub returns-else-protected-ne0 : goal.returns-else-protected-ne0
returns-else-protected-ne0 c =
    let s = sym c.in-Some.is ∙ c.seek.ensures in
    record { list_after = put-stays _ _ _ _ _ s c.if-protected-ne0.false; value = same_count _ _ _ _ s }

pub returns-then-count-lt40 : goal.returns-then-count-lt40
returns-then-count-lt40 c =
    let s = sym c.in_default.is ∙ c.seek.ensures in
    record { list_after = put_behind _ _ _ _ _ c.mark-x.ensures s c.if-count-lt40.true; value = more_count _ _ _ s c.if-count-lt40.true }

pub returns : goal.returns
returns c =
    let s = sym c.in_default.is ∙ c.seek.ensures in
    record { list_after = c.push.ensures ∙ put_full _ _ _ _ _ c.mark-x.ensures s c.if-count-lt40.false; value = full_count _ _ _ s c.if-count-lt40.false }
