-- By the cases of a refusal: each offset has room to be moved, by what is required. Assumes nothing.
use native.Mathlib.Omega.{arith}
use Rattle.request.specs.Levels.{shifted}
use Rattle.request.specs.Reader.{Below}
use Rattle.request.proofs.reading.unread_at.Goals as goal

pub overflow_add-result : goal.overflow_add-result
unfolding Below
overflow_add-result c = let below = rw c.in-Malformed.is at c.requires in
    omega (arith, below, c.ranges.by)

pub overflow_add-result-in-Deep : goal.overflow_add-result-in-Deep
unfolding Below
overflow_add-result-in-Deep c = let below = rw c.in-Deep.is at c.requires in
    omega (arith, below, c.ranges.by)

pub returns-in-Malformed : goal.returns-in-Malformed
unfolding shifted
returns-in-Malformed c = rw c.in-Malformed.is

pub returns-in-Deep : goal.returns-in-Deep
unfolding shifted
returns-in-Deep c = rw c.in-Deep.is

pub returns-in-Unfit : goal.returns-in-Unfit
unfolding shifted
returns-in-Unfit c = rw c.in-Unfit.is
