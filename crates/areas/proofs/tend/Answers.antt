-- Each task is a clause of the definition, and its function has what that clause says. Assumes nothing.
use Rattle.areas.specs.Areas.{list_after, count_after}
use Rattle.areas.proofs.tend.Goals as goal

pub returns-in-Nothing : goal.returns-in-Nothing
unfolding list_after count_after
returns-in-Nothing c =
    let e = c.in-Nothing.is in
    record { list_after = rw e; value = rw e }

pub returns-in-Put : goal.returns-in-Put
unfolding list_after count_after
returns-in-Put c =
    let e = c.in-Put.is in
    let a = c.area.ensures.value in
    record { list_after = rw (e, ← a) c.put.ensures.list_after; value = rw (e, ← a) c.put.ensures.value }

pub returns-in-Sweep : goal.returns-in-Sweep
unfolding list_after count_after
returns-in-Sweep c =
    let e = c.in-Sweep.is in
    record { list_after = rw e c.sweep.ensures.list_after; value = rw e c.sweep.ensures.value }

pub returns-in-Clear : goal.returns-in-Clear
unfolding list_after count_after
returns-in-Clear c =
    let e = c.in-Clear.is in
    record { list_after = rw e; value = rw e }
