-- Each part by its callee's contract. Assumes nothing.
use Rattle.rules.specs.Plan.{deed_of}
use Rattle.events.specs.Parts.{table_after, done_of, carried_out}
use Rattle.events.specs.Step.{together, with_kept, joined_of}
use Rattle.events.proofs.lent.carry_out.Goals as goal

pub returns : goal.returns
unfolding joined_of together with_kept deed_of carried_out done_of table_after
returns c = record {
  hot = rw (c.counted.ensures, c.tend-roaming.ensures.value, c.tend-regional.ensures.value);
  rest = rw (c.keep.ensures, c.tended.ensures, c.tended-2.ensures, c.deed_on-first.ensures, c.deed_on-second.ensures, c.tend-roaming.ensures.list_after, c.tend-regional.ensures.list_after);
}
