-- What the round ensures is told by its count, or by its refusal's number. Assumes nothing.
use Rattle.std.proofs.Common.{ap, ◌∙◌}
use Rattle.firmware.specs.Calls.{number_in}
use Rattle.firmware.specs.Clock.{passed_by, passed_of}
use Rattle.firmware.proofs.Counts.{counts}
use Rattle.firmware.proofs.clock.tjernfaug_round.Goals as goal

pub returns : goal.returns
unfolding passed_of passed_by
returns c = (c.counted.ensures ∙ (ap number_in c.run.ensures.value ∙ counts _), (c.run.ensures.next, (c.run.ensures.table_after, c.run.ensures.list_after)))
