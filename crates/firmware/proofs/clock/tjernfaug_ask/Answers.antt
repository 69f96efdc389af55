-- The slot and the table are what the ask ensures. Assumes nothing.
use Rattle.std.proofs.Common.{ap, ◌∙◌}
use Rattle.deadlines.specs.Asking.{place_of}
use Rattle.firmware.specs.Clock.{sought_in}
use Rattle.firmware.proofs.Counts.{placed}
use Rattle.firmware.proofs.clock.tjernfaug_ask.Goals as goal

pub returns : goal.returns
unfolding sought_in
returns c = (c.unwrap_or.ensures ∙ (placed c.ask.result ∙ ap place_of c.ask.ensures.value), c.ask.ensures.rests_after)
