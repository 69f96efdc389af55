-- The log's reading of the event, the step, and the reply in numbers are what the calls ensure. Assumes nothing.
use Rattle.std.proofs.Common.{◌∙◌}
use Rattle.firmware.specs.Calls.{heard_by, heard_as}
use Rattle.firmware.proofs.Counts.{changes}
use Rattle.firmware.proofs.calls.tjernfaug_event.Goals as goal

pub returns : goal.returns
unfolding heard_as heard_by
returns c =
    let k = rw (c.event.ensures, c.octets.ensures) at c.handle-reply.ensures in
    (c.from.ensures ∙ rw (c.number.ensures, k.0), (k.1, c.of.ensures ∙ rw (c.from-changed.ensures, c.same.ensures, k.0, k.1, changes)))
