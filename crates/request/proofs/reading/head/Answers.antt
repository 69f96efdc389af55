-- What `messages::opens` ensures, by its two results. Assumes nothing.
use Rattle.std.proofs.Common.{rules}
use Rattle.octets.specs.Element.{malformed}
use Rattle.messages.specs.Message.{ended_by}
use Rattle.messages.proofs.Readings.{opening}
use Rattle.request.specs.Reading.{head_of}
use Rattle.request.proofs.reading.head.Goals as goal

pub returns-in_err-opens : goal.returns-in_err-opens
unfolding head_of ended_by
returns-in_err-opens c = rw (opening malformed c.args.msg.now, ← c.opens.ensures, c.in_err-opens.was) (search rules)

pub returns : goal.returns
unfolding head_of ended_by
returns c = rw (opening malformed c.args.msg.now, ← c.opens.ensures, c.in_ok-opens.was) c.fixed.ensures
