-- `messages::opens` meets its contract: what `opened` ensures of each octet. Assumes nothing.
use Rattle.std.proofs.Common.{rules}
use Rattle.octets.specs.Element.{malformed}
use Rattle.messages.specs.Message.{opening_of, ended_by}
use Rattle.messages.proofs.Readings.{alone}
use Rattle.messages.proofs.opens.Goals as goal

pub returns-in_err-opened : goal.returns-in_err-opened
unfolding opening_of ended_by
returns-in_err-opened c = rw (alone malformed c.args.msg.now 0, ← c.opened.ensures, c.in_err-opened.was) (search rules)

pub returns : goal.returns
unfolding opening_of ended_by
returns c = rw (alone malformed c.args.msg.now 0, ← c.opened.ensures, c.in_ok-opened.was) (search rules)
