-- `messages::read_cause` meets its contract: what `opens` and `opened` ensure, by their two results. Assumes nothing.
use Rattle.std.proofs.Common.{rules}
use Rattle.messages.specs.Message.{cause_reading, reject_alone, ended_by}
use Rattle.messages.proofs.Readings.{opening, alone}
use Rattle.messages.proofs.read_cause.Goals as goal

pub returns-in_err-opens : goal.returns-in_err-opens
unfolding cause_reading ended_by
returns-in_err-opens c = rw (opening, ← c.opens.ensures, c.in_err-opens.was) (search rules)

pub returns-in_err-opened : goal.returns-in_err-opened
unfolding cause_reading reject_alone ended_by
returns-in_err-opened c = rw (opening, ← c.opens.ensures, c.in_ok-opens.was, alone, ← c.opened.ensures, c.in_err-opened.was) (search rules)

pub returns : goal.returns
unfolding cause_reading reject_alone ended_by
returns c = rw (opening, ← c.opens.ensures, c.in_ok-opens.was, alone, ← c.opened.ensures, c.in_ok-opened.was) (search rules)
