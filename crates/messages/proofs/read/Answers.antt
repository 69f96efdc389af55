-- `messages::read` meets its contract: what `opens` ensures, by its two results. Assumes nothing.
use Rattle.std.proofs.Common.{rules}
use Rattle.messages.specs.Message.{reading_of, ended_by}
use Rattle.messages.proofs.Readings.{opening}
use Rattle.messages.proofs.read.Goals as goal

pub returns-in_err-opens : goal.returns-in_err-opens
unfolding reading_of ended_by
returns-in_err-opens c = rw (opening, ← c.opens.ensures, c.in_err-opens.was) (search rules)

pub returns : goal.returns
unfolding reading_of ended_by
returns c = rw (opening, ← c.opens.ensures, c.in_ok-opens.was) (search rules)
