-- Each part is what its call ensures. Assumes nothing.
use Rattle.firmware.specs.Notice.{notice_of}
use Rattle.firmware.proofs.Handed.{asked-same}
use Rattle.firmware.proofs.Notice.of.Goals as goal

pub returns : goal.returns
unfolding notice_of
returns c = rw (c.offset.ensures, c.from.ensures, c.from-2.ensures, c.from-3.ensures, c.from-4.ensures, c.asked_word.ensures, c.asked_word-2.ensures, c.asked_word-3.ensures, asked-same c.args.p.restart, asked-same c.args.p.leave, asked-same c.args.p.update)
