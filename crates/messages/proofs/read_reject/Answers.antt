-- `messages::read_reject` meets its contract: what is gathered is the end of the elements and the first 5F. Assumes nothing.
use Rattle.std.proofs.Common.{rules}
use borrow.Author.Tests.{lt-ltb, le-ltb}
use mathlib.Core.Path.{ap}
use Rattle.octets.specs.Element.{gather_of}
use Rattle.octets.specs.declared.Gathered.{Gathered}
use Rattle.messages.specs.Message.{rejected_of, reject_reading, ended_by}
use Rattle.messages.proofs.read_reject.Goals as goal

pub returns-then-msg-le3 : goal.returns-then-msg-le3
unfolding reject_reading
returns-then-msg-le3 c = rw (le-ltb _ _ c.if-msg-le3.true) c.malformed.ensures

pub returns-in_err-g : goal.returns-in_err-g
unfolding reject_reading rejected_of ended_by gather_of
returns-in_err-g c = rw (lt-ltb _ _ c.if-msg-le3.false, ← ap (λ (g : Gathered). g.end) c.gather-g.ensures, c.in_err-g.was) (search rules)

pub returns : goal.returns
unfolding reject_reading rejected_of ended_by gather_of
returns c = rw (lt-ltb _ _ c.if-msg-le3.false, ← ap (λ (g : Gathered). g.end) c.gather-g.ensures, c.in_ok-g.was, c.rejected.ensures _ c.gather-g.ensures)
