-- Each way rewrites by the tests that led to it. Assumes nothing.
use Rattle.std.proofs.Common.{arith}
use Rattle.std.proofs.lemmas.Bool.Decides.{nat_tests}
use borrow.Author.Tests.{le-leb}
use Rattle.request.specs.Writing.{may_request}
use Rattle.request.proofs.writing.may.Goals.{then-attach-le65000, else-attach-le65000}
use Rattle.request.proofs.writing.may.Goals as goal

pub returns-then-access-le1 : goal.returns-then-access-le1
unfolding may_request
returns-then-access-le1 c = let h = c.if-access-le1.true in rw (le-leb _ _ h.0, le-leb _ _ h.1) c.fits.ensures

pub returns-else-access-le1 : goal.returns-else-access-le1
unfolding may_request
returns-else-access-le1 c =
    elim c.if-attach-le65000.branch [
      | then-attach-le65000 w ↦ grind (arith, nat_tests)
      | else-attach-le65000 w ↦ grind (arith, nat_tests)
    ]
