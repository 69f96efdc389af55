use Rattle.request.specs.Layout.{opening_head, length_in}
use borrow.Author.Rules.{rules}
use Rattle.request.proofs.laying.head.Goals as goal

pub returns : goal.returns
unfolding opening_head length_in
returns c = search rules
