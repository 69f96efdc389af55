use Rattle.std.proofs.Common.{rules}
use borrow.Author.Tests.{tests}
use Rattle.record.specs.Tests.{is_short}
use Rattle.cells.proofs.Steps.{all-is}
use Rattle.cells.proofs.short.Goals as goal

pub returns : goal.returns
returns c = all-is is_short c.args.heard.now _ (search (rules, tests)) (search (rules, tests))
