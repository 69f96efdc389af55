-- Each GUTI lies behind its F2. Assumes nothing.
use native.Mathlib.Omega.{arith}
use Rattle.request.proofs.Pieces.{f2-long, paired}
use borrow.Author.Rules.{rules}
use Rattle.request.proofs.writing.gutis.Goals as goal

pub item-from-requires : goal.item-from-requires
item-from-requires c = omega (arith, f2-long c.args.guti0 (search rules))

pub item-requires : goal.item-requires
item-requires c = omega (arith, f2-long c.args.guti0 (search rules), f2-long c.args.guti1 (search rules))

pub returns : goal.returns
returns c = paired _ _ _ _ _ _ (search rules) (search rules) c.item-from.ensures c.item.ensures
