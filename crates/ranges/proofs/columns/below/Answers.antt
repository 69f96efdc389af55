-- The part that is read is tested, element by element. Assumes nothing.
use Rattle.std.proofs.Common.{◌∙◌, take, arith, rules, tests}
use Rattle.std.proofs.lemmas.Iterator.{YieldsList-from_slice}
use Rattle.std.proofs.lemmas.Iterator.Search.{all_from_yields_List}
use Rattle.laws.proofs.Taken.{all-taken}
use Rattle.ranges.specs.Valid.{is_below}
use Rattle.ranges.proofs.columns.below.Goals as goal

pub returns : goal.returns
returns c =
    all_from_yields_List (is_below c.args.count) _ _ _ c.all.ensures.ran (YieldsList-from_slice (take c.args.count c.args.xs.now) cc) (λ x b q k. search (rules, tests))
    ∙ all-taken (is_below c.args.count) _ _ (omega arith)
