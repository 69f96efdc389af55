-- The part in use is searched. Assumes nothing.
use Rattle.std.proofs.Common.{◌∙◌, take, arith, rules, tests}
use Rattle.std.proofs.lemmas.Iterator.{YieldsList-from_slice}
use Rattle.std.proofs.lemmas.Iterator.Search.{position_from_yields_List}
use Rattle.std.proofs.lemmas.List.{length-take-le}
use Rattle.laws.proofs.Taken.{place-taken}
use Rattle.areas.specs.Areas.{same_area, area_place, listed_in}
use Rattle.areas.proofs.seek.Goals as goal

pub returns : goal.returns
unfolding area_place listed_in
returns c =
    let xs = c.args.list.now in
    let n = c.size.result in
    position_from_yields_List (same_area c.args.area) _ _ _ c.position.ensures.ran (YieldsList-from_slice (take n xs) cc) (λ x b q k. search (rules, tests))
    ∙ rw (place-taken (same_area c.args.area) n xs (omega arith), length-take-le n xs (omega arith), c.size.ensures.value)
