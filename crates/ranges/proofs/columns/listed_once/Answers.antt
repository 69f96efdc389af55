use mathlib.Core.Bool.{not}
use Rattle.std.proofs.Common.{◌≡◌, sym, ap, ◌∙◌, take, get_or, arith, rules, tests}
use Rattle.std.proofs.lemmas.Iterator.{YieldsList-from_slice}
use Rattle.std.proofs.lemmas.Iterator.Search.{any_from_yields_List}
use Rattle.std.specs.List.{list_any}
use Rattle.laws.specs.Upto.{same_by}
use Rattle.laws.proofs.Taken.{none-taken}
use Rattle.laws.proofs.Tests.{distinct_none, distinct_more, distinct-ends, distinct-over}
use Rattle.ranges.specs.Valid.{halved}
use Rattle.ranges.proofs.columns.listed_once.Goals as goal

pub loop-i-init : goal.loop-i-init
loop-i-init c = distinct_none halved _

pub returns-then-any : goal.returns-then-any
returns-then-any c =
    let xs = c.args.xs.now in
    let same = same_by halved (get_or xs c.loop-i.i 0) in
    let found : c.any.result ≡ list_any same (take c.loop-i.i xs) = any_from_yields_List same _ _ _ c.any.ensures.ran (YieldsList-from_slice (take c.loop-i.i xs) cc) (λ x b q k. search (rules, tests)) in
    distinct-ends halved xs c.args.count c.loop-i.i c.loop-i.invariant
    (sym (none-taken same c.loop-i.i xs (omega arith)) ∙ ap not (sym found ∙ c.if-any.true)) (omega arith)

pub loop-i-preserved : goal.loop-i-preserved
loop-i-preserved c =
    let xs = c.args.xs.now in
    let same = same_by halved (get_or xs c.loop-i.i 0) in
    let found : c.any.result ≡ list_any same (take c.loop-i.i xs) = any_from_yields_List same _ _ _ c.any.ensures.ran (YieldsList-from_slice (take c.loop-i.i xs) cc) (λ x b q k. search (rules, tests)) in
    distinct_more halved xs c.loop-i.i c.loop-i.invariant
    (sym (none-taken same c.loop-i.i xs (omega arith)) ∙ ap not (sym found ∙ c.if-any.false))

pub returns : goal.returns
returns c = distinct-over halved c.args.xs.now c.args.count c.loop-i.i c.loop-i.invariant (omega arith) (omega arith)
