use Rattle.std.proofs.Common.{◌≡◌, [], take, eqb, arith, rules, ◌∙◌}
use mathlib.Core.Bool.{not}
use Rattle.std.specs.List.{count_by}
use Rattle.usim.proofs.Steps.{count-marked, marked-most}
use Rattle.usim.proofs.marked.Goals as goal

pub returns : goal.returns
returns c =
    let counted : c.count.result ≡ count_by (λ x. not (eqb x 0)) (take c.args.n c.args.forbidden.now) = search rules in
    let e = counted ∙ count-marked c.args.forbidden.now c.args.n (omega arith) in
    record { value = e; upper_bound = omega (arith, marked-most [] c.args.forbidden.now c.args.n) }
