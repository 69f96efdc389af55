-- The five facts hold, or the first that doesn't.
use Rattle.std.proofs.Common.{arith}
use Rattle.std.proofs.lemmas.Bool.Decides.{nat_tests}
use Rattle.identity.specs.Identity.{is_from_s1}
use Rattle.identity.proofs.mapping.from_s1.Goals.{then-regtype-eq1, else-regtype-eq1, then-s-ne0, else-s-ne0, then-s-ne0-2, else-s-ne0-2}
use Rattle.identity.proofs.mapping.from_s1.Goals as goal

pub returns-then-s-ne0-3 : goal.returns-then-s-ne0-3
unfolding is_from_s1
returns-then-s-ne0-3 c = let h = c.if-s-ne0-3.true in grind (arith, nat_tests)

pub returns-else-s-ne0-3 : goal.returns-else-s-ne0-3
unfolding is_from_s1
returns-else-s-ne0-3 c =
    elim c.if-s-ne0-2.branch [
      | then-s-ne0-2 w ↦ let h = w.if-s-ne0-2.true in let i = w.t-4-is in grind (arith, nat_tests)
      | else-s-ne0-2 w ↦
          elim c.if-s-ne0.branch [
            | then-s-ne0 v ↦ grind (arith, nat_tests)
            | else-s-ne0 v ↦
                elim c.if-regtype-eq1.branch [
                  | then-regtype-eq1 u ↦ grind (arith, nat_tests)
                  | else-regtype-eq1 u ↦ grind (arith, nat_tests)
                ]
          ]
    ]
