-- Two pieces are one, and no contents are no piece. Assumes nothing.
use mathlib.Core.Path.{sym, ◌∙◌}
use native.Mathlib.Omega.{arith}
use borrow.Author.Tests.{eqb-true, eqb-false}
use Rattle.laws.proofs.Splice.{join, none}
use Rattle.request.proofs.Pieces.{lead-none, lead-some, lead-long}
use Rattle.request.proofs.laying.item.Goals as goal

pub returns-then-is_empty : goal.returns-then-is_empty
returns-then-is_empty c = rw (lead-none _ _ (eqb-true _ _ (sym c.is_empty.ensures ∙ c.if-is_empty.true))) (none _ _)

pub put-from-requires : goal.put-from-requires
put-from-requires c = omega (arith, lead-long c.args.lead.now c.args.src.now (eqb-false _ _ (sym c.is_empty.ensures ∙ c.if-is_empty.false)))

pub put-requires : goal.put-requires
put-requires c = omega (arith, lead-long c.args.lead.now c.args.src.now (eqb-false _ _ (sym c.is_empty.ensures ∙ c.if-is_empty.false)))

pub returns : goal.returns
returns c = rw (lead-some _ _ (eqb-false _ _ (sym c.is_empty.ensures ∙ c.if-is_empty.false))) (join (omega arith) c.put-from.ensures c.put.ensures)
