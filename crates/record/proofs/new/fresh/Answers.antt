-- Limits and capabilities that pass the test fit the record; others make the smallest. Assumes nothing.
use mathlib.Core.Path.{sym, ◌∙◌}
use Rattle.record.proofs.Bounds.{sized, made, refused}
use Rattle.record.proofs.new.fresh.Goals as goal

pub make-made-requires : goal.make-made-requires
make-made-requires c = sized _ _ _ _ _ (sym c.may_make.ensures ∙ c.if-may_make.true)

pub returns-then-may_make : goal.returns-then-may_make
returns-then-may_make c = made _ _ _ _ _ _ (sym c.may_make.ensures ∙ c.if-may_make.true) c.make-made.ensures

pub returns : goal.returns
returns c = refused _ _ _ _ _ _ (sym c.may_make.ensures ∙ c.if-may_make.false) c.smallest.ensures
