-- The tests are those of an image that is whole, in their order. Assumes nothing.
use Rattle.std.proofs.Common.{◌∙◌}
use Rattle.image.proofs.Judged.{whole-short, whole-unmarked, whole-small, whole-cut, whole-rest}
use Rattle.image.proofs.loading.whole.Goals as goal

pub returns-then-s-lt12 : goal.returns-then-s-lt12
returns-then-s-lt12 c = whole-short _ c.if-s-lt12.true

pub returns-then-read-ne1179798100 : goal.returns-then-read-ne1179798100
returns-then-read-ne1179798100 c = whole-unmarked _ _ c.read.ensures c.if-read-ne1179798100.true

pub returns-then-n-lt12 : goal.returns-then-n-lt12
returns-then-n-lt12 c = whole-small _ _ (c.from-n.ensures ∙ c.read-2.ensures) c.if-n-lt12.true

pub returns-then-s-n : goal.returns-then-s-n
returns-then-s-n c = whole-cut _ _ (c.from-n.ensures ∙ c.read-2.ensures) c.if-s-n.true

pub returns : goal.returns
returns c = whole-rest _ _ _ _ c.read.ensures (c.from-n.ensures ∙ c.read-2.ensures) c.if-s-lt12.false c.if-read-ne1179798100.false c.if-n-lt12.false c.if-s-n.false c.sum_holds.ensures
