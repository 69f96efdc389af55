-- What is whole is long enough to tell its version and its length. Assumes nothing.
use mathlib.Core.Path.{sym, ◌∙◌}
use native.Mathlib.Omega.{arith}
use borrow.Author.Tests.{eq-eqb, ne_eqb}
use Rattle.image.specs.Image.{frame_of}
use Rattle.image.proofs.Judged.{whole_long}
use Rattle.image.proofs.loading.framed.Goals as goal

pub returns-then-not-whole : goal.returns-then-not-whole
unfolding frame_of
returns-then-not-whole c = rw (sym c.whole.ensures ∙ c.if-not-whole.true)

pub read-requires : goal.read-requires
read-requires c = omega (arith, whole_long _ (sym c.whole.ensures ∙ c.if-not-whole.false))

pub returns-then-read-ne1 : goal.returns-then-read-ne1
unfolding frame_of
returns-then-read-ne1 c = rw (sym c.whole.ensures ∙ c.if-not-whole.false, ne_eqb _ 1 (λ e. c.if-read-ne1.true (c.read.ensures ∙ e)))

pub read-requires-2 : goal.read-requires-2
read-requires-2 c = omega (arith, whole_long _ (sym c.whole.ensures ∙ c.if-not-whole.false))

pub returns-then-read-ne1392 : goal.returns-then-read-ne1392
unfolding frame_of
returns-then-read-ne1392 c = rw (sym c.whole.ensures ∙ c.if-not-whole.false, eq-eqb _ 1 (sym c.read.ensures ∙ c.if-read-ne1.false), ne_eqb _ 1392 (λ e. c.if-read-ne1392.true (c.read-2.ensures ∙ e)))

pub returns : goal.returns
unfolding frame_of
returns c = rw (sym c.whole.ensures ∙ c.if-not-whole.false, eq-eqb _ 1 (sym c.read.ensures ∙ c.if-read-ne1.false), eq-eqb _ 1392 (sym c.read-2.ensures ∙ c.if-read-ne1392.false))
