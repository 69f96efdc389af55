-- What was framed as an image is as long as one. Assumes nothing.
use Rattle.std.proofs.Common.{sym, ◌∙◌, ap, arith, rules}
use Rattle.ranges.specs.Valid.{valid_of}
use Rattle.image.specs.Image.{load_of, load_by, opened_of}
use Rattle.image.proofs.Judged.{loaded-long}
use Rattle.image.proofs.loading.load.Goals as goal

pub returns-in_err-framed : goal.returns-in_err-framed
unfolding load_of load_by
returns-in_err-framed c = rw (sym c.framed.ensures ∙ c.in_err-framed.was) (search rules)

pub record_at-next-requires : goal.record_at-next-requires
record_at-next-requires c = loaded-long _ (sym c.framed.ensures ∙ c.in_ok-framed.was)

pub returns-then-not-fits : goal.returns-then-not-fits
unfolding load_of load_by opened_of
returns-then-not-fits c = rw (sym c.framed.ensures ∙ c.in_ok-framed.was, sym (c.fits.ensures ∙ ap valid_of c.record_at-next.ensures) ∙ c.if-not-fits.true)

pub table_at-requires : goal.table_at-requires
table_at-requires c = loaded-long _ (sym c.framed.ensures ∙ c.in_ok-framed.was)

pub read-requires : goal.read-requires
read-requires c = omega (arith, loaded-long _ (sym c.framed.ensures ∙ c.in_ok-framed.was))

pub returns : goal.returns
unfolding load_of load_by opened_of
returns c =
    rw (sym c.framed.ensures ∙ c.in_ok-framed.was, sym (c.fits.ensures ∙ ap valid_of c.record_at-next.ensures) ∙ c.if-not-fits.false, c.record_at-next.ensures, c.table_at.ensures, c.read.ensures)
