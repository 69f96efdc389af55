-- Each answer by its test. Assumes nothing.
use mathlib.Core.Path.{sym, ◌∙◌}
use lib.ListN.{length}
use borrow.Author.Tests.{le-leb, lt-leb}
use Rattle.record.specs.Answers.{is_taken}
use Rattle.image.specs.Layout.{image_length}
use Rattle.image.specs.Image.{save_answer, saved_over}
use Rattle.image.proofs.saving.save.Goals as goal

pub returns-then-not-fits : goal.returns-then-not-fits
unfolding save_answer saved_over is_taken
returns-then-not-fits c =
    let v = sym c.fits.ensures ∙ c.if-not-fits.true in
    (rw v, rw v)

pub returns-then-buffer-lt1392 : goal.returns-then-buffer-lt1392
unfolding save_answer saved_over is_taken
returns-then-buffer-lt1392 c =
    let v = sym c.fits.ensures ∙ c.if-not-fits.false in
    let n = lt-leb image_length (length c.args.buffer.now) c.if-buffer-lt1392.true in
    (rw (v, n), rw (v, n))

pub returns : goal.returns
unfolding save_answer saved_over is_taken
returns c =
    let v = sym c.fits.ensures ∙ c.if-not-fits.false in
    let n = le-leb image_length (length c.args.buffer.now) c.if-buffer-lt1392.false in
    (rw (v, n), rw (v, n) c.lay_image.ensures)
