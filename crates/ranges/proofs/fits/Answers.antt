-- The ranges hold before the columns are read to the counts. Assumes nothing.
use mathlib.Core.Path.{sym, ◌∙◌}
use Rattle.ranges.proofs.Bounds.{bounded}
use Rattle.ranges.proofs.fits.Goals as goal

pub rules_hold-requires : goal.rules_hold-requires
rules_hold-requires c = bounded _ (sym c.in_ranges.ensures ∙ c.if-in_ranges.true)
