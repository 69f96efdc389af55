-- The plan by the marks is the plan by all that is seen. Assumes nothing.
use mathlib.Core.Path.{◌∙◌}
use Rattle.events.specs.Parts.{planned_of}
use Rattle.events.proofs.Calm.{by-marks}
use Rattle.events.proofs.lent.numbers.Goals as goal

pub returns : goal.returns
unfolding planned_of
returns c i octets = rw (← c.ask_of.ensures, ← c.site_of.ensures, ← c.listing-listed.ensures)
    (c.numbers_plan.ensures ∙ by-marks _ _ _ _ _ octets i (c.marks-s.ensures octets))
