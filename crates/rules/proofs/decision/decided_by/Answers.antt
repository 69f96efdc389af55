-- The test of the answer picks the plan; a taken event goes by access, which makes the same plan, an import with its own share behind. Assumes nothing.
use mathlib.Core.Path.{sym, ◌∙◌}
use Rattle.rules.specs.Plan.{decided_by}
use Rattle.rules.proofs.Sorted.{sorted, with-import, import-fits}
use Rattle.rules.proofs.decision.decided_by.Goals as goal

pub effect_of-x-requires : goal.effect_of-x-requires
effect_of-x-requires c = record { fits = c.requires.fits (sym c.taken.ensures ∙ c.if-taken.true); read = c.requires.read }

pub imported-requires : goal.imported-requires
imported-requires c i = import-fits _ _ _ i (c.requires.fits (sym c.taken.ensures ∙ c.if-taken.true))

pub returns-then-taken : goal.returns-then-taken
unfolding decided_by
returns-then-taken c = rw (
  ← c.taken.ensures,
  c.if-taken.true,
  c.taken_plan.ensures,
  c.import_effect.ensures,
  c.imported.ensures,
  c.effect_of-x.ensures,
  c.access_in-w.ensures,
  with-import _ _ _ c.args.e,
  sorted,
)

pub returns : goal.returns
unfolding decided_by
returns c = rw (← c.taken.ensures, c.if-taken.false, ← c.access_in-w.ensures) c.refused_plan.ensures
