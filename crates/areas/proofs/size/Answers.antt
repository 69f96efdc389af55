-- The two ways of the test are the two of the definition.
use borrow.Author.Rules.{rules}
use borrow.Author.Tests.{lt-ltb, le-ltb}
use Rattle.areas.specs.Areas.{areas_held}
use Rattle.areas.proofs.size.Goals as goal

pub returns-then-count-lt40 : goal.returns-then-count-lt40
unfolding areas_held
returns-then-count-lt40 c = record { value = simp (lt-ltb _ _ c.if-count-lt40.true); upper_bound = search rules }

pub returns-else-count-lt40 : goal.returns-else-count-lt40
unfolding areas_held
returns-else-count-lt40 c = record { value = simp (le-ltb _ _ c.if-count-lt40.false); upper_bound = search rules }
