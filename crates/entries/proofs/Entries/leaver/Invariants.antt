-- The loop's invariant: the place is the one among the first i. Assumes nothing.
use mathlib.Core.Path.{◌≡◌}
use Rattle.entries.specs.Order.{leaver_to}
use Rattle.entries.proofs.Entries.leaver.Given as goal

abbrev pub invariant-loop-i : goal.invariant-loop-i
invariant-loop-i l = l.at ≡ leaver_to l.i l.self.forbidden l.self.barred l.self.ranks
