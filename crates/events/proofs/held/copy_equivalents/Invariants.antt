-- The first i networks are copied; at the end all are.
use mathlib.Core.Path.{◌≡◌}
use Rattle.laws.specs.Upto.{upto, first}
use Rattle.events.specs.Parts.{networks_of}
use Rattle.events.proofs.held.copy_equivalents.Given as goal

abbrev pub invariant-loop-i : goal.invariant-loop-i
invariant-loop-i l = l.equivalents ≡ upto first l.i (networks_of l.n l.src) l.initial.equivalents
