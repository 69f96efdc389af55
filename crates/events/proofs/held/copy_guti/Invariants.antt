-- The first i octets are copied; at the end all are.
use mathlib.Core.Path.{◌≡◌}
use Rattle.laws.specs.Upto.{upto, first}
use Rattle.events.proofs.held.copy_guti.Given as goal

abbrev pub invariant-loop-i : goal.invariant-loop-i
invariant-loop-i l = l.guti ≡ upto first l.i l.src l.initial.guti
