-- The loop's invariant: the first i places have had their turn. Assumes nothing.
use mathlib.Core.Path.{◌≡◌}
use Rattle.networks.specs.Networks.{networks_in}
use Rattle.entries.specs.Places.{entries_held}
use Rattle.entries.specs.Order.{last_to}
use Rattle.entries.specs.Entries.{is_filed}
use Rattle.entries.proofs.import.settle.Given as goal

abbrev pub invariant-loop-i : goal.invariant-loop-i
invariant-loop-i l = l.ranks ≡ last_to (λ m. is_filed m (networks_in l.file)) (entries_held l.count) l.i l.nets l.initial.ranks
