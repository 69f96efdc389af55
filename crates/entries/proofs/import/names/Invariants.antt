-- The loop's invariant: the file names the network exactly if what is left of it does. Assumes nothing.
use mathlib.Core.Path.{◌≡◌}
use Rattle.std.specs.Slice.Iter.{chunks_exact_rest, chunks_exact_size}
use Rattle.networks.specs.Networks.{networks_in}
use Rattle.entries.specs.Entries.{is_filed}
use Rattle.entries.proofs.import.names.Given as goal

abbrev pub invariant-loop-network : goal.invariant-loop-network
invariant-loop-network l = (chunks_exact_size l.network-iterator ≡ 3) × (is_filed l.net (networks_in l.file) ≡ is_filed l.net (networks_in (chunks_exact_rest l.network-iterator)))
