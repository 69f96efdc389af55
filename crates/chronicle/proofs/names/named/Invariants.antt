-- `chronicle::names::named` meets its contract. The loop's invariant: the file names the network exactly if what is left of it does. Assumes nothing.
use mathlib.Core.Path.{◌≡◌}
use Rattle.std.specs.Slice.Iter.{chunks_exact_rest, chunks_exact_size}
use Rattle.networks.specs.Networks.{networks_in}
use Rattle.entries.specs.Entries.{is_filed}
use Rattle.chronicle.proofs.names.named.Given as goal

abbrev pub invariant-loop-part : goal.invariant-loop-part
invariant-loop-part l = (chunks_exact_size l.part-iterator ≡ 3) × (is_filed l.net (networks_in l.file) ≡ is_filed l.net (networks_in (chunks_exact_rest l.part-iterator)))
