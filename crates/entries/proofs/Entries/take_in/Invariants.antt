-- The loop's invariant: what is left of the file, taken into the entries as they are now, gives what the whole gives at first. Assumes nothing.
use mathlib.Core.Path.{◌≡◌}
use Rattle.std.specs.Slice.Iter.{chunks_exact_rest, chunks_exact_size}
use Rattle.networks.specs.Networks.{networks_in}
use Rattle.entries.specs.Entries.{imported_all, is_filed, file_taken}
use Rattle.entries.proofs.Entries.take_in.Given as goal

abbrev pub invariant-loop-network : goal.invariant-loop-network
invariant-loop-network l = (chunks_exact_size l.network-iterator ≡ 3)
    × (file_taken l.file l.count l.initial.self ≡ imported_all (λ m. is_filed m (networks_in l.file)) (networks_in (chunks_exact_rest l.network-iterator)) l.n l.self)
