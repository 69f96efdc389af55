-- The loop's invariant: those held, those new so far and the new ones of what is left are as many as those held and all new ones. Assumes nothing.
use Prim.Native.Nat.{◌≤◌}
use mathlib.Core.Path.{◌≡◌}
use Rattle.std.specs.Slice.Iter.{chunks_exact_rest, chunks_exact_size}
use Rattle.entries.proofs.Counting.{Counting}
use Rattle.entries.proofs.Entries.held_with.Given as goal

abbrev pub invariant-loop-network : goal.invariant-loop-network
invariant-loop-network l = (chunks_exact_size l.network-iterator ≡ 3) × (l.n ≤ 16) × Counting l.count l.file l.self.nets l.n l.new l.k (chunks_exact_rest l.network-iterator)
