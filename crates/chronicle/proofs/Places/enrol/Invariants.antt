-- The loop's invariant: the networks of what is left, enrolled on the places there are, give what all do on the first. Assumes nothing.
use Prim.Native.Nat.{◌≤◌}
use mathlib.Core.Path.{◌≡◌}
use Rattle.std.specs.Slice.Iter.{chunks_exact_rest, chunks_exact_size}
use Rattle.history.specs.History.{names_in}
use Rattle.chronicle.specs.Sheets.{enrol_of}
use Rattle.chronicle.proofs.Places.enrol.Given as goal

abbrev pub invariant-loop-part : goal.invariant-loop-part
invariant-loop-part l = (chunks_exact_size l.part-iterator ≡ 3) × (l.self.count ≤ 16) × (enrol_of (names_in l.file) l.initial.self ≡ enrol_of (names_in (chunks_exact_rest l.part-iterator)) l.self)
