use Prim.Native.Nat.{ℕ, ◌≤◌}
use native.Mathlib.Omega.{arith}
use lib.ListN.{length, replicate}
use Rattle.std.proofs.lemmas.List.{length-replicate}
use Rattle.laws.proofs.Lists.{copied_over}
use Rattle.record.proofs.new.padded.Goals as goal

pub returns : goal.returns
returns g c =
    let room : length c.args.s.now ≤ length (replicate {A = ℕ} g.row.N 0) = omega (arith, length-replicate {A = ℕ} g.row.N 0) in
    rw c.copy_from_slice.ensures.after (copied_over c.args.s.now (replicate g.row.N 0) room)
