-- At most 193 octets are written. Assumes nothing.
use Rattle.std.proofs.Common.{length, sym, ◌∙◌, arith}
use Rattle.firmware.proofs.Length.{short}
use Rattle.firmware.proofs.Counts.{low}
use Rattle.firmware.proofs.calls.tjernfaug_request.Goals as goal

pub counted-requires : goal.counted-requires
counted-requires c =
    let k = rw c.no_s1.ensures at c.write.ensures.value in
    low 193 _ (omega arith) (λ count e. short c.args.r.now c.args.access (length c.args.buffer.now) count (sym k ∙ e))
