-- At most 16 networks are forbidden. Assumes nothing.
use Rattle.std.proofs.Common.{length, sym, ◌∙◌, arith}
use Rattle.usim.proofs.Answers.{few}
use Rattle.firmware.proofs.Counts.{low}
use Rattle.firmware.proofs.calls.tjernfaug_forbidden.Goals as goal

pub counted-requires : goal.counted-requires
counted-requires c = low 16 _ (omega arith) (λ count e. few c.args.r.now (length c.args.file.now) count (sym c.write.ensures.value ∙ e))
