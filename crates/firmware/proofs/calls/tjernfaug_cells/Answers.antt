-- At most 64 networks are permitted. Assumes nothing.
use Rattle.std.proofs.Common.{length, sym, ◌∙◌, arith}
use Rattle.cells.proofs.Answers.{few}
use Rattle.firmware.proofs.Counts.{low}
use Rattle.firmware.proofs.calls.tjernfaug_cells.Goals as goal

pub counted-requires : goal.counted-requires
counted-requires c = low 64 _ (omega arith) (λ count e. few c.args.r.now c.args.access c.args.heard.now (length c.args.permitted.now) count (sym c.permitted.ensures.value ∙ e))
