-- The part stands where it was stored. Assumes nothing.
use Rattle.std.proofs.Common.{arith}
use Rattle.rounds.proofs.Laying.{part-laid}
use Rattle.rounds.proofs.words.lay.Goals as goal

pub returns : goal.returns
returns c = part-laid _ _ _ _ _ c.copy_from_slice.ensures.after (omega arith) c.requires
