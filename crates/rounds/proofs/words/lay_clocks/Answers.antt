-- Four times two numbers. Assumes nothing.
use Rattle.std.proofs.Common.{◌∙◌}
use Rattle.rounds.specs.Words.{laid}
use Rattle.rounds.proofs.Laying.{clocks-laid}
use Rattle.rounds.proofs.words.lay_clocks.Goals as goal

pub returns : goal.returns
returns c = clocks-laid _ _ _ _ _ _ _ (c.lay.ensures ∙ rw c.timer_words.ensures) (c.lay-2.ensures ∙ rw c.timer_words-2.ensures) (c.lay-3.ensures ∙ rw c.timer_words-3.ensures) (c.lay-4.ensures ∙ rw c.timer_words-4.ensures)
