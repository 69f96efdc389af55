-- Part after part. Assumes nothing.
use Rattle.std.proofs.Common.{◌∙◌}
use Rattle.rounds.specs.Words.{request_words}
use Rattle.rounds.proofs.Laying.{ran-laid}
use Rattle.rounds.proofs.words.lay_ran.Goals as goal

pub returns : goal.returns
unfolding request_words
returns c = ran-laid _ _ _ _ _ _ _ _ _ _ _ c.lay.ensures c.lay_clocks.ensures c.lay_clocks-2.ensures (c.lay-2.ensures ∙ rw c.timer_words.ensures) (c.lay-3.ensures ∙ rw c.timer_words-2.ensures) (c.lay-4.ensures ∙ rw (c.asked_word.ensures, c.asked_word-2.ensures, c.asked_word-3.ensures)) c.lay-5.ensures
