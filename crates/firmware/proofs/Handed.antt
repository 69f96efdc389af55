-- What a round hands out is, number by number, C's struct: the slot, what fills the struct, and the notice of a timer's event, which was taken. Assumes nothing.
use mathlib.Core.Path.{◌≡◌, refl}
use mathlib.Core.List.{◌∷◌}
use Rattle.record.specs.declared.Answer.TheVariants.{Taken}
use Rattle.record.specs.Answers.{fault_offset}
use Rattle.turns.specs.declared.Told.{Told}
use Rattle.turns.specs.declared.Told.TheVariants.{Left, Stopped, Started}
use Rattle.turns.specs.declared.Clocks.{Clocks}
use Rattle.std.proofs.Common.{ℕ, Option, Some, None}
use Rattle.rounds.specs.Words.{Ran, told_number, told_seconds, clocks_words, asked_word, request_words, ran_words}
use Rattle.rounds.specs.Words as rounds
use Rattle.firmware.specs.Notice.{timer_notice, timers_of, asked_number, notice_of}
use Rattle.firmware.specs.Clock.{timer_words, timers_words, notice_words}

timer-same : (t : Told) → timer_words (timer_notice t) ≡ rounds.timer_words t
unfolding timer_words timer_notice told_number told_seconds
timer-same Left = refl
timer-same Stopped = refl
timer-same (Started seconds) = refl

timers-same : (c : Clocks) → timers_words (timers_of c) ≡ clocks_words c
unfolding timers_words timers_of clocks_words
timers-same c = rw (timer-same c.t3510, timer-same c.t3511, timer-same c.t3502, timer-same c.t3346)

pub asked-same : (a : Option ℕ) → asked_number a ≡ asked_word a
unfolding asked_number asked_word
asked-same None = refl
asked-same (Some access) = refl

-- of every event that a round hands out (rounds/proofs/Handed: ran-taken), which changed the record (rounds/proofs/Changed: ran-changes)
pub ran-notice : (x : Ran) → x.reply.answer ≡ Taken → ran_words x ≡ x.at ∷ 0 ∷ notice_words (notice_of 1 x.reply)
unfolding ran_words request_words notice_words notice_of fault_offset
ran-notice x e = rw (e, timers-same x.reply.c0, timers-same x.reply.c1, timer-same x.reply.t3247, timer-same x.reply.t3512, asked-same x.reply.restart, asked-same x.reply.leave, asked-same x.reply.update)
