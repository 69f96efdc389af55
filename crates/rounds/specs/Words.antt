-- What a round hands out: for each timer that ran out its slot and the event's reply, as the 28 numbers of 32 bits that C's struct has. Assumes nothing.
use Rattle.std.specs.Prelude.{ℕ, suc, ◌+◌, Option, Some, None, List, [], ◌∷◌, ◌++◌, set}
use Rattle.turns.specs.declared.Told.{Told}
use Rattle.turns.specs.declared.Told.TheVariants.{Left, Stopped, Started}
use Rattle.turns.specs.declared.Clocks.{Clocks}
use Rattle.rules.specs.declared.Reply.{Reply}

-- a timer that ran out, by its slot, and what was told of it
pub record Ran : Type 0 where
  pub at : ℕ
  pub reply : Reply

-- "whether it was left, stopped (only if running) or started, with how many seconds"
unfoldable pub told_number : Told → ℕ
told_number Left = 0
told_number Stopped = 1
told_number (Started seconds) = 2

unfoldable pub told_seconds : Told → ℕ
told_seconds Left = 0
told_seconds Stopped = 0
told_seconds (Started seconds) = seconds

abbrev pub timer_words : Told → List ℕ
timer_words t = told_number t ∷ told_seconds t ∷ []

unfoldable pub clocks_words : Clocks → List ℕ
clocks_words c = timer_words c.t3510 ++ timer_words c.t3511 ++ timer_words c.t3502 ++ timer_words c.t3346

-- a request: none, or 1 plus the access
unfoldable pub asked_word : Option ℕ → ℕ
asked_word None = 0
asked_word (Some access) = 1 + access

unfoldable pub request_words : Reply → List ℕ
request_words p = asked_word p.restart ∷ asked_word p.leave ∷ asked_word p.update ∷ []

-- behind the slot stands a number that fills the struct; the offset, two of them, is 0, since a timer that ran out is no message; at the end stands that the
-- record changed (proofs/Changed)
unfoldable pub ran_words : Ran → List ℕ
ran_words x =
    (x.at ∷ 0 ∷ 0 ∷ 0 ∷ [])
    ++ clocks_words x.reply.c0
    ++ clocks_words x.reply.c1
    ++ timer_words x.reply.t3247
    ++ timer_words x.reply.t3512
    ++ request_words x.reply
    ++ (1 ∷ [])

unfoldable pub round_words : List Ran → List ℕ
round_words [] = []
round_words (x ∷ xs) = ran_words x ++ round_words xs

-- numbers written from a place on; behind the end nothing is stored
unfoldable pub laid : ℕ → List ℕ → List ℕ → List ℕ
laid at [] out = out
laid at (w ∷ ws) out = laid (suc at) ws (set out at w)
