-- "An asking round asks and runs the due timer until none is left" (document 02, R-13). Assumes nothing.
use Rattle.std.specs.Prelude.{ℕ, zero, suc, cond, Option, Some, None, Result, Ok, Err, List, [], ◌∷◌, ltb, length, get_or}
use Rattle.record.specs.Answers.{is_taken}
use Rattle.record.specs.declared.Record.{Record}
use Rattle.record.specs.declared.Answer.{Answer}
use Rattle.record.specs.declared.Answer.TheVariants as answer
use Rattle.turns.specs.declared.Told.{Told}
use Rattle.rules.specs.declared.Event.{Event}
use Rattle.rules.specs.declared.Event.TheVariants as event
use Rattle.rules.specs.declared.Reply.{Reply}
use Rattle.checks.specs.Answers.{check}
use Rattle.ranges.specs.Valid.{valid_of}
use Rattle.events.specs.declared.Outcome.{Outcome}
use Rattle.events.specs.Step.{advance_of}
use Rattle.deadlines.specs.declared.Table.{Table}
use Rattle.deadlines.specs.Asking.{asked, after_ask}
use Rattle.deadlines.specs.Arming.{numbers, accesses, tolds_of, armed, fits_to}
use Rattle.rounds.specs.declared.Rounded.{Rounded}
use Rattle.rounds.specs.Words.{Ran, round_words, laid}

-- what a reply tells of the ten timers, in the order of the slots
abbrev pub tolds_in : Reply → List Told
tolds_in p = tolds_of p.c0 p.c1 p.t3512 p.t3247

-- "runs the due timer": the timer of a slot is out, an event of the record
unfoldable pub timer_out : ℕ → Event
timer_out at = event.Timer (get_or numbers at 0) (get_or accesses at 0)

unfoldable pub out_of : Record → ℕ → Outcome
out_of r at = advance_of r (timer_out at) []

-- what a round leaves, and the timers that ran out in it, in their order
pub record Round : Type 0 where
  pub next : Record
  pub table : Table
  pub ran : List Ran

abbrev pub over : Record → Table → Round
over r t = record { next = r; table = t; ran = [] }

unfoldable pub behind : Ran → Round → Round
behind x g = record { next = g.next; table = g.table; ran = x ∷ g.ran }

-- none is left; or the one that is due runs out, its reply arms the table at the round's time, and the round goes on
unfoldable pub round_by : (Record → Table → Round) → ℕ → Option ℕ → Record → Table → Round
round_by on now None r t = over r t
round_by on now (Some at) r t = behind (record { at = at; reply = (out_of r at).reply }) (on (out_of r at).next (armed now (tolds_in (out_of r at).reply) t))

-- at most n timers of a round; ten are as many as there can be (proofs/Bound)
unfoldable pub round_to : ℕ → ℕ → Record → Table → Round
round_to zero now r t = over r t
round_to (suc n) now r t = round_by (round_to n now) now (asked now t) r (after_ask now t)

-- 1 for a record that is not valid or a table that does not fit it, 12 for a list shorter than ten timers' numbers
unfoldable pub round_answer : Record → Table → ℕ → Answer
round_answer r t n = check (valid_of r) answer.Range (check (fits_to r.hot t.held) answer.Range (check (ltb 279 n) answer.Short answer.Taken))

-- a refusal runs none
unfoldable pub most_of : Answer → ℕ
most_of a = cond (is_taken a) 10 0

-- the round of a record and a table, at a time now, whose list has n numbers
unfoldable pub round_for : Record → Table → ℕ → ℕ → Round
round_for r t now n = round_to (most_of (round_answer r t n)) now r t

unfoldable pub round_of : Record → Table → ℕ → ℕ → Rounded
round_of r t now n = record { answer = round_answer r t n; count = length (round_for r t now n).ran; next = (round_for r t now n).next; table = (round_for r t now n).table }

-- how many timers ran out, or the refusal
unfoldable pub result_of : Rounded → Result ℕ Answer
result_of o = cond (is_taken o.answer) (Ok o.count) (Err o.answer)

-- the list after it: each timer's numbers from the front on, in the order in which they ran out
unfoldable pub words_after : Record → Table → ℕ → List ℕ → List ℕ
words_after r t now words = laid 0 (round_words (round_for r t now (length words)).ran) words
