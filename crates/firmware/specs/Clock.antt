-- What the calls of the clock come to (document 02, R-13): a table armed by a notice, an ask, and an asking round. Assumes nothing.
use Rattle.std.specs.Prelude.{ℕ, ◌%◌, ◌/◌, ◌^◌, Bool, cond, List, [], ◌∷◌, ◌++◌, ltb, eqb}
use Rattle.record.specs.Tests.{both}
use Rattle.record.specs.declared.Record.{Record}
use Rattle.turns.specs.declared.Told.{Told}
use Rattle.turns.specs.declared.Told.TheVariants.{Left, Stopped, Started}
use Rattle.turns.specs.declared.Clocks.{Clocks}
use Rattle.deadlines.specs.declared.Table.{Table}
use Rattle.deadlines.specs.Asking.{asked, after_ask, place_of}
use Rattle.deadlines.specs.Arming.{tolds_of, armed}
use Rattle.rounds.specs.declared.Rounded.{Rounded}
use Rattle.rounds.specs.Round.{round_of}
use Rattle.firmware.specs.declared.Timer.{Timer}
use Rattle.firmware.specs.declared.Timers.{Timers}
use Rattle.firmware.specs.declared.Notice.{Notice}
use Rattle.firmware.specs.Calls.{number_or}

-- the answer to a notice that arms a table, and the table after it
pub record Armed : Type 0 where
  pub answer : ℕ
  pub next : Table

-- the slot of the timer due, 10 for none, and the table after the ask
pub record Sought : Type 0 where
  pub slot : ℕ
  pub next : Table

-- how many timers ran out in a round, or 256 plus the refusal's number, and the record and the table after it
pub record Passed : Type 0 where
  pub count : ℕ
  pub next : Record
  pub table : Table

-- 0 left, 1 stopped, 2 started: above 2 nothing is told
unfoldable pub is_told : Timer → Bool
is_told t = ltb t.told 3

unfoldable pub are_told : Timers → Bool
are_told t = both (both (is_told t.t3510) (is_told t.t3511)) (both (is_told t.t3502) (is_told t.t3346))

unfoldable pub is_notice : Notice → Bool
is_notice n = both (both (are_told n.c0) (are_told n.c1)) (both (is_told n.t3512) (is_told n.t3247))

-- what a notice tells, read back (proofs/Heard)
unfoldable pub told_from : Timer → Told
told_from t = cond (eqb t.told 1) Stopped (cond (eqb t.told 2) (Started t.seconds) Left)

unfoldable pub clocks_from : Timers → Clocks
clocks_from t = record {
  t3510 = told_from t.t3510;
  t3511 = told_from t.t3511;
  t3502 = told_from t.t3502;
  t3346 = told_from t.t3346;
}

-- of the ten, in the order of the slots
unfoldable pub tolds_from : Notice → List Told
tolds_from n = tolds_of (clocks_from n.c0) (clocks_from n.c1) (told_from n.t3512) (told_from n.t3247)

-- 0, or 1 and the table that was there
unfoldable pub armed_by : Table → ℕ → Notice → Armed
armed_by t now n = cond (is_notice n) (record { answer = 0; next = armed now (tolds_from n) t }) (record { answer = 1; next = t })

-- the slot of the timer due, or 10, and the table with its laps rolled
unfoldable pub sought_in : Table → ℕ → Sought
sought_in t now = record { slot = place_of (asked now t); next = after_ask now t }

-- how many timers ran out
unfoldable pub passed_by : Rounded → Passed
passed_by o = record { count = number_or o.answer o.count; next = o.next; table = o.table }

-- a round whose list has n numbers
unfoldable pub passed_of : Record → Table → ℕ → ℕ → Passed
passed_of r t now n = passed_by (round_of r t now n)

-- A notice as the numbers of 32 bits that C's struct has: the offset is two of them.
unfoldable pub timer_words : Timer → List ℕ
timer_words t = t.told ∷ t.seconds ∷ []

unfoldable pub timers_words : Timers → List ℕ
timers_words t = timer_words t.t3510 ++ timer_words t.t3511 ++ timer_words t.t3502 ++ timer_words t.t3346

unfoldable pub notice_words : Notice → List ℕ
notice_words n =
    (n.offset % 2 ^ 32 ∷ n.offset / 2 ^ 32 ∷ [])
    ++ timers_words n.c0
    ++ timers_words n.c1
    ++ timer_words n.t3247
    ++ timer_words n.t3512
    ++ (n.restart ∷ n.leave ∷ n.update ∷ [])
    ++ (n.changed ∷ [])
