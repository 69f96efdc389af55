-- What the device does over true time, in whole milliseconds, and what each of its ten timers lives through. Assumes nothing.
use Rattle.std.specs.Prelude.{ℕ, zero, suc, ◌+◌, ◌*◌, ◌<◌, ◌≤◌, Bool, true, false, cond, List, [], ◌∷◌, ◌++◌, eqb}
use Rattle.record.specs.declared.Record.{Record}
use Rattle.turns.specs.declared.Told.{Told}
use Rattle.turns.specs.declared.Told.TheVariants.{Left, Stopped, Started}
use Rattle.rules.specs.declared.Event.{Event}
use Rattle.events.specs.declared.Outcome.{Outcome}
use Rattle.events.specs.Step.{step_of}
use Rattle.validity.specs.Run.{Octets}
use Rattle.deadlines.specs.declared.Table.{Table}
use Rattle.deadlines.specs.Clock.{clock}
use Rattle.deadlines.specs.Arming.{armed}
use Rattle.rounds.specs.Words.{Ran}
use Rattle.rounds.specs.Round.{Round, tolds_in, round_for}

-- the record, and the table beside it
pub record World : Type 0 where
  pub record' : Record
  pub table : Table

-- an event at a time, whose reply arms the table; or an asking round that starts at a time, which the clock is read for once
pub data Act : Type 0 where
  happens : ℕ → Event → List ℕ → Act
  asks : ℕ → Act

-- octets are numbers below 256
abbrev pub AllOctets : List Act → Type 0
AllOctets [] = Unit {0}
AllOctets (happens τ e octets ∷ more) = Octets octets × AllOctets more
AllOctets (asks τ ∷ more) = AllOctets more

unfoldable pub event_at : World → Event → List ℕ → Outcome
event_at w e octets = step_of w.record' e octets

-- with room for all that it can hand out
unfoldable pub round_at : World → ℕ → Round
round_at w τ = round_for w.record' w.table (clock τ) 280

unfoldable pub after : World → Act → World
after w (happens τ e octets) = record { record' = (event_at w e octets).next; table = armed (clock τ) (tolds_in (event_at w e octets).reply) w.table }
after w (asks τ) = record { record' = (round_at w τ).next; table = (round_at w τ).table }

unfoldable pub after_all : World → List Act → World
after_all w [] = w
after_all w (a ∷ more) = after_all (after w a) more

-- Seen from one slot: something is told of its timer, a round names it, a round that started at a time is over.
pub data Moment : Type 0 where
  told : ℕ → Told → Moment
  named : ℕ → Moment
  over : ℕ → Moment

-- what is told of slot i
unfoldable pub told_at : List Told → ℕ → Told
told_at [] i = Left
told_at (x ∷ xs) zero = x
told_at (x ∷ xs) (suc i) = told_at xs i

unfoldable pub ran_moments : ℕ → ℕ → List Ran → List Moment
ran_moments i τ [] = []
ran_moments i τ (x ∷ xs) =
    cond (eqb x.at i) (named τ ∷ []) []
    ++ (told τ (told_at (tolds_in x.reply) i) ∷ ran_moments i τ xs)

unfoldable pub moments : ℕ → World → Act → List Moment
moments i w (happens τ e octets) = told τ (told_at (tolds_in (event_at w e octets).reply) i) ∷ []
moments i w (asks τ) = ran_moments i τ (round_at w τ).ran ++ (over τ ∷ [])

unfoldable pub story : ℕ → World → List Act → List Moment
story i w [] = []
story i w (a ∷ more) = moments i w a ++ story i (after w a) more

-- A timer by true time: it does not run, or it runs to a deadline. Its naming ends it, and a start makes a new one.
pub data Life : Type 0 where
  still : Life
  runs : ℕ → Life

unfoldable pub life_after : Life → Moment → Life
life_after l (told τ Left) = l
life_after l (told τ Stopped) = still
life_after l (told τ (Started seconds)) = runs (τ + seconds * 1000)
life_after l (named τ) = still
life_after l (over τ) = l

-- "named once": not one that does not run, since the naming before ended it; "at or after its deadline"; and no round is over while a
-- deadline is at or before its start, so a timer not stopped is named in the first round after its deadline, "before the second"
abbrev pub Right : Life → Moment → Type 0
Right l (told τ x) = Unit {0}
Right still (named τ) = ⊥
Right (runs d) (named τ) = d ≤ τ
Right still (over τ) = Unit {0}
Right (runs d) (over τ) = τ < d

abbrev pub Kept : Life → List Moment → Type 0
Kept l [] = Unit {0}
Kept l (m ∷ ms) = Right l m × Kept (life_after l m) ms

-- From when the next round's 600 s count: "the first start of a timer", or, once there was one, the last round's start.
pub data Watch : Type 0 where
  idle : Watch
  since : ℕ → Watch

unfoldable pub is_start : Told → Bool
is_start Left = false
is_start Stopped = false
is_start (Started seconds) = true

unfoldable pub any_start : List Told → Bool
any_start [] = false
any_start (x ∷ xs) = cond (is_start x) true (any_start xs)

unfoldable pub watch_after : ℕ → List Told → Watch → Watch
watch_after τ xs idle = cond (any_start xs) (since τ) idle
watch_after τ xs (since s) = since s

abbrev pub Soon : Watch → ℕ → Type 0
Soon idle τ = Unit {0}
Soon (since s) τ = τ ≤ s + 600000

-- "time only goes on and rounds start at most 600 s apart, the first at most 600 s after the first start of a timer"; p is the time so far
abbrev pub Timely : World → ℕ → Watch → List Act → Type 0
Timely w p b [] = Unit {0}
Timely w p b (happens τ e octets ∷ more) = (p ≤ τ) × Timely (after w (happens τ e octets)) τ (watch_after τ (tolds_in (event_at w e octets).reply) b) more
Timely w p b (asks τ ∷ more) = (p ≤ τ) × (Soon b τ × Timely (after w (asks τ)) τ (since τ) more)
