-- The timer octets as tables: GPRS timer 2 as document 01 has it, GPRS timer 3 as document 02 has it. Assumes nothing.
use Rattle.std.specs.Prelude.{ℕ, ◌*◌, ◌/◌, ◌%◌, cond, List, [], ◌∷◌, eqb, get_or}
use Rattle.timers.specs.declared.Span.{Span}
use Rattle.timers.specs.declared.Span.TheVariants.{Off, Zero, Seconds}

-- A row of a timer's table: the seconds that one count of the low five bits stands for, or deactivated
pub data TimerRow : Type 0 where
  unit : ℕ → TimerRow
  deactivated : TimerRow

-- "low five bits times 2 s, 60 s or 360 s for top bits 0, 1, 2; others 60 s; 7 means deactivated"
unfoldable pub timer2_rows : List TimerRow
timer2_rows =
    unit 2 ∷  -- 0: 2 s
    unit 60 ∷  -- 1: 1 min
    unit 360 ∷  -- 2: 6 min
    unit 60 ∷  -- 3: others 1 min
    unit 60 ∷  -- 4
    unit 60 ∷  -- 5
    unit 60 ∷  -- 6
    deactivated ∷ []  -- 7: deactivated

-- "GPRS timer 3, units 10 min, 1 h, 10 h, 2 s, 30 s, 1 min, 320 h, deactivated"
unfoldable pub timer3_rows : List TimerRow
timer3_rows =
    unit 600 ∷  -- 0: 10 min
    unit 3600 ∷  -- 1: 1 h
    unit 36000 ∷  -- 2: 10 h
    unit 2 ∷  -- 3: 2 s
    unit 30 ∷  -- 4: 30 s
    unit 60 ∷  -- 5: 1 min
    unit 1152000 ∷  -- 6: 320 h
    deactivated ∷ []  -- 7: deactivated

-- the row with a number, counted from 0; behind the last there is no time
abbrev pub row_at : List TimerRow → ℕ → TimerRow
row_at rows top = get_or rows top deactivated

-- what a row makes of a count: "deactivated, zero, or seconds" (document 02, R-6)
abbrev pub span_in : TimerRow → ℕ → Span
span_in (unit seconds) count = cond (eqb count 0) Zero (Seconds (count * seconds))
span_in deactivated count = Off

-- a timer octet by its table: the top three bits are the row's number, the low five the count
abbrev pub span_by : List TimerRow → ℕ → Span
span_by rows octet = span_in (row_at rows (octet / 32)) (octet % 32)

unfoldable pub span2_of : ℕ → Span
span2_of octet = span_by timer2_rows octet

unfoldable pub span3_of : ℕ → Span
span3_of octet = span_by timer3_rows octet

-- as a program's table has a row, a number with 0 for deactivated: what it makes of a count
abbrev pub span_for : ℕ → ℕ → Span
span_for number count = cond (eqb number 0) Off (cond (eqb count 0) Zero (Seconds (count * number)))
