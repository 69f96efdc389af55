-- Laws of a timer's table as the code has it, a number a row with 0 for deactivated; and how long the time of a timer octet can be.
-- Assumes nothing.
use Prim.Native.Nat.{ℕ, zero, suc, ◌*◌, ◌/◌, ◌%◌, ◌≤◌}
use mathlib.Core.Path.{◌≡◌, refl, sym, ap, ◌∙◌}
use mathlib.Core.Bool.{true, false, cond}
use mathlib.Core.List.{List, [], ◌∷◌, map}
use native.Mathlib.Omega.{arith}
use native.Mathlib.Nat.{mul-le-mul}
use lib.Dec.{eqb}
use lib.ListN.{get_or, get_or-map}
use Rattle.timers.specs.Timer.{TimerRow, timer2_rows, timer3_rows, row_at, span_in, span_by, span2_of, span3_of, span_for}
use Rattle.timers.specs.Timer.TimerRow.{deactivated}
use Rattle.timers.specs.declared.Span.{Span}
use Rattle.timers.specs.declared.Span.TheVariants.{Off, Zero, Seconds}

-- numbers that make of every count what the rows make of it
abbrev pub Right : List TimerRow → List ℕ → Type 0
Right rows numbers = (count : ℕ) → map (λ (r : TimerRow). span_in r count) rows ≡ map (λ (n : ℕ). span_for n count) numbers

-- do so at each row
pub right-at : (rows : List TimerRow) (numbers : List ℕ) (top : ℕ) → Right rows numbers → (count : ℕ) → span_in (row_at rows top) count ≡ span_for (get_or numbers top 0) count
right-at rows numbers top right count =
    sym (get_or-map (λ (r : TimerRow). span_in r count) rows top deactivated)
    ∙ (ap (λ (l : List Span). get_or l top Off) (right count)
    ∙ get_or-map (λ (n : ℕ). span_for n count) numbers top 0)

-- numbers none of which is above a bound
abbrev pub UpTo : ℕ → List ℕ → Type 0
UpTo most [] = Unit {0}
UpTo most (number ∷ numbers) = (number ≤ most) × UpTo most numbers

pub most-at : (most : ℕ) (numbers : List ℕ) (top : ℕ) → UpTo most numbers → get_or numbers top 0 ≤ most
most-at most [] top h = omega arith
most-at most (number ∷ numbers) zero h = h.0
most-at most (number ∷ numbers) (suc top) h = most-at most numbers top h.1

-- the code's tables
abbrev pub numbers2 : List ℕ
numbers2 = 2 ∷ 60 ∷ 360 ∷ 60 ∷ 60 ∷ 60 ∷ 60 ∷ 0 ∷ []

abbrev pub numbers3 : List ℕ
numbers3 = 600 ∷ 3600 ∷ 36000 ∷ 2 ∷ 30 ∷ 60 ∷ 1152000 ∷ 0 ∷ []

-- are right at all eight rows
pub right2 : Right timer2_rows numbers2
unfolding timer2_rows
right2 count = refl

pub right3 : Right timer3_rows numbers3
unfolding timer3_rows
right3 count = refl

pub most2 : UpTo 360 numbers2
most2 = (omega arith, (omega arith, (omega arith, (omega arith, (omega arith, (omega arith, (omega arith, (omega arith, tt))))))))

pub most3 : UpTo 1152000 numbers3
most3 = (omega arith, (omega arith, (omega arith, (omega arith, (omega arith, (omega arith, (omega arith, (omega arith, tt))))))))

-- a time of at most so many seconds; deactivated is none, zero is within any
abbrev pub Within : ℕ → Span → Type 0
Within most Off = Unit {0}
Within most Zero = Unit {0}
Within most (Seconds n) = n ≤ most

number_fits : (count number most : ℕ) → count ≤ 31 → number ≤ most → Within (31 * most) (span_for number count)
number_fits count number most h g = elim (eqb number 0) as (λ b. Within (31 * most) (cond b Off (cond (eqb count 0) Zero (Seconds (count * number))))) [
  | true ↦ tt
  | false ↦ elim (eqb count 0) as (λ b. Within (31 * most) (cond b Zero (Seconds (count * number)))) [
    | true ↦ tt
    | false ↦ mul-le-mul h g
  ]
]

-- by a table whose numbers stay below a bound: at most 31 times the bound
rows_fit : (rows : List TimerRow) (numbers : List ℕ) (most octet : ℕ) → Right rows numbers → UpTo most numbers → Within (31 * most) (span_by rows octet)
rows_fit rows numbers most octet right up_to =
    rw (right-at rows numbers (octet / 32) right (octet % 32))
    (number_fits (octet % 32) (get_or numbers (octet / 32) 0) most (omega arith) (most-at most numbers (octet / 32) up_to))

-- timer 2: at most 31 times 360 s
pub span2-fits : (octet : ℕ) → Within 11160 (span2_of octet)
unfolding span2_of
span2-fits octet = rows_fit timer2_rows numbers2 360 octet right2 most2

-- timer 3: at most 31 times 320 h
pub span3-fits : (octet : ℕ) → Within 35712000 (span3_of octet)
unfolding span3_of
span3-fits octet = rows_fit timer3_rows numbers3 1152000 octet right3 most3
