-- What a reply makes of the table, at a time now; which timer a slot is; and when a table fits a record. Assumes nothing.
use Rattle.std.specs.Prelude.{ℕ, zero, suc, ◌*◌, Bool, true, false, cond, List, [], ◌∷◌, ◌==◌, slice_index}
use Rattle.record.specs.declared.Hot.{Hot}
use Rattle.turns.specs.declared.Told.{Told}
use Rattle.turns.specs.declared.Told.TheVariants.{Left, Stopped, Started}
use Rattle.turns.specs.declared.Clocks.{Clocks}
use Rattle.deadlines.specs.Slots.{started, stopped}
use Rattle.deadlines.specs.Asking.{put_at}
use Rattle.deadlines.specs.declared.Table.{Table}

-- "ties in the order T3510, T3511, T3502, T3346, T3512, T3247, access 0 first": the slots, by the timer's number and by its access
abbrev pub numbers : List ℕ
numbers = 1 ∷ 1 ∷ 2 ∷ 2 ∷ 3 ∷ 3 ∷ 6 ∷ 6 ∷ 5 ∷ 4 ∷ []

abbrev pub accesses : List ℕ
accesses = 0 ∷ 1 ∷ 0 ∷ 1 ∷ 0 ∷ 1 ∷ 0 ∷ 1 ∷ 0 ∷ 0 ∷ []

-- what is told of the ten
unfoldable pub tolds_of : Clocks → Clocks → Told → Told → List Told
tolds_of c0 c1 t3512 t3247 =
    c0.t3510 ∷ c1.t3510 ∷ c0.t3511 ∷ c1.t3511 ∷ c0.t3502 ∷ c1.t3502 ∷ c0.t3346 ∷ c1.t3346 ∷ t3512 ∷ t3247 ∷ []

-- whether they run
unfoldable pub flags_of : Hot → List ℕ
flags_of h =
    h.a0.t3510 ∷ h.a1.t3510 ∷ h.a0.t3511 ∷ h.a1.t3511 ∷ h.a0.t3502 ∷ h.a1.t3502 ∷ h.a0.t3346 ∷ h.a1.t3346 ∷ h.dev.t3512 ∷ h.dev.t3247 ∷ []

-- "Give each running timer a deadline": a timer that is left keeps its own, one that is started has it so many seconds from now
unfoldable pub heeded : ℕ → ℕ → Told → Table → Table
heeded now at Left t = t
heeded now at Stopped t = put_at t at stopped
heeded now at (Started seconds) t = put_at t at (started now (seconds * 1000))

-- the slots from one on
unfoldable pub armed_from : ℕ → ℕ → List Told → Table → Table
armed_from now at [] t = t
armed_from now at (x ∷ xs) t = armed_from now (suc at) xs (heeded now at x t)

abbrev pub armed : ℕ → List Told → Table → Table
armed now xs t = armed_from now 0 xs t

-- the first n numbers of two lists are the same
unfoldable pub same_to : ℕ → List ℕ → List ℕ → Bool
same_to zero xs ys = true
same_to (suc n) xs ys = cond (same_to n xs ys) (slice_index xs n == slice_index ys n) false

-- a table fits a record whose timers run exactly where slots are held
unfoldable pub fits_to : Hot → List ℕ → Bool
fits_to h held = same_to 10 held (flags_of h)
