-- Check 8 of a start, and of an update, is what the history says: the network is listed by its marks, and nothing else. Assumes nothing.
use Prim.Native.Nat.{ℕ, zero, suc, ◌<◌}
use mathlib.Core.Path.{◌≡◌, refl, ◌∙◌, ap}
use mathlib.Core.Bool.{Bool}
use mathlib.Core.List.{List}
use native.Mathlib.Omega.{arith}
use lib.Dec.{eqb}
use Rattle.record.specs.Tests.{both, either}
use Rattle.record.specs.Sides.{access_of}
use Rattle.record.specs.New.{new_record}
use Rattle.record.specs.declared.Record.{Record}
use Rattle.entries.specs.Entries.{found_in, seen_in}
use Rattle.rules.specs.declared.Event.TheVariants.{Start, Update}
use Rattle.rules.specs.Plan.{ask_of}
use Rattle.checks.specs.Answers.{is_free}
use Rattle.events.specs.Parts.{sight_of, seen_by, seen_of}
use Rattle.validity.specs.Answered.{seen_at}
use Rattle.validity.specs.Run.{Heard, run_of}
use Rattle.history.specs.Cell.{cell_in, entries_in, cell_of}
use Rattle.history.specs.Tale.{Cell}
use Rattle.history.specs.History.{said_of}
use Rattle.history.specs.Run.{answers_of}
use Rattle.history.proofs.Demand3.{demand3}

-- "Manual choice passes a forbidden mark, never an N1 mark."
abbrev pub passes : ℕ → Cell → Bool
passes manual c = both (eqb c.barred 0) (either (eqb c.forbidden 0) (eqb manual 1))

pub seen : (r : Record) (w manual net code : ℕ) (octets : List ℕ) → w < 2 → is_free manual (seen_at r (Start w manual net code) octets) ≡ passes manual (cell_of r w net)
unfolding is_free ask_of seen_of seen_by sight_of seen_in found_in cell_of cell_in entries_in access_of
seen r zero manual net code octets h = refl
seen r (suc zero) manual net code octets h = refl
seen r (suc (suc w)) manual net code octets h = absurd (omega arith)

pub check8 : (x y z : ℕ) (c s : List ℕ) (xs : List Heard) (w manual net code : ℕ) (octets : List ℕ) → w < 2
    → is_free manual (seen_at (run_of (new_record x y z c s) xs) (Start w manual net code) octets)
    ≡ passes manual (said_of (record { ban = y; n1 = z }) xs (answers_of (new_record x y z c s) xs) w net)
check8 x y z c s xs w manual net code octets h = seen _ w manual net code octets h ∙ ap (passes manual) (demand3 x y z c s xs w net h)

-- an update passes as a start that is not manual
pub check8-update : (x y z : ℕ) (c s : List ℕ) (xs : List Heard) (w regtype net code uplink sessions : ℕ) (octets : List ℕ) → w < 2
    → is_free 0 (seen_at (run_of (new_record x y z c s) xs) (Update w regtype net code uplink sessions) octets)
    ≡ passes 0 (said_of (record { ban = y; n1 = z }) xs (answers_of (new_record x y z c s) xs) w net)
unfolding ask_of
check8-update x y z c s xs w regtype net code uplink sessions octets h = check8 x y z c s xs w 0 net code octets h
