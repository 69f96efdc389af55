-- A power cycle is taken, and changes what document 01 names and nothing else. Assumes nothing.
use Prim.Native.Nat.{ℕ}
use mathlib.Core.Path.{◌≡◌, refl}
use mathlib.Core.Bool.{true}
use mathlib.Core.List.{List}
use Rattle.entries.specs.Entries.{powered, marks_after, ranks_after, is_import, with_file, entries_after}
use Rattle.areas.specs.Areas.{list_after, count_after}
use Rattle.record.specs.declared.Record.{Record}
use Rattle.record.specs.Answers.{is_taken}
use Rattle.record.specs.Setters.{in_state, with_attempts}
use Rattle.record.specs.Sides.{hot_of}
use Rattle.ranges.specs.Valid.{valid_of}
use Rattle.turns.specs.Timers.{flag_after, clocked}
use Rattle.turns.specs.Turns.{cycled}
use Rattle.effects.specs.Effects.{ticked, power_effect}
use Rattle.rules.specs.declared.Event.TheVariants.{Power}
use Rattle.rules.specs.Plan.{access_in, answer_of, effect_of, hot_after, taken_plan, deed_on, deed_of}
use Rattle.events.specs.Parts.{table_after, with_counts, done_of, carried_out, guti_after, equivalents_after, suci_after, kept_after}
use Rattle.events.specs.Step.{together, joined_of, advance_of, step_of}
use Rattle.validity.specs.Answered.{answered_by}
use Rattle.validity.specs.Power.{power_record}
use Rattle.validity.proofs.Refusal.{taken-plan}

power-taken : (r : Record) (octets : List ℕ) → is_taken (answered_by r Power octets) ≡ true
unfolding answered_by answer_of is_taken
power-taken r octets = refl

-- "All else stays."
pub power-is : (r : Record) (octets : List ℕ) → (advance_of r Power octets).next ≡ power_record r
unfolding power_record powered in_state with_attempts ticked joined_of together carried_out done_of with_counts taken_plan hot_after hot_of effect_of power_effect cycled clocked flag_after access_in table_after deed_of deed_on entries_after with_file is_import ranks_after marks_after list_after count_after kept_after guti_after equivalents_after suci_after
power-is r octets = rw (taken-plan r Power octets (power-taken r octets)) refl

-- the same of a step, which tests the record first
pub step-power : (r : Record) (octets : List ℕ) → valid_of r ≡ true → (step_of r Power octets).next ≡ power_record r
unfolding step_of
step-power r octets v = rw v (power-is r octets)
