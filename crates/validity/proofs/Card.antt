-- A taken card change leaves nothing of the record before it but its limits and capabilities. Assumes nothing.
use Prim.Native.Nat.{ℕ}
use mathlib.Core.Path.{◌≡◌, refl}
use mathlib.Core.Bool.{true}
use mathlib.Core.List.{List}
use Rattle.entries.specs.Entries.{none, marks_after, ranks_after, is_import, with_file, entries_after}
use Rattle.areas.specs.Areas.{list_after, count_after}
use Rattle.record.specs.declared.Record.{Record}
use Rattle.record.specs.Answers.{is_taken}
use Rattle.record.specs.New.{new_device, new_access, empty_record}
use Rattle.turns.specs.Timers.{flag_after, clocked}
use Rattle.turns.specs.Turns.{renewed}
use Rattle.rules.specs.declared.Event.TheVariants.{Card}
use Rattle.record.specs.Sides.{hot_of}
use Rattle.effects.specs.Effects.{ticked, carded, card_effect}
use Rattle.rules.specs.Plan.{access_in, effect_of, hot_after, taken_plan, deed_on, deed_of}
use Rattle.events.specs.Parts.{table_after, with_counts, done_of, carried_out, guti_after, equivalents_after, suci_after, kept_after}
use Rattle.events.specs.Step.{together, joined_of, advance_of}
use Rattle.validity.specs.Answered.{answered_by}
use Rattle.validity.specs.Card.{card_record}
use Rattle.validity.proofs.Refusal.{taken-plan}

pub card-is-new : (r : Record) (edition home : ℕ) (suci : List ℕ) → is_taken (answered_by r (Card edition home) suci) ≡ true
    → (advance_of r (Card edition home) suci).next ≡ card_record r edition home suci
unfolding card_record empty_record new_device new_access carded ticked joined_of together carried_out done_of with_counts taken_plan hot_after hot_of effect_of card_effect renewed clocked flag_after access_in table_after deed_of deed_on none entries_after with_file is_import ranks_after marks_after list_after count_after kept_after guti_after equivalents_after suci_after
card-is-new r edition home suci taken = rw (taken-plan r (Card edition home) suci taken) refl
