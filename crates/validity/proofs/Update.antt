-- An update and T3512 out change what document 02 names and nothing else. Assumes nothing.
use Prim.Native.Nat.{ℕ}
use mathlib.Core.Path.{◌≡◌, refl}
use mathlib.Core.Bool.{Bool, true, false}
use mathlib.Core.List.{List}
use lib.Dec.{eqb}
use Rattle.entries.specs.Entries.{marks_after, ranks_after, is_import, with_file, entries_after}
use Rattle.areas.specs.Areas.{list_after, count_after}
use Rattle.record.specs.declared.Record.{Record}
use Rattle.record.specs.Answers.{is_taken}
use Rattle.record.specs.Setters.{in_state, pending}
use Rattle.record.specs.Sides.{access_of, other_of, hot_of}
use Rattle.turns.specs.Timers.{is_device_timer, flag_after, clocked}
use Rattle.turns.specs.Turns.{updated}
use Rattle.effects.specs.Effects.{ticked, scheduled, update_effect, t3512_effect, device_effect, timer_effect}
use Rattle.rules.specs.declared.Event.TheVariants.{Timer, Update}
use Rattle.rules.specs.Plan.{access_in, effect_of, hot_after, taken_plan, deed_on, deed_of}
use Rattle.events.specs.Parts.{table_after, with_counts, done_of, carried_out, guti_after, equivalents_after, suci_after, kept_after}
use Rattle.events.specs.Step.{together, joined_of, advance_of, step_of}
use Rattle.validity.specs.Answered.{answered_by}
use Rattle.validity.specs.Update.{update_record, t3512_record}
use Rattle.validity.proofs.Refusal.{taken-plan, step-taken}

update-is : (r : Record) (w regtype net code uplink sessions : ℕ) (octets : List ℕ) → is_taken (answered_by r (Update w regtype net code uplink sessions) octets) ≡ true
    → (advance_of r (Update w regtype net code uplink sessions) octets).next ≡ update_record r w regtype net code uplink sessions
unfolding update_record in_state pending ticked joined_of together carried_out done_of with_counts taken_plan hot_after hot_of effect_of update_effect updated access_of other_of clocked flag_after access_in table_after deed_of deed_on entries_after with_file is_import ranks_after marks_after list_after count_after kept_after guti_after equivalents_after suci_after
update-is r w regtype net code uplink sessions octets t = go (eqb w 0) refl (eqb w 1) refl
  where
    go : (b : Bool) → eqb w 0 ≡ b → (c : Bool) → eqb w 1 ≡ c → (advance_of r (Update w regtype net code uplink sessions) octets).next ≡ update_record r w regtype net code uplink sessions
    go true q true q' = rw (taken-plan r (Update w regtype net code uplink sessions) octets t, q, q')
    go true q false q' = rw (taken-plan r (Update w regtype net code uplink sessions) octets t, q, q')
    go false q true q' = rw (taken-plan r (Update w regtype net code uplink sessions) octets t, q, q')
    go false q false q' = rw (taken-plan r (Update w regtype net code uplink sessions) octets t, q, q')

pub step-update : (r : Record) (w regtype net code uplink sessions : ℕ) (octets : List ℕ) → is_taken (step_of r (Update w regtype net code uplink sessions) octets).reply.answer ≡ true
    → (step_of r (Update w regtype net code uplink sessions) octets).next ≡ update_record r w regtype net code uplink sessions
step-update r w regtype net code uplink sessions octets t =
    let v = step-taken r (Update w regtype net code uplink sessions) octets t in
    rw v.0 (update-is r w regtype net code uplink sessions octets v.1)

t3512-is : (r : Record) (octets : List ℕ) → is_taken (answered_by r (Timer 5 0) octets) ≡ true → (advance_of r (Timer 5 0) octets).next ≡ t3512_record r
unfolding t3512_record ticked scheduled joined_of together carried_out done_of with_counts taken_plan hot_after hot_of effect_of timer_effect is_device_timer device_effect t3512_effect access_of other_of clocked flag_after access_in table_after deed_of deed_on entries_after with_file is_import ranks_after marks_after list_after count_after kept_after guti_after equivalents_after suci_after
t3512-is r octets t = rw (taken-plan r (Timer 5 0) octets t) refl

pub step-t3512 : (r : Record) (octets : List ℕ) → is_taken (step_of r (Timer 5 0) octets).reply.answer ≡ true → (step_of r (Timer 5 0) octets).next ≡ t3512_record r
step-t3512 r octets t =
    let v = step-taken r (Timer 5 0) octets t in
    rw v.0 (t3512-is r octets v.1)
