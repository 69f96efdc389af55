-- The ten marked facts, computed from the meaning itself: each event is stepped by the definitions, so all of them unfold here. Assumes nothing.
use mathlib.Core.Path.{refl}
use Rattle.laws.specs.Upto as upto
use Rattle.octets.specs.Element as octets
use Rattle.timers.specs.Timer as timers
use Rattle.messages.specs.Message as messages
use Rattle.entries.specs.Places as places
use Rattle.entries.specs.Order as order
use Rattle.entries.specs.Entries as entries
use Rattle.areas.specs.Areas as areas
use Rattle.record.specs.Network as network
use Rattle.record.specs.New as new
use Rattle.ranges.specs.Valid as valid
use Rattle.record.specs.Answers as answers
use Rattle.turns.specs.Timers as clocks
use Rattle.record.specs.Setters as setters
use Rattle.turns.specs.Words as words
use Rattle.turns.specs.Rejects as rows
use Rattle.turns.specs.Turns as turns
use Rattle.record.specs.Sides as hot
use Rattle.checks.specs.Answers as checks
use Rattle.effects.specs.Effects as effects
use Rattle.rules.specs.Plan as plan
use Rattle.events.specs.Parts as parts
use Rattle.events.specs.Step as step
use Rattle.eventlog.specs.First.{first_record}
use Rattle.eventlog.specs.Log as log
use Rattle.eventlog.specs.Lines as lines
use Rattle.eventlog.specs.Replay as replay
use Rattle.history.specs.Cell.{cell_in, entries_in, cell_of}
use Rattle.history.specs.Facts.{seen_line, lines_of, rejected, seen, ascii_of, page_of, facts, AllHold}

pub shown : AllHold facts
unfolding facts first_record seen_line lines_of rejected seen ascii_of page_of cell_in entries_in cell_of upto.upto upto.copied upto.seek_to upto.all_to upto.distinct_to octets.format_of octets.lead_by octets.contents_by octets.read_as octets.lead_of octets.contents_of octets.size_of octets.element_of octets.joined octets.elements_of octets.elements_from octets.first_of octets.end_of timers.timer2_rows timers.timer3_rows timers.span2_of timers.span3_of messages.guti_of messages.count_of messages.triplets_of messages.timer2_in messages.paced_of messages.accept_of messages.ended_by messages.accepted_of messages.accept_reading messages.reject_of messages.rejected_of messages.reject_reading messages.type_reading messages.opened_by messages.reading_of places.entries_held places.place_in places.has_entry places.peek_at entries.found_in entries.place_for entries.seen_in entries.lift_mark entries.bumped places.put_at entries.clear_unless entries.raised entries.banned entries.barred_by entries.unforbidden entries.swept entries.powered entries.none entries.marks_after entries.ranks_after entries.is_import entries.with_file entries.entries_after order.fallen order.last_at order.rank_at order.leaver_to areas.areas_held areas.area_place areas.listed_in areas.placed areas.placed_count areas.kept areas.stayed areas.swept_list areas.list_after areas.count_after network.is_network new.new_device new.new_access new.empty_record new.new_record valid.device_ranges valid.periodic_ranges valid.device_numbers valid.mode_ranges valid.pending_ranges valid.identity_ranges valid.held_ranges valid.access_ranges valid.ranges_of valid.counters_of valid.card_of valid.suci_of valid.codes_of valid.clock_of valid.once_of valid.ranks_of valid.valid_of answers.number_of answers.is_taken clocks.flag_after clocks.is_device_timer clocks.runs_in clocks.runs_on clocks.told_of clocks.clocks_of setters.forgotten setters.in_state setters.with_status setters.with_attempts setters.emptied setters.counted setters.pending setters.keyed setters.taught setters.entered clocks.clocked rows.is_card rows.is_network_no rows.is_area_no rows.is_n1_no rows.is_congested rows.is_protocol words.is_updating rows.is_registered rows.row_of rows.starts_t3247 rows.reject_t3247 rows.t3346_time rows.is_ignored rows.row_text rows.needs_entry rows.to_roaming rows.to_regional words.holds words.counter_after words.state_after words.orders_after words.is_roaming words.is_regional words.is_mark words.list_of words.mark_in words.across_of words.applied turns.started turns.updated turns.key_set turns.accepted turns.start_failed turns.update_failed turns.failed turns.t3510_out turns.t3511_out turns.t3502_out turns.t3346_out turns.clock_turn turns.cycled turns.renewed turns.turned turns.row_turn turns.other_turned turns.other_turn hot.access_of hot.other_of hot.hot_of checks.may_start checks.is_same checks.is_free checks.place_answer checks.start_range checks.start_answer checks.update_range checks.may_update checks.update_answer checks.row_now checks.is_full checks.reject_answer checks.read_answer checks.message_range checks.message_answer checks.timer_range checks.runs checks.timer_answer checks.key_answer checks.card_answer effects.ticked effects.scheduled effects.carded effects.card_effect effects.start_effect effects.update_effect effects.key_effect effects.t3512_time effects.accept_t3512 effects.accept_device effects.accept_effect effects.clock_effect effects.t3247_effect effects.t3512_effect effects.device_effect effects.timer_effect effects.power_effect effects.mark_deed effects.row_deed effects.row_work effects.reject_effect plan.ask_of plan.site_at plan.site_of plan.access_in plan.answer_of plan.message_effect plan.effect_of plan.hot_after plan.taken_reply plan.is_ignoring plan.refused_reply plan.taken_plan plan.refused_plan plan.decided_by plan.plan_of parts.seen_by parts.sight_of parts.seen_of parts.listed_of parts.planned_of plan.deed_on plan.deed_of parts.table_after parts.with_counts parts.done_of parts.carried_out parts.parts_after parts.networks_of parts.guti_after parts.equivalents_after parts.suci_after parts.kept_after step.together step.joined_of step.advance_of step.step_of log.card_event log.start_event log.message_event log.timer_event log.power_event log.key_event log.update_event log.drawn_event log.event_of log.beside_of log.record_of log.log_of lines.digits_of lines.decimal lines.field_of lines.line_of lines.bad_of replay.line_after replay.text_of parts.given_after
shown = (refl, (refl, (refl, (refl, (refl, (refl, (refl, (refl, (refl, (refl, (refl, (refl, (refl, (refl, tt))))))))))))))
