-- The round trip with no condition: a record run from a new one has its arrays' lengths, whatever the events, so what is written of it reads back; and in
-- state 4 it is written, with the first identity held in the edition's order, and never while the network has asked for time. Four requests octet by octet, computed
-- from the events. Assumes nothing.
use Prim.Native.Nat.{ℕ, ◌≤◌}
use mathlib.Core.Path.{◌≡◌, refl}
use mathlib.Core.Bool.{Bool, true, false, cond}
use mathlib.Core.List.{List, [], ◌∷◌}
use native.Mathlib.Omega.{arith}
use lib.Dec.{eqb}
use lib.ListN.{length, take}
use borrow.Author.Tests.{le-leb}
use Rattle.std.specs.Prelude.{Ok, is_ok}
use Rattle.record.specs.declared.Record.{Record}
use Rattle.record.specs.Answers.{is_taken}
use Rattle.record.specs.Sides.{access_of}
use Rattle.validity.specs.Sized.{Sized}
use Rattle.validity.specs.Run.{Heard, AllOctets, run_of}
use Rattle.validity.proofs.Sizes.{made-sized}
use Rattle.validity.proofs.Bools.{flip-true, either_second}
use Rattle.validity.proofs.Runs.{ran, ran-valid, run-sized}
use Rattle.validity.proofs.Wait.{own-waits, t3346-waits}
use Rattle.request.specs.Layout.{shown}
use Rattle.request.specs.Levels.{asking_of}
use Rattle.request.specs.Reading.{told_by}
use Rattle.request.specs.Reading.Said.{says}
use Rattle.identity.specs.declared.S1.{S1}
use Rattle.identity.specs.Identity.{Identities, order_of, is_held, source_of, octets_from}
use Rattle.identity.proofs.Editions.{First}
use Rattle.request.specs.Writing.{no_s1, identities_of, fields_of, request_of, may_request, writing_answer, written_of, buffer_of}
use Rattle.request.proofs.Recorded.{Whole, Known, read_back, sent-first}
use Rattle.request.proofs.Short.{request-short, request-most, nothing-mapped}
use Rattle.rules.specs.declared.Event.{Event}
use Rattle.rules.specs.declared.Event.TheVariants.{Card, Start, Message, Power, Key, Update}
use Rattle.eventlog.specs.Log.{draws_of}
use Rattle.laws.specs.Upto as upto
use Rattle.octets.specs.Element as octets
use Rattle.timers.specs.Timer as timers
use Rattle.messages.specs.Message as messages
use Rattle.entries.specs.Places as places
use Rattle.entries.specs.Order as order
use Rattle.entries.specs.Entries as entries
use Rattle.areas.specs.Areas as areas
use Rattle.record.specs.Network as network
use Rattle.record.specs.New as new
use Rattle.ranges.specs.Valid as valid
use Rattle.record.specs.Answers as answers
use Rattle.turns.specs.Timers as clocks
use Rattle.record.specs.Setters as setters
use Rattle.turns.specs.Words as words
use Rattle.turns.specs.Rejects as rows
use Rattle.turns.specs.Turns as turns
use Rattle.record.specs.Sides as hot
use Rattle.checks.specs.Answers as checks
use Rattle.effects.specs.Effects as effects
use Rattle.rules.specs.Plan as plan
use Rattle.events.specs.Parts as parts
use Rattle.events.specs.Step as step
use Rattle.identity.specs.Identity as identity
use Rattle.identity.specs.Mapping as mapping
use Rattle.request.specs.Layout as layout
use Rattle.request.specs.Writing as writing

sized-whole : (r : Record) → Sized r → Whole r
sized-whole r z = record { guti0 = z.guti0; guti1 = z.guti1; suci = z.suci; capability = z.capability; security = z.security }

module _ (cardlimit banlimit n1limit : ℕ) (capability security : List ℕ) (xs : List Heard) (access : ℕ) (s1 : S1) (attach b : List ℕ) where
  abbrev reached : Record
  reached = ran cardlimit banlimit n1limit capability security xs

  abbrev sized : Whole reached
  sized = sized-whole reached (run-sized _ xs (made-sized cardlimit banlimit n1limit capability security))

  -- what the writer has written into the buffer b, so many octets
  abbrev pub written : ℕ → List ℕ
  written n = take n (buffer_of reached access s1 attach b)

  -- where the writer has written, its octets read back as what the record says, whatever is lent from S1 mode
  pub reads-back : (n : ℕ) → written_of reached access s1 attach (length b) ≡ Ok n → told_by (written n) (asking_of (written n)) ≡ says (shown (fields_of reached access s1 attach))
  reads-back n wrote = read_back reached access s1 attach b n wrote sized

  -- and so it does in state 4, into a buffer of 130,119 octets, with an attach message of at most 65,000
  pub writes : AllOctets xs → access ≤ 1 → (access_of reached.hot access).state ≡ 4 → length attach ≤ 65000 → 130119 ≤ length b → written_of reached access s1 attach (length b) ≡ Ok (length (request_of reached access s1 attach))
  unfolding written_of writing_answer may_request is_taken
  writes o a state m n =
      let valid = ran-valid cardlimit banlimit n1limit capability security xs o in
      let short : length (request_of reached access s1 attach) ≤ length b = omega (arith, request-most reached access s1 attach valid state m) in
      rw (le-leb (length attach) 65000 m, le-leb access 1 a, valid, state, le-leb (length (request_of reached access s1 attach)) (length b) short)

  -- with nothing lent 193 octets are enough
  pub writes-plain : AllOctets xs → access ≤ 1 → (access_of reached.hot access).state ≡ 4 → 193 ≤ length b → written_of reached access no_s1 [] (length b) ≡ Ok (length (request_of reached access no_s1 []))
  unfolding written_of writing_answer may_request is_taken
  writes-plain o a state n =
      let valid = ran-valid cardlimit banlimit n1limit capability security xs o in
      let plain = nothing-mapped reached.hot.dev.edition (access_of reached.hot access).regtype in
      let short : length (request_of reached access no_s1 []) ≤ length b = omega (arith, request-short reached access no_s1 [] valid state plain) in
      rw (le-leb access 1 a, valid, state, le-leb (length (request_of reached access no_s1 [])) (length b) short)

  abbrev held : Identities
  held = identities_of reached.hot access (access_of reached.hot access) reached.guti0 reached.guti1 reached.suci (cond (eqb access 0) reached.equivalents0 reached.equivalents1) s1

  -- "an identity is always sent, from the first source held in the edition's order": in state 4 the source of the identity is held, and none before it in the edition's
  -- list is; what is written has its octets, a GUTI of eleven or a SUCI of 9 to 64
  pub identity-sent : AllOctets xs → (access_of reached.hot access).state ≡ 4
      → First (is_held held) (order_of reached.hot.dev.edition) (source_of reached.hot.dev.edition held)
      × (((fields_of reached access s1 attach).identity ≡ octets_from held (source_of reached.hot.dev.edition held)) × Known (fields_of reached access s1 attach).identity)
  identity-sent o state = sent-first reached access sized (ran-valid cardlimit banlimit n1limit capability security xs o) state s1 attach

  -- while the network has asked for time nothing is written
  pub waits-unwritten : eqb (access_of reached.hot access).t3346 0 ≡ false → (is_ok (written_of reached access s1 attach (length b)) ≡ false) × (buffer_of reached access s1 attach b ≡ b)
  unfolding written_of buffer_of writing_answer is_taken
  waits-unwritten waits = go (may_request reached access (length attach)) refl
    where
      idle : eqb (access_of reached.hot access).state 4 ≡ false
      idle = flip-true _ (either_second _ _ (own-waits reached (t3346-waits cardlimit banlimit n1limit capability security xs) access) waits)

      go : (v : Bool) → may_request reached access (length attach) ≡ v → (is_ok (written_of reached access s1 attach (length b)) ≡ false) × (buffer_of reached access s1 attach b ≡ b)
      go true v = rw (v, idle) (refl, refl)
      go false v = rw v (refl, refl)

-- Four requests: ngKSI 7 and a SUCI; ngKSI 3 and a GUTI, all three elements in a 71, both as another decoder reads them; an update's, with 40 and 50; and that of
-- a router from 4G by edition 2, after an accept with a GUTI, with 77, 2B and 70

abbrev heard : Event → List ℕ → Heard
heard e octets = record { event = e; octets = octets }

-- a card with its edition, a start in network 00 F2 20, area 00 00 2A
abbrev begun : ℕ → List Heard → List Heard
begun edition xs = heard (Card edition 0x00F110) (0x01 ∷ 0x00 ∷ 0xF1 ∷ 0x10 ∷ 0xF0 ∷ 0xFF ∷ 0x00 ∷ 0x00 ∷ 0x07 ∷ []) ∷ heard (Start 0 0 0x00F220 0x00002A) [] ∷ xs

-- key set 3, an accept with a GUTI
abbrev taught : List Heard → List Heard
taught xs =
    heard (Key 0 3) []
    ∷ heard (Message 0 1 (draws_of 1800 900)) (0x7E ∷ 0x00 ∷ 0x42 ∷ 0x01 ∷ 0x01 ∷ 0x77 ∷ 0x00 ∷ 0x0B ∷ 0xF2 ∷ 0x00 ∷ 0xF1 ∷ 0x10 ∷ 0x80 ∷ 0x01 ∷ 0xC5 ∷ 0xD1 ∷ 0xC2 ∷ 0xB3 ∷ 0xA4 ∷ [])
    ∷ xs

-- a power cycle, and the start again
abbrev again : List Heard
again = taught (heard Power [] ∷ heard (Start 0 0 0x00F220 0x00002A) [] ∷ [])

-- a mobility update in the next area: uplink data in sessions 1 and 10, active sessions 5 and 15
abbrev moved : List Heard
moved = taught (heard (Update 0 2 0x00F220 0x00002B 0x0402 0x8020) [] ∷ [])

abbrev reach : ℕ → List Heard → Record
reach edition xs = run_of (new.new_record 3 3 3 (0x00 ∷ []) (0xF0 ∷ 0xF0 ∷ [])) (begun edition xs)

abbrev sent : List Heard → List ℕ
sent xs = writing.request_of (reach 1 xs) 0 no_s1 []

-- all facts of S1 mode but a native 4G-GUTI
abbrev from_4g : S1
from_4g = record { registered = 1; n26 = 1; context = 1; valid = 1; native = 0; guti = 0x00 ∷ 0xF1 ∷ 0x10 ∷ 0x80 ∷ 0x01 ∷ 0xC5 ∷ 0xD1 ∷ 0xC2 ∷ 0xB3 ∷ 0xA4 ∷ [] }

-- an accept with a GUTI of 00 F2 20 and no key set, a power cycle, and the start again
abbrev back : List Heard
back =
    heard (Message 0 1 (draws_of 1800 900)) (0x7E ∷ 0x00 ∷ 0x42 ∷ 0x01 ∷ 0x01 ∷ 0x77 ∷ 0x00 ∷ 0x0B ∷ 0xF2 ∷ 0x00 ∷ 0xF2 ∷ 0x20 ∷ 0x11 ∷ 0x22 ∷ 0x83 ∷ 0x0A ∷ 0x0B ∷ 0x0C ∷ 0x0D ∷ [])
    ∷ heard Power []
    ∷ heard (Start 0 0 0x00F220 0x00002A) []
    ∷ []

pub rows-sent : (sent [] ≡ 0x7E ∷ 0x00 ∷ 0x41 ∷ 0x71 ∷ 0x00 ∷ 0x09 ∷ 0x01 ∷ 0x00 ∷ 0xF1 ∷ 0x10 ∷ 0xF0 ∷ 0xFF ∷ 0x00 ∷ 0x00 ∷ 0x07 ∷ 0x2E ∷ 0x02 ∷ 0xF0 ∷ 0xF0 ∷ [])
    × (sent again ≡ 0x7E ∷ 0x00 ∷ 0x41 ∷ 0x31 ∷ 0x00 ∷ 0x0B ∷ 0xF2 ∷ 0x00 ∷ 0xF1 ∷ 0x10 ∷ 0x80 ∷ 0x01 ∷ 0xC5 ∷ 0xD1 ∷ 0xC2 ∷ 0xB3 ∷ 0xA4 ∷ 0x2E ∷ 0x02 ∷ 0xF0 ∷ 0xF0 ∷ 0x71 ∷ 0x00 ∷ 0x1F
    ∷ 0x7E ∷ 0x00 ∷ 0x41 ∷ 0x31 ∷ 0x00 ∷ 0x0B ∷ 0xF2 ∷ 0x00 ∷ 0xF1 ∷ 0x10 ∷ 0x80 ∷ 0x01 ∷ 0xC5 ∷ 0xD1 ∷ 0xC2 ∷ 0xB3 ∷ 0xA4
    ∷ 0x10 ∷ 0x01 ∷ 0x00 ∷ 0x2E ∷ 0x02 ∷ 0xF0 ∷ 0xF0 ∷ 0x52 ∷ 0x00 ∷ 0xF2 ∷ 0x20 ∷ 0x00 ∷ 0x00 ∷ 0x2A ∷ [])
    × (sent moved ≡ 0x7E ∷ 0x00 ∷ 0x41 ∷ 0x32 ∷ 0x00 ∷ 0x0B ∷ 0xF2 ∷ 0x00 ∷ 0xF1 ∷ 0x10 ∷ 0x80 ∷ 0x01 ∷ 0xC5 ∷ 0xD1 ∷ 0xC2 ∷ 0xB3 ∷ 0xA4 ∷ 0x2E ∷ 0x02 ∷ 0xF0 ∷ 0xF0 ∷ 0x71 ∷ 0x00 ∷ 0x27
    ∷ 0x7E ∷ 0x00 ∷ 0x41 ∷ 0x32 ∷ 0x00 ∷ 0x0B ∷ 0xF2 ∷ 0x00 ∷ 0xF1 ∷ 0x10 ∷ 0x80 ∷ 0x01 ∷ 0xC5 ∷ 0xD1 ∷ 0xC2 ∷ 0xB3 ∷ 0xA4
    ∷ 0x10 ∷ 0x01 ∷ 0x00 ∷ 0x2E ∷ 0x02 ∷ 0xF0 ∷ 0xF0 ∷ 0x52 ∷ 0x00 ∷ 0xF2 ∷ 0x20 ∷ 0x00 ∷ 0x00 ∷ 0x2A ∷ 0x40 ∷ 0x02 ∷ 0x02 ∷ 0x04 ∷ 0x50 ∷ 0x02 ∷ 0x20 ∷ 0x80 ∷ [])
    × (writing.request_of (reach 2 back) 0 from_4g (0x07 ∷ 0x41 ∷ []) ≡ 0x7E ∷ 0x00 ∷ 0x41 ∷ 0x71 ∷ 0x00 ∷ 0x0B ∷ 0xF2 ∷ 0x00 ∷ 0xF1 ∷ 0x10 ∷ 0x80 ∷ 0x01 ∷ 0xC5 ∷ 0xD1 ∷ 0xC2 ∷ 0xB3 ∷ 0xA4 ∷ 0x2E ∷ 0x02 ∷ 0xF0 ∷ 0xF0
    ∷ 0x77 ∷ 0x00 ∷ 0x0B ∷ 0xF2 ∷ 0x00 ∷ 0xF2 ∷ 0x20 ∷ 0x11 ∷ 0x22 ∷ 0x83 ∷ 0x0A ∷ 0x0B ∷ 0x0C ∷ 0x0D ∷ 0x2B ∷ 0x01 ∷ 0x00 ∷ 0x70 ∷ 0x00 ∷ 0x02 ∷ 0x07 ∷ 0x41 ∷ [])
unfolding upto.upto upto.copied upto.seek_to upto.all_to upto.distinct_to octets.format_of octets.lead_by octets.contents_by octets.read_as octets.lead_of octets.contents_of octets.size_of octets.element_of octets.joined octets.elements_of octets.elements_from octets.first_of octets.end_of messages.guti_of messages.count_of messages.triplets_of messages.timer2_in messages.paced_of messages.accept_of messages.ended_by messages.accepted_of messages.accept_reading messages.reject_of messages.rejected_of messages.reject_reading messages.type_reading messages.opened_by messages.reading_of places.entries_held places.place_in places.has_entry places.peek_at entries.found_in entries.place_for entries.seen_in entries.lift_mark entries.bumped places.put_at entries.clear_unless entries.raised entries.banned entries.barred_by entries.unforbidden entries.swept entries.powered entries.none entries.marks_after entries.ranks_after entries.is_import entries.with_file entries.entries_after order.fallen order.last_at order.rank_at order.leaver_to areas.areas_held areas.area_place areas.listed_in areas.placed areas.placed_count areas.kept areas.stayed areas.swept_list areas.list_after areas.count_after network.is_network new.new_device new.new_access new.empty_record new.new_record valid.device_ranges valid.periodic_ranges valid.device_numbers valid.mode_ranges valid.pending_ranges valid.identity_ranges valid.held_ranges valid.access_ranges valid.ranges_of valid.counters_of valid.card_of valid.suci_of valid.codes_of valid.clock_of valid.once_of valid.ranks_of valid.valid_of answers.number_of answers.is_taken clocks.flag_after clocks.is_device_timer clocks.runs_in clocks.runs_on clocks.told_of clocks.clocks_of setters.forgotten setters.in_state setters.with_status setters.with_attempts setters.emptied setters.counted setters.pending setters.keyed setters.taught setters.entered clocks.clocked rows.is_card rows.is_network_no rows.is_area_no rows.is_n1_no rows.is_congested rows.is_protocol words.is_updating words.is_mark words.list_of words.mark_in words.across_of words.applied turns.started turns.updated turns.key_set turns.accepted turns.start_failed turns.update_failed turns.failed turns.t3510_out turns.t3511_out turns.t3502_out turns.t3346_out turns.clock_turn turns.cycled turns.renewed turns.turned turns.row_turn turns.other_turned turns.other_turn hot.access_of hot.other_of hot.hot_of checks.may_start checks.is_same checks.is_free checks.place_answer checks.start_range checks.start_answer checks.update_range checks.may_update checks.update_answer checks.row_now checks.is_full checks.reject_answer checks.read_answer checks.message_range checks.message_answer checks.timer_range checks.runs checks.timer_answer checks.key_answer checks.card_answer effects.ticked effects.scheduled effects.carded effects.card_effect effects.start_effect effects.update_effect effects.key_effect effects.t3512_time effects.accept_t3512 effects.accept_device effects.accept_effect effects.clock_effect effects.t3247_effect effects.t3512_effect effects.device_effect effects.timer_effect effects.power_effect effects.mark_deed effects.row_deed effects.row_work effects.reject_effect plan.ask_of plan.site_at plan.site_of plan.access_in plan.answer_of plan.message_effect plan.effect_of plan.hot_after plan.taken_reply plan.is_ignoring plan.refused_reply plan.taken_plan plan.refused_plan plan.decided_by plan.plan_of parts.seen_by parts.sight_of parts.seen_of parts.listed_of parts.planned_of plan.deed_on plan.deed_of parts.table_after parts.with_counts parts.done_of parts.carried_out parts.parts_after parts.networks_of parts.given_after parts.guti_after parts.equivalents_after parts.suci_after parts.kept_after step.together step.joined_of step.advance_of step.step_of run_of layout.layout layout.levels_of layout.shown layout.nested layout.clear layout.octets_of layout.opening layout.opening_head layout.items_of layout.laid layout.item_octets layout.with_lead layout.length_in writing.gutis_of writing.last_of writing.uplink_of writing.sessions_of writing.saying_of writing.identities_of writing.additional_of writing.status_of writing.attach_of writing.says_by writing.says_of writing.fields_of writing.request_of identity.gutis_5g identity.edition1 identity.edition2 identity.edition3 identity.order_of identity.slot_on identity.has_guti identity.equivalents_held identity.is_among identity.is_from_s1 identity.is_from_native identity.is_held identity.first_held identity.source_of identity.guti_on identity.octets_from identity.identity_of identity.is_mapped identity.guti_5g_from identity.best_guti mapping.amf_octets mapping.amf_of mapping.mapped_guti timers.timer2_rows timers.timer3_rows timers.span2_of timers.span3_of
rows-sent = (refl, refl, refl, refl)
