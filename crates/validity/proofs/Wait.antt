-- While T3346 runs no registration is under way on its access: 20 keeps a start and an update out, the row that starts T3346 leaves state 4, and no other event sets
-- the one or enters the other. T3346 out stops it, asks for a restart and changes nothing else. Assumes nothing.
use Prim.Native.Nat.{ℕ}
use mathlib.Core.Path.{◌≡◌, refl}
use mathlib.Core.Bool.{Bool, true, false, cond, false≢true}
use mathlib.Core.List.{List, [], ◌∷◌}
use lib.Dec.{ltb, eqb}
use lib.ListN.{length}
use Rattle.std.specs.Prelude.{Ok, Err, Some}
use Rattle.laws.specs.Bounds.{one_more}
use Rattle.entries.specs.declared.Seen.{Seen}
use Rattle.entries.specs.Entries.{marks_after, ranks_after, is_import, with_file, entries_after}
use Rattle.areas.specs.Areas.{list_after, count_after}
use Rattle.messages.specs.declared.Message.TheVariants as message
use Rattle.messages.specs.Message.{Reading, reading_of}
use Rattle.record.specs.declared.Access.{Access}
use Rattle.record.specs.declared.Answer.TheVariants.{Taken, Range}
use Rattle.record.specs.declared.Hot.{Hot}
use Rattle.record.specs.declared.Made.{Made}
use Rattle.record.specs.declared.Record.{Record}
use Rattle.record.specs.Answers.{is_taken}
use Rattle.record.specs.New.{new_access, empty_record, new_record, may_make, made_of}
use Rattle.record.specs.Setters.{in_state, with_status, with_attempts, forgotten, emptied, counted, pending, keyed, taught, with_entries}
use Rattle.record.specs.Sides.{access_of, other_of, hot_of}
use Rattle.record.specs.Tests.{either, flip}
use Rattle.ranges.specs.Valid.{valid_of}
use Rattle.turns.specs.declared.Draws.{Draws}
use Rattle.turns.specs.declared.Row.{Row}
use Rattle.turns.specs.declared.Row.TheVariants.{CardBelow, CardLimit, CardProtected, Away, Home, Area, N1, Congested, Protocol, Other}
use Rattle.turns.specs.Timers.{is_device_timer, flag_after, clocked}
use Rattle.turns.specs.Words.{Across, untouched, card_counter_to_limit, n1_counter_to_limit_if_protected, is_updating, state_after, orders_after, across_of, applied}
use Rattle.turns.specs.Rejects.{t3346_time, row_text}
use Rattle.turns.specs.Turns.{still, started, updated, key_set, accepted, start_failed, update_failed, failed, t3510_out, t3511_out, t3502_out, t3346_out, clock_turn, cycled, renewed, turned, row_turn, other_turned, other_turn}
use Rattle.checks.specs.Answers.{row_now}
use Rattle.effects.specs.Effects.{Effect, ticked, card_effect, start_effect, update_effect, key_effect, accept_effect, clock_effect, t3247_effect, t3512_effect, device_effect, timer_effect, power_effect, reject_effect, import_effect}
use Rattle.rules.specs.declared.Event.{Event}
use Rattle.rules.specs.declared.Event.TheVariants.{Card, Start, Message, Timer, Power, Key, Update, Import, Unknown}
use Rattle.rules.specs.Plan.{ask_of, access_in, answer_of, message_effect, effect_of, hot_after, taken_reply, taken_plan, deed_on, deed_of}
use Rattle.events.specs.Parts.{table_after, with_counts, done_of, carried_out, guti_after, equivalents_after, suci_after, kept_after}
use Rattle.events.specs.Step.{together, joined_of, advance_of, step_of}
use Rattle.validity.specs.Answered.{seen_at, listed_at, answered_by}
use Rattle.validity.specs.Run.{Heard, run_of}
use Rattle.validity.specs.Wait.{t3346_record, Waits, BothWait}
use Rattle.validity.proofs.Bools.{either_first, either_true}
use Rattle.validity.proofs.Refusal.{carry, effect_in, taken-plan, refused, step-taken}
use Rattle.validity.proofs.Taken.{start-passed, update-passed}
use Rattle.validity.proofs.Turns.{after}
use Rattle.validity.proofs.Runs.{ran}

-- T3346 out

t3346-is : (r : Record) (w : ℕ) (octets : List ℕ) → is_taken (answered_by r (Timer 6 w) octets) ≡ true
    → ((advance_of r (Timer 6 w) octets).next ≡ t3346_record r w) × ((advance_of r (Timer 6 w) octets).reply.restart ≡ Some w)
unfolding t3346_record ticked joined_of together carried_out done_of with_counts taken_plan taken_reply hot_after hot_of effect_of timer_effect is_device_timer clock_effect clock_turn t3346_out access_of other_of clocked flag_after access_in table_after deed_of deed_on entries_after with_file is_import ranks_after marks_after list_after count_after kept_after guti_after equivalents_after suci_after
t3346-is r w octets t = go (eqb w 0) refl (eqb w 1) refl
  where
    go : (b : Bool) → eqb w 0 ≡ b → (c : Bool) → eqb w 1 ≡ c
        → ((advance_of r (Timer 6 w) octets).next ≡ t3346_record r w) × ((advance_of r (Timer 6 w) octets).reply.restart ≡ Some w)
    go true q true q' = rw (taken-plan r (Timer 6 w) octets t, q, q') (refl, refl)
    go true q false q' = rw (taken-plan r (Timer 6 w) octets t, q, q') (refl, refl)
    go false q true q' = rw (taken-plan r (Timer 6 w) octets t, q, q') (refl, refl)
    go false q false q' = rw (taken-plan r (Timer 6 w) octets t, q, q') (refl, refl)

pub step-t3346 : (r : Record) (w : ℕ) (octets : List ℕ) → is_taken (step_of r (Timer 6 w) octets).reply.answer ≡ true
    → ((step_of r (Timer 6 w) octets).next ≡ t3346_record r w) × ((step_of r (Timer 6 w) octets).reply.restart ≡ Some w)
step-t3346 r w octets t =
    let v = step-taken r (Timer 6 w) octets t in
    rw v.0 (t3346-is r w octets v.1)

-- While it runs

-- out of state 4
away-from : (flag : ℕ) (b : Bool) (s s' : ℕ) → flip (eqb s 4) ≡ true → flip (eqb s' 4) ≡ true → either (eqb flag 0) (flip (eqb (cond b s s') 4)) ≡ true
away-from flag true s s' p q = rw p (either_true (eqb flag 0))
away-from flag false s s' p q = rw q (either_true (eqb flag 0))

failed-waits : (n : ℕ) (a : Access) → Waits (after (failed n a))
unfolding failed start_failed update_failed in_state with_status with_attempts forgotten emptied clocked flag_after
failed-waits n a = go (is_updating a) refl (ltb n 5) refl
  where
    go : (u : Bool) → is_updating a ≡ u → (b : Bool) → ltb n 5 ≡ b → Waits (after (failed n a))
    go true p true q = rw (p, q) (either_true (eqb a.t3346 0))
    go true p false q = rw (p, q) (either_true (eqb a.t3346 0))
    go false p true q = rw (p, q) (either_true (eqb a.t3346 0))
    go false p false q = rw (p, q) (either_true (eqb a.t3346 0))

row-waits : (row : Row) (w limit cause : ℕ) (found : Bool) (time : ℕ) (a : Access) → Waits (after (row_turn row w limit cause found time a))
unfolding row_turn turned row_text applied state_after orders_after clocked flag_after
row-waits CardBelow w limit cause found time a = either_true (eqb a.t3346 0)
row-waits CardLimit w limit cause found time a = either_true (eqb a.t3346 0)
row-waits CardProtected w limit cause found time a = either_true (eqb a.t3346 0)
row-waits Away w limit cause found time a = away-from a.t3346 (eqb w 0) 6 2 refl refl
row-waits Home w limit cause found time a = either_true (eqb a.t3346 0)
row-waits Area w limit cause found time a = either_true (eqb a.t3346 0)
row-waits N1 w limit cause found time a = either_true (eqb a.t3346 0)
row-waits Congested w limit cause found time a = away-from 1 (is_updating a) 5 3 refl refl
row-waits Protocol w limit cause found time a = failed-waits _ a
row-waits Other w limit cause found time a = failed-waits _ a

across-waits : (o : Across) (limit : ℕ) (a : Access) → Waits a → Waits (after (other_turned o limit a))
unfolding other_turned counted clocked flag_after
across-waits untouched limit a h = h
across-waits card_counter_to_limit limit a h = h
across-waits (n1_counter_to_limit_if_protected x) limit a h = h

-- the access that an event leaves alone
still-waits : (a : Access) → Waits a → Waits (after (still a))
unfolding clocked flag_after
still-waits a h = h

-- both accesses, after the effect of an event of access b
record Waited (x : Effect) : Type 0 where
  mine : Waits (after x.mine)
  theirs : Waits (after x.theirs)

module _ (r : Record) (s : BothWait r) where
  abbrev h : Hot
  h = r.hot

  pub own-waits : (b : ℕ) → Waits (access_of h b)
  unfolding access_of
  own-waits b = elim (eqb b 0) as (λ c. Waits (cond c h.a0 h.a1)) [ true ↦ s.0 | false ↦ s.1 ]

  other-waits : (b : ℕ) → Waits (other_of h b)
  unfolding other_of
  other-waits b = elim (eqb b 0) as (λ c. Waits (cond c h.a1 h.a0)) [ true ↦ s.1 | false ↦ s.0 ]

  message-waits : (b protected : ℕ) (draws : Draws) (m : Reading) (seen : Seen) → Waited (message_effect h b protected draws m seen)
  unfolding message_effect accept_effect reject_effect accepted taught in_state with_status with_attempts other_turn clocked flag_after
  message-waits b protected draws (Ok (message.Accept g)) seen = record { mine = either_true (eqb (access_of h b).t3346 0); theirs = still-waits (other_of h b) (other-waits b) }
  message-waits b protected draws (Ok (message.Reject k)) seen = record {
    mine = row-waits (row_now h b protected k) b h.dev.cardlimit k.cause seen.found (t3346_time protected k.t3346length draws.t3346) (access_of h b);
    theirs = across-waits (across_of (row_text (row_now h b protected k))) h.dev.cardlimit (other_of h b) (other-waits b);
  }
  message-waits b protected draws (Err m) seen = record { mine = still-waits (access_of h b) (own-waits b); theirs = still-waits (other_of h b) (other-waits b) }

  clock-waits : (number b : ℕ) → Waits (after (clock_turn number (access_of h b)))
  unfolding clock_turn t3510_out t3511_out t3502_out t3346_out with_attempts clocked flag_after
  clock-waits number b = go (eqb number 1) refl (eqb number 2) refl (eqb number 3) refl
    where
      go : (c : Bool) → eqb number 1 ≡ c → (d : Bool) → eqb number 2 ≡ d → (e : Bool) → eqb number 3 ≡ e → Waits (after (clock_turn number (access_of h b)))
      go true q d q' e q'' = rw q (failed-waits (one_more 5 (access_of h b).attempts) (access_of h b))
      go false q true q' e q'' = rw (q, q') (own-waits b)
      go false q false q' true q'' = rw (q, q', q'') (own-waits b)
      go false q false q' false q'' = rw (q, q', q'')

  timer-waits : (number b : ℕ) → Waited (timer_effect h number b)
  unfolding timer_effect device_effect t3247_effect t3512_effect clock_effect
  timer-waits number b = go (is_device_timer number) refl (eqb number 4) refl
    where
      go : (c : Bool) → is_device_timer number ≡ c → (d : Bool) → eqb number 4 ≡ d → Waited (timer_effect h number b)
      go true q true q' = rw (q, q') (record { mine = still-waits (access_of h b) (own-waits b); theirs = still-waits (other_of h b) (other-waits b) })
      go true q false q' = rw (q, q') (record { mine = still-waits (access_of h b) (own-waits b); theirs = still-waits (other_of h b) (other-waits b) })
      go false q d q' = rw q (record { mine = clock-waits number b; theirs = still-waits (other_of h b) (other-waits b) })

  event-waits : (e : Event) (octets : List ℕ) → is_taken (answered_by r e octets) ≡ true → Waited (effect_in r e octets)
  unfolding answered_by answer_of ask_of effect_of card_effect renewed new_access start_effect started update_effect updated pending in_state key_effect key_set keyed power_effect cycled import_effect with_entries with_attempts clocked flag_after is_taken
  event-waits (Card edition home) octets t = record { mine = refl; theirs = refl }
  event-waits (Start b manual net code) octets t =
      let p = start-passed h b manual net code (seen_at r (Start b manual net code) octets) (listed_at r (Start b manual net code)) t in
      record { mine = either_first (eqb (access_of h b).t3346 0) false p.5; theirs = still-waits (other_of h b) (other-waits b) }
  event-waits (Message b protected draws) octets t = message-waits b protected draws (reading_of octets) (seen_at r (Message b protected draws) octets)
  event-waits (Timer number b) octets t = timer-waits number b
  event-waits Power octets t = record { mine = refl; theirs = refl }
  event-waits (Key b set) octets t = record { mine = own-waits b; theirs = still-waits (other_of h b) (other-waits b) }
  event-waits (Update b regtype net code uplink sessions) octets t =
      let p = update-passed h b regtype net code uplink sessions (seen_at r (Update b regtype net code uplink sessions) octets) (listed_at r (Update b regtype net code uplink sessions)) t in
      record { mine = either_first (eqb (access_of h b).t3346 0) false p.7; theirs = still-waits (other_of h b) (other-waits b) }
  event-waits Import octets t = record { mine = s.0; theirs = still-waits h.a1 s.1 }
  event-waits Unknown octets t = absurd (false≢true t)

-- access 0 is the event's own or the other
plan-waits : (r : Record) (octets : List ℕ) (w : ℕ) (x : Effect) → Waited x → BothWait (carry r octets (taken_plan r.hot w x)).next
unfolding joined_of together carried_out done_of with_counts taken_plan hot_after hot_of
plan-waits r octets w x k = go (eqb w 0) refl
  where
    go : (b : Bool) → eqb w 0 ≡ b → BothWait (carry r octets (taken_plan r.hot w x)).next
    go true q = rw q (k.mine, k.theirs)
    go false q = rw q (k.theirs, k.mine)

pub wait-kept : (r : Record) (e : Event) (octets : List ℕ) → BothWait r → BothWait (step_of r e octets).next
unfolding step_of
wait-kept r e octets s = go (valid_of r) refl (is_taken (answered_by r e octets)) refl
  where
    go : (v : Bool) → valid_of r ≡ v → (b : Bool) → is_taken (answered_by r e octets) ≡ b → BothWait (step_of r e octets).next
    go true v true t = rw (v, taken-plan r e octets t) (plan-waits r octets (access_in e) (effect_in r e octets) (event-waits r s e octets t))
    go true v false t = rw (v, refused r e octets t) s
    go false v b t = rw v s

run-waits : (r : Record) (xs : List Heard) → BothWait r → BothWait (run_of r xs)
unfolding run_of
run-waits r [] s = s
run-waits r (x ∷ xs) s = run-waits (step_of r x.event x.octets).next xs (wait-kept r x.event x.octets s)

-- from any new record, after any events
pub t3346-waits : (cardlimit banlimit n1limit : ℕ) (capability security : List ℕ) (xs : List Heard) → BothWait (ran cardlimit banlimit n1limit capability security xs)
unfolding made_of new_record empty_record new_access
t3346-waits cardlimit banlimit n1limit capability security xs = run-waits (made_of cardlimit banlimit n1limit capability security).made xs made
  where
    made : BothWait (made_of cardlimit banlimit n1limit capability security).made
    made = elim (may_make cardlimit banlimit n1limit (length capability) (length security))
        as (λ b. BothWait (cond {A = Made} b (record { answer = Taken; made = new_record cardlimit banlimit n1limit capability security }) (record { answer = Range; made = new_record 1 1 1 (0 ∷ []) (0 ∷ 0 ∷ []) })).made) [
          | true ↦ (refl, refl)
          | false ↦ (refl, refl)
        ]
