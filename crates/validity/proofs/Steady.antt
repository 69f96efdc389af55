-- T3512 runs only while access 0 is registered: an accept on it starts T3512 and leaves state 5, an update stops it, and every other event that leaves
-- state 5 stops it or comes from a state in which it is stopped. Assumes nothing.
use Prim.Native.Nat.{ℕ}
use mathlib.Core.Path.{◌≡◌, refl}
use mathlib.Core.Bool.{Bool, true, false, cond, false≢true}
use mathlib.Core.List.{List, [], ◌∷◌}
use lib.Dec.{eqb}
use borrow.Author.Tests.{eqb-true}
use Rattle.std.specs.Prelude.{Ok, Err}
use Rattle.entries.specs.declared.Seen.{Seen}
use Rattle.messages.specs.declared.Message.TheVariants as message
use Rattle.messages.specs.Message.{Reading, reading_of}
use Rattle.record.specs.declared.Access.{Access}
use Rattle.record.specs.declared.Hot.{Hot}
use Rattle.record.specs.declared.Record.{Record}
use Rattle.record.specs.Answers.{is_taken}
use Rattle.record.specs.New.{new_device, new_access, empty_record, new_record}
use Rattle.record.specs.Setters.{in_state, with_status, with_attempts, counted, pending, keyed, taught, with_entries}
use Rattle.record.specs.Sides.{access_of, other_of, hot_of}
use Rattle.record.specs.Tests.{either}
use Rattle.ranges.specs.Valid.{valid_of}
use Rattle.turns.specs.declared.Turn.{Turn}
use Rattle.turns.specs.declared.Draws.{Draws}
use Rattle.turns.specs.Timers.{is_device_timer, runs_on, flag_after, clocked}
use Rattle.turns.specs.Words.{Across, untouched, card_counter_to_limit, n1_counter_to_limit_if_protected, across_of}
use Rattle.turns.specs.Rejects.{row_text}
use Rattle.turns.specs.Turns.{started, updated, key_set, accepted, t3511_out, t3502_out, t3346_out, clock_turn, other_turned, other_turn}
use Rattle.checks.specs.Answers.{may_start, row_now, runs}
use Rattle.effects.specs.Effects.{Effect, ticked, card_effect, start_effect, update_effect, key_effect, t3512_time, accept_t3512, accept_effect, clock_effect, t3247_effect, t3512_effect, device_effect, timer_effect, power_effect, reject_effect, import_effect}
use Rattle.rules.specs.declared.Event.{Event}
use Rattle.rules.specs.declared.Event.TheVariants.{Card, Start, Message, Timer, Power, Key, Update, Import, Unknown}
use Rattle.rules.specs.Plan.{ask_of, access_in, answer_of, message_effect, effect_of, hot_after, taken_plan}
use Rattle.events.specs.Parts.{with_counts, done_of, carried_out}
use Rattle.events.specs.Step.{together, joined_of, step_of}
use Rattle.validity.specs.Answered.{seen_at, listed_at, answered_by}
use Rattle.validity.specs.Run.{Heard, run_of}
use Rattle.validity.specs.Update.{Steady}
use Rattle.validity.proofs.Bools.{either_second, either_left, either_first, either_true}
use Rattle.validity.proofs.Good.{Good}
use Rattle.validity.proofs.Valid.{valid-good}
use Rattle.validity.proofs.Taken.{start-passed, message-passed, timer-passed}
use Rattle.validity.proofs.Refusal.{carry, effect_in, taken-plan, refused}

-- access 0's turn, and what is so after an effect
abbrev first_turn : ℕ → Effect → Turn
first_turn w x = cond (eqb w 0) x.mine x.theirs

abbrev Leaves : Hot → ℕ → Effect → Type 0
Leaves h w x = either (eqb (flag_after x.t3512 h.dev.t3512) 0) (eqb (first_turn w x).access.state 5) ≡ true

plan-steady : (r : Record) (octets : List ℕ) (w : ℕ) (x : Effect) → Leaves r.hot w x → Steady (carry r octets (taken_plan r.hot w x)).next
unfolding joined_of together carried_out done_of with_counts taken_plan hot_after hot_of ticked clocked
plan-steady r octets w x k = go (eqb w 0) refl
  where
    go : (b : Bool) → eqb w 0 ≡ b → Steady (carry r octets (taken_plan r.hot w x)).next
    go true q = rw q (rw q at k)
    go false q = rw q (rw q at k)

not-registered : (state : ℕ) → may_start state ≡ true → eqb state 5 ≡ false
unfolding may_start
not-registered state m = go (eqb state 5) refl
  where
    go : (b : Bool) → eqb state 5 ≡ b → eqb state 5 ≡ false
    go true q = absurd (false≢true (rw (eqb-true state 5 q) at m))
    go false q = q

across-state : (o : Across) (limit : ℕ) (a : Access) → (other_turned o limit a).access.state ≡ a.state
unfolding other_turned counted
across-state untouched limit a = refl
across-state card_counter_to_limit limit a = refl
across-state (n1_counter_to_limit_if_protected x) limit a = refl

module _ (r : Record) (g : Good r) (s : Steady r) where
  abbrev h : Hot
  h = r.hot

  -- outside state 5 it is stopped, in state 4 too
  stopped : eqb h.a0.state 5 ≡ false → eqb h.dev.t3512 0 ≡ true
  stopped q = either_left (eqb h.dev.t3512 0) (eqb h.a0.state 5) s q

  in_four : eqb h.a0.state 4 ≡ true → eqb h.dev.t3512 0 ≡ true
  in_four q = stopped (rw (eqb-true h.a0.state 4 q))

  start-steady : (w net code : ℕ) → may_start (access_of h w).state ≡ true → Leaves h w (start_effect h w net code)
  unfolding start_effect started pending in_state flag_after access_of other_of
  start-steady w net code m = go (eqb w 0) refl
    where
      go : (b : Bool) → eqb w 0 ≡ b → Leaves h w (start_effect h w net code)
      go true q = rw q (either_first (eqb h.dev.t3512 0) false (stopped (not-registered h.a0.state (rw q at m))))
      go false q = rw q s

  update-steady : (w regtype net code uplink sessions : ℕ) → Leaves h w (update_effect h w regtype net code uplink sessions)
  unfolding update_effect updated flag_after other_of
  update-steady w regtype net code uplink sessions = go (eqb w 0) refl
    where
      go : (b : Bool) → eqb w 0 ≡ b → Leaves h w (update_effect h w regtype net code uplink sessions)
      go true q = rw q
      go false q = rw q s

  key-steady : (w set : ℕ) → Leaves h w (key_effect h w set)
  unfolding key_effect key_set keyed flag_after access_of other_of
  key-steady w set = go (eqb w 0) refl
    where
      go : (b : Bool) → eqb w 0 ≡ b → Leaves h w (key_effect h w set)
      go true q = rw q s
      go false q = rw q s

  message-steady : (w protected : ℕ) (draws : Draws) (m : Reading) (seen : Seen) → eqb (access_of h w).state 4 ≡ true → Leaves h w (message_effect h w protected draws m seen)
  unfolding message_effect accept_effect accept_t3512 accepted taught in_state with_status with_attempts reject_effect other_turn flag_after access_of other_of
  message-steady w protected draws m seen f = go (eqb w 0) refl m
    where
      go : (b : Bool) → eqb w 0 ≡ b → (m : Reading) → Leaves h w (message_effect h w protected draws m seen)
      go true q (Ok (message.Accept a)) = rw q (either_true (eqb (flag_after (accept_t3512 0 (t3512_time a h.dev)) h.dev.t3512) 0))
      go true q (Ok (message.Reject k)) = rw q (either_first (eqb h.dev.t3512 0) _ (in_four (rw q at f)))
      go true q (Err m) = rw q s
      go false q (Ok (message.Accept a)) = rw q s
      go false q (Ok (message.Reject k)) = rw (q, across-state (across_of (row_text (row_now h w protected k))) h.dev.cardlimit h.a0) s
      go false q (Err m) = rw q s

  clock-steady : (number w : ℕ) → is_device_timer number ≡ false → eqb (runs h number w) 0 ≡ false → Leaves h w (clock_effect h number w)
  unfolding clock_effect clock_turn runs runs_on t3511_out t3502_out t3346_out with_attempts flag_after access_of other_of
  clock-steady number w d f = go (eqb w 0) refl (eqb number 1) refl (eqb number 2) refl (eqb number 3) refl
    where
      running : eqb w 0 ≡ true → eqb number 1 ≡ true → eqb h.a0.state 4 ≡ true
      running q q' = either_second (eqb h.a0.t3510 0) (eqb h.a0.state 4) g.half0.timely (rw (d, q', q) at f)

      go : (b : Bool) → eqb w 0 ≡ b → (c : Bool) → eqb number 1 ≡ c → (e : Bool) → eqb number 2 ≡ e → (k : Bool) → eqb number 3 ≡ k → Leaves h w (clock_effect h number w)
      go true q true q' e q'' k x = rw (q, q') (either_first (eqb h.dev.t3512 0) _ (in_four (running q q')))
      go true q false q' true q'' k x = rw (q, q', q'') s
      go true q false q' false q'' true x = rw (q, q', q'', x) s
      go true q false q' false q'' false x = rw (q, q', q'', x) s
      go false q c q' e q'' k x = rw q s

  device-steady : (number w : ℕ) → Leaves h w (device_effect h number w)
  unfolding device_effect t3247_effect t3512_effect flag_after access_of other_of
  device-steady number w = go (eqb number 4) refl (eqb w 0) refl
    where
      go : (c : Bool) → eqb number 4 ≡ c → (b : Bool) → eqb w 0 ≡ b → Leaves h w (device_effect h number w)
      go true q' true q = rw (q, q') s
      go true q' false q = rw (q, q') s
      go false q' b q = rw q'

  timer-steady : (number w : ℕ) → eqb (runs h number w) 0 ≡ false → Leaves h w (timer_effect h number w)
  unfolding timer_effect
  timer-steady number w f = go (is_device_timer number) refl
    where
      go : (b : Bool) → is_device_timer number ≡ b → Leaves h w (timer_effect h number w)
      go true q = rw q (device-steady number w)
      go false q = rw q (clock-steady number w q f)

  event-steady : (e : Event) (octets : List ℕ) → is_taken (answered_by r e octets) ≡ true → Leaves h (access_in e) (effect_in r e octets)
  unfolding answered_by answer_of ask_of access_in effect_of card_effect power_effect import_effect with_entries flag_after is_taken
  event-steady (Card edition home) octets t = refl
  event-steady (Start w manual net code) octets t =
      start-steady w net code (start-passed h w manual net code (seen_at r (Start w manual net code) octets) (listed_at r (Start w manual net code)) t).4
  event-steady (Message w protected draws) octets t = message-steady w protected draws (reading_of octets) _ (message-passed h w protected draws (reading_of octets) _ t).1
  event-steady (Timer number w) octets t = timer-steady number w (timer-passed h number w t).2
  event-steady Power octets t = refl
  event-steady (Key w set) octets t = key-steady w set
  event-steady (Update w regtype net code uplink sessions) octets t = update-steady w regtype net code uplink sessions
  event-steady Import octets t = s
  event-steady Unknown octets t = absurd (false≢true t)

pub steady_kept : (r : Record) (e : Event) (octets : List ℕ) → Steady r → Steady (step_of r e octets).next
unfolding step_of
steady_kept r e octets s = go (valid_of r) refl (is_taken (answered_by r e octets)) refl
  where
    go : (v : Bool) → valid_of r ≡ v → (b : Bool) → is_taken (answered_by r e octets) ≡ b → Steady (step_of r e octets).next
    go true v true t = rw (v, taken-plan r e octets t) (plan-steady r octets (access_in e) (effect_in r e octets) (event-steady r (valid-good r v) s e octets t))
    go true v false t = rw (v, refused r e octets t) s
    go false v b t = rw v s

run-steady : (r : Record) (xs : List Heard) → Steady r → Steady (run_of r xs)
unfolding run_of
run-steady r [] s = s
run-steady r (x ∷ xs) s = run-steady (step_of r x.event x.octets).next xs (steady_kept r x.event x.octets s)

-- from any new record, after any events
pub t3512-registered : (cardlimit banlimit n1limit : ℕ) (capability security : List ℕ) (xs : List Heard) → Steady (run_of (new_record cardlimit banlimit n1limit capability security) xs)
unfolding new_record empty_record new_device new_access
t3512-registered cardlimit banlimit n1limit capability security xs = run-steady (new_record cardlimit banlimit n1limit capability security) xs refl
