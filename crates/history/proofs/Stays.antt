-- What a taken event leaves alone: the device's numbers but for T3512's, and the pending networks; and how many entries it leaves, by its deeds. Assumes nothing.
use Prim.Native.Nat.{ℕ, zero, suc, ◌<◌}
use mathlib.Core.Path.{◌≡◌, refl, ◌∙◌, ap}
use mathlib.Core.Bool.{Bool, true, false, cond}
use mathlib.Core.List.{List}
use native.Mathlib.Omega.{arith}
use lib.Dec.{ltb, eqb}
use borrow.Author.Tests.{leb-true, eqb-true}
use Rattle.std.specs.Prelude.{Ok, Err}
use Rattle.laws.specs.Bounds.{one_more}
use Rattle.record.specs.Tests.{is_flag}
use Rattle.record.specs.Answers.{is_taken}
use Rattle.record.specs.New.{new_access}
use Rattle.record.specs.declared.Access.{Access}
use Rattle.record.specs.declared.Device.{Device}
use Rattle.record.specs.declared.Hot.{Hot}
use Rattle.record.specs.declared.Record.{Record}
use Rattle.record.specs.Setters.{in_state, with_status, with_attempts, forgotten, emptied, counted, pending, keyed, taught, with_entries}
use Rattle.record.specs.Sides.{access_of, other_of}
use Rattle.entries.specs.declared.Seen.{Seen}
use Rattle.entries.specs.declared.Seat.{Seat}
use Rattle.entries.specs.declared.Deed.{Deed}
use Rattle.entries.specs.declared.Deed.TheVariants as deed
use Rattle.entries.specs.Entries.{found_in, seen_in, seat_of, grown, held_with}
use Rattle.messages.specs.declared.Message.TheVariants as message
use Rattle.messages.specs.Message.{Reading, reading_of}
use Rattle.turns.specs.Timers.{is_device_timer}
use Rattle.turns.specs.Words.{is_updating, Text, says, as_t3510_out, Mark, no_mark, forbidden_and_counted, n1_not_allowed_and_counted, Across, untouched, card_counter_to_limit, n1_counter_to_limit_if_protected, counter_after, is_mark, mark_in, across_of, applied}
use Rattle.turns.specs.declared.Draws.{Draws}
use Rattle.turns.specs.Rejects.{t3346_time, row_text, across_n1}
use Rattle.turns.specs.Turns.{started, updated, key_set, renewed, start_failed, update_failed, failed, t3510_out, t3511_out, t3502_out, t3346_out, clock_turn, turned, row_turn, other_turned, other_turn}
use Rattle.turns.specs.Turns as turns
use Rattle.checks.specs.Answers.{row_now}
use Rattle.effects.specs.Effects.{Effect, scheduled, card_effect, start_effect, update_effect, key_effect, t3512_time, accept_device, accept_effect, clock_effect, t3247_effect, t3512_effect, device_effect, timer_effect, power_effect, mark_deed, row_deed, row_work, reject_effect, import_effect}
use Rattle.rules.specs.declared.Event.{Event}
use Rattle.rules.specs.declared.Event.TheVariants.{Card, Start, Message, Timer, Power, Key, Update, Import, Unknown}
use Rattle.rules.specs.Plan.{ask_of, access_in, answer_of, message_effect, effect_of}
use Rattle.events.specs.Parts.{sight_of, file_seen, seen_by, seen_of}
use Rattle.validity.specs.Answered.{seen_at, answered_by}
use Rattle.validity.proofs.Refusal.{effect_in}
use Rattle.validity.proofs.Own.{seat_in}
use Rattle.validity.proofs.Taken.{start-passed, message-passed, timer-passed, key-passed, update-passed, import-passed}
use Rattle.history.specs.Cell.{entries_in}
use Rattle.history.proofs.Deeds.{count_by}
use Rattle.history.proofs.Next.{other-of}

flag_small : (w : ℕ) → is_flag w ≡ true → w < 2
flag_small w h = omega (arith, leb-true w 1 h)

-- the entries that access 0 holds with an import's
abbrev pub filed_in : Record → List ℕ → ℕ
filed_in r octets = held_with r.hot.a0.entries octets r.e0.nets

-- the access of a taken event is 0 or 1
pub small : (r : Record) (e : Event) (octets : List ℕ) → is_taken (answered_by r e octets) ≡ true → access_in e < 2
unfolding access_in answered_by answer_of
small r (Card edition home) octets t = omega arith
small r (Start w manual net code) octets t = flag_small w (start-passed r.hot w manual net code _ _ t).0
small r (Message w protected draws) octets t = flag_small w (message-passed r.hot w protected draws _ _ t).0
small r (Timer number w) octets t = flag_small w (timer-passed r.hot number w t).0
small r Power octets t = omega arith
small r (Key w set) octets t = flag_small w (key-passed r.hot w set t).0
small r (Update w regtype net code uplink sessions) octets t = flag_small w (update-passed r.hot w regtype net code uplink sessions _ _ t).0
small r Import octets t = omega arith
small r Unknown octets t = omega arith

-- both accesses' numbers, read from the event's own and the other
pub both-kept : (h : Hot) (f : Access → ℕ) (b w : ℕ) → b < 2 → w < 2 → cond (eqb b w) (f (access_of h b)) (f (other_of h b)) ≡ f (access_of h w)
both-kept h f b w hb hw = go (eqb b w) refl
  where
    go : (s : Bool) → eqb b w ≡ s → cond (eqb b w) (f (access_of h b)) (f (other_of h b)) ≡ f (access_of h w)
    go true q = rw q (ap (λ (z : ℕ). f (access_of h z)) (eqb-true b w q))
    go false q = rw q (ap f (other-of h b w hb hw q))

-- the pending network and the count of entries that a turn leaves
abbrev Left : ℕ → ℕ → Access → Type 0
Left net entries a = (a.net ≡ net) × (a.entries ≡ entries)

failed-left : (n : ℕ) (a : Access) → Left a.net a.entries (failed n a).access
unfolding failed start_failed update_failed in_state with_status with_attempts forgotten emptied
failed-left n a = go (is_updating a) refl (ltb n 5) refl
  where
    go : (u : Bool) → is_updating a ≡ u → (b : Bool) → ltb n 5 ≡ b → Left a.net a.entries (failed n a).access
    go true p true q = rw (p, q) (refl, refl)
    go true p false q = rw (p, q) (refl, refl)
    go false p true q = rw (p, q) (refl, refl)
    go false p false q = rw (p, q) (refl, refl)

text-left : (t : Text) (w limit cause : ℕ) (found : Bool) (time : ℕ) (a : Access) → Left a.net (cond (is_mark (mark_in t)) (grown found a.entries) a.entries) (turned t w limit cause found time a).access
unfolding turned applied mark_in is_mark
text-left (says t) w limit cause found time a = (refl, refl)
text-left (as_t3510_out n) w limit cause found time a = failed-left (counter_after n w cause 5 a.attempts) a

across-left : (o : Across) (limit : ℕ) (a : Access) → Left a.net a.entries (other_turned o limit a).access
unfolding other_turned counted
across-left untouched limit a = (refl, refl)
across-left card_counter_to_limit limit a = (refl, refl)
across-left (n1_counter_to_limit_if_protected x) limit a = (refl, refl)

across-count : (s : Bool) (net filed count : ℕ) → count ≡ count_by (cond {A = Deed} s (deed.ToLimit net) deed.Nothing) filed count
across-count true net filed count = refl
across-count false net filed count = refl

mark-count : (m : Mark) (s : Seat) (filed count : ℕ) → cond (is_mark m) (grown s.found count) count ≡ count_by (mark_deed m s) filed count
unfolding mark_deed is_mark
mark-count no_mark s filed count = refl
mark-count forbidden_and_counted s filed count = refl
mark-count n1_not_allowed_and_counted s filed count = refl

-- a number of the device that is neither T3512's time nor whether an update is due
abbrev pub Untimed : Device → (Device → ℕ) → Type 0
Untimed d f = (time due : ℕ) → f (scheduled time due d) ≡ f d

-- an effect that leaves the device's numbers, but for those two, and the pending networks
pub record Keeps (h : Hot) (b : ℕ) (e : Effect) : Type 0 where
  pub dev : (f : Device → ℕ) → Untimed h.dev f → f e.dev ≡ f h.dev
  pub net : e.mine.access.net ≡ (access_of h b).net
  pub others : e.theirs.access.net ≡ (other_of h b).net

-- how many entries each access has after an effect: as many as its deed leaves; filed is how many with an import's
pub record Counts (filed : ℕ) (h : Hot) (b : ℕ) (e : Effect) : Type 0 where
  pub mine : e.mine.access.entries ≡ count_by e.work.mine filed (access_of h b).entries
  pub theirs : e.theirs.access.entries ≡ count_by e.work.theirs filed (other_of h b).entries

module _ (r : Record) where
  abbrev h : Hot
  h = r.hot

  -- T3510 out, T3511 out, T3502 out, T3346 out
  clock-left : (number : ℕ) (a : Access) → Left a.net a.entries (clock_turn number a).access
  unfolding clock_turn t3510_out t3511_out t3502_out t3346_out with_attempts
  clock-left number a = go (eqb number 1) refl (eqb number 2) refl (eqb number 3) refl
    where
      go : (s : Bool) → eqb number 1 ≡ s → (s' : Bool) → eqb number 2 ≡ s' → (s'' : Bool) → eqb number 3 ≡ s'' → Left a.net a.entries (clock_turn number a).access
      go true q s' q' s'' q'' = rw q (failed-left (one_more 5 a.attempts) a)
      go false q true q' s'' q'' = rw (q, q') (refl, refl)
      go false q false q' true q'' = rw (q, q', q'') (refl, refl)
      go false q false q' false q'' = rw (q, q', q'') (refl, refl)

  clock-stays : (filed number b : ℕ) → Keeps h b (clock_effect h number b) × Counts filed h b (clock_effect h number b)
  unfolding clock_effect
  clock-stays filed number b =
      let l = clock-left number (access_of h b) in
      (record { dev = λ f k. refl; net = l.0; others = refl }, record { mine = l.1; theirs = refl })

  -- T3247 out, T3512 out
  device-stays : (filed number b : ℕ) → Keeps h b (device_effect h number b) × Counts filed h b (device_effect h number b)
  unfolding device_effect t3247_effect t3512_effect
  device-stays filed number b = go (eqb number 4) refl
    where
      go : (s : Bool) → eqb number 4 ≡ s → Keeps h b (device_effect h number b) × Counts filed h b (device_effect h number b)
      go true q = rw q (record { dev = λ f k. refl; net = refl; others = refl }, record { mine = refl; theirs = refl })
      go false q = rw q (record { dev = λ f k. k h.dev.t3512length 1; net = refl; others = refl }, record { mine = refl; theirs = refl })

  timer-stays : (filed number b : ℕ) → Keeps h b (timer_effect h number b) × Counts filed h b (timer_effect h number b)
  unfolding timer_effect
  timer-stays filed number b = go (is_device_timer number) refl
    where
      go : (s : Bool) → is_device_timer number ≡ s → Keeps h b (timer_effect h number b) × Counts filed h b (timer_effect h number b)
      go true q = rw q (device-stays filed number b)
      go false q = rw q (clock-stays filed number b)

  pub timer-keeps : (number b : ℕ) → Keeps h b (timer_effect h number b)
  timer-keeps number b = (timer-stays 0 number b).0

  accept-keeps : (b time : ℕ) (f : Device → ℕ) → Untimed h.dev f → f (accept_device b time h.dev) ≡ f h.dev
  unfolding accept_device
  accept-keeps b time f k = elim (eqb b 0) as (λ s. f (cond s (scheduled time 0 h.dev) h.dev) ≡ f h.dev) [ true ↦ k time 0 | false ↦ refl ]

  pub message-keeps : (b protected : ℕ) (draws : Draws) (m : Reading) (s : Seen) → Keeps h b (message_effect h b protected draws m s)
  unfolding message_effect accept_effect reject_effect turns.accepted taught in_state with_status with_attempts row_turn other_turn
  message-keeps b protected draws (Ok (message.Accept g)) s = record { dev = accept-keeps b (t3512_time g h.dev); net = refl; others = refl }
  message-keeps b protected draws (Ok (message.Reject k)) s = record {
    dev = λ f k. refl;
    net = (text-left (row_text (row_now h b protected k)) b h.dev.cardlimit k.cause s.found (t3346_time protected k.t3346length draws.t3346) (access_of h b)).0;
    others = (across-left (across_of (row_text (row_now h b protected k))) h.dev.cardlimit (other_of h b)).0;
  }
  message-keeps b protected draws (Err m) s = record { dev = λ f' k. refl; net = refl; others = refl }

  -- what is seen of the pending network is its seat on the message's access
  pub seen-seat : (octets : List ℕ) (b protected : ℕ) (draws : Draws) → b < 2 → (p : ℕ)
      → seat_of (seen_at r (Message b protected draws) octets) (access_of h b).net p ≡ seat_in (access_of h b).entries (access_of h b).net p (entries_in r b)
  unfolding ask_of seen_of seen_by sight_of seen_in found_in access_of entries_in
  seen-seat octets zero protected draws hb p = refl
  seen-seat octets (suc zero) protected draws hb p = refl
  seen-seat octets (suc (suc b)) protected draws hb p = absurd (omega arith)

  message-counts : (filed : ℕ) (octets : List ℕ) (b protected : ℕ) (draws : Draws) (m : Reading) → Counts filed h b (message_effect h b protected draws m (seen_at r (Message b protected draws) octets))
  unfolding message_effect accept_effect reject_effect turns.accepted taught in_state with_status with_attempts row_turn other_turn row_work row_deed
  message-counts filed octets b protected draws (Ok (message.Accept g)) = record { mine = refl; theirs = refl }
  message-counts filed octets b protected draws (Ok (message.Reject k)) = record {
    mine =
        (text-left (row_text (row_now h b protected k)) b h.dev.cardlimit k.cause (seen_at r (Message b protected draws) octets).found (t3346_time protected k.t3346length draws.t3346) (access_of h b)).1
        ∙ mark-count (mark_in (row_text (row_now h b protected k))) (seat_of (seen_at r (Message b protected draws) octets) (access_of h b).net protected) filed (access_of h b).entries;
    theirs =
        (across-left (across_of (row_text (row_now h b protected k))) h.dev.cardlimit (other_of h b)).1
        ∙ across-count (across_n1 b protected k.cause (row_now h b protected k)) (access_of h b).net filed (other_of h b).entries;
  }
  message-counts filed octets b protected draws (Err m) = record { mine = refl; theirs = refl }

  pub event-counts : (e : Event) (octets : List ℕ) → is_taken (answered_by r e octets) ≡ true → Counts (filed_in r octets) h (access_in e) (effect_in r e octets)
  unfolding answered_by answer_of access_in effect_of card_effect renewed new_access start_effect started update_effect updated pending in_state key_effect key_set keyed power_effect turns.cycled import_effect with_entries ask_of seen_of seen_by file_seen with_attempts access_of other_of
  event-counts (Card edition home) octets t = record { mine = refl; theirs = refl }
  event-counts (Start b manual net code) octets t = record { mine = refl; theirs = refl }
  event-counts (Message b protected draws) octets t = message-counts (filed_in r octets) octets b protected draws (reading_of octets)
  event-counts (Timer number b) octets t = (timer-stays (filed_in r octets) number b).1
  event-counts Power octets t = record { mine = refl; theirs = refl }
  event-counts (Key b set) octets t = record { mine = refl; theirs = refl }
  event-counts (Update b regtype net code uplink sessions) octets t = record { mine = refl; theirs = refl }
  event-counts Import octets t = record { mine = rw (import-passed (seen_at r Import octets) t).0; theirs = refl }
  event-counts Unknown octets t = record { mine = refl; theirs = refl }
