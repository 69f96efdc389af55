-- What is told of each timer is so: no turn sets a timer but by its orders, and what is told is read off those. Assumes nothing.
use Prim.Native.Nat.{ℕ}
use mathlib.Core.Path.{◌≡◌, refl, sym}
use mathlib.Core.Bool.{Bool, true, false, cond}
use mathlib.Core.List.{List}
use lib.Dec.{ltb, eqb}
use borrow.Author.Tests.{eqb-true}
use Rattle.std.specs.Prelude.{Ok, Err}
use Rattle.laws.specs.Bounds.{one_more}
use Rattle.entries.specs.declared.Seen.{Seen}
use Rattle.messages.specs.declared.Message.TheVariants as message
use Rattle.messages.specs.Message.{Reading, reading_of}
use Rattle.record.specs.declared.Access.{Access}
use Rattle.record.specs.declared.Answer.{Answer}
use Rattle.record.specs.declared.Answer.TheVariants.{Range}
use Rattle.record.specs.declared.Hot.{Hot}
use Rattle.record.specs.declared.Record.{Record}
use Rattle.record.specs.Answers.{is_taken}
use Rattle.record.specs.Setters.{in_state, with_status, with_attempts, forgotten, emptied, counted, pending, keyed, taught, with_entries}
use Rattle.record.specs.Sides.{access_of, other_of, hot_of}
use Rattle.ranges.specs.Valid.{valid_of}
use Rattle.turns.specs.declared.Order.{Order}
use Rattle.turns.specs.declared.Order.TheVariants.{Leave, Stop, Run}
use Rattle.turns.specs.declared.Turn.{Turn}
use Rattle.turns.specs.declared.Draws.{Draws}
use Rattle.turns.specs.Timers.{is_device_timer, flag_after, clocked, told_of, clocks_of}
use Rattle.turns.specs.Words.{Text, says, as_t3510_out, Across, untouched, card_counter_to_limit, n1_counter_to_limit_if_protected, counter_after, is_updating, across_of, applied}
use Rattle.turns.specs.Rejects.{t3346_time, row_text}
use Rattle.turns.specs.Turns.{still, started, updated, key_set, accepted, start_failed, update_failed, failed, t3510_out, t3511_out, t3502_out, t3346_out, clock_turn, cycled, renewed, turned, row_turn, other_turned, other_turn}
use Rattle.checks.specs.Answers.{row_now}
use Rattle.effects.specs.Effects.{Effect, ticked, card_effect, start_effect, update_effect, key_effect, accept_effect, clock_effect, t3247_effect, t3512_effect, device_effect, timer_effect, power_effect, reject_effect, import_effect}
use Rattle.rules.specs.declared.Event.{Event}
use Rattle.rules.specs.declared.Event.TheVariants.{Card, Start, Message, Timer, Power, Key, Update, Import, Unknown}
use Rattle.rules.specs.Plan.{access_in, message_effect, effect_of, hot_after, taken_reply, refused_reply, taken_plan}
use Rattle.events.specs.Parts.{with_counts, done_of, carried_out}
use Rattle.events.specs.Step.{together, joined_of, step_of}
use Rattle.validity.specs.Answered.{seen_at, answered_by}
use Rattle.validity.specs.Reply.{Tells, TellsAll, TellsTrue}
use Rattle.validity.proofs.Refusal.{carry, effect_in, taken-plan, refused}
use Rattle.turns.specs.declared.Told.TheVariants.{Left, Stopped}

told-so : (o : Order) (flag : ℕ) → Tells (told_of o flag) flag (flag_after o flag)
unfolding told_of flag_after
told-so Leave flag = refl
told-so Stop flag = go (eqb flag 0) refl
  where
    go : (b : Bool) → eqb flag 0 ≡ b → Tells (cond b Left Stopped) flag 0
    go true q = sym (eqb-true flag 0 q)
    go false q = (q, refl)
told-so (Run s) flag = refl

-- a turn sets no timer of the access but by its orders
record Owns (t : Turn) (a : Access) : Type 0 where
  t3510 : flag_after t.orders.t3510 t.access.t3510 ≡ flag_after t.orders.t3510 a.t3510
  t3511 : flag_after t.orders.t3511 t.access.t3511 ≡ flag_after t.orders.t3511 a.t3511
  t3502 : flag_after t.orders.t3502 t.access.t3502 ≡ flag_after t.orders.t3502 a.t3502
  t3346 : flag_after t.orders.t3346 t.access.t3346 ≡ flag_after t.orders.t3346 a.t3346

sound : (t : Turn) (a : Access) → Owns t a → TellsAll (clocks_of t.orders a) a (clocked t.orders t.access)
unfolding clocks_of clocked
sound t a o = record {
  t3510 = rw o.t3510 (told-so t.orders.t3510 a.t3510);
  t3511 = rw o.t3511 (told-so t.orders.t3511 a.t3511);
  t3502 = rw o.t3502 (told-so t.orders.t3502 a.t3502);
  t3346 = rw o.t3346 (told-so t.orders.t3346 a.t3346);
}

failed-owns : (n : ℕ) (a : Access) → Owns (failed n a) a
unfolding failed start_failed update_failed in_state with_status with_attempts forgotten emptied
failed-owns n a = go (is_updating a) refl (ltb n 5) refl
  where
    go : (u : Bool) → is_updating a ≡ u → (b : Bool) → ltb n 5 ≡ b → Owns (failed n a) a
    go true p true q = rw (p, q) (record { t3510 = refl; t3511 = refl; t3502 = refl; t3346 = refl })
    go true p false q = rw (p, q) (record { t3510 = refl; t3511 = refl; t3502 = refl; t3346 = refl })
    go false p true q = rw (p, q) (record { t3510 = refl; t3511 = refl; t3502 = refl; t3346 = refl })
    go false p false q = rw (p, q) (record { t3510 = refl; t3511 = refl; t3502 = refl; t3346 = refl })

text-owns : (t : Text) (w limit cause : ℕ) (found : Bool) (time : ℕ) (a : Access) → Owns (turned t w limit cause found time a) a
unfolding turned applied
text-owns (says t) w limit cause found time a = record { t3510 = refl; t3511 = refl; t3502 = refl; t3346 = refl }
text-owns (as_t3510_out n) w limit cause found time a = failed-owns (counter_after n w cause 5 a.attempts) a

across-owns : (o : Across) (limit : ℕ) (a : Access) → Owns (other_turned o limit a) a
unfolding other_turned counted
across-owns untouched limit a = record { t3510 = refl; t3511 = refl; t3502 = refl; t3346 = refl }
across-owns card_counter_to_limit limit a = record { t3510 = refl; t3511 = refl; t3502 = refl; t3346 = refl }
across-owns (n1_counter_to_limit_if_protected x) limit a = record { t3510 = refl; t3511 = refl; t3502 = refl; t3346 = refl }

-- the same of both accesses, by the effect of an event of access b
record Owned (h : Hot) (b : ℕ) (x : Effect) : Type 0 where
  mine : Owns x.mine (access_of h b)
  theirs : Owns x.theirs (other_of h b)

still-owns : (a : Access) → Owns (still a) a
still-owns a = record { t3510 = refl; t3511 = refl; t3502 = refl; t3346 = refl }

clock-owns : (number : ℕ) (a : Access) → Owns (clock_turn number a) a
unfolding clock_turn t3510_out t3511_out t3502_out t3346_out with_attempts
clock-owns number a = go (eqb number 1) refl (eqb number 2) refl (eqb number 3) refl
  where
    go : (s : Bool) → eqb number 1 ≡ s → (s' : Bool) → eqb number 2 ≡ s' → (s'' : Bool) → eqb number 3 ≡ s'' → Owns (clock_turn number a) a
    go true q s' q' s'' q'' = rw q (failed-owns (one_more 5 a.attempts) a)
    go false q true q' s'' q'' = rw (q, q') (record { t3510 = refl; t3511 = refl; t3502 = refl; t3346 = refl })
    go false q false q' true q'' = rw (q, q', q'') (record { t3510 = refl; t3511 = refl; t3502 = refl; t3346 = refl })
    go false q false q' false q'' = rw (q, q', q'') (record { t3510 = refl; t3511 = refl; t3502 = refl; t3346 = refl })

timer-owned : (h : Hot) (number b : ℕ) → Owned h b (timer_effect h number b)
unfolding timer_effect device_effect t3247_effect t3512_effect clock_effect
timer-owned h number b = go (is_device_timer number) refl
  where
    device : Owned h b (device_effect h number b)
    device = elim (eqb number 4) as (λ x. Owned h b (cond x (t3247_effect h b) (t3512_effect h b))) [
      | true ↦ record { mine = still-owns (access_of h b); theirs = still-owns (other_of h b) }
      | false ↦ record { mine = still-owns (access_of h b); theirs = still-owns (other_of h b) }
    ]

    go : (s : Bool) → is_device_timer number ≡ s → Owned h b (timer_effect h number b)
    go true q = rw q device
    go false q = rw q (record { mine = clock-owns number (access_of h b); theirs = still-owns (other_of h b) })

message-owned : (h : Hot) (b protected : ℕ) (draws : Draws) (m : Reading) (s : Seen) → Owned h b (message_effect h b protected draws m s)
unfolding message_effect accept_effect reject_effect accepted taught in_state with_status with_attempts row_turn other_turn
message-owned h b protected draws (Ok (message.Accept g)) s = record { mine = record { t3510 = refl; t3511 = refl; t3502 = refl; t3346 = refl }; theirs = still-owns (other_of h b) }
message-owned h b protected draws (Ok (message.Reject g)) s = record {
  mine = text-owns (row_text (row_now h b protected g)) b h.dev.cardlimit g.cause s.found (t3346_time protected g.t3346length draws.t3346) (access_of h b);
  theirs = across-owns (across_of (row_text (row_now h b protected g))) h.dev.cardlimit (other_of h b);
}
message-owned h b protected draws (Err m) s = record { mine = still-owns (access_of h b); theirs = still-owns (other_of h b) }

-- a card change and a power cycle stop every timer
event-owned : (h : Hot) (e : Event) (s : Seen) (octets : List ℕ) → Owned h (access_in e) (effect_of h e s octets)
unfolding access_in effect_of card_effect renewed start_effect started update_effect updated pending in_state key_effect key_set keyed power_effect cycled import_effect with_entries access_of other_of flag_after
event-owned h (Card edition home) s octets = record { mine = record { t3510 = refl; t3511 = refl; t3502 = refl; t3346 = refl }; theirs = record { t3510 = refl; t3511 = refl; t3502 = refl; t3346 = refl } }
event-owned h (Start b manual net code) s octets = record { mine = record { t3510 = refl; t3511 = refl; t3502 = refl; t3346 = refl }; theirs = still-owns (other_of h b) }
event-owned h (Message b protected draws) s octets = message-owned h b protected draws (reading_of octets) s
event-owned h (Timer number b) s octets = timer-owned h number b
event-owned h Power s octets = record { mine = record { t3510 = refl; t3511 = refl; t3502 = refl; t3346 = refl }; theirs = record { t3510 = refl; t3511 = refl; t3502 = refl; t3346 = refl } }
event-owned h (Key b set) s octets = record { mine = record { t3510 = refl; t3511 = refl; t3502 = refl; t3346 = refl }; theirs = still-owns (other_of h b) }
event-owned h (Update b regtype net code uplink sessions) s octets = record { mine = record { t3510 = refl; t3511 = refl; t3502 = refl; t3346 = refl }; theirs = still-owns (other_of h b) }
event-owned h Import s octets = record { mine = record { t3510 = refl; t3511 = refl; t3502 = refl; t3346 = refl }; theirs = still-owns (other_of h 0) }
event-owned h Unknown s octets = record { mine = still-owns (access_of h 0); theirs = still-owns (other_of h 0) }

module _ (r : Record) (octets : List ℕ) where
  -- access 0 is the event's own or the other
  plan-told : (w : ℕ) (x : Effect) → Owned r.hot w x → (b : Bool) → eqb w 0 ≡ b
      → TellsTrue (carry r octets (taken_plan r.hot w x)).reply r (carry r octets (taken_plan r.hot w x)).next
  unfolding joined_of together carried_out done_of with_counts taken_plan taken_reply hot_after hot_of ticked access_of other_of
  plan-told w x f true q = rw q (record {
    a0 = sound x.mine r.hot.a0 (rw q at f.mine);
    a1 = sound x.theirs r.hot.a1 (rw q at f.theirs);
    t3247 = told-so x.t3247 r.hot.dev.t3247;
    t3512 = told-so x.t3512 r.hot.dev.t3512;
  })
  plan-told w x f false q = rw q (record {
    a0 = sound x.theirs r.hot.a0 (rw q at f.theirs);
    a1 = sound x.mine r.hot.a1 (rw q at f.mine);
    t3247 = told-so x.t3247 r.hot.dev.t3247;
    t3512 = told-so x.t3512 r.hot.dev.t3512;
  })

  refused-told : (n : Answer) (w : ℕ) → TellsTrue (refused_reply n w) r r
  unfolding refused_reply
  refused-told n w = record { a0 = record { t3510 = refl; t3511 = refl; t3502 = refl; t3346 = refl }; a1 = record { t3510 = refl; t3511 = refl; t3502 = refl; t3346 = refl }; t3247 = refl; t3512 = refl }

  -- of any event, taken or refused, on any record
  pub timers-told : (e : Event) → TellsTrue (step_of r e octets).reply r (step_of r e octets).next
  unfolding step_of
  timers-told e = go (valid_of r) refl (is_taken (answered_by r e octets)) refl
    where
      go : (s : Bool) → valid_of r ≡ s → (s' : Bool) → is_taken (answered_by r e octets) ≡ s' → TellsTrue (step_of r e octets).reply r (step_of r e octets).next
      go true v true t = rw (v, taken-plan r e octets t) (plan-told (access_in e) (effect_in r e octets) (event-owned r.hot e (seen_at r e octets) octets) (eqb (access_in e) 0) refl)
      go true v false t = rw (v, refused r e octets t) (refused-told (answered_by r e octets) (access_in e))
      go false v s' t = rw v (refused-told Range 0)
