-- What is told of a taken reject is what its row's text orders: the text alone decides the orders, and the other access gets none. Assumes nothing.
use Prim.Native.Nat.{ℕ, zero, suc}
use mathlib.Core.Path.{◌≡◌, refl}
use mathlib.Core.Bool.{Bool, true, false}
use mathlib.Core.List.{List}
use lib.Dec.{ltb}
use Rattle.std.specs.Prelude.{Ok}
use Rattle.messages.specs.declared.Reject.{Reject}
use Rattle.messages.specs.declared.Message.TheVariants as message
use Rattle.messages.specs.Message.{reading_of}
use Rattle.record.specs.declared.Access.{Access}
use Rattle.record.specs.declared.Record.{Record}
use Rattle.record.specs.Answers.{is_taken}
use Rattle.record.specs.Sides.{access_of, other_of}
use Rattle.record.specs.Tests.{is_flag}
use Rattle.turns.specs.declared.Draws.{Draws}
use Rattle.turns.specs.Timers.{told_of, clocks_of}
use Rattle.turns.specs.Words.{Text, says, as_t3510_out, Across, untouched, card_counter_to_limit, n1_counter_to_limit_if_protected, counter_after, is_updating, across_of}
use Rattle.turns.specs.Rejects.{t3346_time, row_text}
use Rattle.turns.specs.Turns.{start_failed, update_failed, failed, turned, row_turn, other_turned, other_turn}
use Rattle.checks.specs.Answers.{row_now}
use Rattle.effects.specs.Effects.{reject_effect}
use Rattle.rules.specs.declared.Event.TheVariants.{Message}
use Rattle.rules.specs.declared.Plan.{Plan}
use Rattle.rules.specs.Plan.{access_in, answer_of, message_effect, effect_of, ask_of, taken_reply, all_left, taken_plan}
use Rattle.events.specs.Parts.{done_of, carried_out}
use Rattle.events.specs.Step.{together, joined_of, advance_of, step_of}
use Rattle.validity.specs.Answered.{answered_by}
use Rattle.validity.specs.Reply.{orders_by, reject_reply}
use Rattle.validity.proofs.Refusal.{carry, taken-plan, step-taken}
use Rattle.validity.proofs.Taken.{message-passed}
use Rattle.validity.proofs.Own.{no_third, pending_seen}

turned-orders : (t : Text) (w limit cause : ℕ) (found : Bool) (time : ℕ) (a : Access) → (turned t w limit cause found time a).orders ≡ orders_by t w cause time a
unfolding turned orders_by failed start_failed update_failed
turned-orders (says t) w limit cause found time a = refl
turned-orders (as_t3510_out n) w limit cause found time a = go (is_updating a) refl (ltb (counter_after n w cause 5 a.attempts) 5) refl
  where
    go : (u : Bool) → is_updating a ≡ u → (b : Bool) → ltb (counter_after n w cause 5 a.attempts) 5 ≡ b → (turned (as_t3510_out n) w limit cause found time a).orders ≡ orders_by (as_t3510_out n) w cause time a
    go true p true q = rw (p, q)
    go true p false q = rw (p, q)
    go false p true q = rw (p, q)
    go false p false q = rw (p, q)

across-told : (o : Across) (limit : ℕ) (a b : Access) → clocks_of (other_turned o limit a).orders b ≡ all_left
unfolding other_turned clocks_of told_of
across-told untouched limit a b = refl
across-told card_counter_to_limit limit a b = refl
across-told (n1_counter_to_limit_if_protected x) limit a b = refl

module _ (r : Record) (protected : ℕ) (draws : Draws) (g : Reject) (octets : List ℕ) where
  abbrev reject_plan : ℕ → Plan
  reject_plan w = taken_plan r.hot w (reject_effect r.hot w protected draws (pending_seen r octets w) g (row_now r.hot w protected g))

  abbrev text : ℕ → Text
  text w = row_text (row_now r.hot w protected g)

  abbrev time : ℕ
  time = t3346_time protected g.t3346length draws.t3346

  reply-told : (w : ℕ) → is_flag w ≡ true → (carry r octets (reject_plan w)).reply ≡ reject_reply r w protected draws g
  unfolding joined_of together carried_out done_of taken_plan taken_reply told_of reject_effect row_turn other_turn access_of other_of reject_reply
  reply-told zero h = rw (turned-orders (text 0) 0 r.hot.dev.cardlimit g.cause (pending_seen r octets 0).found time r.hot.a0, across-told (across_of (text 0)) r.hot.dev.cardlimit r.hot.a1 r.hot.a1)
  reply-told (suc zero) h = rw (turned-orders (text 1) 1 r.hot.dev.cardlimit g.cause (pending_seen r octets 1).found time r.hot.a1, across-told (across_of (text 1)) r.hot.dev.cardlimit r.hot.a0 r.hot.a0)
  reply-told (suc (suc w)) h = absurd (no_third w h)

  -- a message that was read as a reject, and taken
  pub reject-reply : (w : ℕ) → reading_of octets ≡ Ok (message.Reject g) → is_taken (answered_by r (Message w protected draws) octets) ≡ true
      → (advance_of r (Message w protected draws) octets).reply ≡ reject_reply r w protected draws g
  unfolding effect_of message_effect ask_of access_in answered_by answer_of
  reject-reply w read taken =
      rw (taken-plan r (Message w protected draws) octets taken, read)
      (reply-told w (message-passed r.hot w protected draws (reading_of octets) (pending_seen r octets w) taken).0)

  -- the same of a step, which tests the record first
  pub step-reject-reply : (w : ℕ) → reading_of octets ≡ Ok (message.Reject g) → is_taken (step_of r (Message w protected draws) octets).reply.answer ≡ true
      → (step_of r (Message w protected draws) octets).reply ≡ reject_reply r w protected draws g
  step-reject-reply w read taken =
      let v = step-taken r (Message w protected draws) octets taken in
      rw v.0 (reject-reply w read v.1)
