-- An import is access 0's: whatever is planned, the deed for access 1 is none. Assumes nothing.
use Prim.Native.Nat.{ℕ}
use mathlib.Core.Path.{◌≡◌, refl}
use mathlib.Core.Bool.{Bool, true, false, cond}
use mathlib.Core.List.{List}
use lib.Dec.{eqb}
use Rattle.std.specs.Prelude.{Ok, Err}
use Rattle.entries.specs.declared.Deed.{Deed}
use Rattle.entries.specs.declared.Deed.TheVariants as deed
use Rattle.entries.specs.declared.Seat.{Seat}
use Rattle.entries.specs.declared.Seen.{Seen}
use Rattle.entries.specs.Entries.{seat_of, is_import}
use Rattle.messages.specs.Message.{Reading}
use Rattle.messages.specs.declared.Message.TheVariants as message
use Rattle.messages.specs.Message.{reading_of}
use Rattle.record.specs.declared.Hot.{Hot}
use Rattle.record.specs.Answers.{is_taken}
use Rattle.record.specs.Sides.{access_of}
use Rattle.turns.specs.declared.Draws.{Draws}
use Rattle.turns.specs.Timers.{is_device_timer}
use Rattle.turns.specs.Words.{Mark, no_mark, forbidden_and_counted, n1_not_allowed_and_counted, mark_in}
use Rattle.turns.specs.Rejects.{row_text, across_n1}
use Rattle.checks.specs.Answers.{row_now}
use Rattle.effects.specs.Effects.{Effect, card_effect, start_effect, update_effect, key_effect, accept_effect, clock_effect, t3247_effect, t3512_effect, device_effect, timer_effect, power_effect, mark_deed, row_deed, row_work, reject_effect, import_effect}
use Rattle.rules.specs.declared.Event.{Event}
use Rattle.rules.specs.declared.Event.TheVariants.{Card, Start, Message, Timer, Power, Key, Update, Import, Unknown}
use Rattle.rules.specs.Plan.{access_in, answer_of, message_effect, effect_of, taken_plan, refused_plan, decided_by, plan_of, deed_on, deed_of}

-- two deeds that are none, whichever it is
either : (b : Bool) (x y : Deed) → is_import x ≡ false → is_import y ≡ false → is_import (cond b x y) ≡ false
either true x y e f = e
either false x y e f = f

mark-none : (m : Mark) (s : Seat) → is_import (mark_deed m s) ≡ false
unfolding is_import mark_deed
mark-none no_mark s = refl
mark-none forbidden_and_counted s = refl
mark-none n1_not_allowed_and_counted s = refl

-- both deeds of an effect
abbrev None : Effect → Type 0
None x = (is_import x.work.mine ≡ false) × (is_import x.work.theirs ≡ false)

module _ (h : Hot) where
  message-none : (w protected : ℕ) (draws : Draws) (m : Reading) (s : Seen) → None (message_effect h w protected draws m s)
  unfolding is_import message_effect accept_effect reject_effect row_work row_deed
  message-none w protected draws (Ok (message.Accept g)) s = (refl, refl)
  message-none w protected draws (Ok (message.Reject g)) s = (
    mark-none (mark_in (row_text (row_now h w protected g))) (seat_of s (access_of h w).net protected),
    either (across_n1 w protected g.cause (row_now h w protected g)) (deed.ToLimit (access_of h w).net) deed.Nothing refl refl,
  )
  message-none w protected draws (Err m) s = (refl, refl)

  timer-none : (number w : ℕ) → None (timer_effect h number w)
  unfolding is_import timer_effect device_effect t3247_effect t3512_effect clock_effect
  timer-none number w = go (is_device_timer number) refl (eqb number 4) refl
    where
      go : (b : Bool) → is_device_timer number ≡ b → (b' : Bool) → eqb number 4 ≡ b' → None (timer_effect h number w)
      go true q true q' = rw (q, q') (refl, refl)
      go true q false q' = rw (q, q') (refl, refl)
      go false q b' q' = rw q (refl, refl)

  on-second : (w : ℕ) (x : Effect) → None x → is_import (deed_on w x.work.mine x.work.theirs 1) ≡ false
  unfolding deed_on
  on-second w x n = either (eqb w 1) x.work.mine x.work.theirs n.0 n.1

  event-second : (e : Event) (s : Seen) (octets : List ℕ) → is_import (deed_on (access_in e) (effect_of h e s octets).work.mine (effect_of h e s octets).work.theirs 1) ≡ false
  unfolding is_import deed_on access_in effect_of card_effect start_effect update_effect key_effect power_effect import_effect
  event-second (Card edition home) s octets = refl
  event-second (Start w manual net code) s octets = either (eqb w 1) deed.Nothing deed.Nothing refl refl
  event-second (Message w protected draws) s octets = on-second w (message_effect h w protected draws (reading_of octets) s) (message-none w protected draws (reading_of octets) s)
  event-second (Timer number w) s octets = on-second w (timer_effect h number w) (timer-none number w)
  event-second Power s octets = refl
  event-second (Key w set) s octets = either (eqb w 1) deed.Nothing deed.Nothing refl refl
  event-second (Update w regtype net code uplink sessions) s octets = either (eqb w 1) deed.Nothing deed.Nothing refl refl
  event-second Import s octets = refl
  event-second Unknown s octets = refl

  pub never-second : (e : Event) (s : Seen) (listed : Bool) (octets : List ℕ) → is_import (deed_of (plan_of h e s listed octets) 1) ≡ false
  unfolding plan_of decided_by deed_of taken_plan refused_plan is_import deed_on
  never-second e s listed octets = go (is_taken (answer_of h e s listed octets)) refl
    where
      go : (b : Bool) → is_taken (answer_of h e s listed octets) ≡ b → is_import (deed_of (plan_of h e s listed octets) 1) ≡ false
      go true q = rw q (event-second e s octets)
      go false q = rw q (either (eqb (access_in e) 1) deed.Nothing deed.Nothing refl refl)
