-- A valid record is valid after each event: a refusal leaves it, and a taken event has passed the checks that its effect needs. Assumes nothing.
use Prim.Native.Nat.{ℕ}
use mathlib.Core.Path.{◌≡◌, refl}
use mathlib.Core.Bool.{Bool, true, false, cond, false≢true}
use mathlib.Core.List.{List}
use native.Mathlib.Omega.{arith}
use lib.Dec.{leb, eqb}
use borrow.Author.Tests.{eqb-true, le-leb, leb-true}
use Rattle.std.specs.Prelude.{Ok, Err}
use Rattle.messages.specs.declared.Message.TheVariants as message
use Rattle.messages.specs.Message.{Reading, reading_of}
use Rattle.record.specs.declared.Access.{Access}
use Rattle.record.specs.declared.Record.{Record}
use Rattle.record.specs.Answers.{is_taken}
use Rattle.record.specs.Tests.{either, flip, within, is_flag}
use Rattle.ranges.specs.Valid.{valid_of}
use Rattle.turns.specs.Timers.{is_device_timer, runs_on}
use Rattle.turns.specs.declared.Order.TheVariants.{Leave, Stop}
use Rattle.turns.specs.declared.Draws.{Draws}
use Rattle.turns.specs.Turns.{still, started, updated, key_set, clock_turn}
use Rattle.rules.specs.declared.Event.{Event}
use Rattle.rules.specs.declared.Event.TheVariants.{Card, Start, Message, Timer, Power, Key, Update, Import, Unknown}
use Rattle.record.specs.Sides.{access_of}
use Rattle.checks.specs.Answers.{row_now, read_answer, runs}
use Rattle.effects.specs.Effects.{start_effect, update_effect, key_effect, clock_effect, t3247_effect, t3512_effect, device_effect, timer_effect}
use Rattle.rules.specs.Plan.{ask_of, access_in, answer_of, message_effect, effect_of, taken_plan}
use Rattle.events.specs.Parts.{file_seen, seen_by, seen_of}
use Rattle.events.specs.Step.{advance_of, step_of}
use Rattle.record.proofs.Bounds.{most, least}
use Rattle.validity.specs.Sized.{Sized}
use Rattle.validity.specs.Answered.{seen_at, listed_at, answered_by}
use Rattle.validity.specs.Run.{Octets}
use Rattle.validity.proofs.Bools.{both_true, either_second, either_left}
use Rattle.validity.proofs.Good.{Good}
use Rattle.validity.proofs.Valid.{valid-good, good-valid}
use Rattle.validity.proofs.Turns.{after, Turned, still-turned, started-turned, updated-turned, key-turned, t3510-turned, t3511-turned, t3502-turned, t3346-turned}
use Rattle.validity.proofs.Messages.{Mild, reading-mild}
use Rattle.validity.proofs.Taken.{start-passed, update-passed, message-passed, reject-passed, timer-passed, key-passed, card-passed, import-passed}
use Rattle.validity.proofs.Refusal.{carry, effect_in, taken-plan, refused}
use Rattle.validity.proofs.Own.{access-fit, access-timely, access-carded, bare-good, same_good, plain-good, accept-good, pending_seen, reject-good}
use Rattle.validity.proofs.Imports.{import-good}
use Rattle.validity.proofs.Common.{t3247-good, power-good, card-good}

-- types 2 and 3 are types
from-two : (n : ℕ) → within 2 3 n ≡ true → within 1 3 n ≡ true
from-two n h = both_true (leb 1 n) (leb n 3) (le-leb 1 n (let l = least 2 3 n h in omega arith)) (le-leb n 3 (most 2 3 n h))

module _ (r : Record) (g : Good r) (z : Sized r) (octets : List ℕ) where
  -- state 4 has a card
  state-card : (w : ℕ) → eqb (access_of r.hot w).state 4 ≡ true → eqb r.hot.dev.card 1 ≡ true
  state-card w e =
      either_left (eqb r.hot.dev.card 1) (eqb (access_of r.hot w).state 0) (access-carded r g w) (rw (eqb-true (access_of r.hot w).state 4 e))

  -- a message, by its reading
  message-good : (w protected : ℕ) (draws : Draws) (m : Reading) → Mild m → Octets octets → is_flag w ≡ true → eqb r.hot.dev.card 1 ≡ true
      → is_taken (read_answer r.hot w protected m (pending_seen r octets w)) ≡ true
      → Good (carry r octets (taken_plan r.hot w (message_effect r.hot w protected draws m (pending_seen r octets w)))).next
  unfolding message_effect read_answer is_taken
  message-good w protected draws (Ok (message.Accept a)) mild o h c q =
      accept-good r g z octets w h a (pending_seen r octets w) mild.0 mild.1 mild.2 o c
  message-good w protected draws (Ok (message.Reject k)) mild o h c q =
      reject-good r g z octets protected draws k (row_now r.hot w protected k) c w h (reject-passed r.hot w protected k (pending_seen r octets w) q)
  message-good w protected draws (Err m) mild o h c q = absurd (false≢true q)

  -- T3511, T3502 and T3346 out, and T3510 out, which runs in state 4 only
  clock-good : (number w : ℕ) → is_flag w ≡ true → is_device_timer number ≡ false → eqb (runs r.hot number w) 0 ≡ false
      → Good (carry r octets (taken_plan r.hot w (clock_effect r.hot number w))).next
  unfolding clock_effect clock_turn runs runs_on
  clock-good number w h n q = plain-good r g z octets w h (clock_turn number a) (flip (eqb number 1)) (go (eqb number 1) refl (eqb number 2) refl (eqb number 3) refl)
    where
      card : ℕ
      card = r.hot.dev.card

      limit : ℕ
      limit = r.hot.dev.cardlimit

      a : Access
      a = access_of r.hot w

      running : eqb number 1 ≡ true → eqb a.t3510 0 ≡ false
      running e = rw (n, e) at q

      go : (b : Bool) → eqb number 1 ≡ b → (c : Bool) → eqb number 2 ≡ c → (d : Bool) → eqb number 3 ≡ d → Turned card limit a.equivalents a.entries (after (clock_turn number a))
      go true e c e' d e'' = rw e (t3510-turned card limit a (access-fit r g w) (state-card w (either_second (eqb a.t3510 0) (eqb a.state 4) (access-timely r g w) (running e))))
      go false e true e' d e'' = rw (e, e') (t3511-turned card limit a (access-fit r g w) (access-timely r g w) (access-carded r g w))
      go false e false e' true e'' = rw (e, e', e'') (t3502-turned card limit a (access-fit r g w) (access-timely r g w) (access-carded r g w))
      go false e false e' false e'' = rw (e, e', e'') (t3346-turned card limit a (access-fit r g w) (access-timely r g w) (access-carded r g w))

  -- T3247 out and T3512 out, which makes an update due
  device-good : (number : ℕ) → Good (carry r octets (taken_plan r.hot 0 (device_effect r.hot number 0))).next
  unfolding device_effect t3512_effect
  device-good number = elim (eqb number 4) as (λ b. Good (carry r octets (taken_plan r.hot 0 (cond b (t3247_effect r.hot 0) (t3512_effect r.hot 0)))).next) [
    | true ↦ t3247-good r g z octets
    | false ↦ bare-good r g z octets 0 refl r.hot.dev.t3512length 1 g.fair.t3512length refl (still (access_of r.hot 0)) Stop false
        (still-turned r.hot.dev.card r.hot.dev.cardlimit (access_of r.hot 0) (access-fit r g 0) (access-timely r g 0) (access-carded r g 0))
  ]

  timer-good : (number w : ℕ) → is_flag w ≡ true → either (flip (is_device_timer number)) (eqb w 0) ≡ true → eqb (runs r.hot number w) 0 ≡ false
      → Good (carry r octets (taken_plan r.hot w (timer_effect r.hot number w))).next
  unfolding timer_effect
  timer-good number w h p q = go (is_device_timer number) refl
    where
      go : (b : Bool) → is_device_timer number ≡ b → Good (carry r octets (taken_plan r.hot w (timer_effect r.hot number w))).next
      go true e =
          let f : w ≡ 0 = eqb-true w 0 (either_second (flip (is_device_timer number)) (eqb w 0) p (rw e)) in
          rw (e, f) (device-good number)
      go false e = rw e (clock-good number w h e q)

  taken-good : (e : Event) → Octets octets → is_taken (answered_by r e octets) ≡ true
      → Good (carry r octets (taken_plan r.hot (access_in e) (effect_in r e octets))).next
  unfolding answered_by answer_of ask_of access_in effect_of start_effect update_effect key_effect seen_of seen_by file_seen is_taken
  taken-good (Card edition home) o q =
      let p = card-passed edition home octets q in
      card-good r g z octets edition home p.0 p.1 p.2 p.3
  taken-good (Start w manual net code) o q =
      let p = start-passed r.hot w manual net code (seen_at r (Start w manual net code) octets) (listed_at r (Start w manual net code)) q in
      plain-good r g z octets w p.0 (started net code (access_of r.hot w)) false
      (started-turned r.hot.dev.card r.hot.dev.cardlimit (access_of r.hot w) (access-fit r g w)
      (either_left (eqb r.hot.dev.card 1) (eqb (access_of r.hot w).state 0) (access-carded r g w) p.3) net code p.1 p.2)
  taken-good (Message w protected draws) o q =
      let p = message-passed r.hot w protected draws (reading_of octets) (pending_seen r octets w) q in
      message-good w protected draws (reading_of octets) (reading-mild octets) o p.0 (state-card w p.1) p.2
  taken-good (Timer number w) o q =
      let p = timer-passed r.hot number w q in
      timer-good number w p.0 p.1 p.2
  taken-good Power o q = power-good r g z octets
  taken-good (Key w set) o q =
      let p = key-passed r.hot w set q in
      plain-good r g z octets w p.0 (key_set set (access_of r.hot w)) false
      (key-turned r.hot.dev.card r.hot.dev.cardlimit (access_of r.hot w) (access-fit r g w) (access-timely r g w) (access-carded r g w) set (le-leb set 7 (let l = leb-true set 6 p.1 in omega arith)))
  taken-good (Update w regtype net code uplink sessions) o q =
      let p = update-passed r.hot w regtype net code uplink sessions (seen_at r (Update w regtype net code uplink sessions) octets) (listed_at r (Update w regtype net code uplink sessions)) q in
      same_good r g z octets w p.0 (updated regtype net code uplink sessions (access_of r.hot w)) (cond (eqb w 0) Stop Leave) false
      (updated-turned r.hot.dev.card r.hot.dev.cardlimit (access_of r.hot w) (access-fit r g w)
      (either_left (eqb r.hot.dev.card 1) (eqb (access_of r.hot w).state 0) (access-carded r g w) (rw (eqb-true (access_of r.hot w).state 5 p.6)))
      regtype net code uplink sessions p.2 p.3 (from-two regtype p.1) p.4 p.5)
  taken-good Import o q =
      let p = import-passed (seen_at r Import octets) q in
      rw p.0 (import-good r g z octets p.0 (rw p.0 at p.1))
  taken-good Unknown o q = absurd (false≢true q)

advance-good : (r : Record) (e : Event) (octets : List ℕ) → Sized r → Octets octets → Good r → Good (advance_of r e octets).next
advance-good r e octets z o g = go (is_taken (answered_by r e octets)) refl
  where
    go : (b : Bool) → is_taken (answered_by r e octets) ≡ b → Good (advance_of r e octets).next
    go true q = rw (taken-plan r e octets q) (taken-good r g z octets e o q)
    go false q = rw (refused r e octets q) g

-- a valid record stays valid
pub valid-kept : (r : Record) (e : Event) (octets : List ℕ) → Sized r → Octets octets → valid_of r ≡ true → valid_of (advance_of r e octets).next ≡ true
valid-kept r e octets z o v = good-valid (advance_of r e octets).next (advance-good r e octets z o (valid-good r v))

-- on a valid record a step is an advance
pub step-advances : (r : Record) (e : Event) (octets : List ℕ) → valid_of r ≡ true → step_of r e octets ≡ advance_of r e octets
unfolding step_of
step-advances r e octets v = rw v

-- so a step keeps it valid too
pub step-valid : (r : Record) (e : Event) (octets : List ℕ) → Sized r → Octets octets → valid_of r ≡ true → valid_of (step_of r e octets).next ≡ true
step-valid r e octets z o v = rw (step-advances r e octets v) (valid-kept r e octets z o v)
