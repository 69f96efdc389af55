-- The order of both accesses goes by the deed on the event's own: the other access has no reject, and a card change is one on both. Assumes nothing.
use Prim.Native.Nat.{ℕ}
use mathlib.Core.Path.{◌≡◌, refl, ◌∙◌}
use mathlib.Core.Bool.{Bool, true, false, cond}
use mathlib.Core.List.{List}
use lib.Dec.{eqb}
use lib.ListN.{replicate}
use Rattle.std.specs.Prelude.{Ok, Err}
use Rattle.entries.specs.declared.Deed.{Deed}
use Rattle.entries.specs.declared.Deed.TheVariants as deed
use Rattle.entries.specs.declared.Seat.{Seat}
use Rattle.entries.specs.declared.Seen.{Seen}
use Rattle.entries.specs.Entries.{seat_of, ranks_after}
use Rattle.messages.specs.Message.{Reading}
use Rattle.messages.specs.declared.Message.TheVariants as message
use Rattle.messages.specs.Message.{reading_of}
use Rattle.record.specs.declared.Hot.{Hot}
use Rattle.record.specs.Answers.{is_taken}
use Rattle.record.specs.Sides.{access_of}
use Rattle.turns.specs.declared.Draws.{Draws}
use Rattle.turns.specs.Timers.{is_device_timer}
use Rattle.turns.specs.Words.{Mark, no_mark, forbidden_and_counted, n1_not_allowed_and_counted, mark_in}
use Rattle.turns.specs.Rejects.{row_text, across_n1}
use Rattle.checks.specs.Answers.{row_now}
use Rattle.effects.specs.Effects.{Effect, card_effect, start_effect, update_effect, key_effect, accept_effect, clock_effect, t3247_effect, t3512_effect, device_effect, timer_effect, power_effect, mark_deed, row_deed, row_work, reject_effect, import_effect}
use Rattle.rules.specs.declared.Event.{Event}
use Rattle.rules.specs.declared.Event.TheVariants.{Card, Start, Message, Timer, Power, Key, Update, Import, Unknown}
use Rattle.rules.specs.Plan.{access_in, answer_of, message_effect, effect_of, taken_plan, refused_plan, decided_by, plan_of, deed_on, deed_of}
use Rattle.events.specs.Parts.{order_on}

-- what the deed on the event's own access leaves of the other's order
abbrev aside : Deed → List ℕ → List ℕ
aside deed.Nothing ranks = ranks
aside (deed.Ban s) ranks = ranks
aside (deed.Bar s) ranks = ranks
aside (deed.Accept s) ranks = ranks
aside (deed.ToLimit net) ranks = ranks
aside deed.Import ranks = ranks
aside deed.Sweep ranks = ranks
aside deed.Power ranks = ranks
aside deed.Fresh ranks = replicate 16 0

-- this access's or the other's
order-by : (w me : ℕ) (b : Bool) → eqb w me ≡ b → (k : Deed) (count : ℕ) (ranks : List ℕ) → order_on w k me count ranks ≡ cond b (ranks_after k count ranks) (aside k ranks)
unfolding order_on ranks_after
order-by w me true q deed.Nothing count ranks = refl
order-by w me true q (deed.Ban s) count ranks = rw q
order-by w me true q (deed.Bar s) count ranks = rw q
order-by w me true q (deed.Accept s) count ranks = refl
order-by w me true q (deed.ToLimit net) count ranks = refl
order-by w me true q deed.Import count ranks = refl
order-by w me true q deed.Sweep count ranks = refl
order-by w me true q deed.Power count ranks = refl
order-by w me true q deed.Fresh count ranks = refl
order-by w me false q deed.Nothing count ranks = refl
order-by w me false q (deed.Ban s) count ranks = rw q
order-by w me false q (deed.Bar s) count ranks = rw q
order-by w me false q (deed.Accept s) count ranks = refl
order-by w me false q (deed.ToLimit net) count ranks = refl
order-by w me false q deed.Import count ranks = refl
order-by w me false q deed.Sweep count ranks = refl
order-by w me false q deed.Power count ranks = refl
order-by w me false q deed.Fresh count ranks = refl

-- two deeds that go together
abbrev Beside : Deed → Deed → Type 0
Beside mine theirs = (count : ℕ) (ranks : List ℕ) → aside mine ranks ≡ ranks_after theirs count ranks

abbrev Paired : Effect → Type 0
Paired x = Beside x.work.mine x.work.theirs

mark-beside : (m : Mark) (s : Seat) (b : Bool) (net : ℕ) → Beside (mark_deed m s) (cond {A = Deed} b (deed.ToLimit net) deed.Nothing)
unfolding mark_deed ranks_after
mark-beside no_mark s true net count ranks = refl
mark-beside no_mark s false net count ranks = refl
mark-beside forbidden_and_counted s true net count ranks = refl
mark-beside forbidden_and_counted s false net count ranks = refl
mark-beside n1_not_allowed_and_counted s true net count ranks = refl
mark-beside n1_not_allowed_and_counted s false net count ranks = refl

module _ (h : Hot) where
  message-paired : (w protected : ℕ) (draws : Draws) (m : Reading) (s : Seen) → Paired (message_effect h w protected draws m s)
  unfolding ranks_after message_effect accept_effect reject_effect row_work row_deed
  message-paired w protected draws (Ok (message.Accept g)) s count ranks = refl
  message-paired w protected draws (Ok (message.Reject g)) s count ranks =
      mark-beside (mark_in (row_text (row_now h w protected g))) (seat_of s (access_of h w).net protected) (across_n1 w protected g.cause (row_now h w protected g)) (access_of h w).net count ranks
  message-paired w protected draws (Err m) s count ranks = refl

  timer-paired : (number w : ℕ) → Paired (timer_effect h number w)
  unfolding ranks_after timer_effect device_effect t3247_effect t3512_effect clock_effect
  timer-paired number w count ranks = go (is_device_timer number) refl (eqb number 4) refl
    where
      go : (b : Bool) → is_device_timer number ≡ b → (b' : Bool) → eqb number 4 ≡ b'
          → aside (timer_effect h number w).work.mine ranks ≡ ranks_after (timer_effect h number w).work.theirs count ranks
      go true q true q' = rw (q, q')
      go true q false q' = rw (q, q')
      go false q b' q' = rw q

  event-paired : (e : Event) (s : Seen) (octets : List ℕ) → Paired (effect_of h e s octets)
  unfolding ranks_after effect_of card_effect start_effect update_effect key_effect power_effect import_effect
  event-paired (Card edition home) s octets count ranks = refl
  event-paired (Start w manual net code) s octets count ranks = refl
  event-paired (Message w protected draws) s octets count ranks = message-paired w protected draws (reading_of octets) s count ranks
  event-paired (Timer number w) s octets count ranks = timer-paired number w count ranks
  event-paired Power s octets count ranks = refl
  event-paired (Key w set) s octets count ranks = refl
  event-paired (Update w regtype net code uplink sessions) s octets count ranks = refl
  event-paired Import s octets count ranks = refl
  event-paired Unknown s octets count ranks = refl

  either : (w me : ℕ) (mine theirs : Deed) → Beside mine theirs → (count : ℕ) (ranks : List ℕ) → order_on w mine me count ranks ≡ ranks_after (deed_on w mine theirs me) count ranks
  unfolding deed_on
  either w me mine theirs p count ranks = go (eqb w me) refl
    where
      go : (b : Bool) → eqb w me ≡ b → order_on w mine me count ranks ≡ ranks_after (cond (eqb w me) mine theirs) count ranks
      go true q = rw q (order-by w me true q mine count ranks)
      go false q = rw q (order-by w me false q mine count ranks ∙ p count ranks)

  pub order_is : (e : Event) (s : Seen) (listed : Bool) (octets : List ℕ) (me count : ℕ) (ranks : List ℕ)
      → order_on (plan_of h e s listed octets).access (plan_of h e s listed octets).work.mine me count ranks ≡ ranks_after (deed_of (plan_of h e s listed octets) me) count ranks
  unfolding plan_of decided_by deed_of taken_plan refused_plan ranks_after
  order_is e s listed octets me count ranks = go (is_taken (answer_of h e s listed octets)) refl
    where
      go : (b : Bool) → is_taken (answer_of h e s listed octets) ≡ b
          → order_on (plan_of h e s listed octets).access (plan_of h e s listed octets).work.mine me count ranks ≡ ranks_after (deed_of (plan_of h e s listed octets) me) count ranks
      go true q = rw q (either (access_in e) me _ _ (event-paired e s octets) count ranks)
      go false q = rw q (either (access_in e) me deed.Nothing deed.Nothing (λ c r. refl) count ranks)
