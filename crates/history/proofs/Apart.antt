-- An event of one access changes nothing on the other but what `crosses` names: its effect turns the other access by no row but a protected 3, 6 or 7, has no deed for its
-- entries but after a protected 27, and keeps what it was given on its own. Assumes nothing.
use Prim.Native.Nat.{ℕ, ◌<◌}
use mathlib.Core.Path.{◌≡◌, refl, sym, ◌∙◌, ap}
use mathlib.Core.Bool.{Bool, true, false, cond, not, false≢true, ◌&&◌}
use mathlib.Core.List.{List}
use lib.Dec.{ltb, eqb}
use borrow.Author.Tests.{eqb-true}
use Rattle.std.specs.Prelude.{Ok, Err}
use Rattle.record.specs.Tests.{both, flip}
use Rattle.record.specs.Answers.{is_taken}
use Rattle.ranges.specs.Valid.{valid_of}
use Rattle.record.specs.declared.Access.{Access}
use Rattle.record.specs.declared.Record.{Record}
use Rattle.record.specs.Setters.{counted}
use Rattle.entries.specs.declared.Entries.{Entries}
use Rattle.entries.specs.declared.Deed.{Deed}
use Rattle.entries.specs.declared.Deed.TheVariants as deed
use Rattle.entries.specs.declared.Seen.{Seen}
use Rattle.entries.specs.Entries.{entries_after, n1_to_limit, marks_after, ranks_after, is_import, with_file}
use Rattle.messages.specs.declared.Message.TheVariants as message
use Rattle.messages.specs.Message.{Reading, reading_of}
use Rattle.turns.specs.declared.Row.TheVariants.{CardBelow, CardLimit, CardProtected, Away, Home, Area, N1, Congested, Protocol, Other}
use Rattle.turns.specs.declared.Turn.{Turn}
use Rattle.turns.specs.declared.Draws.{Draws}
use Rattle.turns.specs.Timers.{is_device_timer, flag_after, clocked}
use Rattle.turns.specs.Rejects.{is_card, is_network_no, is_area_no, is_n1_no, is_congested, is_protocol, row_of, row_text}
use Rattle.turns.specs.Words.{across_of}
use Rattle.turns.specs.Turns.{still, other_turned, other_turn}
use Rattle.effects.specs.declared.Keep.{Keep}
use Rattle.effects.specs.declared.Keep.TheVariants as keep
use Rattle.effects.specs.Effects.{Effect, start_effect, update_effect, key_effect, accept_effect, clock_effect, t3512_effect, device_effect, timer_effect, row_work, reject_effect, import_effect}
use Rattle.rules.specs.declared.Event.{Event}
use Rattle.rules.specs.declared.Event.TheVariants.{Card, Start, Message, Timer, Power, Key, Update, Import, Unknown}
use Rattle.record.specs.Sides.{access_of, other_of}
use Rattle.checks.specs.Answers.{row_now}
use Rattle.rules.specs.Plan.{access_in, message_effect, effect_of, refused_reply, taken_plan}
use Rattle.events.specs.Parts.{guti_after, equivalents_after}
use Rattle.events.specs.Step.{step_of}
use Rattle.events.specs.declared.Outcome.{Outcome}
use Rattle.validity.specs.Answered.{seen_at, answered_by}
use Rattle.validity.proofs.Bools.{flip-true}
use Rattle.validity.proofs.Refusal.{effect_in, taken-plan, refused, answer-told}
use Rattle.history.specs.Cell.{entries_in}
use Rattle.history.specs.Apart.{Half, half_of}
use Rattle.history.specs.Across.{is_own, Reach, untouched, card_counter_to_limit, n1_counter_to_limit, reach_of, crosses, half_after}
use Rattle.history.proofs.Next.{other-of, next, plan, carry-guti, carry-equivalents, taken-access, taken-entries}
use Rattle.history.proofs.Stays.{small}
use Rattle.history.proofs.Rows.{row-across}

-- the rows leave the other access's numbers, but for the protected one of 3, 6 and 7
across-rows : (b c d e x f bare at_home below : Bool) (limit : ℕ) (a : Access)
    → other_turn (cond b (cond bare (cond below CardBelow CardLimit) CardProtected)
    (cond c (cond at_home (cond bare Home Other) Away) (cond d Area (cond e N1 (cond x Congested (cond f Protocol Other)))))) limit a
    ≡ still (cond (both b (flip bare)) (counted limit a) a)
unfolding other_turn other_turned row_text across_of
across-rows true c d e x f true at_home true limit a = refl
across-rows true c d e x f true at_home false limit a = refl
across-rows true c d e x f false at_home below limit a = refl
across-rows false true d e x f true true below limit a = refl
across-rows false true d e x f false true below limit a = refl
across-rows false true d e x f bare false below limit a = refl
across-rows false false true e x f bare at_home below limit a = refl
across-rows false false false true x f bare at_home below limit a = refl
across-rows false false false false true f bare at_home below limit a = refl
across-rows false false false false false true bare at_home below limit a = refl
across-rows false false false false false false bare at_home below limit a = refl

still-is : (a : Access) → clocked (still a).orders (still a).access ≡ a
unfolding clocked flag_after
still-is a = refl

-- no card change: what is kept is kept on the event's own access
abbrev NoCard : Keep → Type 0
NoCard keep.Nothing = Unit {0}
NoCard (keep.Gift g) = Unit {0}
NoCard keep.Card = ⊥

guti-stays : (k : Keep) (octets guti : List ℕ) → NoCard k → guti_after k false octets guti ≡ guti
unfolding guti_after
guti-stays keep.Nothing octets guti c = refl
guti-stays (keep.Gift g) octets guti c = refl
guti-stays keep.Card octets guti c = absurd c

kept-networks : (k : Keep) (octets equivalents : List ℕ) → NoCard k → equivalents_after k false octets equivalents ≡ equivalents
unfolding equivalents_after
kept-networks keep.Nothing octets equivalents c = refl
kept-networks (keep.Gift g) octets equivalents c = refl
kept-networks keep.Card octets equivalents c = absurd c

halves : {a a' : Access} {t t' : Entries} {g g' e e' : List ℕ} → a ≡ a' → t ≡ t' → g ≡ g' → e ≡ e'
    → ◌≡◌ {A = Half} (record { numbers = a; entries = t; guti = g; equivalents = e }) (record { numbers = a'; entries = t'; guti = g'; equivalents = e' })
halves p q s t = cc

-- what reaches the other access's numbers, and its entries
abbrev numbers_by : Reach → ℕ → Access → Access
numbers_by untouched limit a = a
numbers_by card_counter_to_limit limit a = counted limit a
numbers_by n1_counter_to_limit limit a = a

abbrev deed_by : Reach → ℕ → Deed
deed_by untouched net = deed.Nothing
deed_by card_counter_to_limit net = deed.Nothing
deed_by n1_counter_to_limit net = deed.ToLimit net

-- by a reject, protected or not
abbrev reach_by : Bool → Bool → Bool → Reach
reach_by bare card is27 = cond bare untouched (cond card card_counter_to_limit (cond is27 n1_counter_to_limit untouched))

no-reach : (b : Bool) → cond b untouched untouched ≡ untouched
no-reach true = refl
no-reach false = refl

numbers-by : (bare card is27 : Bool) (limit : ℕ) (a : Access) → cond (both card (flip bare)) (counted limit a) a ≡ numbers_by (reach_by bare card is27) limit a
numbers-by true true is27 limit a = refl
numbers-by true false is27 limit a = refl
numbers-by false true is27 limit a = refl
numbers-by false false true limit a = refl
numbers-by false false false limit a = refl

deed-by : (bare is27 : Bool) (net : ℕ) → cond {A = Deed} (is27 && not bare) (deed.ToLimit net) deed.Nothing ≡ deed_by (reach_by bare false is27) net
deed-by true true net = refl
deed-by true false net = refl
deed-by false true net = refl
deed-by false false net = refl

-- 3, 6 and 7 are not 27
card-deed : (cause : ℕ) (bare : Bool) (net : ℕ) → cond {A = Deed} (eqb cause 27 && not bare) (deed.ToLimit net) deed.Nothing ≡ deed_by (reach_by bare (is_card cause) (eqb cause 27)) net
unfolding is_card
card-deed cause bare net = go (eqb cause 27) refl
  where
    idle : (bare card : Bool) → deed.Nothing ≡ deed_by (reach_by bare card false) net
    idle true card = refl
    idle false true = refl
    idle false false = refl

    go : (b : Bool) → eqb cause 27 ≡ b → cond {A = Deed} (eqb cause 27 && not bare) (deed.ToLimit net) deed.Nothing ≡ deed_by (reach_by bare (is_card cause) (eqb cause 27)) net
    go true q = rw (eqb-true cause 27 q) (deed-by bare true net)
    go false q = rw q (idle bare (is_card cause))

module _ (r : Record) where
  abbrev limit : ℕ
  limit = r.hot.dev.cardlimit

  -- an effect of access b's: what the other access turns to, the deed for its entries, no card
  record Own (b : ℕ) (c : Reach) (x : Effect) : Type 0 where
    theirs : x.theirs ≡ still (numbers_by c limit (other_of r.hot b))
    deed : x.work.theirs ≡ deed_by c (access_of r.hot b).net
    kept : NoCard x.work.keep

  message-own : (b protected : ℕ) (draws : Draws) (m : Reading) (s : Seen) → Own b (crosses (Message b protected draws) m) (message_effect r.hot b protected draws m s)
  unfolding crosses reach_of message_effect accept_effect reject_effect row_work row_now row_of is_card
  message-own b protected draws (Ok (message.Accept g)) s = rw (no-reach (eqb protected 0)) (record { theirs = refl; deed = refl; kept = tt })
  message-own b protected draws (Ok (message.Reject k)) s = record {
    theirs =
        across-rows (is_card k.cause) (is_network_no k.cause) (both (is_area_no k.cause) (eqb b 0)) (is_n1_no b k.cause) (is_congested k.cause (ltb 0 k.t3346length))
        (is_protocol k.cause) (eqb protected 0)
        (eqb (access_of r.hot b).net r.hot.dev.home) (ltb (access_of r.hot b).cardcounter limit) limit (other_of r.hot b)
        ∙ ap still (numbers-by (eqb protected 0) (is_card k.cause) (eqb k.cause 27) limit (other_of r.hot b));
    deed =
        ap (λ (s : Bool). cond {A = Deed} s (deed.ToLimit (access_of r.hot b).net) deed.Nothing)
        (row-across b protected (eqb protected 0) (eqb (access_of r.hot b).net r.hot.dev.home) (ltb (access_of r.hot b).cardcounter limit) (ltb 0 k.t3346length) k.cause)
        ∙ card-deed k.cause (eqb protected 0) (access_of r.hot b).net;
    kept = tt;
  }
  message-own b protected draws (Err m) s = rw (no-reach (eqb protected 0)) (record { theirs = refl; deed = refl; kept = tt })

  -- T3512 out changes numbers of the device alone, the timers of an access those of their own
  timer-own : (number b : ℕ) → eqb number 4 ≡ false → Own b untouched (timer_effect r.hot number b)
  unfolding timer_effect is_device_timer device_effect t3512_effect clock_effect
  timer-own number b q = go (eqb number 5) refl
    where
      go : (s : Bool) → eqb number 5 ≡ s → Own b untouched (timer_effect r.hot number b)
      go true q' = rw (q, q') (record { theirs = refl; deed = refl; kept = tt })
      go false q' = rw (q, q') (record { theirs = refl; deed = refl; kept = tt })

  event-own : (e : Event) (s : Seen) (octets : List ℕ) → is_own e ≡ true → Own (access_in e) (crosses e (reading_of octets)) (effect_of r.hot e s octets)
  unfolding is_own crosses access_in effect_of start_effect update_effect key_effect import_effect other_of
  event-own (Card edition home) s octets o = absurd (false≢true o)
  event-own (Start b manual net code) s octets o = record { theirs = refl; deed = refl; kept = tt }
  event-own (Message b protected draws) s octets o = message-own b protected draws (reading_of octets) s
  event-own (Timer number b) s octets o = timer-own number b (flip-true (eqb number 4) o)
  event-own Power s octets o = absurd (false≢true o)
  event-own (Key b set) s octets o = record { theirs = refl; deed = refl; kept = tt }
  event-own (Update b regtype net code uplink sessions) s octets o = record { theirs = refl; deed = refl; kept = tt }
  event-own Import s octets o = record { theirs = refl; deed = refl; kept = tt }
  event-own Unknown s octets o = absurd (false≢true o)

  module _ (e : Event) (octets : List ℕ) (w : ℕ) (hw : w < 2) (q : eqb (access_in e) w ≡ false) where
    abbrev crossed : Reach
    crossed = crosses e (reading_of octets)

    abbrev n1limit : ℕ
    n1limit = r.hot.dev.n1limit

    -- the pending network of the event's access
    abbrev net : ℕ
    net = (access_of r.hot (access_in e)).net

    module _ (o : is_own e ≡ true) (t : is_taken (answered_by r e octets) ≡ true) where
      effect-own : Own (access_in e) crossed (effect_in r e octets)
      effect-own = event-own e (seen_at r e octets) octets o

      numbers_after : access_of (next r e octets).hot w ≡ numbers_by crossed limit (access_of r.hot w)
      numbers_after =
          taken-access r e octets t (small r e octets t) w hw
          ∙ ap (λ (s : Bool). cond s (clocked (effect_in r e octets).mine.orders (effect_in r e octets).mine.access) (clocked (effect_in r e octets).theirs.orders (effect_in r e octets).theirs.access)) q
          ∙ ap (λ (u : Turn). clocked u.orders u.access) effect-own.theirs
          ∙ still-is (numbers_by crossed limit (other_of r.hot (access_in e)))
          ∙ ap (λ (a : Access). numbers_by crossed limit a) (other-of r.hot (access_in e) w (small r e octets t) hw q)

      entries-after : entries_in (next r e octets) w ≡ entries_after (deed_by crossed net) octets (access_of r.hot w).entries r.hot.dev.banlimit n1limit (entries_in r w)
      entries-after = taken-entries r e octets t w hw ∙ rw (q, effect-own.deed)

      guti-same : cond (eqb w 0) (next r e octets).guti0 (next r e octets).guti1 ≡ cond (eqb w 0) r.guti0 r.guti1
      unfolding taken_plan
      guti-same =
          ap (λ (x : Outcome). cond (eqb w 0) x.next.guti0 x.next.guti1) (taken-plan r e octets t) ∙ carry-guti r octets (plan r e octets) w hw
          ∙ rw (q, guti-stays (effect_in r e octets).work.keep octets (cond (eqb w 0) r.guti0 r.guti1) effect-own.kept)

      networks-same : cond (eqb w 0) (next r e octets).equivalents0 (next r e octets).equivalents1 ≡ cond (eqb w 0) r.equivalents0 r.equivalents1
      unfolding taken_plan
      networks-same =
          ap (λ (x : Outcome). cond (eqb w 0) x.next.equivalents0 x.next.equivalents1) (taken-plan r e octets t) ∙ carry-equivalents r octets (plan r e octets) w hw
          ∙ rw (q, kept-networks (effect_in r e octets).work.keep octets (cond (eqb w 0) r.equivalents0 r.equivalents1) effect-own.kept)

      half-after : (c : Reach) → half_after c limit n1limit net (half_of r w) ≡ record {
        numbers = numbers_by c limit (access_of r.hot w);
        entries = entries_after (deed_by c net) octets (access_of r.hot w).entries r.hot.dev.banlimit n1limit (entries_in r w);
        guti = cond (eqb w 0) r.guti0 r.guti1;
        equivalents = cond (eqb w 0) r.equivalents0 r.equivalents1;
      }
      unfolding half_of half_after n1_to_limit entries_after with_file is_import ranks_after marks_after
      half-after untouched = refl
      half-after card_counter_to_limit = refl
      half-after n1_counter_to_limit = refl

      pub taken-half : half_of (next r e octets) w ≡ half_after crossed limit n1limit net (half_of r w)
      unfolding half_of
      taken-half = halves numbers_after entries-after guti-same networks-same ∙ sym (half-after crossed)

    -- An event of one access, taken or refused, leaves the other access's whole record, but for its card counter after a taken protected 3, 6 or 7, and the N1 counter
    -- of the network, where it has an entry, after a taken protected 27.
    pub own-apart : is_own e ≡ true
        → half_of (step_of r e octets).next w ≡ half_after (cond (is_taken (step_of r e octets).reply.answer) crossed untouched) limit n1limit net (half_of r w)
    unfolding step_of refused_reply is_taken half_after
    own-apart o = go (valid_of r) refl (is_taken (answered_by r e octets)) refl
      where
        go : (s : Bool) → valid_of r ≡ s → (s' : Bool) → is_taken (answered_by r e octets) ≡ s'
            → half_of (step_of r e octets).next w ≡ half_after (cond (is_taken (step_of r e octets).reply.answer) crossed untouched) limit n1limit net (half_of r w)
        go true v true t = rw (v, answer-told r e octets, t) (taken-half o t)
        go true v false t = rw (v, answer-told r e octets, t) (ap (λ (x : Outcome). half_of x.next w) (refused r e octets t))
        go false v s' t = rw v

-- so an unprotected message leaves all of it
pub apart : (r : Record) (b : ℕ) (draws : Draws) (octets : List ℕ) (w : ℕ) → w < 2 → eqb b w ≡ false → half_of (step_of r (Message b 0 draws) octets).next w ≡ half_of r w
unfolding is_own crosses access_in half_after
apart r b draws octets w hw q =
    own-apart r (Message b 0 draws) octets w hw q refl
    ∙ ap (λ (c : Reach). half_after c r.hot.dev.cardlimit r.hot.dev.n1limit (access_of r.hot b).net (half_of r w)) (no-reach (is_taken (step_of r (Message b 0 draws) octets).reply.answer))
