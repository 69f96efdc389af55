-- The record after a taken event, in the parts that a cell is read from: by the event's effect. Assumes nothing.
use Prim.Native.Nat.{ℕ, zero, suc, ◌<◌}
use mathlib.Core.Path.{◌≡◌, refl, ◌∙◌, ap}
use mathlib.Core.Bool.{Bool, true, false, cond, true≢false}
use mathlib.Core.List.{List}
use native.Mathlib.Omega.{arith}
use lib.Dec.{eqb}
use Rattle.record.specs.Answers.{is_taken}
use Rattle.record.specs.declared.Access.{Access}
use Rattle.record.specs.declared.Device.{Device}
use Rattle.record.specs.declared.Hot.{Hot}
use Rattle.record.specs.declared.Record.{Record}
use Rattle.entries.specs.declared.Deed.{Deed}
use Rattle.entries.specs.Entries.{entries_after}
use Rattle.turns.specs.declared.Orders.{Orders}
use Rattle.turns.specs.Timers.{clocked}
use Rattle.rules.specs.declared.Event.{Event}
use Rattle.rules.specs.declared.Plan.{Plan}
use Rattle.record.specs.Sides.{access_of, other_of, hot_of}
use Rattle.effects.specs.Effects.{ticked}
use Rattle.rules.specs.Plan.{access_in, hot_after, taken_plan, deed_on, deed_of}
use Rattle.events.specs.declared.Outcome.{Outcome}
use Rattle.events.specs.Parts.{table_after, with_counts, done_of, carried_out, guti_after, equivalents_after, kept_after}
use Rattle.events.specs.Step.{together, joined_of, advance_of}
use Rattle.validity.specs.Answered.{answered_by}
use Rattle.validity.proofs.Refusal.{carry, effect_in, taken-plan}
use Rattle.history.specs.Cell.{entries_in}
use Rattle.history.specs.Tale.{Limits}

-- access w of two
access_of_lem : (d : Device) (b : ℕ) (mine theirs : Access) (w : ℕ) → b < 2 → w < 2 → access_of (hot_of d b mine theirs) w ≡ cond (eqb b w) mine theirs
unfolding access_of hot_of
access_of_lem d zero mine theirs zero hb hw = refl
access_of_lem d zero mine theirs (suc zero) hb hw = refl
access_of_lem d (suc zero) mine theirs zero hb hw = refl
access_of_lem d (suc zero) mine theirs (suc zero) hb hw = refl
access_of_lem d zero mine theirs (suc (suc w)) hb hw = absurd (omega arith)
access_of_lem d (suc zero) mine theirs (suc (suc w)) hb hw = absurd (omega arith)
access_of_lem d (suc (suc b)) mine theirs w hb hw = absurd (omega arith)

-- the other one of two
pub other-of : (h : Hot) (b w : ℕ) → b < 2 → w < 2 → eqb b w ≡ false → other_of h b ≡ access_of h w
unfolding access_of other_of
other-of h zero zero hb hw q = absurd (true≢false q)
other-of h zero (suc zero) hb hw q = refl
other-of h (suc zero) zero hb hw q = refl
other-of h (suc zero) (suc zero) hb hw q = absurd (true≢false q)
other-of h zero (suc (suc w)) hb hw q = absurd (omega arith)
other-of h (suc zero) (suc (suc w)) hb hw q = absurd (omega arith)
other-of h (suc (suc b)) w hb hw q = absurd (omega arith)

dev-of : (d : Device) (b : ℕ) (mine theirs : Access) → (hot_of d b mine theirs).dev ≡ d
unfolding hot_of
dev-of d b mine theirs =
    elim (eqb b 0) as (λ s. (cond {A = Hot} s (record { dev = d; a0 = mine; a1 = theirs }) (record { dev = d; a0 = theirs; a1 = mine })).dev ≡ d) [
      | true ↦ refl
      | false ↦ refl
    ]

-- a number of an access that its timers do not touch
number_of : (f : Access → ℕ) → ((o : Orders) (a : Access) → f (clocked o a) ≡ f a) → (b : Bool) (o o' : Orders) (x y : Access)
    → f (cond b (clocked o x) (clocked o' y)) ≡ cond b (f x) (f y)
number_of f k true o o' x y = k o x
number_of f k false o o' x y = k o' y

-- A plan carried out.
module _ (r : Record) (octets : List ℕ) (p : Plan) where
  abbrev after : Record
  after = (carry r octets p).next

  carry-access : (w : ℕ) → access_of after.hot w ≡ access_of p.hot w
  unfolding access_of joined_of together carried_out done_of with_counts
  carry-access w = refl

  carry-entries : (w : ℕ) → w < 2 → entries_in after w ≡ table_after p octets w (access_of r.hot w).entries r.hot (entries_in r w)
  unfolding entries_in access_of joined_of together carried_out
  carry-entries zero h = refl
  carry-entries (suc zero) h = refl
  carry-entries (suc (suc w)) h = absurd (omega arith)

  pub carry-guti : (w : ℕ) → w < 2 → cond (eqb w 0) after.guti0 after.guti1 ≡ guti_after p.work.keep (eqb p.access w) octets (cond (eqb w 0) r.guti0 r.guti1)
  unfolding joined_of together carried_out done_of kept_after
  carry-guti zero h = refl
  carry-guti (suc zero) h = refl
  carry-guti (suc (suc w)) h = absurd (omega arith)

  pub carry-equivalents : (w : ℕ) → w < 2
      → cond (eqb w 0) after.equivalents0 after.equivalents1 ≡ equivalents_after p.work.keep (eqb p.access w) octets (cond (eqb w 0) r.equivalents0 r.equivalents1)
  unfolding joined_of together carried_out done_of kept_after
  carry-equivalents zero h = refl
  carry-equivalents (suc zero) h = refl
  carry-equivalents (suc (suc w)) h = absurd (omega arith)

module _ (r : Record) (e : Event) (octets : List ℕ) where
  abbrev pub next : Record
  next = (advance_of r e octets).next

  -- the plan of the event if it is taken
  abbrev pub plan : Plan
  plan = taken_plan r.hot (access_in e) (effect_in r e octets)

  -- what is done on the entries of access w
  abbrev pub deed_in : ℕ → Deed
  deed_in w = cond (eqb (access_in e) w) (effect_in r e octets).work.mine (effect_in r e octets).work.theirs

  module _ (t : is_taken (answered_by r e octets) ≡ true) where
    -- a number of the device that is neither a timer's nor a count of an area list
    pub taken-device : (f : Device → ℕ) → ((t3247 t3512 : ℕ) (d : Device) → f (ticked t3247 t3512 d) ≡ f d) → ((m n : ℕ) (h : Hot) → f (with_counts m n h).dev ≡ f h.dev)
        → f next.hot.dev ≡ f (effect_in r e octets).dev
    unfolding joined_of together carried_out done_of taken_plan hot_after
    taken-device f k m =
        ap (λ (o : Outcome). f o.next.hot.dev) (taken-plan r e octets t) ∙ m _ _ plan.hot ∙ ap f (dev-of _ (access_in e) _ _) ∙ k _ _ (effect_in r e octets).dev

    pub taken-entries : (w : ℕ) → w < 2
        → entries_in next w ≡ entries_after (deed_in w) octets (access_of r.hot w).entries r.hot.dev.banlimit r.hot.dev.n1limit (entries_in r w)
    unfolding table_after taken_plan deed_of deed_on
    taken-entries w hw = ap (λ (o : Outcome). entries_in o.next w) (taken-plan r e octets t) ∙ carry-entries r octets plan w hw

    module _ (hb : access_in e < 2) (w : ℕ) (hw : w < 2) where
      pub taken-access : access_of next.hot w
          ≡ cond (eqb (access_in e) w) (clocked (effect_in r e octets).mine.orders (effect_in r e octets).mine.access)
          (clocked (effect_in r e octets).theirs.orders (effect_in r e octets).theirs.access)
      unfolding taken_plan hot_after
      taken-access =
          ap (λ (o : Outcome). access_of o.next.hot w) (taken-plan r e octets t) ∙ carry-access r octets plan w ∙ access_of_lem _ (access_in e) _ _ w hb hw

      taken-number : (f : Access → ℕ) → ((o : Orders) (a : Access) → f (clocked o a) ≡ f a)
          → f (access_of next.hot w) ≡ cond (eqb (access_in e) w) (f (effect_in r e octets).mine.access) (f (effect_in r e octets).theirs.access)
      taken-number f k = ap f taken-access ∙ number_of f k (eqb (access_in e) w) _ _ _ _

      pub taken-net : (access_of next.hot w).net ≡ cond (eqb (access_in e) w) (effect_in r e octets).mine.access.net (effect_in r e octets).theirs.access.net
      unfolding clocked
      taken-net = taken-number (λ (a : Access). a.net) (λ o a. refl)

      pub taken-count : (access_of next.hot w).entries ≡ cond (eqb (access_in e) w) (effect_in r e octets).mine.access.entries (effect_in r e octets).theirs.access.entries
      unfolding clocked
      taken-count = taken-number (λ (a : Access). a.entries) (λ o a. refl)

module _ (r : Record) where
  -- the limits of the network counters
  abbrev pub limits_of : Limits
  limits_of = record { ban = r.hot.dev.banlimit; n1 = r.hot.dev.n1limit }
