-- A refusal changes nothing: its plan has the numbers as they were and no work on the arrays. Assumes nothing.
use Prim.Native.Nat.{ℕ}
use mathlib.Core.Path.{◌≡◌, refl, ◌∙◌, ap}
use mathlib.Core.Bool.{Bool, true, false, cond, false≢true}
use mathlib.Core.List.{List}
use lib.Dec.{eqb}
use Rattle.entries.specs.declared.Entries.{Entries}
use Rattle.entries.specs.declared.Deed.{Deed}
use Rattle.entries.specs.declared.Deed.TheVariants as deed
use Rattle.entries.specs.Entries.{marks_after, ranks_after, is_import, with_file, entries_after}
use Rattle.areas.specs.Areas.{list_after, count_after}
use Rattle.record.specs.declared.Hot.{Hot}
use Rattle.record.specs.declared.Record.{Record}
use Rattle.record.specs.declared.Answer.{Answer}
use Rattle.record.specs.declared.Answer.TheVariants.{Taken, Range, Ignored, Malformed, Full, StateZero, State, Same, Listed, Area, Unprotected, Idle, Short, Waiting}
use Rattle.record.specs.Answers.{is_taken}
use Rattle.ranges.specs.Valid.{valid_of}
use Rattle.effects.specs.Effects.{Effect}
use Rattle.rules.specs.declared.Event.{Event}
use Rattle.rules.specs.declared.Plan.{Plan}
use Rattle.rules.specs.Plan.{access_in, effect_of, taken_reply, refused_reply, taken_plan, refused_plan, decided_by, plan_of, deed_on, deed_of}
use Rattle.events.specs.declared.Outcome.{Outcome}
use Rattle.events.specs.Parts.{planned_of, table_after, with_counts, done_of, carried_out, parts_after, guti_after, equivalents_after, suci_after, kept_after}
use Rattle.events.specs.Step.{together, joined_of, advance_of, step_of}
use Rattle.validity.specs.Answered.{seen_at, answered_by}

-- carrying out a plan on a record
abbrev pub carry : Record → List ℕ → Plan → Outcome
carry r octets p = joined_of r octets (carried_out p octets r.hot r.e0 r.e1 r.roaming r.regional)

-- the effect that a taken event has
abbrev pub effect_in : Record → Event → List ℕ → Effect
effect_in r e octets = effect_of r.hot e (seen_at r e octets) octets

pub taken-plan : (r : Record) (e : Event) (octets : List ℕ) → is_taken (answered_by r e octets) ≡ true
    → advance_of r e octets ≡ carry r octets (taken_plan r.hot (access_in e) (effect_in r e octets))
unfolding advance_of parts_after planned_of plan_of decided_by answered_by
taken-plan r e octets q = rw q

-- no deed leaves the entries as they are
pub table-idle : (p : Plan) (octets : List ℕ) (me count : ℕ) (h : Hot) (t : Entries) → deed_of p me ≡ deed.Nothing → table_after p octets me count h t ≡ t
unfolding table_after entries_after with_file is_import ranks_after marks_after
table-idle p octets me count h t e = rw e

idle-deed : (w me : ℕ) → cond {A = Deed} (eqb w me) deed.Nothing deed.Nothing ≡ deed.Nothing
idle-deed w me = elim (eqb w me) as (λ b. cond {A = Deed} b deed.Nothing deed.Nothing ≡ deed.Nothing) [ true ↦ refl | false ↦ refl ]

module _ (r : Record) (w : ℕ) (n : Answer) where
  abbrev p : Plan
  p = refused_plan r.hot w n

  table_stays : (octets : List ℕ) (me count : ℕ) (t : Entries) → table_after p octets me count r.hot t ≡ t
  unfolding refused_plan deed_of deed_on
  table_stays octets me count t = table-idle p octets me count r.hot t (idle-deed w me)

  refused-carry : (octets : List ℕ) → carry r octets p ≡ record { reply = refused_reply n w; next = r }
  unfolding joined_of together carried_out done_of with_counts refused_plan kept_after guti_after equivalents_after suci_after list_after count_after
  refused-carry octets = rw (table_stays octets 0 r.hot.a0.entries r.e0, table_stays octets 1 r.hot.a1.entries r.e1)

-- the whole outcome of an event that is not taken
pub refused : (r : Record) (e : Event) (octets : List ℕ) → is_taken (answered_by r e octets) ≡ false
    → advance_of r e octets ≡ record { reply = refused_reply (answered_by r e octets) (access_in e); next = r }
unfolding advance_of parts_after planned_of plan_of decided_by answered_by
refused r e octets q = rw q (refused-carry r (access_in e) (answered_by r e octets) octets)

taken_is : (n : Answer) → is_taken n ≡ true → Taken ≡ n
unfolding is_taken
taken_is Taken e = refl
taken_is Range e = absurd (false≢true e)
taken_is Ignored e = absurd (false≢true e)
taken_is (Malformed f at) e = absurd (false≢true e)
taken_is Full e = absurd (false≢true e)
taken_is StateZero e = absurd (false≢true e)
taken_is State e = absurd (false≢true e)
taken_is Same e = absurd (false≢true e)
taken_is Listed e = absurd (false≢true e)
taken_is Area e = absurd (false≢true e)
taken_is Unprotected e = absurd (false≢true e)
taken_is Idle e = absurd (false≢true e)
taken_is Short e = absurd (false≢true e)
taken_is Waiting e = absurd (false≢true e)

-- the reply names the answer
pub answer-told : (r : Record) (e : Event) (octets : List ℕ) → (advance_of r e octets).reply.answer ≡ answered_by r e octets
unfolding joined_of together carried_out done_of taken_plan taken_reply refused_reply
answer-told r e octets = go (is_taken (answered_by r e octets)) refl
  where
    go : (b : Bool) → is_taken (answered_by r e octets) ≡ b → (advance_of r e octets).reply.answer ≡ answered_by r e octets
    go true q = ap (λ (o : Outcome). o.reply.answer) (taken-plan r e octets q) ∙ taken_is (answered_by r e octets) q
    go false q = ap (λ (o : Outcome). o.reply.answer) (refused r e octets q)

-- a step that takes an event has found the record valid: it is an advance, and that takes the event
pub step-taken : (r : Record) (e : Event) (octets : List ℕ) → is_taken (step_of r e octets).reply.answer ≡ true → (step_of r e octets ≡ advance_of r e octets) × (is_taken (answered_by r e octets) ≡ true)
unfolding step_of refused_reply is_taken
step-taken r e octets t = go (valid_of r) refl
  where
    go : (b : Bool) → valid_of r ≡ b → (step_of r e octets ≡ advance_of r e octets) × (is_taken (answered_by r e octets) ≡ true)
    go true v = (rw v, rw (answer-told r e octets) at (rw v at t))
    go false v = absurd (false≢true (rw v at t))

-- "All but 0 change nothing": the record and its arrays are as they were
pub refusal-changes-nothing : (r : Record) (e : Event) (octets : List ℕ) → is_taken (advance_of r e octets).reply.answer ≡ false → (advance_of r e octets).next ≡ r
refusal-changes-nothing r e octets q =
    ap (λ (o : Outcome). o.next) (refused r e octets (rw (answer-told r e octets) at q))

-- the same of a step, which tests the record first
pub step-refusal : (r : Record) (e : Event) (octets : List ℕ) → is_taken (step_of r e octets).reply.answer ≡ false → (step_of r e octets).next ≡ r
unfolding step_of
step-refusal r e octets q = go (valid_of r) refl
  where
    go : (b : Bool) → valid_of r ≡ b → (step_of r e octets).next ≡ r
    go true v = rw v (refusal-changes-nothing r e octets (rw v at q))
    go false v = rw v
