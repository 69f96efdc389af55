-- An event put together from what its calls ensure, over plain variables. Assumes nothing.
use Prim.Native.Nat.{ℕ}
use mathlib.Core.Path.{◌≡◌, refl, ◌∙◌}
use mathlib.Core.Bool.{Bool, true, false}
use mathlib.Core.List.{List}
use Rattle.std.specs.Prelude.{Option}
use Rattle.entries.specs.declared.Seen.{Seen}
use Rattle.record.specs.declared.Record.{Record}
use Rattle.rules.specs.declared.Area.{Area}
use Rattle.rules.specs.declared.Ask.{Ask}
use Rattle.rules.specs.declared.Event.{Event}
use Rattle.rules.specs.declared.Plan.{Plan}
use Rattle.rules.specs.Plan.{ask_of, site_of, plan_of}
use Rattle.rules.specs.Sides.{has_work, work_plan}
use Rattle.events.specs.Parts.{seen_of, listed_of, planned_of, done_of, carried_out, parts_after}
use Rattle.events.specs.Step.{with_hot, together, joined_of, advance_of}
use Rattle.events.proofs.Calm.{work-plan, quiet}

-- what an event is answered, and the record after it
pub record Advanced (r : Record) (e : Event) (octets : List ℕ) (p : Plan) (r' : Record) : Type 0 where
  pub reply : p.reply ≡ (advance_of r e octets).reply
  pub next : r' ≡ (advance_of r e octets).next

module _ (r : Record) (e : Event) (octets : List ℕ) where
  -- a plan carried out
  abbrev pub carried : Plan → Record
  carried p = (joined_of r octets (carried_out p octets r.hot r.e0 r.e1 r.roaming r.regional)).next

  pub advanced : (p : Plan) (r' : Record) → p ≡ planned_of r.hot e octets r.e0 r.e1 r.roaming r.regional → r' ≡ carried p → Advanced r e octets p r'
  unfolding advance_of parts_after joined_of together carried_out done_of
  advanced p r' i j = record { reply = rw (← i); next = rw (← i) j }

module _ (r r' : Record) (e : Event) (octets : List ℕ) (q : Ask) (s : Seen) (p : Plan) (iq : q ≡ ask_of r.hot e) (is : s ≡ seen_of q octets r.hot r.e0 r.e1) where
  planned : (l : Bool) → l ≡ listed_of (site_of e) r.hot r.roaming r.regional → p ≡ plan_of r.hot e s l octets → p ≡ planned_of r.hot e octets r.e0 r.e1 r.roaming r.regional
  unfolding planned_of
  planned l il ip = rw (← iq, ← is, ← il) ip

  pub whole : (i : Option Area) (l : Bool) → i ≡ site_of e → l ≡ listed_of i r.hot r.roaming r.regional → p ≡ plan_of r.hot e s l octets → r' ≡ carried r e octets p → Advanced r e octets p r'
  whole i l ii il ip j = advanced r e octets p r' (planned l (rw ii at il) ip) j

  pub with-work : has_work e ≡ true → p ≡ work_plan r.hot e s octets → r' ≡ carried r e octets p → Advanced r e octets p r'
  with-work w ip j = advanced r e octets p r' (planned _ refl (ip ∙ work-plan r.hot e s octets r.roaming r.regional w)) j

module _ (r r' : Record) (e : Event) (octets : List ℕ) (p : Plan) where
  pub no-work : has_work e ≡ false → p ≡ planned_of r.hot e octets r.e0 r.e1 r.roaming r.regional → r' ≡ with_hot p.hot r → Advanced r e octets p r'
  unfolding planned_of
  no-work w k j = advanced r e octets p r' k (j ∙ rw k (quiet r e octets _ _ w))
