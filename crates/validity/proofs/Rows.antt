-- The table's second saying is its first: each row's text makes of a record what the row's plain numbers say. A row changed in definition and code alike fails here.
-- Assumes nothing.
use Prim.Native.Nat.{ℕ}
use mathlib.Core.Path.{◌≡◌, refl, ◌∙◌}
use mathlib.Core.Bool.{Bool, true, false, cond}
use mathlib.Core.List.{List}
use lib.Dec.{ltb, eqb}
use Rattle.std.specs.Prelude.{Ok}
use Rattle.laws.specs.Bounds.{one_more}
use Rattle.entries.specs.declared.Entries.{Entries}
use Rattle.areas.specs.Areas.{area_of}
use Rattle.messages.specs.declared.Reject.{Reject}
use Rattle.messages.specs.declared.Message.TheVariants as message
use Rattle.messages.specs.Message.{reading_of}
use Rattle.record.specs.declared.Access.{Access}
use Rattle.record.specs.declared.Record.{Record}
use Rattle.record.specs.Answers.{is_taken}
use Rattle.record.specs.Setters.{in_state, with_status, with_attempts, forgotten, emptied, counted}
use Rattle.record.specs.Sides.{access_of}
use Rattle.record.specs.Tests.{both, flip}
use Rattle.turns.specs.declared.Draws.{Draws}
use Rattle.turns.specs.declared.Row.{Row}
use Rattle.turns.specs.declared.Row.TheVariants.{CardBelow, CardLimit, CardProtected, Away, Home, Area, N1, Congested, Protocol, Other}
use Rattle.turns.specs.Timers.{flag_after, clocked}
use Rattle.turns.specs.Words.{holds, counter_after, is_updating, state_after, is_roaming, is_regional, is_mark, orders_after, list_of, mark_in, is_n1_across, across_of, applied}
use Rattle.turns.specs.Rejects.{reject_t3247, t3346_time, row_text}
use Rattle.turns.specs.Turns.{start_failed, update_failed, failed, turned, other_turned}
use Rattle.checks.specs.Answers.{row_now}
use Rattle.rules.specs.declared.Event.TheVariants.{Message}
use Rattle.events.specs.Step.{step_of}
use Rattle.validity.specs.Reject.{after, marked_in, record_after, reject_record}
use Rattle.validity.specs.Rows.{out_figures, row_figures, row_rest, with_figures, figures_record, row_record, row_orders}
use Rattle.validity.specs.Reply.{orders_by}
use Rattle.validity.proofs.Reject.{step-reject}

-- T3510 out with the attempt counter at n
out-figures : (n : ℕ) (found : Bool) (a : Access) → after (failed n a) ≡ with_figures (out_figures n a) false found a
unfolding failed is_updating start_failed update_failed in_state with_status with_attempts forgotten emptied clocked flag_after
out-figures n found a = go (eqb a.state 4) refl (ltb 1 a.regtype) refl (ltb n 5) refl
  where
    go : (s : Bool) → eqb a.state 4 ≡ s → (t : Bool) → ltb 1 a.regtype ≡ t → (b : Bool) → ltb n 5 ≡ b → after (failed n a) ≡ with_figures (out_figures n a) false found a
    go true p true u true q = rw (p, u, q)
    go true p true u false q = rw (p, u, q)
    go true p false u true q = rw (p, u, q)
    go true p false u false q = rw (p, u, q)
    go false p t u true q = rw (p, q)
    go false p t u false q = rw (p, q)

-- state 3, and 5 in an update
in-update : (a : Access) → ◌≡◌ {A = ℕ} (cond (is_updating a) 5 3) (cond (eqb a.state 4) (cond (ltb 1 a.regtype) 5 3) 3)
unfolding is_updating
in-update a = go (eqb a.state 4)
  where
    go : (s : Bool) → ◌≡◌ {A = ℕ} (cond (both s (ltb 1 a.regtype)) 5 3) (cond s (cond (ltb 1 a.regtype) 5 3) 3)
    go true = refl
    go false = refl

-- the other access's entries after 27, protected
across-n1 : (is27 bare : Bool) (t t' : Entries) → cond (both is27 (flip bare)) t t' ≡ cond is27 (cond bare t' t) t'
across-n1 true true t t' = refl
across-n1 true false t t' = refl
across-n1 false bare t t' = refl

module _ (w protected cause t3247 time area : ℕ) (r : Record) where
  row-record : (row : Row) → record_after (row_text row) w protected cause t3247 time area r ≡ row_record row w protected cause t3247 area r
  unfolding record_after row_text row_record figures_record row_figures row_rest turned applied is_updating other_turned counted clocked flag_after holds counter_after state_after is_roaming is_regional is_mark orders_after list_of mark_in is_n1_across across_of marked_in
  row-record CardBelow = refl
  row-record CardLimit = refl
  row-record CardProtected = refl
  row-record Away = refl
  row-record Home = refl
  row-record Area = refl
  row-record N1 = rw (across-n1 (eqb cause 27) (eqb protected 0) _ r.e0, across-n1 (eqb cause 27) (eqb protected 0) _ r.e1)
  row-record Congested = rw (in-update r.hot.a0, in-update r.hot.a1)
  row-record Protocol = rw (out-figures 5 false r.hot.a0, out-figures 5 false r.hot.a1)
  row-record Other = rw (out-figures (one_more 5 r.hot.a0.attempts) false r.hot.a0, out-figures (one_more 5 r.hot.a1.attempts) false r.hot.a1)

-- the whole record after a taken reject, by its row
pub step_row : (r : Record) (w protected : ℕ) (draws : Draws) (g : Reject) (octets : List ℕ) → reading_of octets ≡ Ok (message.Reject g)
    → is_taken (step_of r (Message w protected draws) octets).reply.answer ≡ true
    → (step_of r (Message w protected draws) octets).next
    ≡ row_record (row_now r.hot w protected g) w protected g.cause
    (flag_after (reject_t3247 r.hot.dev.t3247 protected g.cause draws.t3247) r.hot.dev.t3247)
    (area_of (access_of r.hot w).net (access_of r.hot w).code)
    r
unfolding reject_record
step_row r w protected draws g octets read taken =
    step-reject r protected draws g octets w read taken ∙ row-record w protected g.cause _ (t3346_time protected g.t3346length draws.t3346) _ r (row_now r.hot w protected g)

-- what `reject_reply` tells of the timers, by the row
pub row-orders : (row : Row) (w cause time : ℕ) (a : Access) → orders_by (row_text row) w cause time a ≡ row_orders row time a
unfolding orders_by row_text orders_after counter_after row_orders
row-orders CardBelow w cause time a = refl
row-orders CardLimit w cause time a = refl
row-orders CardProtected w cause time a = refl
row-orders Away w cause time a = refl
row-orders Home w cause time a = refl
row-orders Area w cause time a = refl
row-orders N1 w cause time a = refl
row-orders Congested w cause time a = refl
row-orders Protocol w cause time a = refl
row-orders Other w cause time a = refl
