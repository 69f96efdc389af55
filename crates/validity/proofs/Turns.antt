-- Each turn of an access keeps its numbers in their ranges; T3510 runs in state 4 only, since each turn that leaves state 4 stops it;
-- a turn to a state above 0 has a card; equivalents get no more, entries as many as the row says. Assumes nothing.
use Prim.Native.Nat.{ℕ, ◌≤◌}
use mathlib.Core.Path.{◌≡◌, refl}
use mathlib.Core.Bool.{Bool, true, false, cond}
use native.Mathlib.Omega.{arith}
use lib.Dec.{ltb, eqb}
use mathlib.Core.Logic.{◌≢◌}
use borrow.Author.Tests.{leb-true, le-leb, eqb-true, eqb-false}
use Rattle.laws.specs.Bounds.{one_more}
use Rattle.entries.specs.Entries.{grown}
use Rattle.record.specs.declared.Access.{Access}
use Rattle.record.specs.Tests.{both, either, within, up_to, is_flag, is_short, is_clear0}
use Rattle.record.specs.Network.{is_network}
use Rattle.record.specs.New.{new_access}
use Rattle.turns.specs.declared.Order.TheVariants.{Stop}
use Rattle.turns.specs.declared.Turn.{Turn}
use Rattle.turns.specs.declared.Row.{Row}
use Rattle.turns.specs.declared.Row.TheVariants.{CardBelow, CardLimit, CardProtected, Away, Home, Area, N1, Congested, Protocol, Other}
use Rattle.turns.specs.Timers.{flag_after, quiet, starting, answered, retrying, resting, t3511_stops, t3502_stops, t3346_stops, halted, clocked}
use Rattle.turns.specs.Words.{Text, says, as_t3510_out, Words, Counter, kept, up_by_one, to_limit, zeroed, Across, untouched, card_counter_to_limit, n1_counter_to_limit_if_protected, Timing, stop_t3510, stop_t3510_run_t3346, holds, counter_after, is_updating, state_after, orders_after, is_mark, mark_in, across_of, applied}
use Rattle.turns.specs.Rejects.{row_text, needs_entry}
use Rattle.record.specs.Setters.{in_state, with_status, with_attempts, forgotten, emptied, counted, pending, keyed, taught, with_entries}
use Rattle.turns.specs.Turns.{turn_of, still, started, updated, key_set, accepted, start_failed, update_failed, failed, t3510_out, t3511_out, t3502_out, t3346_out, cycled, renewed, turned, row_turn, other_turned, other_turn}
use Rattle.validity.proofs.Bools.{either_first, more-fits}
use Rattle.validity.proofs.Good.{Fit, Timely, Carded}
use Rattle.validity.proofs.Setters.{grown-fits, fit-state, fit-status, fit-attempts, fit-forgotten, fit-emptied, fit-counted, fit-pending, fit-keyed, fit-taught, fit-entries, fit-clocked}

-- the access after its turn
abbrev pub after : Turn → Access
after t = clocked t.orders t.access

-- with at most m equivalents, and n entries
pub record Turned (card limit m n : ℕ) (b : Access) : Type 0 where
  pub fit : Fit limit b
  pub timely : Timely b
  pub carded : Carded card b
  pub equivalents : b.equivalents ≤ m
  pub entries : b.entries ≡ n

-- no word takes a counter above its limit
counter-fits : (k : Counter) (w cause limit n : ℕ) → up_to limit n ≡ true → up_to limit (counter_after k w cause limit n) ≡ true
unfolding counter_after
counter-fits kept w cause limit n e = e
counter-fits up_by_one w cause limit n e = more-fits limit n e
counter-fits to_limit w cause limit n e = le-leb limit limit (omega arith)
counter-fits (zeroed x) w cause limit n e = elim (holds x w cause) as (λ b. up_to limit (cond b 0 n) ≡ true) [ true ↦ le-leb 0 limit (omega arith) | false ↦ e ]

-- a text that has words of its own: a state, in an update or not, and an update status
data Proper (w : ℕ) (updating : Bool) : Text → Type 0 where
  own : {t : Words} → up_to 6 (state_after t.state w updating) ≡ true → within 1 3 t.status ≡ true → Proper w updating (says t)
  out : {n : Counter} → Proper w updating (as_t3510_out n)

-- "Every taken reject stops T3510."
stops : (x : Timing) (time : ℕ) → (orders_after x time).t3510 ≡ Stop
unfolding orders_after
stops stop_t3510 time = refl
stops stop_t3510_run_t3346 time = refl

six-or-two : (b : Bool) → up_to 6 (cond b 6 2) ≡ true
six-or-two true = refl
six-or-two false = refl

five-or-three : (b : Bool) → up_to 6 (cond b 5 3) ≡ true
five-or-three true = refl
five-or-three false = refl

row-proper : (r : Row) (w : ℕ) (updating : Bool) → Proper w updating (row_text r)
unfolding row_text state_after
row-proper CardBelow w updating = own refl refl
row-proper CardLimit w updating = own refl refl
row-proper CardProtected w updating = own refl refl
row-proper Away w updating = own (six-or-two (eqb w 0)) refl
row-proper Home w updating = own refl refl
row-proper Area w updating = own refl refl
row-proper N1 w updating = own refl refl
row-proper Congested w updating = own (five-or-three updating) refl
row-proper Protocol w updating = out
row-proper Other w updating = out

module _ (card limit : ℕ) (a : Access) (g : Fit limit a) where
  -- the access that an event leaves alone, but for its card counter
  module _ (t : Timely a) (c : Carded card a) where
    pub still-turned : Turned card limit a.equivalents a.entries (after (still a))
    unfolding clocked flag_after
    still-turned = record { fit = fit-clocked limit a g quiet; timely = t; carded = c; equivalents = omega arith; entries = refl }

    counted-turned : Turned card limit a.equivalents a.entries (after (still (counted limit a)))
    unfolding clocked flag_after counted
    counted-turned = record {
      fit = fit-clocked limit (counted limit a) (fit-counted limit a g limit (le-leb limit limit (omega arith))) quiet;
      timely = t;
      carded = c;
      equivalents = omega arith;
      entries = refl;
    }

    pub imported-turned : (n : ℕ) → up_to 16 n ≡ true → Turned card limit a.equivalents n (after (still (with_entries n a)))
    unfolding clocked flag_after with_entries
    imported-turned n p = record { fit = fit-clocked limit (with_entries n a) (fit-entries limit a g n p) quiet; timely = t; carded = c; equivalents = omega arith; entries = refl }

    pub key-turned : (set : ℕ) → up_to 7 set ≡ true → Turned card limit a.equivalents a.entries (after (key_set set a))
    unfolding key_set clocked flag_after keyed
    key-turned set p =
        record { fit = fit-clocked limit (keyed set a) (fit-keyed limit a g set p) quiet; timely = t; carded = c; equivalents = omega arith; entries = refl }

    pub t3511-turned : Turned card limit a.equivalents a.entries (after (t3511_out a))
    unfolding t3511_out clocked flag_after
    t3511-turned = record { fit = fit-clocked limit a g t3511_stops; timely = t; carded = c; equivalents = omega arith; entries = refl }

    pub t3502-turned : Turned card limit a.equivalents a.entries (after (t3502_out a))
    unfolding t3502_out clocked flag_after with_attempts
    t3502-turned = record {
      fit = fit-clocked limit (with_attempts 0 a) (fit-attempts limit a g 0 refl) t3502_stops;
      timely = t;
      carded = c;
      equivalents = omega arith;
      entries = refl;
    }

    pub t3346-turned : Turned card limit a.equivalents a.entries (after (t3346_out a))
    unfolding t3346_out clocked flag_after
    t3346-turned = record { fit = fit-clocked limit a g t3346_stops; timely = t; carded = c; equivalents = omega arith; entries = refl }

    across-turned : (o : Across) → Turned card limit a.equivalents a.entries (after (other_turned o limit a))
    unfolding other_turned
    across-turned untouched = still-turned
    across-turned card_counter_to_limit = counted-turned
    across-turned (n1_counter_to_limit_if_protected x) = still-turned

    pub other-turned : (r : Row) → Turned card limit a.equivalents a.entries (after (other_turn r limit a))
    unfolding other_turn
    other-turned r = across-turned (across_of (row_text r))

  -- state 1, and 0 with no card
  pub cycled-turned : is_flag card ≡ true → Turned card limit a.equivalents a.entries (after (cycled card a))
  unfolding cycled clocked flag_after with_attempts in_state
  cycled-turned p = record {
    fit = fit-clocked limit (with_attempts 0 (in_state (cond (eqb card 0) 0 1) a))
        (fit-attempts limit (in_state (cond (eqb card 0) 0 1) a)
        (fit-state limit a g (cond (eqb card 0) 0 1) (elim (eqb card 0) as (λ b. up_to 6 (cond b 0 1) ≡ true) [ true ↦ refl | false ↦ refl ])) 0 refl)
        halted;
    timely = refl;
    carded = go (eqb card 0) refl;
    equivalents = omega arith;
    entries = refl;
  }
    where
      go : (b : Bool) → eqb card 0 ≡ b → either (eqb card 1) (eqb (cond (eqb card 0) 0 1) 0) ≡ true
      go true q = rw (eqb-true card 0 q)
      go false q = let one : card ≡ 1 = let n : card ≢ 0 = eqb-false card 0 q in omega (arith, leb-true card 1 p) in rw one

  -- a state above 0 wants a card
  module _ (h : eqb card 1 ≡ true) where
    pub started-turned : (net code : ℕ) → is_network net ≡ true → is_short code ≡ true → Turned card limit a.equivalents a.entries (after (started net code a))
    unfolding started clocked flag_after pending in_state
    started-turned net code p q = record {
      fit = fit-clocked limit (pending 1 net code 0 0 (in_state 4 a)) (fit-pending limit (in_state 4 a) (fit-state limit a g 4 refl) 1 net code 0 0 p q refl refl refl) starting;
      timely = refl;
      carded = either_first (eqb card 1) false h;
      equivalents = omega arith;
      entries = refl;
    }

    pub updated-turned : (regtype net code uplink sessions : ℕ) → is_network net ≡ true → is_short code ≡ true → within 1 3 regtype ≡ true → is_clear0 uplink ≡ true → is_clear0 sessions ≡ true
        → Turned card limit a.equivalents a.entries (after (updated regtype net code uplink sessions a))
    unfolding updated clocked flag_after pending in_state
    updated-turned regtype net code uplink sessions p q x y z = record {
      fit = fit-clocked limit (pending regtype net code uplink sessions (in_state 4 a)) (fit-pending limit (in_state 4 a) (fit-state limit a g 4 refl) regtype net code uplink sessions p q x y z) starting;
      timely = refl;
      carded = either_first (eqb card 1) false h;
      equivalents = omega arith;
      entries = refl;
    }

    pub accepted-turned : (given : Bool) (count t3502length : ℕ) → up_to 15 count ≡ true → up_to 11160 t3502length ≡ true → Turned card limit count a.entries (after (accepted given count t3502length a))
    unfolding accepted clocked flag_after taught with_attempts with_status in_state
    accepted-turned given count t3502length p q = record {
      fit = fit-clocked limit (taught given count t3502length (with_attempts 0 (with_status 1 (in_state 5 a))))
          (fit-taught limit (with_attempts 0 (with_status 1 (in_state 5 a)))
          (fit-attempts limit (with_status 1 (in_state 5 a)) (fit-status limit (in_state 5 a) (fit-state limit a g 5 refl) 1 refl) 0 refl) given count t3502length p q)
          answered;
      timely = refl;
      carded = either_first (eqb card 1) false h;
      equivalents = omega arith;
      entries = refl;
    }

    start-failed-turned : (n : ℕ) → up_to 5 n ≡ true → Turned card limit a.equivalents a.entries (after (start_failed n a))
    unfolding start_failed clocked flag_after emptied forgotten with_status in_state with_attempts
    start-failed-turned n p = elim (ltb n 5) as (λ b. Turned card limit a.equivalents a.entries (after (cond b below at))) [
      | true ↦ record {
        fit = fit-clocked limit begun fits retrying;
        timely = refl;
        carded = either_first (eqb card 1) false h;
        equivalents = omega arith;
        entries = refl;
      }
      | false ↦ record {
        fit = fit-clocked limit (with_status 2 (emptied (forgotten begun)))
            (fit-status limit (emptied (forgotten begun)) (fit-emptied limit (forgotten begun) (fit-forgotten limit begun fits)) 2 refl)
            (resting a.t3502length);
        timely = refl;
        carded = either_first (eqb card 1) false h;
        equivalents = omega arith;
        entries = refl;
      }
    ]
      where
        begun : Access
        begun = in_state 3 (with_attempts n a)

        fits : Fit limit begun
        fits = fit-state limit (with_attempts n a) (fit-attempts limit a g n p) 3 refl

        below : Turn
        below = turn_of begun retrying

        at : Turn
        at = turn_of (with_status 2 (emptied (forgotten begun))) (resting a.t3502length)

    update-failed-turned : (n : ℕ) → up_to 5 n ≡ true → Turned card limit a.equivalents a.entries (after (update_failed n a))
    unfolding update_failed clocked flag_after emptied with_status in_state with_attempts
    update-failed-turned n p = elim (ltb n 5) as (λ b. Turned card limit a.equivalents a.entries (after (cond b (turn_of begun retrying) (turn_of (emptied begun) (resting a.t3502length))))) [
      | true ↦ record {
        fit = fit-clocked limit begun fits retrying;
        timely = refl;
        carded = either_first (eqb card 1) false h;
        equivalents = omega arith;
        entries = refl;
      }
      | false ↦ record {
        fit = fit-clocked limit (emptied begun) (fit-emptied limit begun fits) (resting a.t3502length);
        timely = refl;
        carded = either_first (eqb card 1) false h;
        equivalents = omega arith;
        entries = refl;
      }
    ]
      where
        begun : Access
        begun = in_state 5 (with_status 2 (with_attempts n a))

        fits : Fit limit begun
        fits = fit-state limit (with_status 2 (with_attempts n a)) (fit-status limit (with_attempts n a) (fit-attempts limit a g n p) 2 refl) 5 refl

    failed-turned : (n : ℕ) → up_to 5 n ≡ true → Turned card limit a.equivalents a.entries (after (failed n a))
    unfolding failed
    failed-turned n p = elim (is_updating a) as (λ b. Turned card limit a.equivalents a.entries (after (cond b (update_failed n a) (start_failed n a)))) [
      | true ↦ update-failed-turned n p
      | false ↦ start-failed-turned n p
    ]

    pub t3510-turned : Turned card limit a.equivalents a.entries (after (t3510_out a))
    unfolding t3510_out
    t3510-turned = failed-turned (one_more 5 a.attempts) (more-fits 5 a.attempts g.mode.2)

    -- a row's own words, where they are proper
    words-turned : (t : Words) (w cause : ℕ) (found : Bool) (time : ℕ) → up_to 6 (state_after t.state w (is_updating a)) ≡ true → within 1 3 t.status ≡ true
        → Turned card limit a.equivalents (cond (is_mark t.mark) (grown found a.entries) a.entries) (after (turn_of (applied t w cause limit found a) (orders_after t.timers time)))
    unfolding applied clocked flag_after
    words-turned t w cause found time p q = record {
      fit = fit-clocked limit (applied t w cause limit found a) (record {
        mode = (p, q, counter-fits t.attempt_counter w cause 5 a.attempts g.mode.2);
        flags = g.flags;
        t3502length = g.t3502length;
        pending = g.pending;
        known = known (holds t.clear_identity w cause);
        cardcounter = counter-fits t.card_counter w cause limit a.cardcounter g.cardcounter;
        equivalents = elim (holds t.empty_equivalents w cause) as (λ b. up_to 15 (cond b 0 a.equivalents) ≡ true) [ true ↦ refl | false ↦ g.equivalents ];
        entries = elim (is_mark t.mark) as (λ b. up_to 16 (cond b (grown found a.entries) a.entries) ≡ true) [ true ↦ grown-fits found a.entries g.entries | false ↦ g.entries ];
      }) (orders_after t.timers time);
      timely = rw (stops t.timers time);
      carded = either_first (eqb card 1) (eqb (state_after t.state w (is_updating a)) 0) h;
      equivalents = elim (holds t.empty_equivalents w cause) as (λ b. cond b 0 a.equivalents ≤ a.equivalents) [ true ↦ omega arith | false ↦ omega arith ];
      entries = refl;
    }
      where
        known : (b : Bool)
            → (is_flag (cond b 0 a.guti) ≡ true) × (is_flag (cond b 0 a.visited) ≡ true)
            × (either (eqb (cond b 0 a.visited) 0) (both (is_short a.lastnet) (is_short a.lastcode)) ≡ true) × (up_to 7 (cond b 7 a.ksi) ≡ true)
        known true = (refl, refl, refl, refl)
        known false = g.known

    text-turned : (t : Text) (w cause : ℕ) (found : Bool) (time : ℕ) → Proper w (is_updating a) t
        → Turned card limit a.equivalents (cond (is_mark (mark_in t)) (grown found a.entries) a.entries) (after (turned t w limit cause found time a))
    unfolding turned mark_in is_mark
    text-turned (says t) w cause found time (own p q) = words-turned t w cause found time p q
    text-turned (as_t3510_out n) w cause found time out = failed-turned (counter_after n w cause 5 a.attempts) (counter-fits n w cause 5 a.attempts g.mode.2)

    pub row-turned : (r : Row) (w cause : ℕ) (found : Bool) (time : ℕ) → Turned card limit a.equivalents (cond (needs_entry r) (grown found a.entries) a.entries) (after (row_turn r w limit cause found time a))
    unfolding row_turn needs_entry
    row-turned r w cause found time = text-turned (row_text r) w cause found time (row-proper r w (is_updating a))

-- a new record's access
new-fits : (limit state : ℕ) → up_to 6 state ≡ true → Fit limit (new_access state)
unfolding new_access is_network
new-fits limit state p = record {
  mode = (p, refl, refl);
  flags = (refl, refl, refl, refl);
  t3502length = refl;
  pending = (refl, refl, refl, refl, refl);
  known = (refl, refl, refl, refl);
  cardcounter = le-leb 0 limit (omega arith);
  equivalents = refl;
  entries = refl;
}

-- a card change: in state 1
pub renewed-turned : (limit : ℕ) → Turned 1 limit 0 0 (after renewed)
unfolding renewed new_access clocked flag_after
renewed-turned limit =
    record { fit = fit-clocked limit (new_access 1) (new-fits limit 1 refl) halted; timely = refl; carded = refl; equivalents = omega arith; entries = refl }
