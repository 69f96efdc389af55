-- What a taken event makes of an access: numbers and timers, in document 01's words and order. Assumes nothing.
use Rattle.std.specs.Prelude.{ℕ, Bool, cond, ltb, eqb}
use Rattle.laws.specs.Bounds.{one_more}
use Rattle.record.specs.declared.Access.{Access}
use Rattle.record.specs.New.{new_access, u1, u2}
use Rattle.turns.specs.declared.Orders.{Orders}
use Rattle.turns.specs.declared.Turn.{Turn}
use Rattle.turns.specs.declared.Row.{Row}
use Rattle.turns.specs.Words.{Text, says, as_t3510_out, Across, untouched, card_counter_to_limit, n1_counter_to_limit_if_protected, counter_after, is_updating, orders_after, applied, across_of}
use Rattle.turns.specs.Rejects.{row_text}
use Rattle.turns.specs.Timers.{quiet, starting, answered, retrying, resting, t3511_stops, t3502_stops, t3346_stops, halted}
use Rattle.record.specs.Setters.{in_state, with_status, with_attempts, forgotten, emptied, counted, pending, keyed, taught}

abbrev pub turn_of : Access → Orders → Turn
turn_of a o = record { access = a; orders = o }

-- the access that an event leaves alone
abbrev pub still : Access → Turn
still a = turn_of a quiet

-- Start: "state 4, T3510 (15 s) runs, T3511 and T3502 stop"; its type is 1, and it says nothing of sessions
unfoldable pub started : ℕ → ℕ → Access → Turn
started net code a = turn_of (pending 1 net code 0 0 (in_state 4 a)) starting

-- Update (document 02, R-5): "state 4 while pending, types 2 and 3", with its octets of 40 and 50
unfoldable pub updated : ℕ → ℕ → ℕ → ℕ → ℕ → Access → Turn
updated regtype net code uplink sessions a = turn_of (pending regtype net code uplink sessions (in_state 4 a)) starting

-- Key set: stored as ngKSI
unfoldable pub key_set : ℕ → Access → Turn
key_set set a = still (keyed set a)

-- Accept: "state 5, 5U1, attempt counter 0, T3510 stops, .."
unfoldable pub accepted : Bool → ℕ → ℕ → Access → Turn
accepted given count t3502length a = turn_of (taught given count t3502length (with_attempts 0 (with_status u1 (in_state 5 a)))) answered

-- T3510 out, with the attempt counter now n: "stops; .. state 3. Below 5, T3511 (10 s) starts. At 5, clear identity and equivalents, 5U2, T3502 starts."
unfoldable pub start_failed : ℕ → Access → Turn
start_failed n a =
    cond (ltb n 5)
    (turn_of (in_state 3 (with_attempts n a)) retrying)
    (turn_of (with_status u2 (emptied (forgotten (in_state 3 (with_attempts n a))))) (resting a.t3502length))

-- The same in an update (document 02, R-5): "5U2, .., back to state 5; below 5 T3511, at 5 T3502 and no equivalents"
unfoldable pub update_failed : ℕ → Access → Turn
update_failed n a =
    cond (ltb n 5)
    (turn_of (in_state 5 (with_status u2 (with_attempts n a))) retrying)
    (turn_of (emptied (in_state 5 (with_status u2 (with_attempts n a)))) (resting a.t3502length))

unfoldable pub failed : ℕ → Access → Turn
failed n a = cond (is_updating a) (update_failed n a) (start_failed n a)

-- "attempt counter up by one unless 5"
unfoldable pub t3510_out : Access → Turn
t3510_out a = failed (one_more 5 a.attempts) a

-- T3511 out: stops
unfoldable pub t3511_out : Access → Turn
t3511_out a = turn_of a t3511_stops

-- T3502 out: stops; "also zeroes the attempt counter"
unfoldable pub t3502_out : Access → Turn
t3502_out a = turn_of (with_attempts 0 a) t3502_stops

-- T3346 out (document 02, R-6): stops
unfoldable pub t3346_out : Access → Turn
t3346_out a = turn_of a t3346_stops

-- a timer of the access out, by its number
unfoldable pub clock_turn : ℕ → Access → Turn
clock_turn number a = cond (eqb number 1) (t3510_out a) (cond (eqb number 2) (t3511_out a) (cond (eqb number 3) (t3502_out a) (t3346_out a)))

-- Power cycle: "timers stop; states become 1 (0 with no card); attempt counters 0. All else stays."
unfoldable pub cycled : ℕ → Access → Turn
cycled card a = turn_of (with_attempts 0 (in_state (cond (eqb card 0) 0 1) a)) halted

-- Card change: a new record's access in state 1
unfoldable pub renewed : Turn
renewed = turn_of (new_access 1) halted

-- The table of rejects. What it says of lists, marks and network counters, crates rules and entries carry out.

-- the receiving access; T3346 runs, where the row says so, for its time
unfoldable pub turned : Text → ℕ → ℕ → ℕ → Bool → ℕ → Access → Turn
turned (says t) w limit cause found time a = turn_of (applied t w cause limit found a) (orders_after t.timers time)
turned (as_t3510_out n) w limit cause found time a = failed (counter_after n w cause 5 a.attempts) a

unfoldable pub row_turn : Row → ℕ → ℕ → ℕ → Bool → ℕ → Access → Turn
row_turn r w limit cause found time a = turned (row_text r) w limit cause found time a

-- the other access's numbers
unfoldable pub other_turned : Across → ℕ → Access → Turn
other_turned untouched limit a = still a
other_turned card_counter_to_limit limit a = still (counted limit a)
other_turned (n1_counter_to_limit_if_protected x) limit a = still a

unfoldable pub other_turn : Row → ℕ → Access → Turn
other_turn r limit a = other_turned (across_of (row_text r)) limit a
