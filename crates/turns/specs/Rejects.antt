-- Document 01, "Rejects": "Every taken reject stops T3510.", T3247, the two-access rule, the row that a reject falls under, and each row's text. Assumes nothing.
use Rattle.std.specs.Prelude.{ℕ, Bool, cond, eqb}
use Rattle.record.specs.Tests.{both, either}
use Rattle.record.specs.New.{u2, u3}
use Rattle.record.specs.declared.Access.{Access}
use Rattle.turns.specs.declared.Order.{Order}
use Rattle.turns.specs.declared.Order.TheVariants.{Leave, Run}
use Rattle.turns.specs.declared.Row.{Row}
use Rattle.turns.specs.declared.Row.TheVariants.{CardBelow, CardLimit, CardProtected, Away, Home, Area, N1, Congested, Protocol, Other}
use Rattle.turns.specs.Words.{Text, says, as_t3510_out, always, never, over0, on, kept, zeroed, five, up_by_one, to_limit, is_updating, into, by_access, by_update, nowhere, roaming, regional_else_roaming, no_mark, forbidden_and_counted, n1_not_allowed_and_counted, untouched, card_counter_to_limit, n1_counter_to_limit_if_protected, stop_t3510, stop_t3510_run_t3346, is_mark, mark_in, is_roaming, is_regional, list_of, is_n1_across, across_of}

-- causes 3, 6, 7
unfoldable pub is_card : ℕ → Bool
is_card c = either (eqb c 3) (either (eqb c 6) (eqb c 7))

-- causes 11, 73
unfoldable pub is_network_no : ℕ → Bool
is_network_no c = either (eqb c 11) (eqb c 73)

-- causes 12 / 13 / 15
unfoldable pub is_area_no : ℕ → Bool
is_area_no c = either (eqb c 12) (either (eqb c 13) (eqb c 15))

-- 27; 72 over access 1
unfoldable pub is_n1_no : ℕ → ℕ → Bool
is_n1_no w c = either (eqb c 27) (both (eqb c 72) (eqb w 1))

-- cause 22 "with a nonzero T3346" (document 02, R-6)
unfoldable pub is_congested : ℕ → Bool → Bool
is_congested c timed = both (eqb c 22) timed

-- causes 95, 96, 97, 99, 111
unfoldable pub is_protocol : ℕ → Bool
is_protocol c = either (eqb c 95) (either (eqb c 96) (either (eqb c 97) (either (eqb c 99) (eqb c 111))))

-- "Every taken unprotected one with cause 3, 6, 7, 11, 12, 13, 15, 27, 72 or 73 starts T3247 with the draw if not running; a running one keeps its time."
unfoldable pub starts_t3247 : ℕ → Bool
starts_t3247 c = either (is_card c) (either (is_network_no c) (either (is_area_no c) (either (eqb c 27) (eqb c 72))))

unfoldable pub reject_t3247 : ℕ → ℕ → ℕ → ℕ → Order
reject_t3247 t3247 protected cause draw = cond (both (eqb protected 0) (both (starts_t3247 cause) (eqb t3247 0))) (Run draw) Leave

-- "T3346 runs .. for the given time if protected, else for a second draw"
unfoldable pub t3346_time : ℕ → ℕ → ℕ → ℕ
t3346_time protected given draw = cond (eqb protected 0) draw given

-- "A pending update counts as registered for the two-access rule"
unfoldable pub is_registered : Access → Bool
is_registered a = either (eqb a.state 5) (is_updating a)

-- "Two-access rule: cause 3, 6 or 7, unprotected, other access in state 5"
unfoldable pub is_ignored : ℕ → ℕ → Access → Bool
is_ignored protected cause other = both (is_card cause) (both (eqb protected 0) (is_registered other))

-- The row of a cause over access w; unprotected or not; at home or away; card counter below its limit or not; with a nonzero T3346 or not
unfoldable pub row_of : ℕ → Bool → Bool → Bool → Bool → ℕ → Row
row_of w unprotected home below timed c =
    cond (is_card c) (cond unprotected (cond below CardBelow CardLimit) CardProtected)
    (cond (is_network_no c) (cond home (cond unprotected Home Other) Away)
    (cond (both (is_area_no c) (eqb w 0)) Area
    (cond (is_n1_no w c) N1
    (cond (is_congested c timed) Congested
    (cond (is_protocol c) Protocol Other)))))

-- What the row says.
unfoldable pub row_text : Row → Text
-- 3, 6, 7 unprotected, card counter below limit: "5U3, clear identity, counter +1, state 2; over access 0 also equivalents emptied, attempt counter 0, area to roaming list"
row_text CardBelow = says (record {
  status = u3;
  clear_identity = always;
  empty_equivalents = over0;
  attempt_counter = zeroed over0;
  state = into 2;
  area_list = roaming over0;
  mark = no_mark;
  card_counter = up_by_one;
  other_access = untouched;
  timers = stop_t3510;
})
-- 3, 6, 7 unprotected at limit: "5U3, clear identity, equivalents emptied, state 0"
row_text CardLimit = says (record {
  status = u3;
  clear_identity = always;
  empty_equivalents = always;
  attempt_counter = kept;
  state = into 0;
  area_list = nowhere;
  mark = no_mark;
  card_counter = kept;
  other_access = untouched;
  timers = stop_t3510;
})
-- 3, 6, 7 protected: "as the row above, and both accesses' card counters to the limit"
row_text CardProtected = says (record {
  status = u3;
  clear_identity = always;
  empty_equivalents = always;
  attempt_counter = kept;
  state = into 0;
  area_list = nowhere;
  mark = no_mark;
  card_counter = to_limit;
  other_access = card_counter_to_limit;
  timers = stop_t3510;
})
-- 11, 73 away from home: "5U3, clear identity, equivalents emptied, attempt counter 0, forbidden mark; ban counter ..; state 6 (access 1: 2)"
row_text Away = says (record {
  status = u3;
  clear_identity = always;
  empty_equivalents = always;
  attempt_counter = zeroed always;
  state = by_access 6 2;
  area_list = nowhere;
  mark = forbidden_and_counted;
  card_counter = kept;
  other_access = untouched;
  timers = stop_t3510;
})
-- 11, 73 unprotected at home: "5U3, clear identity, equivalents emptied, attempt counter 0, state 2; access 0: area to roaming list"
row_text Home = says (record {
  status = u3;
  clear_identity = always;
  empty_equivalents = always;
  attempt_counter = zeroed always;
  state = into 2;
  area_list = roaming over0;
  mark = no_mark;
  card_counter = kept;
  other_access = untouched;
  timers = stop_t3510;
})
-- 12 / 13 / 15, access 0: "5U3, clear identity, attempt counter 0, state 2; 12 regional list, else roaming; 13 empties equivalents"
row_text Area = says (record {
  status = u3;
  clear_identity = always;
  empty_equivalents = on 13;
  attempt_counter = zeroed always;
  state = into 2;
  area_list = regional_else_roaming (on 12);
  mark = no_mark;
  card_counter = kept;
  other_access = untouched;
  timers = stop_t3510;
})
-- 27; 72 over access 1: "5U3, clear identity, attempt counter 0, N1 mark, N1 counter as the ban counter; state 2. Only the receiving access is touched",
-- but for document 02, R-14: "a protected 27 sets the network's N1 counter to the limit for both accesses"
row_text N1 = says (record {
  status = u3;
  clear_identity = always;
  empty_equivalents = never;
  attempt_counter = zeroed always;
  state = into 2;
  area_list = nowhere;
  mark = n1_not_allowed_and_counted;
  card_counter = kept;
  other_access = n1_counter_to_limit_if_protected (on 27);
  timers = stop_t3510;
})
-- 22 with a nonzero T3346 (document 02, R-6): "attempt counter 0, 5U2, state 3 (5 in an update), T3346 runs on that access"
row_text Congested = says (record {
  status = u2;
  clear_identity = never;
  empty_equivalents = never;
  attempt_counter = zeroed always;
  state = by_update 3 5;
  area_list = nowhere;
  mark = no_mark;
  card_counter = kept;
  other_access = untouched;
  timers = stop_t3510_run_t3346;
})
-- 95, 96, 97, 99, 111: "attempt counter 5, then as T3510 out at 5"
row_text Protocol = as_t3510_out five
-- any other pair: "as T3510 out; the T3247 rule above holds"
row_text Other = as_t3510_out up_by_one

-- Read off the text: a network that is marked needs an entry; the lists that the area goes to; whether the other access's N1 counter goes to the limit
unfoldable pub needs_entry : Row → Bool
needs_entry r = is_mark (mark_in (row_text r))

unfoldable pub to_roaming : ℕ → ℕ → Row → Bool
to_roaming w cause r = is_roaming (list_of (row_text r)) w cause

unfoldable pub to_regional : ℕ → ℕ → Row → Bool
to_regional w cause r = is_regional (list_of (row_text r)) w cause

unfoldable pub across_n1 : ℕ → ℕ → ℕ → Row → Bool
across_n1 w protected cause r = is_n1_across (across_of (row_text r)) w protected cause
