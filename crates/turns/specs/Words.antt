-- The words of the table of rejects and what they mean, whatever the row. Assumes nothing.
use Rattle.std.specs.Prelude.{ℕ, Bool, true, false, cond, ltb, eqb}
use Rattle.laws.specs.Bounds.{one_more}
use Rattle.record.specs.Tests.{both, flip}
use Rattle.record.specs.declared.Access.{Access}
use Rattle.turns.specs.declared.Orders.{Orders}
use Rattle.turns.specs.Timers.{answered, waiting}

-- when a word holds: over access 0 alone, for one cause alone
pub data When : Type 0 where
  always never over0 : When
  on : ℕ → When

unfoldable pub holds : When → ℕ → ℕ → Bool
holds always w cause = true
holds never w cause = false
holds over0 w cause = eqb w 0
holds (on n) w cause = eqb cause n

-- a counter that has a limit
pub data Counter : Type 0 where
  kept up_by_one to_limit : Counter
  zeroed : When → Counter

unfoldable pub counter_after : Counter → ℕ → ℕ → ℕ → ℕ → ℕ
counter_after kept w cause limit n = n
counter_after up_by_one w cause limit n = one_more limit n
counter_after to_limit w cause limit n = limit
counter_after (zeroed x) w cause limit n = cond (holds x w cause) 0 n

-- the attempt counter's limit
abbrev pub five : Counter
five = to_limit

-- Document 02, R-5: an update is pending in state 4 with type 2 or 3
unfoldable pub is_updating : Access → Bool
is_updating a = both (eqb a.state 4) (ltb 1 a.regtype)

-- the state, or that over access 0 and that over access 1, or that after a start and that "in an update"
pub data State : Type 0 where
  into : ℕ → State
  by_access by_update : ℕ → ℕ → State

unfoldable pub state_after : State → ℕ → Bool → ℕ
state_after (into s) w updating = s
state_after (by_access s t) w updating = cond (eqb w 0) s t
state_after (by_update s t) w updating = cond updating t s

-- the list that the pending area is put on
pub data Listing : Type 0 where
  nowhere : Listing
  roaming regional_else_roaming : When → Listing

unfoldable pub is_roaming : Listing → ℕ → ℕ → Bool
is_roaming nowhere w cause = false
is_roaming (roaming x) w cause = holds x w cause
is_roaming (regional_else_roaming x) w cause = flip (holds x w cause)

unfoldable pub is_regional : Listing → ℕ → ℕ → Bool
is_regional nowhere w cause = false
is_regional (roaming x) w cause = false
is_regional (regional_else_roaming x) w cause = holds x w cause

-- the pending network's entry: "forbidden mark; ban counter +1 if below limit, or to the limit if protected"; "N1 mark, N1 counter as the ban counter".
-- What these make of an entry: `banned` and `barred_by`, in crate entries
pub data Mark : Type 0 where
  no_mark forbidden_and_counted n1_not_allowed_and_counted : Mark

unfoldable pub is_mark : Mark → Bool
is_mark no_mark = false
is_mark forbidden_and_counted = true
is_mark n1_not_allowed_and_counted = true

-- what reaches the other access; what a protected reject does there to the entry of the network, where there is one: `n1_to_limit`, in crate entries
pub data Across : Type 0 where
  untouched card_counter_to_limit : Across
  n1_counter_to_limit_if_protected : When → Across

unfoldable pub is_n1_across : Across → ℕ → ℕ → ℕ → Bool
is_n1_across untouched w protected cause = false
is_n1_across card_counter_to_limit w protected cause = false
is_n1_across (n1_counter_to_limit_if_protected x) w protected cause = both (holds x w cause) (flip (eqb protected 0))

-- the access's timers; T3346 runs for its time
pub data Timing : Type 0 where
  stop_t3510 stop_t3510_run_t3346 : Timing

unfoldable pub orders_after : Timing → ℕ → Orders
orders_after stop_t3510 time = answered
orders_after stop_t3510_run_t3346 time = waiting time

pub record Words : Type 0 where
  pub status : ℕ
  pub clear_identity : When
  pub empty_equivalents : When
  pub attempt_counter : Counter
  pub state : State
  pub area_list : Listing
  pub mark : Mark
  pub card_counter : Counter
  pub other_access : Across
  pub timers : Timing

-- a row's text: its own words, or "as T3510 out" with the attempt counter so
pub data Text : Type 0 where
  says : Words → Text
  as_t3510_out : Counter → Text

unfoldable pub list_of : Text → Listing
list_of (says t) = t.area_list
list_of (as_t3510_out n) = nowhere

unfoldable pub mark_in : Text → Mark
mark_in (says t) = t.mark
mark_in (as_t3510_out n) = no_mark

unfoldable pub across_of : Text → Across
across_of (says t) = t.other_access
across_of (as_t3510_out n) = untouched

-- the access after its row's own words: over access w, for this cause, with the card counter's limit; found says whether the pending network has an entry.
-- "Clear identity": GUTI, last area removed, ngKSI 7
unfoldable pub applied : Words → ℕ → ℕ → ℕ → Bool → Access → Access
applied t w cause limit found a = record {
  state = state_after t.state w (is_updating a);
  status = t.status;
  attempts = counter_after t.attempt_counter w cause 5 a.attempts;
  cardcounter = counter_after t.card_counter w cause limit a.cardcounter;
  t3510 = a.t3510;
  t3511 = a.t3511;
  t3502 = a.t3502;
  t3346 = a.t3346;
  t3502length = a.t3502length;
  net = a.net;
  code = a.code;
  regtype = a.regtype;
  uplink = a.uplink;
  sessions = a.sessions;
  guti = cond (holds t.clear_identity w cause) 0 a.guti;
  visited = cond (holds t.clear_identity w cause) 0 a.visited;
  lastnet = a.lastnet;
  lastcode = a.lastcode;
  ksi = cond (holds t.clear_identity w cause) 7 a.ksi;
  equivalents = cond (holds t.empty_equivalents w cause) 0 a.equivalents;
  entries = cond (is_mark t.mark) (cond found a.entries (one_more 16 a.entries)) a.entries;
}
