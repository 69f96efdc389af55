-- Answers: "Checks go 1, 5, 6, 7, 8, 9 for a start; 1, 6, 3, 10, 2, 4 for a message; 1, 11 for a timer; 1, 6 for a key set; 1 for a card or a power cycle";
-- where a message had 3, it has "13 to 18 .. at 3's place" (document 02, R-1);
-- and for an update (document 02, R-5) 1, 6, "the other checks as for a start not manual";
-- for both "20 .. while T3346 runs, after 6" (document 02, R-6); 1, 4 for an import (document 02, R-8).
-- Each check passes on to the next; the last one is taken. The record itself is tested before. An event's `protected` is 1 or 0. Assumes nothing.
use Rattle.std.specs.Prelude.{ℕ, ◌%◌, Bool, cond, List, length, get_or, ltb, leb, eqb, Ok, Err}
use Rattle.laws.specs.Upto.{every}
use Rattle.networks.specs.Networks.{networks_in}
use Rattle.record.specs.Tests.{both, either, flip, within, is_flag, is_short, is_clear0, is_edition}
use Rattle.record.specs.Network.{is_network}
use Rattle.record.specs.declared.Access.{Access}
use Rattle.record.specs.declared.Hot.{Hot}
use Rattle.record.specs.declared.Answer.{Answer}
use Rattle.record.specs.declared.Answer.TheVariants as answer
use Rattle.entries.specs.declared.Seen.{Seen}
use Rattle.messages.specs.declared.Reject.{Reject}
use Rattle.messages.specs.Message.{Reading}
use Rattle.messages.specs.declared.Message.TheVariants as message
use Rattle.turns.specs.declared.Row.{Row}
use Rattle.turns.specs.declared.Draws.{Draws}
use Rattle.turns.specs.Timers.{is_device_timer, runs_in, runs_on}
use Rattle.turns.specs.Rejects.{is_ignored, row_of, needs_entry}
use Rattle.record.specs.Sides.{access_of, other_of}

-- the answer where a check fails, else the rest
abbrev pub check : Bool → Answer → Answer → Answer
check passed refusal rest = cond passed rest refusal

-- "allowed in 1, 2, 3 and 6"
unfoldable pub may_start : ℕ → Bool
may_start s = either (either (eqb s 1) (eqb s 2)) (either (eqb s 3) (eqb s 6))

-- "other access is in state 4 with the same network"
unfoldable pub is_same : Access → ℕ → Bool
is_same other net = both (eqb other.state 4) (eqb other.net net)

-- "Manual choice passes a forbidden mark, never an N1 mark."
unfoldable pub is_free : ℕ → Seen → Bool
is_free manual s = both (eqb s.barred 0) (either (eqb s.forbidden 0) (eqb manual 1))

unfoldable pub start_range : ℕ → ℕ → ℕ → ℕ → Bool
start_range w manual net code = both (is_flag w) (both (is_flag manual) (both (is_network net) (is_short code)))

-- 20, 7, 8, 9: a place to register at, and whether T3346 runs; listed says whether its area stands, over access 0, in one of the two lists
unfoldable pub place_answer : ℕ → Access → ℕ → ℕ → Seen → Bool → Answer
place_answer t3346 other manual net s listed =
    check (eqb t3346 0) answer.Waiting
    (check (flip (is_same other net)) answer.Same
    (check (is_free manual s) answer.Listed
    (check (flip listed) answer.Area
    answer.Taken)))

-- Start: 1, 5, 6, 20, 7, 8, 9
unfoldable pub start_answer : Hot → ℕ → ℕ → ℕ → ℕ → Seen → Bool → Answer
start_answer h w manual net code s listed =
    check (start_range w manual net code) answer.Range
    (check (flip (eqb (access_of h w).state 0)) answer.StateZero
    (check (may_start (access_of h w).state) answer.State
    (place_answer (access_of h w).t3346 (other_of h w) manual net s listed)))

-- Update (access, type 2 mobility or 3 periodic, network, area code, 40 and 50 with session 0 clear)
unfoldable pub update_range : ℕ → ℕ → ℕ → ℕ → ℕ → ℕ → Bool
update_range w regtype net code uplink sessions =
    both (is_flag w) (both (within 2 3 regtype) (both (is_network net) (both (is_short code) (both (is_clear0 uplink) (is_clear0 sessions)))))

-- "6 for an update outside state 5 or a periodic one not due": T3512 is access 0's, so over access 1 none is due
unfoldable pub may_update : Hot → ℕ → ℕ → Bool
may_update h w regtype = both (eqb (access_of h w).state 5) (either (eqb regtype 2) (both (eqb w 0) (eqb h.dev.due 1)))

-- Update: 1, 6, 20, 7, 8, 9
unfoldable pub update_answer : Hot → ℕ → ℕ → ℕ → ℕ → ℕ → ℕ → Seen → Bool → Answer
update_answer h w regtype net code uplink sessions s listed =
    check (update_range w regtype net code uplink sessions) answer.Range
    (check (may_update h w regtype) answer.State
    (place_answer (access_of h w).t3346 (other_of h w) 0 net s listed))

-- the row of a reject that comes over access w now
unfoldable pub row_now : Hot → ℕ → ℕ → Reject → Row
row_now h w protected g =
    row_of w (eqb protected 0) (eqb (access_of h w).net h.dev.home) (ltb (access_of h w).cardcounter h.dev.cardlimit) (ltb 0 g.t3346length) g.cause

-- "entry needed, network not in the access's table"; document 02, R-9: "no entry is free and all sixteen have a mark", so that the network has no place
unfoldable pub is_full : Row → Seen → Bool
is_full row s = both (needs_entry row) (leb 16 s.at)

-- a reject: 2, 4
unfoldable pub reject_answer : Hot → ℕ → ℕ → Reject → Seen → Answer
reject_answer h w protected g s =
    check (flip (is_ignored protected g.cause (other_of h w))) answer.Ignored
    (check (flip (is_full (row_now h w protected g) s)) answer.Full
    answer.Taken)

-- what was read: 13 to 18 of a fault; 10 of an accept; 2, 4 of a reject
unfoldable pub read_answer : Hot → ℕ → ℕ → Reading → Seen → Answer
read_answer h w protected (Err m) s = answer.Malformed m.fault m.at
read_answer h w protected (Ok (message.Accept g)) s = check (flip (eqb protected 0)) answer.Unprotected answer.Taken
read_answer h w protected (Ok (message.Reject g)) s = reject_answer h w protected g s

-- "a draw for T3247, 1800 to 3600 s, checked even if unused"; "a second draw, 900 to 1800 s", the same (document 02, R-6)
unfoldable pub message_range : ℕ → ℕ → Draws → Bool
message_range w protected draws = both (is_flag w) (both (is_flag protected) (both (within 1800 3600 draws.t3247) (within 900 1800 draws.t3346)))

-- Message: 1, 6, 13 to 18, 10, 2, 4
unfoldable pub message_answer : Hot → ℕ → ℕ → Draws → Reading → Seen → Answer
message_answer h w protected draws m s =
    check (message_range w protected draws) answer.Range
    (check (eqb (access_of h w).state 4) answer.State
    (read_answer h w protected m s))

-- timers 1 to 6; access 0 for T3247 and T3512
unfoldable pub timer_range : ℕ → ℕ → Bool
timer_range number w = both (within 1 6 number) (both (is_flag w) (either (flip (is_device_timer number)) (eqb w 0)))

unfoldable pub runs : Hot → ℕ → ℕ → ℕ
runs h number w = cond (is_device_timer number) (runs_in number h.dev) (runs_on number (access_of h w))

-- Timer: 1, 11
unfoldable pub timer_answer : Hot → ℕ → ℕ → Answer
timer_answer h number w =
    check (timer_range number w) answer.Range
    (check (flip (eqb (runs h number w) 0)) answer.Idle
    answer.Taken)

-- Key set (0 to 6): 1, 6
unfoldable pub key_answer : Hot → ℕ → ℕ → Answer
key_answer h w set =
    check (both (is_flag w) (leb set 6)) answer.Range
    (check (eqb (access_of h w).state 4) answer.State
    answer.Taken)

-- Card change (home, SUCI 9 to 64 octets, first octet 01): 1, and "1 for an unknown edition" (document 02, R-7)
unfoldable pub card_answer : ℕ → ℕ → List ℕ → Answer
card_answer edition home suci =
    check (both (is_edition edition) (both (is_network home) (both (within 9 64 (length suci)) (eqb (get_or suci 0 0) 1)))) answer.Range
    answer.Taken

-- Import (document 02, R-8): "1 for a length not a multiple of three or a bad code"
unfoldable pub import_range : List ℕ → Bool
import_range file = both (eqb (length file % 3) 0) (every is_network (networks_in file))

-- Import: 1, "4 if the distinct new networks exceed free entries": with them more than sixteen would be held. What was seen of the file: found, whether it
-- is one by its range; its place, how many would be held
unfoldable pub import_answer : Seen → Answer
import_answer s =
    check s.found answer.Range
    (check (leb s.at 16) answer.Full
    answer.Taken)
