-- What a taken event has passed: the checks before the last answer, one by one. Assumes nothing.
use Prim.Native.Nat.{ℕ}
use mathlib.Core.Path.{◌≡◌, refl}
use mathlib.Core.Bool.{Bool, true, false, false≢true}
use mathlib.Core.List.{List}
use lib.Dec.{leb, eqb}
use lib.ListN.{length, get_or}
use Rattle.entries.specs.declared.Seen.{Seen}
use Rattle.messages.specs.declared.Reject.{Reject}
use Rattle.messages.specs.Message.{Reading}
use Rattle.record.specs.declared.Hot.{Hot}
use Rattle.record.specs.declared.Answer.{Answer}
use Rattle.record.specs.declared.Answer.TheVariants as answer
use Rattle.record.specs.Answers.{is_taken}
use Rattle.record.specs.Tests.{both, either, flip, within, is_flag, is_short, is_clear0, is_edition}
use Rattle.record.specs.Network.{is_network}
use Rattle.turns.specs.declared.Draws.{Draws}
use Rattle.turns.specs.Timers.{is_device_timer}
use Rattle.turns.specs.Rejects.{is_ignored, needs_entry}
use Rattle.record.specs.Sides.{access_of, other_of}
use Rattle.checks.specs.Answers.{check, may_start, start_range, place_answer, start_answer, update_range, may_update, update_answer, row_now, is_full, reject_answer, read_answer, message_range, message_answer, timer_range, runs, timer_answer, key_answer, card_answer, import_answer}
use Rattle.record.proofs.Bounds.{one, rest}
use Rattle.validity.proofs.Bools.{flip-true, check-passed, check-rest}

pub start-passed : (h : Hot) (w manual net code : ℕ) (s : Seen) (listed : Bool) → is_taken (start_answer h w manual net code s listed) ≡ true
    → (is_flag w ≡ true) × (is_network net ≡ true) × (is_short code ≡ true) × (eqb (access_of h w).state 0 ≡ false) × (may_start (access_of h w).state ≡ true)
    × (eqb (access_of h w).t3346 0 ≡ true)
unfolding start_answer start_range place_answer is_taken
start-passed h w manual net code s listed q = (
  one (is_flag w) (both (is_flag manual) (both (is_network net) (is_short code))) range,
  one (is_network net) (is_short code) place,
  rest (is_network net) (is_short code) place,
  flip-true (eqb (access_of h w).state 0) (check-passed (flip (eqb (access_of h w).state 0)) answer.StateZero third refl carded),
  check-passed (may_start (access_of h w).state) answer.State fourth refl (check-rest (flip (eqb (access_of h w).state 0)) answer.StateZero third refl carded),
  check-passed (eqb (access_of h w).t3346 0) answer.Waiting _ refl (check-rest (may_start (access_of h w).state) answer.State fourth refl (check-rest (flip (eqb (access_of h w).state 0)) answer.StateZero third refl carded)),
)
  where
    fourth : Answer
    fourth = place_answer (access_of h w).t3346 (other_of h w) manual net s listed

    third : Answer
    third = check (may_start (access_of h w).state) answer.State fourth

    second : Answer
    second = check (flip (eqb (access_of h w).state 0)) answer.StateZero third

    carded : is_taken second ≡ true
    carded = check-rest (start_range w manual net code) answer.Range second refl q

    range : both (is_flag w) (both (is_flag manual) (both (is_network net) (is_short code))) ≡ true
    range = check-passed (start_range w manual net code) answer.Range second refl q

    place : both (is_network net) (is_short code) ≡ true
    place = rest (is_flag manual) (both (is_network net) (is_short code)) (rest (is_flag w) (both (is_flag manual) (both (is_network net) (is_short code))) range)

pub update-passed : (h : Hot) (w regtype net code uplink sessions : ℕ) (s : Seen) (listed : Bool) → is_taken (update_answer h w regtype net code uplink sessions s listed) ≡ true
    → (is_flag w ≡ true) × (within 2 3 regtype ≡ true) × (is_network net ≡ true) × (is_short code ≡ true) × (is_clear0 uplink ≡ true) × (is_clear0 sessions ≡ true) × (eqb (access_of h w).state 5 ≡ true)
    × (eqb (access_of h w).t3346 0 ≡ true)
unfolding update_answer update_range may_update place_answer is_taken
update-passed h w regtype net code uplink sessions s listed q = (
  one (is_flag w) (both (within 2 3 regtype) place) range,
  one (within 2 3 regtype) place (rest (is_flag w) (both (within 2 3 regtype) place) range),
  one (is_network net) (both (is_short code) clear) there,
  one (is_short code) clear (rest (is_network net) (both (is_short code) clear) there),
  one (is_clear0 uplink) (is_clear0 sessions) (rest (is_short code) clear (rest (is_network net) (both (is_short code) clear) there)),
  rest (is_clear0 uplink) (is_clear0 sessions) (rest (is_short code) clear (rest (is_network net) (both (is_short code) clear) there)),
  one (eqb (access_of h w).state 5) (either (eqb regtype 2) (both (eqb w 0) (eqb h.dev.due 1))) (check-passed (may_update h w regtype) answer.State third refl may),
  check-passed (eqb (access_of h w).t3346 0) answer.Waiting _ refl (check-rest (may_update h w regtype) answer.State third refl may),
)
  where
    clear : Bool
    clear = both (is_clear0 uplink) (is_clear0 sessions)

    place : Bool
    place = both (is_network net) (both (is_short code) clear)

    third : Answer
    third = place_answer (access_of h w).t3346 (other_of h w) 0 net s listed

    second : Answer
    second = check (may_update h w regtype) answer.State third

    may : is_taken second ≡ true
    may = check-rest (update_range w regtype net code uplink sessions) answer.Range second refl q

    range : both (is_flag w) (both (within 2 3 regtype) place) ≡ true
    range = check-passed (update_range w regtype net code uplink sessions) answer.Range second refl q

    there : place ≡ true
    there = rest (within 2 3 regtype) place (rest (is_flag w) (both (within 2 3 regtype) place) range)

pub message-passed : (h : Hot) (w protected : ℕ) (draws : Draws) (m : Reading) (s : Seen) → is_taken (message_answer h w protected draws m s) ≡ true
    → (is_flag w ≡ true) × (eqb (access_of h w).state 4 ≡ true) × (is_taken (read_answer h w protected m s) ≡ true)
unfolding message_answer message_range is_taken
message-passed h w protected draws m s q = (
  one (is_flag w) (both (is_flag protected) (both (within 1800 3600 draws.t3247) (within 900 1800 draws.t3346))) (check-passed (message_range w protected draws) answer.Range second refl q),
  check-passed (eqb (access_of h w).state 4) answer.State (read_answer h w protected m s) refl (check-rest (message_range w protected draws) answer.Range second refl q),
  check-rest (eqb (access_of h w).state 4) answer.State (read_answer h w protected m s) refl (check-rest (message_range w protected draws) answer.Range second refl q),
)
  where
    second : Answer
    second = check (eqb (access_of h w).state 4) answer.State (read_answer h w protected m s)

full-not : (a full : Bool) → flip (both a full) ≡ true → a ≡ true → full ≡ false
full-not true full e p = flip-true full e
full-not false full e p = absurd (false≢true p)

-- an entry that the row needs has a place
pub reject-passed : (h : Hot) (w protected : ℕ) (g : Reject) (s : Seen) → is_taken (reject_answer h w protected g s) ≡ true → needs_entry (row_now h w protected g) ≡ true → leb 16 s.at ≡ false
unfolding reject_answer is_full is_taken
reject-passed h w protected g s q =
    full-not (needs_entry (row_now h w protected g)) (leb 16 s.at)
    (check-passed (flip (is_full (row_now h w protected g) s)) answer.Full answer.Taken refl
    (check-rest (flip (is_ignored protected g.cause (other_of h w))) answer.Ignored (check (flip (is_full (row_now h w protected g) s)) answer.Full answer.Taken) refl q))

pub timer-passed : (h : Hot) (number w : ℕ) → is_taken (timer_answer h number w) ≡ true
    → (is_flag w ≡ true) × (either (flip (is_device_timer number)) (eqb w 0) ≡ true) × (eqb (runs h number w) 0 ≡ false)
unfolding timer_answer timer_range is_taken
timer-passed h number w q = (
  one (is_flag w) (either (flip (is_device_timer number)) (eqb w 0)) range,
  rest (is_flag w) (either (flip (is_device_timer number)) (eqb w 0)) range,
  flip-true (eqb (runs h number w) 0) (check-passed (flip (eqb (runs h number w) 0)) answer.Idle answer.Taken refl (check-rest (timer_range number w) answer.Range second refl q)),
)
  where
    second : Answer
    second = check (flip (eqb (runs h number w) 0)) answer.Idle answer.Taken

    range : both (is_flag w) (either (flip (is_device_timer number)) (eqb w 0)) ≡ true
    range = rest (within 1 6 number) (both (is_flag w) (either (flip (is_device_timer number)) (eqb w 0))) (check-passed (timer_range number w) answer.Range second refl q)

pub key-passed : (h : Hot) (w set : ℕ) → is_taken (key_answer h w set) ≡ true → (is_flag w ≡ true) × (leb set 6 ≡ true)
unfolding key_answer is_taken
key-passed h w set q =
    let range = check-passed (both (is_flag w) (leb set 6)) answer.Range (check (eqb (access_of h w).state 4) answer.State answer.Taken) refl q in
    (one (is_flag w) (leb set 6) range, rest (is_flag w) (leb set 6) range)

pub card-passed : (edition home : ℕ) (suci : List ℕ) → is_taken (card_answer edition home suci) ≡ true
    → (is_edition edition ≡ true) × (is_network home ≡ true) × (within 9 64 (length suci) ≡ true) × (eqb (get_or suci 0 0) 1 ≡ true)
unfolding card_answer is_taken
card-passed edition home suci q = (
  one (is_edition edition) (both (is_network home) card) range,
  one (is_network home) card known,
  one (within 9 64 (length suci)) (eqb (get_or suci 0 0) 1) (rest (is_network home) card known),
  rest (within 9 64 (length suci)) (eqb (get_or suci 0 0) 1) (rest (is_network home) card known),
)
  where
    card : Bool
    card = both (within 9 64 (length suci)) (eqb (get_or suci 0 0) 1)

    range : both (is_edition edition) (both (is_network home) card) ≡ true
    range = check-passed (both (is_edition edition) (both (is_network home) card)) answer.Range answer.Taken refl q

    known : both (is_network home) card ≡ true
    known = rest (is_edition edition) (both (is_network home) card) range

pub import-passed : (s : Seen) → is_taken (import_answer s) ≡ true → (s.found ≡ true) × (leb s.at 16 ≡ true)
unfolding import_answer is_taken
import-passed s q = (
  check-passed s.found answer.Range second refl q,
  check-passed (leb s.at 16) answer.Full answer.Taken refl (check-rest s.found answer.Range second refl q),
)
  where
    second : Answer
    second = check (leb s.at 16) answer.Full answer.Taken
