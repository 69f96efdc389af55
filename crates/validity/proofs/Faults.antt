-- An event that answers 13 to 18 tells the lowest fault of its message, and no event answers 3: only the reading of a message gives such an answer.
-- Assumes nothing.
use Prim.Native.Nat.{ℕ}
use mathlib.Core.Path.{◌≡◌, refl, subst}
use mathlib.Core.Bool.{Bool, true, false}
use mathlib.Core.List.{List}
use native.Mathlib.Omega.{arith}
use lib.ListN.{length, get_or}
use lib.Dec.{leb, eqb}
use Rattle.std.specs.Prelude.{Ok, Err}
use Rattle.octets.specs.declared.Fault.{Fault}
use Rattle.octets.specs.Element.{Ending, malformed}
use Rattle.entries.specs.declared.Seen.{Seen}
use Rattle.messages.specs.declared.Message.TheVariants as message
use Rattle.messages.specs.Message.{Reading, reading_of}
use Rattle.messages.specs.Faults.{Faulty, Lowest, is_answer, fault_told}
use Rattle.messages.proofs.Lowest.{least}
use Rattle.messages.proofs.Told.{lowest}
use Rattle.record.specs.declared.Access.{Access}
use Rattle.record.specs.declared.Hot.{Hot}
use Rattle.record.specs.declared.Record.{Record}
use Rattle.record.specs.declared.Answer.{Answer}
use Rattle.record.specs.declared.Answer.TheVariants.{Taken, Range, Ignored, Malformed, Full, StateZero, State, Same, Listed, Area, Unprotected, Idle, Short, Waiting}
use Rattle.record.specs.Answers.{number_of}
use Rattle.ranges.specs.Valid.{valid_of}
use Rattle.record.specs.Network.{is_network}
use Rattle.record.specs.Sides.{access_of, other_of}
use Rattle.record.specs.Tests.{both, flip, within, is_flag, is_edition}
use Rattle.turns.specs.Rejects.{is_ignored}
use Rattle.checks.specs.Answers.{check, is_same, is_free, place_answer, start_range, may_start, start_answer, update_range, may_update, update_answer, row_now, is_full, reject_answer, read_answer, message_range, message_answer, timer_range, runs, timer_answer, key_answer, card_answer, import_answer}
use Rattle.rules.specs.declared.Event.{Event}
use Rattle.rules.specs.declared.Event.TheVariants.{Card, Start, Message, Timer, Power, Key, Update, Import, Unknown}
use Rattle.rules.specs.Plan.{answer_of, refused_reply}
use Rattle.events.specs.Step.{step_of}
use Rattle.validity.specs.Answered.{answered_by}
use Rattle.validity.proofs.Refusal.{answer-told}

-- what an answer tells of faults
unfoldable fault_in : Answer → Ending
fault_in (Malformed f at) = malformed f at
fault_in Taken = Ok tt
fault_in Range = Ok tt
fault_in Ignored = Ok tt
fault_in Full = Ok tt
fault_in StateZero = Ok tt
fault_in State = Ok tt
fault_in Same = Ok tt
fault_in Listed = Ok tt
fault_in Area = Ok tt
fault_in Unprotected = Ok tt
fault_in Idle = Ok tt
fault_in Short = Ok tt
fault_in Waiting = Ok tt

module _ (s : List ℕ) where
  -- an answer that tells a fault tells the lowest one
  unfoldable Tells : Answer → Type 0
  Tells a = (f : Fault) (at : ℕ) → fault_in a ≡ malformed f at → Lowest (Faulty is_answer s) (malformed f at)

  -- the others tell none
  quiet : (a : Answer) → fault_in a ≡ Ok tt → Tells a
  unfolding Tells
  quiet a e = λ f at q. absurd (cc (e, q))

  checked : (b : Bool) (x y : Answer) → fault_in x ≡ Ok tt → Tells y → Tells (check b x y)
  checked true x y e q = q
  checked false x y e q = quiet x e

  place-tells : (t3346 : ℕ) (o : Access) (manual net : ℕ) (n : Seen) (listed : Bool) → Tells (place_answer t3346 o manual net n listed)
  unfolding place_answer fault_in
  place-tells t3346 o manual net n listed =
      checked (eqb t3346 0) Waiting _ refl
      (checked (flip (is_same o net)) Same _ refl (checked (is_free manual n) Listed _ refl (checked (flip listed) Area _ refl (quiet Taken refl))))

  bad-tells : (f : Fault) (at : ℕ) → Lowest (Faulty is_answer s) (malformed f at) → Tells (Malformed f at)
  unfolding Tells fault_in
  bad-tells f at x g b q = subst (Lowest (Faulty is_answer s)) q x

  read-tells : (h : Hot) (w protected : ℕ) (m : Reading) (n : Seen) → Lowest (Faulty is_answer s) (fault_told m) → Tells (read_answer h w protected m n)
  unfolding read_answer reject_answer fault_in fault_told
  read-tells h w protected (Err m) n x = bad-tells m.fault m.at x
  read-tells h w protected (Ok (message.Accept a)) n x = checked (flip (eqb protected 0)) Unprotected _ refl (quiet Taken refl)
  read-tells h w protected (Ok (message.Reject g)) n x =
      checked (flip (is_ignored protected g.cause (other_of h w))) Ignored _ refl
      (checked (flip (is_full (row_now h w protected g) n)) Full _ refl (quiet Taken refl))

  answer-tells : (h : Hot) (e : Event) (n : Seen) (listed : Bool) → Tells (answer_of h e n listed s)
  unfolding answer_of card_answer start_answer update_answer message_answer timer_answer key_answer import_answer fault_in
  answer-tells h (Card edition home) n listed = checked (both (is_edition edition) (both (is_network home) (both (within 9 64 (length s)) (eqb (get_or s 0 0) 1)))) Range _ refl (quiet Taken refl)
  answer-tells h (Start w manual net code) n listed =
      checked (start_range w manual net code) Range _ refl
      (checked (flip (eqb (access_of h w).state 0)) StateZero _ refl
      (checked (may_start (access_of h w).state) State _ refl (place-tells (access_of h w).t3346 (other_of h w) manual net n listed)))
  answer-tells h (Message w protected draws) n listed =
      checked (message_range w protected draws) Range _ refl
      (checked (eqb (access_of h w).state 4) State _ refl (read-tells h w protected (reading_of s) n (lowest s)))
  answer-tells h (Timer number w) n listed = checked (timer_range number w) Range _ refl (checked (flip (eqb (runs h number w) 0)) Idle _ refl (quiet Taken refl))
  answer-tells h Power n listed = quiet Taken refl
  answer-tells h (Key w set) n listed = checked (both (is_flag w) (leb set 6)) Range _ refl (checked (eqb (access_of h w).state 4) State _ refl (quiet Taken refl))
  answer-tells h (Update w regtype net code uplink sessions) n listed =
      checked (update_range w regtype net code uplink sessions) Range _ refl
      (checked (may_update h w regtype) State _ refl (place-tells (access_of h w).t3346 (other_of h w) 0 net n listed))
  answer-tells h Import n listed = checked n.found Range _ refl (checked (leb n.at 16) Full _ refl (quiet Taken refl))
  answer-tells h Unknown n listed = quiet Range refl

  step-tells : (r : Record) (e : Event) → Tells (step_of r e s).reply.answer
  unfolding step_of answered_by refused_reply fault_in
  step-tells r e = go (valid_of r) refl
    where
      go : (b : Bool) → valid_of r ≡ b → Tells (step_of r e s).reply.answer
      go true v = rw (v, answer-told r e s) (answer-tells r.hot e _ _)
      go false v = rw v (quiet Range refl)

-- of any event on any record, with any octets
pub fault-lowest : (r : Record) (e : Event) (octets : List ℕ) (f : Fault) (at : ℕ) → (step_of r e octets).reply.answer ≡ Malformed f at → Lowest (Faulty is_answer octets) (malformed f at)
unfolding Tells fault_in
fault-lowest r e octets f at q = step-tells octets r e f at (rw q)

-- "Number 3 stays for a .. request": an answer never has it
not_three : (a : Answer) → number_of a ≡ 3 → ⊥
unfolding number_of
not_three Taken e = omega arith
not_three Range e = omega arith
not_three Ignored e = omega arith
not_three (Malformed f at) e = omega (arith, least f)
not_three Full e = omega arith
not_three StateZero e = omega arith
not_three State e = omega arith
not_three Same e = omega arith
not_three Listed e = omega arith
not_three Area e = omega arith
not_three Unprotected e = omega arith
not_three Idle e = omega arith
not_three Short e = omega arith
not_three Waiting e = omega arith

pub never-three : (r : Record) (e : Event) (octets : List ℕ) → number_of (step_of r e octets).reply.answer ≡ 3 → ⊥
never-three r e octets = not_three (step_of r e octets).reply.answer
