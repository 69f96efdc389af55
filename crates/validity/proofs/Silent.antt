-- A refusal tells nothing but its answer: its reply has no timer in it, and its requests hang on answer 2. Assumes nothing.
use Prim.Native.Nat.{ℕ}
use mathlib.Core.Path.{◌≡◌, refl}
use mathlib.Core.Bool.{Bool, true, false}
use mathlib.Core.List.{List}
use lib.Dec.{eqb}
use Rattle.octets.specs.declared.Fault.{Fault}
use Rattle.octets.specs.declared.Fault.TheVariants.{Cut, First, Second, Kind, Past, Strange}
use Rattle.record.specs.declared.Answer.{Answer}
use Rattle.record.specs.declared.Answer.TheVariants.{Taken, Range, Ignored, Malformed, Full, StateZero, State, Same, Listed, Area, Unprotected, Idle, Short, Waiting}
use Rattle.record.specs.declared.Record.{Record}
use Rattle.record.specs.Answers.{number_of, is_taken}
use Rattle.ranges.specs.Valid.{valid_of}
use Rattle.rules.specs.declared.Event.{Event}
use Rattle.rules.specs.Plan.{access_in, is_ignoring, refused_reply}
use Rattle.events.specs.Step.{step_of}
use Rattle.validity.specs.Answered.{answered_by}
use Rattle.validity.specs.Reply.{Silent}
use Rattle.validity.proofs.Refusal.{refused, answer-told}

fault-not-two : (f : Fault) (at : ℕ) → is_ignoring (Malformed f at) ≡ eqb (number_of (Malformed f at)) 2
unfolding is_ignoring number_of
fault-not-two Cut at = refl
fault-not-two First at = refl
fault-not-two Second at = refl
fault-not-two Kind at = refl
fault-not-two Past at = refl
fault-not-two Strange at = refl

ignoring-two : (n : Answer) → is_ignoring n ≡ eqb (number_of n) 2
unfolding is_ignoring number_of
ignoring-two Taken = refl
ignoring-two Range = refl
ignoring-two Ignored = refl
ignoring-two (Malformed f at) = fault-not-two f at
ignoring-two Full = refl
ignoring-two StateZero = refl
ignoring-two State = refl
ignoring-two Same = refl
ignoring-two Listed = refl
ignoring-two Area = refl
ignoring-two Unprotected = refl
ignoring-two Idle = refl
ignoring-two Short = refl
ignoring-two Waiting = refl

refused-silent : (n : Answer) (w : ℕ) → Silent w (refused_reply n w)
unfolding refused_reply
refused-silent n w = record { c0 = refl; c1 = refl; t3247 = refl; t3512 = refl; restart = refl; leave = rw (ignoring-two n); update = rw (ignoring-two n) }

-- a record that fails the test is answer 1, whatever the event's access
untested-silent : (w : ℕ) → Silent w (refused_reply Range 0)
unfolding refused_reply is_ignoring number_of
untested-silent w = record { c0 = refl; c1 = refl; t3247 = refl; t3512 = refl; restart = refl; leave = refl; update = refl }

-- of any event on any record
pub refusal-tells-nothing : (r : Record) (e : Event) (octets : List ℕ) → is_taken (step_of r e octets).reply.answer ≡ false → Silent (access_in e) (step_of r e octets).reply
unfolding step_of
refusal-tells-nothing r e octets t = go (valid_of r) refl
  where
    go : (b : Bool) → valid_of r ≡ b → Silent (access_in e) (step_of r e octets).reply
    go true v = rw v (rw (refused r e octets (rw (answer-told r e octets) at (rw v at t))) (refused-silent (answered_by r e octets) (access_in e)))
    go false v = rw v (untested-silent (access_in e))
