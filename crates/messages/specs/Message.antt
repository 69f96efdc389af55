-- What an accept or a reject says, sentence by sentence as document 01 has it in its section Messages. Assumes nothing.
use Rattle.std.specs.Prelude.{ℕ, ◌+◌, ◌/◌, false, cond, ◌&&◌, List, length, get_or, ltb, leb, eqb, Option, Some, None, Result, Ok, Err, ⊤}
use Rattle.octets.specs.declared.Fault.{Fault}
use Rattle.octets.specs.declared.Fault.TheVariants.{Cut, First, Second, Kind, Past, Strange}
use Rattle.octets.specs.declared.Part.{Part}
use Rattle.octets.specs.declared.Malformed.{Malformed}
use Rattle.octets.specs.Element.{Elements, elements_from, malformed, first_of, end_of}
use Rattle.timers.specs.declared.Span.{Span}
use Rattle.timers.specs.declared.Span.TheVariants.{Off, Zero, Seconds}
use Rattle.timers.specs.Timer.{span2_of, span3_of}
use Rattle.messages.specs.declared.Accept.{Accept}
use Rattle.messages.specs.declared.Reject.{Reject}
use Rattle.messages.specs.declared.Message.{Message}
use Rattle.messages.specs.declared.Message.TheVariants as message

-- what a reader says of a message: an accept, a reject, or the fault and its offset
abbrev pub Reading : Type 0
Reading = Result Message Malformed

-- 77 GUTI (F2, then 10 octets): where the ten octets lie. A known element too short is absent, extra octets at its end are ignored;
-- a 77 not opening with F2 is absent.
unfoldable pub guti_of : List ℕ → Option Part → Option ℕ
guti_of s None = None
guti_of s (Some p) = cond (leb 11 p.len && eqb (get_or s p.start 0) 0xF2) (Some (p.start + 1)) None

-- 4A equivalents: whole triplets, first 15; how many
unfoldable pub count_of : Option Part → ℕ
count_of None = 0
count_of (Some p) = cond (ltb (p.len / 3) 15) (p.len / 3) 15

-- and where they begin, if there are any
unfoldable pub triplets_of : Option Part → ℕ
triplets_of None = 0
triplets_of (Some p) = cond (eqb (count_of (Some p)) 0) 0 p.start

-- 16 T3502, and in a reject 5F T3346: its first octet is a timer octet, read by the rows of timer 2; one too short is absent, as a deactivated one is
unfoldable pub timer2_in : List ℕ → Option Part → Span
timer2_in s None = Off
timer2_in s (Some p) = cond (eqb p.len 0) Off (span2_of (get_or s p.start 0))

-- of T3502 "deactivated is as absent, zero is 0 s" (document 02, R-6)
abbrev pub timed_of : Span → Option ℕ
timed_of Off = None
timed_of Zero = Some 0
timed_of (Seconds n) = Some n

-- the seconds, 0 where there are none; of T3512 "not if zero or deactivated" is kept as 0
abbrev pub seconds_of : Span → ℕ
seconds_of Off = 0
seconds_of Zero = 0
seconds_of (Seconds n) = n

-- 5E T3512: its first octet is a timer octet, read by the rows of timer 3; one too short is absent
unfoldable pub paced_of : List ℕ → Option Part → Option ℕ
paced_of s None = None
paced_of s (Some p) = cond (eqb p.len 0) None (Some (seconds_of (span3_of (get_or s p.start 0))))

-- An accept: the result begins behind its length; of the elements the first with each identifier counts
unfoldable pub accept_of : List ℕ → Elements → Accept
accept_of s l =
    record {
      result = get_or s 4 0;
      guti = guti_of s (first_of 0x77 l);
      triplets = triplets_of (first_of 0x4A l);
      count = count_of (first_of 0x4A l);
      t3502length = timed_of (timer2_in s (first_of 0x16 l));
      t3512length = paced_of s (first_of 0x5E l);
    }

-- the octet at a place has to be there and to be the one asked for; then comes the rest
unfoldable pub opened_by : {A : Type 0} → (Fault → ℕ → A) → List ℕ → ℕ → ℕ → Fault → A → A
opened_by bad s at octet fault rest = cond (ltb at (length s)) (cond (eqb (get_or s at 0) octet) rest (bad fault at)) (bad Cut at)

-- "All begin 7E 00", octet by octet; then comes the rest
abbrev pub begun_by : {A : Type 0} → (Fault → ℕ → A) → List ℕ → A → A
begun_by bad s rest = opened_by bad s 0 0x7E First (opened_by bad s 1 0x00 Second rest)

-- elements that end with a fault tell it; where they are whole comes the rest
unfoldable pub ended_by : {A : Type 0} → (Fault → ℕ → A) → Result ⊤ Malformed → A → A
ended_by bad (Err m) rest = bad m.fault m.at
ended_by bad (Ok _) rest = rest

-- what the elements make of an accept
unfoldable pub accepted_of : List ℕ → Elements → Result Message Malformed
accepted_of s l = ended_by malformed (end_of l) (Ok (message.Accept (accept_of s l)))

-- Accept: result with one-octet length at least 1, all of it in the message; then the elements
unfoldable pub accept_reading : List ℕ → Result Message Malformed
accept_reading s =
    cond (ltb 3 (length s))
    (cond (eqb (get_or s 3 0) 0) (malformed Cut 3)
    (cond (ltb (length s) (4 + get_or s 3 0)) (malformed Cut (length s))
    (accepted_of s (elements_from false s (4 + get_or s 3 0)))))
    (malformed Cut 3)

-- A reject: cause octet, and of the elements 5F T3346 (document 02, R-6); "without it or with zero or deactivated" is 0
unfoldable pub reject_of : List ℕ → Elements → Reject
reject_of s l = record { cause = get_or s 3 0; t3346length = seconds_of (timer2_in s (first_of 0x5F l)) }

-- what the elements make of a reject
unfoldable pub rejected_of : List ℕ → Elements → Result Message Malformed
rejected_of s l = ended_by malformed (end_of l) (Ok (message.Reject (reject_of s l)))

-- Reject: cause octet, then elements
unfoldable pub reject_reading : List ℕ → Result Message Malformed
reject_reading s = cond (ltb 3 (length s)) (rejected_of s (elements_from false s 4)) (malformed Cut 3)

-- 42 accept, 44 reject
unfoldable pub type_reading : List ℕ → Result Message Malformed
type_reading s =
    cond (ltb 2 (length s))
    (cond (eqb (get_or s 2 0) 0x42) (accept_reading s)
    (cond (eqb (get_or s 2 0) 0x44) (reject_reading s)
    (malformed Kind 2)))
    (malformed Cut 2)

-- "All begin 7E 00 and a type". That "the lowest offset is told" is shown of the whole reading (`lowest`).
unfoldable pub reading_of : List ℕ → Result Message Malformed
reading_of s = begun_by malformed s (type_reading s)

-- how the two octets end that are the same for every call
unfoldable pub opening_of : List ℕ → Result ⊤ Malformed
opening_of s = begun_by malformed s (Ok tt)

-- "Refusals: 13 to 18 in that order, at 3's place" (document 02, R-1)
abbrev pub fault_number : Fault → ℕ
-- fewer than the fixed octets
fault_number Cut = 13
-- octet 1 not 7E
fault_number First = 14
-- octet 2 not 00
fault_number Second = 15
-- type not one this call reads
fault_number Kind = 16
-- an element past the end
fault_number Past = 17
-- an unknown element that must be understood
fault_number Strange = 18

-- The reject reader for C reads 44 alone: an accept is of a type that it does not read, whatever lies behind
unfoldable pub reject_alone : List ℕ → Result Message Malformed
reject_alone s = opened_by malformed s 2 0x44 Kind (reject_reading s)

unfoldable pub cause_reading : List ℕ → Result Message Malformed
cause_reading s = begun_by malformed s (reject_alone s)

-- the cause, or 256 plus the refusal's number
unfoldable pub cause_of : Result Message Malformed → ℕ
cause_of (Ok (message.Accept a)) = 256 + fault_number Kind
cause_of (Ok (message.Reject r)) = r.cause
cause_of (Err m) = 256 + fault_number m.fault

-- The timer reading for C: the seconds, 65535 for top bits 7
abbrev pub timer_seconds : Span → ℕ
timer_seconds Off = 65535
timer_seconds Zero = 0
timer_seconds (Seconds n) = n
