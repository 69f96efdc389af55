-- The offsets of a reading lie within the message: what an accept points at can be read there, and a fault is told at an octet or at the end.
-- Assumes nothing.
use Prim.Native.Nat.{ℕ, ◌+◌, ◌*◌, ◌/◌, ◌≤◌}
use mathlib.Core.Path.{◌≡◌, refl}
use mathlib.Core.Bool.{Bool, true, false, cond, ◌&&◌}
use mathlib.Core.List.{List}
use Rattle.std.specs.Prelude.{Option, Some, None, IfSome, Result, Ok, Err}
use native.Mathlib.Omega.{arith}
use lib.ListN.{length, get_or}
use lib.Dec.{ltb, leb, eqb}
use borrow.Author.Tests.{ltb-false, ltb-true, leb-true}
use Rattle.octets.specs.Element.{Elements, malformed, first_of}
use Rattle.octets.specs.declared.Fault.{Fault}
use Rattle.octets.specs.declared.Fault.TheVariants.{First, Second}
use Rattle.octets.specs.declared.Malformed.{Malformed}
use Rattle.octets.specs.declared.Part.{Part}
use Rattle.octets.proofs.Inside.{Sound, from_place, found_inside}
use Rattle.messages.specs.Message.{guti_of, count_of, triplets_of, accept_of, accepted_of, accept_reading, rejected_of, reject_reading, type_reading, reading_of}
use Rattle.messages.specs.declared.Message.{Message}
use Rattle.messages.specs.declared.Message.TheVariants as message
use Rattle.messages.proofs.Readings.{choice, opened-so, ended_so}

-- a part that is found ends within n octets
abbrev Fits : ℕ → Option Part → Type 0
Fits n p = (q : Part) → p ≡ Some q → q.start + q.len ≤ n

fits : (n x : ℕ) (l : Elements) → Sound false n l → Fits n (first_of x l)
fits n x l h = λ q e. (found_inside false n x l q h e).0

-- 77: the ten octets of a GUTI that is given
opened : (n : ℕ) (p : Part) (a b : Bool) → p.start + p.len ≤ n → leb 11 p.len ≡ a → IfSome (cond (a && b) (Some (p.start + 1)) None) (λ g. g + 10 ≤ n)
opened n p true true f e = omega (arith, leb-true 11 p.len e)
opened n p true false f e = tt
opened n p false b f e = tt

given : (s : List ℕ) (p : Option Part) → Fits (length s) p → IfSome (guti_of s p) (λ g. g + 10 ≤ length s)
unfolding guti_of
given s None f = tt
given s (Some p) f = opened (length s) p (leb 11 p.len) (eqb (get_or s p.start 0) 0xF2) (f p refl) refl

-- 4A: the triplets that are taken
fifteen : (len : ℕ) (b : Bool) → ltb (len / 3) 15 ≡ b → cond b (len / 3) 15 * 3 ≤ len
fifteen len true e = omega arith
fifteen len false e = omega (arith, ltb-false (len / 3) 15 e)

placed : (n start count len : ℕ) (b : Bool) → count * 3 ≤ len → start + len ≤ n → cond b 0 start + count * 3 ≤ n
placed n start count len true h g = omega arith
placed n start count len false h g = omega arith

taken : (n : ℕ) (p : Option Part) → Fits n p → triplets_of p + count_of p * 3 ≤ n
unfolding triplets_of count_of
taken n None f = omega arith
taken n (Some p) f = placed n p.start (cond (ltb (p.len / 3) 15) (p.len / 3) 15) p.len (eqb (cond (ltb (p.len / 3) 15) (p.len / 3) 15) 0) (fifteen p.len (ltb (p.len / 3) 15) refl) (f p refl)

-- a GUTI's ten octets and all triplets lie in the message; a fault is told at an octet of it or at its end
unfoldable pub Inside : List ℕ → Result Message Malformed → Type 0
Inside s (Ok (message.Accept a)) = IfSome a.guti (λ g. g + 10 ≤ length s) × (a.triplets + a.count * 3 ≤ length s)
Inside s (Ok (message.Reject r)) = Unit
Inside s (Err m) = m.at ≤ length s

fault-told : (s : List ℕ) (f : Fault) (at : ℕ) → at ≤ length s → Inside s (malformed f at)
unfolding Inside
fault-told s f at h = h

accepted : (s : List ℕ) (l : Elements) → Sound false (length s) l → Inside s (accepted_of s l)
unfolding accepted_of accept_of Inside
accepted s l h = ended_so (Inside s) malformed s (fault-told s) false l _ h (given s (first_of 0x77 l) (fits (length s) 0x77 l h), taken (length s) (first_of 0x4A l) (fits (length s) 0x4A l h))

from-accept : (s : List ℕ) → 3 ≤ length s → Inside s (accept_reading s)
unfolding accept_reading Inside
from-accept s h =
    choice (Inside s) _ _ (ltb 3 (length s))
    (λ e. choice (Inside s) _ _ (eqb (get_or s 3 0) 0) (λ f. h)
    (λ f. choice (Inside s) _ _ (ltb (length s) (4 + get_or s 3 0)) (λ g. omega arith)
    (λ g. accepted s _ (from_place false s (4 + get_or s 3 0) (ltb-false _ _ g)))))
    (λ e. h)

from-reject : (s : List ℕ) → 3 ≤ length s → Inside s (reject_reading s)
unfolding reject_reading rejected_of Inside
from-reject s h =
    choice (Inside s) _ _ (ltb 3 (length s)) (λ e. ended_so (Inside s) malformed s (fault-told s) false _ _ (from_place false s 4 (ltb-true 3 (length s) e)) tt) (λ e. h)

typed : (s : List ℕ) → 2 ≤ length s → Inside s (type_reading s)
unfolding type_reading Inside
typed s h =
    choice (Inside s) _ _ (ltb 2 (length s))
    (λ e. choice (Inside s) _ _ (eqb (get_or s 2 0) 0x42) (λ f. from-accept s (ltb-true 2 (length s) e))
    (λ f. choice (Inside s) _ _ (eqb (get_or s 2 0) 0x44) (λ g. from-reject s (ltb-true 2 (length s) e)) (λ g. h)))
    (λ e. h)

pub inside : (s : List ℕ) → Inside s (reading_of s)
unfolding reading_of
inside s =
    opened-so (Inside s) malformed s (fault-told s) 0 0x7E First _ (omega arith)
    (λ h a. opened-so (Inside s) malformed s (fault-told s) 1 0x00 Second _ h (λ g b. typed s g))
