-- What an accept brings is in range: at most 15 equivalents, each of three octets, a T3502 length of at most 31 times 360 s and a T3512 length of at most 31 times 320 h. Assumes nothing.
use Prim.Native.Nat.{ℕ, zero, suc, ◌+◌, ◌/◌, ◌≤◌}
use mathlib.Core.Path.{◌≡◌, refl}
use mathlib.Core.Bool.{Bool, true, false, cond}
use mathlib.Core.List.{List}
use native.Mathlib.Omega.{arith}
use lib.Dec.{ltb, eqb}
use lib.ListN.{length, get_or, drop}
use lib.Seq.{get_or-drop}
use borrow.Author.Tests.{le-leb, lt-ltb}
use Rattle.std.specs.Prelude.{Option, Some, None, Ok, Err, unwrap_or}
use Rattle.laws.specs.Bounds.{at_most}
use Rattle.laws.specs.Upto.{first, copied}
use Rattle.laws.proofs.Arrays.{upto-reads}
use Rattle.octets.specs.declared.Fault.{Fault}
use Rattle.octets.specs.declared.Fault.TheVariants.{Cut, First, Second, Kind}
use Rattle.octets.specs.declared.Part.{Part}
use Rattle.octets.specs.Element.{Ending, malformed, Elements, elements_from, first_of, end_of}
use Rattle.timers.specs.declared.Span.{Span}
use Rattle.timers.specs.declared.Span.TheVariants.{Off, Zero, Seconds}
use Rattle.messages.specs.declared.Message.TheVariants as message
use Rattle.messages.specs.Message.{Reading, count_of, timer2_in, paced_of, timed_of, seconds_of, accept_of, accepted_of, accept_reading, reject_of, rejected_of, reject_reading, type_reading, ended_by, opened_by, reading_of}
use Rattle.messages.proofs.Lengths.{timer2-fits, t3512-fits}
use Rattle.record.specs.Tests.{up_to, is_short}
use Rattle.networks.specs.Networks.{network_of}
use Rattle.events.specs.Parts.{networks_of}
use Rattle.validity.specs.Run.{Octets}
use Rattle.validity.proofs.Bools.{most-is, most-fits}
use Rattle.validity.proofs.Arrays.{All}

-- a reading whose numbers fit an access
abbrev pub Mild : Reading → Type 0
Mild (Ok (message.Accept g)) = (up_to 15 g.count ≡ true) × (up_to 11160 (unwrap_or g.t3502length 0) ≡ true) × (up_to 35712000 (unwrap_or g.t3512length 0) ≡ true)
Mild (Ok (message.Reject g)) = Unit {0}
Mild (Err m) = Unit {0}

count_fits : (p : Option Part) → count_of p ≤ 15
unfolding count_of
count_fits None = omega arith
count_fits (Some p) = most-fits 15 (p.len / 3)

timed-seconds : (s : Span) → unwrap_or (timed_of s) 0 ≡ seconds_of s
timed-seconds Off = refl
timed-seconds Zero = refl
timed-seconds (Seconds n) = refl

ended-mild : (e : Ending) (m : Reading) → Mild m → Mild (ended_by malformed e m)
unfolding ended_by
ended-mild (Err f) m h = tt
ended-mild (Ok _) m h = h

accepted-mild : (s : List ℕ) (l : Elements) → Mild (accepted_of s l)
unfolding accepted_of accept_of
accepted-mild s l =
    ended-mild (end_of l) (Ok (message.Accept (accept_of s l))) (
      le-leb (count_of (first_of 0x4A l)) 15 (count_fits (first_of 0x4A l)),
      rw (timed-seconds (timer2_in s (first_of 0x16 l))) (le-leb (seconds_of (timer2_in s (first_of 0x16 l))) 11160 (timer2-fits s (first_of 0x16 l))),
      le-leb (unwrap_or (paced_of s (first_of 0x5E l)) 0) 35712000 (t3512-fits s (first_of 0x5E l)),
    )

cond-mild : (b : Bool) (m n : Reading) → Mild m → Mild n → Mild (cond b m n)
cond-mild true m n p q = p
cond-mild false m n p q = q

accept-mild : (s : List ℕ) → Mild (accept_reading s)
unfolding accept_reading
accept-mild s =
    cond-mild (ltb 3 (length s)) (cond (eqb (get_or s 3 0) 0) (malformed Cut 3) read) (malformed Cut 3)
    (cond-mild (eqb (get_or s 3 0) 0) (malformed Cut 3) read tt
    (cond-mild (ltb (length s) (4 + get_or s 3 0)) (malformed Cut (length s)) (accepted_of s (elements_from false s (4 + get_or s 3 0))) tt
    (accepted-mild s (elements_from false s (4 + get_or s 3 0)))))
    tt
  where
    read : Reading
    read = cond (ltb (length s) (4 + get_or s 3 0)) (malformed Cut (length s)) (accepted_of s (elements_from false s (4 + get_or s 3 0)))

reject-mild : (s : List ℕ) → Mild (reject_reading s)
unfolding reject_reading rejected_of
reject-mild s =
    cond-mild (ltb 3 (length s)) (rejected_of s (elements_from false s 4)) (malformed Cut 3) (ended-mild (end_of (elements_from false s 4)) (Ok (message.Reject (reject_of s (elements_from false s 4)))) tt) tt

type-mild : (s : List ℕ) → Mild (type_reading s)
unfolding type_reading
type-mild s =
    cond-mild (ltb 2 (length s)) (cond (eqb (get_or s 2 0) 0x42) (accept_reading s) (cond (eqb (get_or s 2 0) 0x44) (reject_reading s) (malformed Kind 2))) (malformed Cut 2)
    (cond-mild (eqb (get_or s 2 0) 0x42) (accept_reading s) (cond (eqb (get_or s 2 0) 0x44) (reject_reading s) (malformed Kind 2)) (accept-mild s)
    (cond-mild (eqb (get_or s 2 0) 0x44) (reject_reading s) (malformed Kind 2) (reject-mild s) tt))
    tt

opened-mild : (s : List ℕ) (at octet : ℕ) (f : Fault) (m : Reading) → Mild m → Mild (opened_by malformed s at octet f m)
unfolding opened_by
opened-mild s at octet f m h =
    cond-mild (ltb at (length s)) (cond (eqb (get_or s at 0) octet) m (malformed f at)) (malformed Cut at) (cond-mild (eqb (get_or s at 0) octet) m (malformed f at) h tt) tt

pub reading-mild : (s : List ℕ) → Mild (reading_of s)
unfolding reading_of
reading-mild s = opened-mild s 0 0x7E First (opened_by malformed s 1 0x00 Second (type_reading s)) (opened-mild s 1 0x00 Second (type_reading s) (type-mild s))

pub drop-octets : (n : ℕ) (s : List ℕ) → Octets s → Octets (drop n s)
drop-octets n s h k = rw (get_or-drop n s k 0) (h (n + k))

networks-short : (n : ℕ) (s : List ℕ) → Octets s → (k : ℕ) → is_short (get_or (networks_of n s) k 0) ≡ true
unfolding networks_of
networks-short zero s h k = refl
networks-short (suc n) s h zero = lt-ltb (network_of (get_or s 0 0) (get_or s 1 0) (get_or s 2 0)) 16777216 (omega (arith, h 0, h 1, h 2))
networks-short (suc n) s h (suc k) = networks-short n (drop 3 s) (drop-octets 3 s h) k

-- the equivalents copied from the message
pub copied-short : (count at : ℕ) (octets equivalents : List ℕ) → up_to 15 count ≡ true → Octets octets
    → All is_short count (copied (at_most 15 count) (networks_of (at_most 15 count) (drop at octets)) equivalents)
unfolding copied
copied-short count at octets equivalents e h k l =
    rw (most-is 15 count e)
    (upto-reads first count (networks_of count (drop at octets)) equivalents k (λ x. is_short x ≡ true) l (networks-short count (drop at octets) (drop-octets at octets h) k) (λ _. refl))
