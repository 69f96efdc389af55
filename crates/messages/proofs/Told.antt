-- The reader of message events and the reject reader for C each tell the lowest fault of a message, or none where it has none. Assumes nothing.
use Prim.Native.Nat.{ℕ, ◌+◌, ◌<◌, ◌≤◌}
use mathlib.Core.Path.{◌≡◌, refl}
use mathlib.Core.Bool.{Bool, false}
use mathlib.Core.Logic.{inl}
use mathlib.Core.List.{List}
use Rattle.std.specs.Prelude.{Result}
use native.Mathlib.Omega.{arith}
use lib.ListN.{length, get_or}
use lib.Dec.{ltb, eqb}
use borrow.Author.Tests.{ltb-true, ltb-false, eqb-true, eqb-false, ne_eqb}
use Rattle.octets.specs.declared.Fault.{Fault}
use Rattle.octets.specs.declared.Fault.TheVariants.{Kind}
use Rattle.octets.specs.declared.Malformed.{Malformed}
use Rattle.octets.specs.Element.{malformed}
use Rattle.messages.specs.Message.{accepted_of, accept_reading, rejected_of, reject_reading, type_reading, reading_of, reject_alone, cause_reading}
use Rattle.messages.specs.Faults.{fixed_of, Faulty, Lowest, is_answer, is_reject, fault_told}
use Rattle.messages.specs.declared.Message.{Message}
use Rattle.messages.proofs.Readings.{choice}
use Rattle.messages.proofs.Lowest.{Clear, clear-two, clear-three, octet-lowest, cut-lowest, fixed-some, opening-told, type-told, short-told, empty-told, ended-told}

-- For any call that reads the type
module _ (reads : ℕ → Bool) (s : List ℕ) where
  abbrev Tells : Result Message Malformed → Type 0
  Tells m = Lowest (Faulty reads s) (fault_told m)

  tells : (f : Fault) (at : ℕ) → Lowest (Faulty reads s) (malformed f at) → Tells (malformed f at)
  unfolding fault_told
  tells f at x = x

  from-reject : get_or s 2 0 ≡ 0x44 → 2 < length s → Clear reads s 3 → Tells (reject_reading s)
  unfolding reject_reading rejected_of fault_told fixed_of
  from-reject e h c =
      choice Tells _ _ (ltb 3 (length s))
      (λ t. ended-told Tells malformed reads s tells false 4 _ (rw e) (rw e) (rw e (ltb-true 3 (length s) t)) c other (λ x. x))
      (λ t. short-told Tells malformed reads s tells 3 (omega (arith, ltb-false 3 (length s) t)) (rw e (omega (arith, ltb-false 3 (length s) t))) c other)
    where
      other : get_or s 2 0 ≡ 0x42 → 3 < length s → get_or s 3 0 ≡ 0 → ⊥
      other a l n = omega arith

  from-accept : get_or s 2 0 ≡ 0x42 → 2 < length s → Clear reads s 3 → Tells (accept_reading s)
  unfolding accept_reading accepted_of fault_told fixed_of
  from-accept e h c =
      choice Tells _ _ (ltb 3 (length s))
      (λ t. choice Tells _ _ (eqb (get_or s 3 0) 0) (λ z. empty-told Tells malformed reads s tells e (ltb-true 3 (length s) t) (eqb-true (get_or s 3 0) 0 z) c)
      (λ z. choice Tells _ _ (ltb (length s) (4 + get_or s 3 0))
      (λ l. short-told Tells malformed reads s tells (length s) refl (rw e (ltb-true (length s) (4 + get_or s 3 0) l)) c (λ a b n. eqb-false (get_or s 3 0) 0 z n))
      (λ l. ended-told Tells malformed reads s tells false (4 + get_or s 3 0) _ (rw e) (rw e) (rw e (ltb-false (length s) (4 + get_or s 3 0) l)) c (λ a b n. eqb-false (get_or s 3 0) 0 z n) (λ x. x))))
      (λ t. short-told Tells malformed reads s tells 3 (omega (arith, ltb-false 3 (length s) t)) (rw e (omega (arith, ltb-false 3 (length s) t))) c
      (λ a b n. let z : ⊥ = omega (arith, ltb-false 3 (length s) t) in z))

-- Message events: accepts and rejects
typed : (s : List ℕ) → 2 ≤ length s → get_or s 0 0 ≡ 0x7E → get_or s 1 0 ≡ 0x00 → Tells is_answer s (type_reading s)
unfolding type_reading fault_told Faulty
typed s h a b =
    choice (Tells is_answer s) _ _ (ltb 2 (length s))
    (λ t. choice (Tells is_answer s) _ _ (eqb (get_or s 2 0) 0x42)
    (λ x. from-accept is_answer s (eqb-true (get_or s 2 0) 0x42 x) (ltb-true 2 (length s) t) (clear-three is_answer s (ltb-true 2 (length s) t) a b (rw x)))
    (λ x. choice (Tells is_answer s) _ _ (eqb (get_or s 2 0) 0x44)
    (λ y. from-reject is_answer s (eqb-true (get_or s 2 0) 0x44 y) (ltb-true 2 (length s) t) (clear-three is_answer s (ltb-true 2 (length s) t) a b (rw (x, y))))
    (λ y. octet-lowest is_answer s Kind 2 refl (omega arith) (ltb-true 2 (length s) t) (ltb-true 2 (length s) t, (rw (x, y), refl)) (clear-two is_answer s h a b))))
    (λ t. let l : length s ≤ 2 = ltb-false 2 (length s) t in cut-lowest is_answer s 2 (inl (omega (arith, fixed-some is_answer s), omega arith)) (clear-two is_answer s h a b))

pub lowest : (s : List ℕ) → Lowest (Faulty is_answer s) (fault_told (reading_of s))
unfolding reading_of
lowest s = opening-told (Tells is_answer s) malformed is_answer s (tells is_answer s) (type_reading s) (typed s)

-- The reject reader for C
pub lowest-cause : (s : List ℕ) → Lowest (Faulty is_reject s) (fault_told (cause_reading s))
unfolding cause_reading reject_alone
lowest-cause s =
    opening-told (Tells is_reject s) malformed is_reject s (tells is_reject s) (reject_alone s)
    (λ h a b. type-told (Tells is_reject s) malformed is_reject s (tells is_reject s) 0x44 (reject_reading s) h a b (λ n. ne_eqb (get_or s 2 0) 0x44 n)
    (λ e. rw e) (λ l e c. from-reject is_reject s e l c))
