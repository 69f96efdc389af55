-- A message that reads as an accept has 42 in its third octet; one that reads as a reject 44, and its cause in the fourth. Assumes nothing.
use Prim.Native.Nat.{ℕ, ◌+◌}
use mathlib.Core.Path.{◌≡◌, refl}
use mathlib.Core.Bool.{Bool, true, false, cond, false≢true}
use mathlib.Core.List.{List}
use lib.Dec.{ltb, eqb}
use lib.ListN.{length, get_or}
use Rattle.std.specs.Prelude.{Ok, Err}
use Rattle.octets.specs.declared.Fault.{Fault}
use Rattle.octets.specs.declared.Fault.TheVariants.{Cut, First, Second, Kind}
use Rattle.octets.specs.Element.{Ending, malformed}
use Rattle.messages.specs.declared.Message.TheVariants as message
use Rattle.messages.specs.Message.{Reading, ended_by, accepted_of, accept_reading, reject_of, rejected_of, reject_reading, type_reading, opened_by, reading_of}
use Rattle.history.specs.History.{by_type}

-- what a reading says, by what an accept does and what a reject does by its cause
unfoldable pub read_by : {A : Type 0} → A → A → (ℕ → A) → Reading → A
read_by none accept reject (Ok (message.Accept g)) = accept
read_by none accept reject (Ok (message.Reject k)) = reject k.cause
read_by none accept reject (Err m) = none

unfoldable pub is_read : Reading → Bool
is_read (Ok (message.Accept g)) = true
is_read (Ok (message.Reject k)) = true
is_read (Err m) = false

module _ {A : Type 0} (none accept : A) (reject : ℕ → A) where
  abbrev said : Reading → A
  said m = read_by none accept reject m

  -- a reading that is X if it reads at all
  abbrev Is : A → Reading → Type 0
  Is x m = is_read m ≡ true → x ≡ said m

  bad : (x : A) (f : Fault) (at : ℕ) → Is x (malformed f at)
  unfolding is_read
  bad x f at t = absurd (false≢true t)

  either_is : (x : A) (b : Bool) (m m' : Reading) → (b ≡ true → Is x m) → (b ≡ false → Is x m') → Is x (cond b m m')
  either_is x true m m' h k = h refl
  either_is x false m m' h k = k refl

  module _ (s : List ℕ) where
    ended_is : (x : A) (e : Ending) (m : Reading) → x ≡ said m → Is x (ended_by malformed e m)
    unfolding ended_by
    ended_is x (Err f) m i = bad x f.fault f.at
    ended_is x (Ok _) m i = λ t. i

    accept-is : Is accept (accept_reading s)
    unfolding accept_reading accepted_of read_by
    accept-is =
        either_is accept (ltb 3 (length s)) _ _
        (λ e. either_is accept (eqb (get_or s 3 0) 0) _ _ (λ e'. bad accept Cut 3) (λ e'. either_is accept (ltb (length s) (4 + get_or s 3 0)) _ _ (λ e''. bad accept Cut (length s)) (λ e''. ended_is accept _ _ refl)))
        (λ e. bad accept Cut 3)

    reject-is : Is (reject (get_or s 3 0)) (reject_reading s)
    unfolding reject_reading rejected_of reject_of read_by
    reject-is = either_is (reject (get_or s 3 0)) (ltb 3 (length s)) _ _ (λ e. ended_is (reject (get_or s 3 0)) _ _ refl) (λ e. bad (reject (get_or s 3 0)) Cut 3)

    abbrev heard : A
    heard = by_type accept reject s

    type-is : Is heard (type_reading s)
    unfolding type_reading by_type
    type-is =
        either_is _ (ltb 2 (length s)) _ _
        (λ e. either_is _ (eqb (get_or s 2 0) 0x42) _ _ (λ q. rw q accept-is)
        (λ q. either_is _ (eqb (get_or s 2 0) 0x44) _ _ (λ q'. rw q reject-is) (λ q'. bad _ Kind 2)))
        (λ e. bad _ Cut 2)

    opened-is : (at octet : ℕ) (f : Fault) (m : Reading) → Is heard m → Is heard (opened_by malformed s at octet f m)
    unfolding opened_by
    opened-is at octet f m h =
        either_is heard (ltb at (length s)) _ _ (λ e. either_is heard (eqb (get_or s at 0) octet) m _ (λ e'. h) (λ e'. bad heard f at)) (λ e. bad heard Cut at)

    pub by-octets : Is heard (reading_of s)
    unfolding reading_of
    by-octets = opened-is 0 0x7E First _ (opened-is 1 0x00 Second _ type-is)
