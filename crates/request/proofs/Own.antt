-- One level of a request ends at the lowest of its own faults. Where its head is whole these are the faults of its elements; and a container stands behind a
-- head that is not. Assumes nothing.
use Prim.Native.Nat.{ℕ, ◌+◌, ◌<◌, ◌≤◌}
use mathlib.Core.Path.{◌≡◌, refl, sym, ◌∙◌, ap}
use mathlib.Core.Bool.{Bool, true, false, cond, false≢true}
use mathlib.Core.Logic.{◌⊎◌, inl, inr, ⊎_elim}
use mathlib.Core.List.{List}
use native.Mathlib.Omega.{arith}
use lib.ListN.{length, get_or}
use lib.Dec.{ltb, eqb}
use borrow.Author.Tests.{ltb-true, ltb-false, eqb-true, ne_eqb}
use Rattle.std.specs.Prelude.{Result, Ok, Err, ⊤}
use Rattle.octets.specs.declared.Fault.{Fault}
use Rattle.octets.specs.declared.Fault.TheVariants.{Cut, First, Second, Kind, Past, Strange}
use Rattle.octets.specs.declared.Malformed.{Malformed}
use Rattle.octets.specs.Element.{end_of, malformed}
use Rattle.messages.specs.Message.{opened_by, ended_by}
use Rattle.messages.specs.Faults.{fixed_of, in_request, ElementFault, Faulty, Lowest}
use Rattle.messages.proofs.Readings.{choice}
use Rattle.messages.proofs.Lowest.{fixed-some, Clear, opening-told, type-told, short-told, ended-told}
use Rattle.request.specs.Reading.{identity_in, fixed_reading, head_of, is_asking}
use Rattle.request.specs.Reader.{elements_in}
use Rattle.request.proofs.Below.{Headed}

-- One level: how it ends
abbrev pub own_of : List ℕ → Result ⊤ Malformed
own_of s = ended_by malformed (head_of s) (end_of (elements_in s))

pub whole-end : (e : Result ⊤ Malformed) → ended_by malformed e (Ok tt) ≡ e
unfolding ended_by
whole-end (Err m) = refl
whole-end (Ok _) = refl

module _ (s : List ℕ) where
  abbrev Has : Fault → ℕ → Type 0
  Has = Faulty is_asking s

  -- a head that ends so is the level's end, or leaves it to the elements
  abbrev Leads : Result ⊤ Malformed → Type 0
  Leads h = Lowest Has (ended_by malformed h (end_of (elements_in s)))

  leads : (f : Fault) (at : ℕ) → Lowest Has (malformed f at) → Leads (malformed f at)
  unfolding ended_by
  leads f at x = x

  long : get_or s 2 0 ≡ 0x41 → fixed_of s ≡ 6 + identity_in s
  unfolding fixed_of
  long e = rw e

  module _ (e : get_or s 2 0 ≡ 0x41) (c : Clear is_asking s 3) where
    other : get_or s 2 0 ≡ 0x42 → 3 < length s → get_or s 3 0 ≡ 0 → ⊥
    other a l n = omega arith

    from-fixed : Leads (cond (ltb (length s) (6 + identity_in s)) (malformed Cut (length s)) (Ok tt))
    unfolding ended_by
    from-fixed =
        choice Leads _ _ (ltb (length s) (6 + identity_in s))
        (λ t. short-told Leads malformed is_asking s leads (length s) refl (rw (long e) (ltb-true (length s) (6 + identity_in s) t)) c other)
        (λ t. rw whole-end at (ended-told (Lowest Has) malformed is_asking s (λ f at x. x) true (6 + identity_in s) (Ok tt) (rw e) (sym (long e)) (rw (long e) (ltb-false (length s) (6 + identity_in s) t)) c other (λ x. x)))

  pub own-lowest : Lowest Has (own_of s)
  unfolding head_of
  own-lowest =
      opening-told Leads malformed is_asking s leads _
      (λ h a b. type-told Leads malformed is_asking s leads 0x41 _ h a b (λ n. ne_eqb (get_or s 2 0) 0x41 n) (λ e. rw e) (λ l e c. from-fixed e c))

  -- Where the head is whole

  module _ (head : Headed s) where
    pub asks : (in_request s ≡ true) × (fixed_of s ≡ 6 + identity_in s)
    asks = (rw head.opens.1.1, long head.opens.1.1)

    pub up : (g : Fault) (b : ℕ) → ElementFault (in_request s) s (fixed_of s) g b → Has g b
    unfolding Faulty ElementFault
    up Cut b x = absurd x
    up First b x = absurd x
    up Second b x = absurd x
    up Kind b x = absurd x
    up Past b x = x
    up Strange b x = x

    pub down : (g : Fault) (b : ℕ) → Has g b → ElementFault (in_request s) s (fixed_of s) g b
    unfolding Faulty ElementFault
    down Cut b (inl x) = omega (arith, x.0, head.inside, asks.1)
    down Cut b (inr x) = omega (arith, x.0, head.opens.1.1)
    down First b x = absurd (x.1.0 head.opens.0)
    down Second b x = absurd (x.1.0 head.opens.1.0)
    down Kind b x = absurd (false≢true (sym x.1.0 ∙ rw head.opens.1.1))
    down Past b x = x
    down Strange b x = x

  -- Where it is not, its fault lies before every container

  same-place : (f g : Fault) (at b : ℕ) → ◌≡◌ {A = Result ⊤ Malformed} (malformed f at) (malformed g b) → b ≡ at
  same-place f g at b e = let z : ◌≡◌ {A = Malformed} (record { fault = f; at = at }) (record { fault = g; at = b }) = cc in sym (ap (λ (m : Malformed). m.at) z)

  opened-broken : (at octet : ℕ) (f g : Fault) (b : ℕ) (rest : Result ⊤ Malformed) → opened_by malformed s at octet f rest ≡ malformed g b → (b ≡ at) ⊎ ((get_or s at 0 ≡ octet) × (rest ≡ malformed g b))
  unfolding opened_by
  opened-broken at octet f g b rest e = go (ltb at (length s)) (eqb (get_or s at 0) octet) refl e
    where
      go : (x y : Bool) → eqb (get_or s at 0) octet ≡ y → cond x (cond y rest (malformed f at)) (malformed Cut at) ≡ malformed g b → (b ≡ at) ⊎ ((get_or s at 0 ≡ octet) × (rest ≡ malformed g b))
      go true true h z = inr (eqb-true (get_or s at 0) octet h, z)
      go true false h z = inl (same-place f g at b z)
      go false y h z = inl (same-place Cut g at b z)

  pub before : (g : Fault) (b c : ℕ) → head_of s ≡ malformed g b → fixed_of s ≤ c → c < length s → b < c
  unfolding head_of
  before g b c e l h =
      ⊎_elim (λ z. omega (arith, z, fixed-some is_asking s))
      (λ x. ⊎_elim (λ z. omega (arith, z, fixed-some is_asking s))
      (λ y. ⊎_elim (λ z. omega (arith, z, fixed-some is_asking s)) (λ z. cut z.0 (ltb (length s) (6 + identity_in s)) refl z.1) (opened-broken 2 0x41 Kind g b (cond (ltb (length s) (6 + identity_in s)) (malformed Cut (length s)) (Ok tt)) y.1))
      (opened-broken 1 0x00 Second g b (fixed_reading s) x.1))
      (opened-broken 0 0x7E First g b (opened_by malformed s 1 0x00 Second (fixed_reading s)) e)
    where
      cut : get_or s 2 0 ≡ 0x41 → (t : Bool) → ltb (length s) (6 + identity_in s) ≡ t → cond t (malformed Cut (length s)) (Ok (tt {0})) ≡ malformed g b → b < c
      cut k true t z = let w : fixed_of s ≡ 6 + identity_in s = long k in omega (arith, ltb-true (length s) (6 + identity_in s) t)
      cut k false t z = let n : ◌≡◌ {A = ℕ} 0 1 = cc in absurd (omega arith)
