-- Of a message's faults the lowest is told, for every call that reads octet by octet: up to the type no fault lies below the octet that is
-- looked at, behind it only a cut and the elements' faults are left. Assumes nothing.
use Prim.Native.Nat.{ℕ, ◌+◌, ◌*◌, ◌≤◌, ◌<◌}
use mathlib.Core.Path.{◌≡◌, refl, sym, ◌∙◌}
use mathlib.Core.Bool.{Bool, true, false, cond, false≢true}
use mathlib.Core.Logic.{inl, inr, ⊎_elim}
use mathlib.Core.List.{List}
use Rattle.std.specs.Prelude.{Result, Ok, Err, ⊤}
use native.Mathlib.Omega.{arith}
use lib.ListN.{length, get_or}
use lib.Dec.{ltb, eqb}
use borrow.Author.Tests.{ltb-true, ltb-false, eqb-true, eqb-false}
use Rattle.octets.specs.declared.Fault.{Fault}
use Rattle.octets.specs.declared.Fault.TheVariants.{Cut, First, Second, Kind, Past, Strange}
use Rattle.octets.specs.declared.Malformed.{Malformed}
use Rattle.octets.specs.Element.{elements_from, malformed, end_of}
use Rattle.messages.specs.Message.{opened_by, begun_by, ended_by, fault_number}
use Rattle.messages.specs.Faults.{fixed_of, in_request, ElementFault, Faulty, Lowest}
use Rattle.messages.proofs.Readings.{choice}
use Rattle.messages.proofs.Walk.{order, behind, elements-lowest}

pub least : (g : Fault) → 13 ≤ fault_number g
least Cut = omega arith
least First = omega arith
least Second = omega arith
least Kind = omega arith
least Past = omega arith
least Strange = omega arith

below : (n k : ℕ) → (k < n → ⊥) → n ≤ k
below n k h = by (ltb k n) refl
  where
    by : (t : Bool) → ltb k n ≡ t → n ≤ k
    by true e = absurd (h (ltb-true k n e))
    by false e = ltb-false k n e

module _ (reads : ℕ → Bool) (s : List ℕ) where
  abbrev Has : Fault → ℕ → Type 0
  Has = Faulty reads s

  -- no fault lies below a place
  abbrev pub Clear : ℕ → Type 0
  Clear n = (g : Fault) (b : ℕ) → Has g b → n ≤ b

  -- an accept's result has octets
  abbrev pub HasResult : Type 0
  HasResult = get_or s 2 0 ≡ 0x42 → 3 < length s → get_or s 3 0 ≡ 0 → ⊥

  pub fixed-some : 3 ≤ fixed_of s
  unfolding fixed_of
  fixed-some = sides (eqb (get_or s 2 0) 0x41) (eqb (get_or s 2 0) 0x42) (eqb (get_or s 2 0) 0x44) (get_or s 4 0 * 256 + get_or s 5 0) (get_or s 3 0)
    where
      sides : (a b c : Bool) (n m : ℕ) → 3 ≤ cond a (6 + n) (cond b (4 + m) (cond c 4 3))
      sides true b c n m = omega arith
      sides false true c n m = omega arith
      sides false false true n m = omega arith
      sides false false false n m = omega arith

  -- the elements' faults lie behind the fixed octets and before the end
  far : (g : Fault) (b : ℕ) → ElementFault (in_request s) s (fixed_of s) g b → (fixed_of s ≤ b) × (b < length s)
  far g b x = behind (in_request s) s (fixed_of s) g b x

  clear : (n : ℕ) → n ≤ 3 → n ≤ length s → (0 < n → get_or s 0 0 ≡ 0x7E) → (1 < n → get_or s 1 0 ≡ 0x00) → (2 < n → reads (get_or s 2 0) ≡ true) → Clear n
  unfolding Faulty
  clear n h l a b c Cut at (inl x) = omega (arith, x.1)
  clear n h l a b c Cut at (inr x) = omega (arith, x.1.1.1)
  clear n h l a b c First at x = omega (arith, below n 0 (λ m. x.1.0 (a m)), x.1.1)
  clear n h l a b c Second at x = omega (arith, below n 1 (λ m. x.1.0 (b m)), x.1.1)
  clear n h l a b c Kind at x = omega (arith, below n 2 (λ m. false≢true (sym x.1.0 ∙ c m)), x.1.1)
  clear n h l a b c Past at x = omega (arith, fixed-some, (far Past at x).0)
  clear n h l a b c Strange at x = omega (arith, fixed-some, (far Strange at x).0)

  pub clear-two : 2 ≤ length s → get_or s 0 0 ≡ 0x7E → get_or s 1 0 ≡ 0x00 → Clear 2
  clear-two l a b = clear 2 (omega arith) l (λ m. a) (λ m. b) (λ m. absurd (let z : ⊥ = omega (arith, m) in z))

  pub clear-three : 3 ≤ length s → get_or s 0 0 ≡ 0x7E → get_or s 1 0 ≡ 0x00 → reads (get_or s 2 0) ≡ true → Clear 3
  clear-three l a b c = clear 3 (omega arith) l (λ m. a) (λ m. b) (λ m. c)

  -- of the faults at one of the first three octets none has a lower number than the octet's own
  tie : (g : Fault) (b : ℕ) → Has g b → b ≤ 2 → b < length s → 14 + b ≤ fault_number g
  unfolding Faulty
  tie Cut b (inl x) h l = omega (arith, x.1)
  tie Cut b (inr x) h l = omega (arith, x.1.1.1)
  tie First b x h l = omega (arith, x.1.1)
  tie Second b x h l = omega (arith, x.1.1)
  tie Kind b x h l = omega (arith, x.1.1)
  tie Past b x h l = omega (arith, fixed-some, (far Past b x).0)
  tie Strange b x h l = omega (arith, fixed-some, (far Strange b x).0)

  pub octet-lowest : (f : Fault) (at : ℕ) → fault_number f ≡ 14 + at → at ≤ 2 → at < length s → Has f at → Clear at → Lowest Has (malformed f at)
  unfolding Lowest
  octet-lowest f at e h l x c = (x, λ g b y. ⊎_elim inl (λ z. inr (z, omega (arith, tie g b y (omega arith) (omega arith)))) (order at b (c g b y)))

  pub cut-lowest : (at : ℕ) → Has Cut at → Clear at → Lowest Has (malformed Cut at)
  unfolding Lowest
  cut-lowest at x c = (x, λ g b y. ⊎_elim inl (λ z. inr (z, least g)) (order at b (c g b y)))

  -- a message with fewer than the fixed octets has no element
  short-clear : length s < fixed_of s → Clear 3 → HasResult → Clear (length s)
  unfolding Faulty
  short-clear h c r Cut b (inl x) = omega (arith, x.1)
  short-clear h c r Cut b (inr x) = absurd (r x.0 x.1.0 x.1.1.0)
  short-clear h c r First b x = omega (arith, c First b x, x.1.1)
  short-clear h c r Second b x = omega (arith, c Second b x, x.1.1)
  short-clear h c r Kind b x = omega (arith, c Kind b x, x.1.1)
  short-clear h c r Past b x = omega (arith, far Past b x)
  short-clear h c r Strange b x = omega (arith, far Strange b x)

  -- where the fixed octets are there and right, the elements' faults are all that are left
  up : (g : Fault) (b : ℕ) → ElementFault (in_request s) s (fixed_of s) g b → Has g b
  unfolding Faulty ElementFault
  up Cut b x = absurd x
  up First b x = absurd x
  up Second b x = absurd x
  up Kind b x = absurd x
  up Past b x = x
  up Strange b x = x

  down : fixed_of s ≤ length s → Clear 3 → HasResult → (g : Fault) (b : ℕ) → Has g b → ElementFault (in_request s) s (fixed_of s) g b
  unfolding Faulty ElementFault
  down h c r Cut b (inl x) = omega (arith, x.0)
  down h c r Cut b (inr x) = absurd (r x.0 x.1.0 x.1.1.0)
  down h c r First b x = omega (arith, c First b x, x.1.1)
  down h c r Second b x = omega (arith, c Second b x, x.1.1)
  down h c r Kind b x = omega (arith, c Kind b x, x.1.1)
  down h c r Past b x = x
  down h c r Strange b x = x

  lift : fixed_of s ≤ length s → Clear 3 → HasResult → (e : Result ⊤ Malformed) → Lowest (ElementFault (in_request s) s (fixed_of s)) e → Lowest Has e
  unfolding Lowest
  lift h c r (Err m) x = (up m.fault m.at x.0, λ g b y. x.1 g b (down h c r g b y))
  lift h c r (Ok _) x = λ g b y. x g b (down h c r g b y)

-- What a call makes of a fault, `bad`, and that a call which tells it does well, `told`; P is that a reading does
module _ {A : Type 0} (P : A → Type 0) (bad : Fault → ℕ → A) (reads : ℕ → Bool) (s : List ℕ) (told : (f : Fault) (at : ℕ) → Lowest (Faulty reads s) (malformed f at) → P (bad f at)) where
  -- one of the first three octets
  pub octet-told : (at octet : ℕ) (f : Fault) (rest : A) → at ≤ 2 → fault_number f ≡ 14 + at → at ≤ length s → Clear reads s at
      → (at < length s → (get_or s at 0 ≡ octet → ⊥) → Faulty reads s f at)
      → (at < length s → get_or s at 0 ≡ octet → P rest) → P (opened_by bad s at octet f rest)
  unfolding opened_by Faulty
  octet-told at octet f rest h n l c is go =
      choice P _ _ (ltb at (length s))
      (λ e. choice P _ _ (eqb (get_or s at 0) octet) (λ t. go (ltb-true at (length s) e) (eqb-true (get_or s at 0) octet t))
      (λ t. told f at (octet-lowest reads s f at n h (ltb-true at (length s) e) (is (ltb-true at (length s) e) (eqb-false (get_or s at 0) octet t)) c)))
      (λ e. let m : length s ≤ at = ltb-false at (length s) e in told Cut at (cut-lowest reads s at (inl (omega (arith, fixed-some reads s), omega arith)) c))

  pub opening-told : (rest : A) → (2 ≤ length s → get_or s 0 0 ≡ 0x7E → get_or s 1 0 ≡ 0x00 → P rest) → P (begun_by bad s rest)
  unfolding Faulty
  opening-told rest go =
      octet-told 0 0x7E First _ (omega arith) refl (omega arith) (λ g b x. omega arith) (λ l n. (l, (n, refl)))
      (λ l a. octet-told 1 0x00 Second _ (omega arith) refl l (clear reads s 1 (omega arith) l (λ m. a) (λ m. omega (arith, m)) (λ m. absurd (let z : ⊥ = omega (arith, m) in z))) (λ k n. (k, (n, refl))) (λ k b. go k a b))

  -- the type, where a call reads one
  pub type-told : (type : ℕ) (rest : A) → 2 ≤ length s → get_or s 0 0 ≡ 0x7E → get_or s 1 0 ≡ 0x00
      → ((get_or s 2 0 ≡ type → ⊥) → reads (get_or s 2 0) ≡ false) → (get_or s 2 0 ≡ type → reads (get_or s 2 0) ≡ true) → (2 < length s → get_or s 2 0 ≡ type → Clear reads s 3 → P rest)
      → P (opened_by bad s 2 type Kind rest)
  unfolding Faulty
  type-told type rest h a b unread read go =
      octet-told 2 type Kind rest (omega arith) refl h (clear-two reads s h a b) (λ l n. (l, (unread n, refl))) (λ l e. go l e (clear-three reads s l a b (read e)))

  -- fewer than the fixed octets
  pub short-told : (at : ℕ) → at ≡ length s → length s < fixed_of s → Clear reads s 3 → HasResult reads s → P (bad Cut at)
  unfolding Faulty
  short-told at e h c r = told Cut at (rw e (cut-lowest reads s (length s) (inl (h, refl)) (short-clear reads s h c r)))

  -- behind the fixed octets
  pub ended-told : (request : Bool) (from : ℕ) (rest : A) → request ≡ in_request s → from ≡ fixed_of s → fixed_of s ≤ length s → Clear reads s 3 → HasResult reads s
      → (Lowest (Faulty reads s) (Ok tt) → P rest) → P (ended_by bad (end_of (elements_from request s from)) rest)
  unfolding ended_by
  ended-told request from rest d e h c r fine = rw (d, e) (by (end_of (elements_from (in_request s) s (fixed_of s))) (lift reads s h c r _ (elements-lowest (in_request s) s (fixed_of s))))
    where
      by : (x : Result ⊤ Malformed) → Lowest (Faulty reads s) x → P (ended_by bad x rest)
      by (Err m) x = told m.fault m.at x
      by (Ok _) x = fine x

  -- an accept whose result has length 0
  pub empty-told : get_or s 2 0 ≡ 0x42 → 3 < length s → get_or s 3 0 ≡ 0 → Clear reads s 3 → P (bad Cut 3)
  unfolding Faulty
  empty-told e h n c = told Cut 3 (cut-lowest reads s 3 (inr (e, (h, (n, refl)))) c)
