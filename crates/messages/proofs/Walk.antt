-- The elements of a message end at the lowest of their faults: by induction on how many octets are left. Assumes nothing.
use Prim.Native.Nat.{ℕ, zero, suc, ◌+◌, ◌≤◌, ◌<◌}
use mathlib.Core.Path.{◌≡◌, refl, sym, subst}
use mathlib.Core.Bool.{Bool, true, false, cond}
use mathlib.Core.Logic.{◌⊎◌, inl, inr, ⊎_elim}
use mathlib.Core.List.{List}
use Rattle.std.specs.Prelude.{Result, Ok, Err, ⊤}
use native.Mathlib.Omega.{arith}
use lib.ListN.{length, get_or, drop, length-drop}
use lib.Dec.{ltb, leb, eqb}
use borrow.Author.Tests.{lt-ltb, ltb-true, ltb-false, lt-leb, ne_eqb}
use Rattle.octets.specs.declared.Fault.{Fault}
use Rattle.octets.specs.declared.Fault.TheVariants.{Cut, First, Second, Kind, Past, Strange}
use Rattle.octets.specs.declared.Element.{Element}
use Rattle.octets.specs.declared.Element.TheVariants.{Bad, At}
use Rattle.octets.specs.declared.Malformed.{Malformed}
use Rattle.octets.specs.Element.{format_of, lead_of, contents_of, read_as, element_of, element_at, after_of, Elements, joined, elements_from, malformed, end_of}
use Rattle.octets.specs.declared.Layout.TheVariants.{Whole, LongLength, ShortLength, SevenInRequest, MustBeKnown}
use Rattle.octets.proofs.Elements.{taken, step, ended}
use Rattle.messages.specs.Message.{fault_number}
use Rattle.messages.specs.Faults.{size_at, place_of, Begins, ElementFault, Lowest}

-- of two numbers in order the first is below or they are equal
pub order : (a b : ℕ) → a ≤ b → (a < b) ⊎ (a ≡ b)
order a b h = by (ltb a b) refl
  where
    by : (t : Bool) → ltb a b ≡ t → (a < b) ⊎ (a ≡ b)
    by true e = inl (ltb-true a b e)
    by false e = inr (omega (arith, ltb-false a b e))

-- none of 00 to 0F is known
strange : (i : ℕ) (e : Element) → read_as (format_of i) e ≡ cond (ltb i 16) (Bad Strange) e
unfolding read_as format_of
strange i e = by (ltb i 16) refl
  where
    others : (a b c : Bool) → read_as (cond a Whole (cond b LongLength (cond c SevenInRequest ShortLength))) e ≡ e
    others true b c = refl
    others false true c = refl
    others false false true = refl
    others false false false = refl

    by : (t : Bool) → ltb i 16 ≡ t → read_as (cond (leb 128 i) Whole (cond (leb 112 i) LongLength (cond (eqb i 82) SevenInRequest (cond t MustBeKnown ShortLength)))) e ≡ cond t (Bad Strange) e
    by true h = let l : i < 16 = ltb-true i 16 h in rw (lt-leb 128 i (omega arith), lt-leb 112 i (omega arith), ne_eqb i 82 (λ z. omega arith))
    by false h = others (leb 128 i) (leb 112 i) (eqb i 82)

module _ (request : Bool) (s : List ℕ) where
  abbrev Fails : ℕ → Fault → ℕ → Type 0
  Fails = ElementFault request s

  -- the octets from a place on
  abbrev pub rest : ℕ → ℕ
  rest at = suc (length (drop (suc at) s))

  pub left : (at : ℕ) → at < length s → at + rest at ≡ length s
  left at h = simp length-drop (omega arith)

  -- the element at a place, by the two tests of its faults
  pub met : (at : ℕ) → at < length s
      → element_at request s at
      ≡ cond (ltb (rest at) (size_at request s at)) (Bad Past)
      (cond (ltb (get_or s at 0) 16) (Bad Strange)
      (At (get_or s at 0) (at + lead_of request (get_or s at 0)) (contents_of request (get_or s at 0) (drop (suc at) s)) (at + size_at request s at)))
  unfolding element_at element_of
  met at h = rw (lt-ltb _ _ h, strange)

  -- elements begin at the place or behind it, and each fault lies at one
  pub onward : (n from : ℕ) → from ≤ place_of request s from n
  unfolding place_of
  onward zero from = omega arith
  onward (suc n) from = omega (arith, onward n (from + size_at request s from))

  pub behind : (from : ℕ) (g : Fault) (b : ℕ) → Fails from g b → (from ≤ b) × (b < length s)
  unfolding ElementFault
  behind from Past b x = (omega (arith, onward x.0.1.0 from, x.0.1.1), x.0.0)
  behind from Strange b x = (omega (arith, onward x.0.1.0 from, x.0.1.1), x.0.0)
  behind from Cut b x = absurd x
  behind from First b x = absurd x
  behind from Second b x = absurd x
  behind from Kind b x = absurd x

  pub here : (from : ℕ) → from < length s → Begins request s from from
  unfolding place_of
  here from h = (h, (0, refl))

  -- where the element at a place has no fault, those of the elements from there on are those of the elements behind it
  module _ (from : ℕ) (room : from + size_at request s from ≤ length s) (read : 16 ≤ get_or s from 0) where
    later : (b : ℕ) → (n : ℕ) → place_of request s from n ≡ b → (from ≡ b → ⊥) → (m : ℕ) × (place_of request s (from + size_at request s from) m ≡ b)
    unfolding place_of
    later b zero e other = absurd (other e)
    later b (suc n) e other = (n, e)

    pub down : (g : Fault) (b : ℕ) → Fails from g b → Fails (from + size_at request s from) g b
    unfolding ElementFault
    down Past b x = ((x.0.0, later b x.0.1.0 x.0.1.1 (λ e. let past : length s < from + size_at request s from = rw e x.1 in omega arith)), x.1)
    down Strange b x = ((x.0.0, later b x.0.1.0 x.0.1.1 (λ e. let low : get_or s from 0 < 16 = rw e x.1 in omega arith)), x.1)
    down Cut b x = x
    down First b x = x
    down Second b x = x
    down Kind b x = x

    pub up : (g : Fault) (b : ℕ) → Fails (from + size_at request s from) g b → Fails from g b
    unfolding ElementFault place_of
    up Past b x = ((x.0.0, (suc x.0.1.0, x.0.1.1)), x.1)
    up Strange b x = ((x.0.0, (suc x.0.1.0, x.0.1.1)), x.1)
    up Cut b x = x
    up First b x = x
    up Second b x = x
    up Kind b x = x

    pass : (e : Result ⊤ Malformed) → Lowest (Fails (from + size_at request s from)) e → Lowest (Fails from) e
    unfolding Lowest
    pass (Err m) x = (up m.fault m.at x.0, λ g b y. x.1 g b (down g b y))
    pass (Ok _) x = λ g b y. x g b (down g b y)

  -- a fault at the place itself: the others lie behind it, or there too and then have no lower number
  at_first : (f : Fault) (from : ℕ) → Fails from f from → ((g : Fault) → Fails from g from → fault_number f ≤ fault_number g) → Lowest (Fails from) (malformed f from)
  unfolding Lowest
  at_first f from x least = (x, λ g b y. ⊎_elim inl (λ e. inr (e, least g (subst (Fails from g) (sym e) y))) (order from b (behind from g b y).0))

  past_first : (from : ℕ) → from < length s → length s < from + size_at request s from → Lowest (Fails from) (malformed Past from)
  unfolding ElementFault
  past_first from h past = at_first Past from (here from h, past) least
    where
      least : (g : Fault) → Fails from g from → 17 ≤ fault_number g
      least Past x = omega arith
      least Strange x = omega arith
      least Cut x = absurd x
      least First x = absurd x
      least Second x = absurd x
      least Kind x = absurd x

  strange-first : (from : ℕ) → from < length s → from + size_at request s from ≤ length s → get_or s from 0 < 16 → Lowest (Fails from) (malformed Strange from)
  unfolding ElementFault
  strange-first from h room low = at_first Strange from (here from h, low) least
    where
      least : (g : Fault) → Fails from g from → 18 ≤ fault_number g
      least Past x = omega (arith, x.1)
      least Strange x = omega arith
      least Cut x = absurd x
      least First x = absurd x
      least Second x = absurd x
      least Kind x = absurd x

  -- the element at a place and those behind it, by the two tests
  one : (p q : Bool) (from i start n : ℕ) (f : ℕ → Elements) → from < length s → ltb (rest from) (size_at request s from) ≡ p → ltb (get_or s from 0) 16 ≡ q
      → Lowest (Fails (from + size_at request s from)) (end_of (f (from + size_at request s from)))
      → Lowest (Fails from) (end_of (joined (cond p (Bad Past) (cond q (Bad Strange) (At i start n (from + size_at request s from)))) from
      (f (after_of (cond p (Bad Past) (cond q (Bad Strange) (At i start n (from + size_at request s from)))) from))))
  unfolding joined after_of end_of
  one true q from i start n f h e d x = past_first from h (omega (arith, left from h, ltb-true (rest from) (size_at request s from) e))
  one false true from i start n f h e d x = strange-first from h (omega (arith, left from h, ltb-false (rest from) (size_at request s from) e)) (ltb-true _ _ d)
  one false false from i start n f h e d x = pass from (omega (arith, left from h, ltb-false (rest from) (size_at request s from) e)) (ltb-false _ _ d) (end_of (f (from + size_at request s from))) x

  none : (from : ℕ) → length s ≤ from → Lowest (Fails from) (end_of (elements_from request s from))
  unfolding Lowest end_of
  none from h = rw (ended request s from h) (λ g b x. let l : b < length s = (behind from g b x).1 in omega (arith, (behind from g b x).0))

  some : (t : Bool) (from : ℕ) → ltb from (length s) ≡ t → Lowest (Fails (from + size_at request s from)) (end_of (elements_from request s (from + size_at request s from)))
      → Lowest (Fails from) (end_of (elements_from request s from))
  some false from e x = none from (ltb-false _ _ e)
  some true from e x =
      rw (step request s from, met from (ltb-true _ _ e))
      (one (ltb (rest from) (size_at request s from)) (ltb (get_or s from 0) 16) from _ _ _ (elements_from request s) (ltb-true _ _ e) refl refl x)

  walk : (fuel from : ℕ) → length s ≤ from + fuel → Lowest (Fails from) (end_of (elements_from request s from))
  walk zero from h = none from (omega arith)
  walk (suc fuel) from h = some (ltb from (length s)) from refl (walk fuel (from + size_at request s from) (omega (arith, taken request (get_or s from 0) (drop (suc from) s))))

  -- the elements from any place on
  pub elements-lowest : (from : ℕ) → Lowest (Fails from) (end_of (elements_from request s from))
  elements-lowest from = walk (length s) from (omega arith)
