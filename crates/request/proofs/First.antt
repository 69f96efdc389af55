-- The first element with an identifier, as the sentences have it, is the one that reading finds: nothing else is found, by induction on the octets left; and it
-- is found where no fault lies before it, by induction on its number. Assumes nothing.
use Prim.Native.Nat.{ℕ, zero, suc, ◌+◌, ◌≤◌, ◌<◌}
use mathlib.Core.Path.{◌≡◌, refl, subst}
use mathlib.Core.Bool.{Bool, true, false, cond}
use mathlib.Core.List.{List}
use native.Mathlib.Omega.{arith}
use lib.ListN.{length, get_or, drop}
use lib.Dec.{ltb, eqb}
use borrow.Author.Tests.{ltb-true, ltb-false, le-ltb, eqb-true, eqb-false, eq-eqb, ne_eqb}
use Rattle.octets.specs.declared.Fault.{Fault}
use Rattle.octets.specs.declared.Fault.TheVariants.{Past, Strange}
use Rattle.octets.specs.declared.Element.TheVariants.{Bad, At}
use Rattle.std.specs.Prelude.{Option, Some, None}
use Rattle.std.proofs.lemmas.Option.{same_Some}
use Rattle.octets.specs.declared.Part.{Part}
use Rattle.octets.specs.Element.{lead_of, contents_of, after_of, Elements, joined, elements_from, first_of}
use Rattle.octets.proofs.Elements.{taken, step, ended}
use Rattle.messages.specs.Faults.{size_at, place_of, Begins, ElementFault}
use Rattle.messages.proofs.Walk.{rest, left, met, onward, behind, here, down, up}
use Rattle.request.specs.Faults.{FirstAt}

module _ (request : Bool) (s : List ℕ) (x : ℕ) where
  -- the part that an element with identifier i is, at a place
  abbrev pub part_of : ℕ → ℕ → Part
  part_of i at = record { start = at + lead_of request i; len = contents_of request i (drop (suc at) s) }

  abbrev found : ℕ → Option Part
  found from = first_of x (elements_from request s from)

  abbrev pub next : ℕ → ℕ
  next from = from + size_at request s from

  -- by the tests of the element at a place
  abbrev found_by : ℕ → Bool → Bool → Bool → Option Part
  found_by from p q e = cond p None (cond q None (cond e (Some (part_of (get_or s from 0) from)) (found (next from))))

  tested : (p q : Bool) (from i start n : ℕ) (f : ℕ → Elements)
      → first_of x (joined (cond p (Bad Past) (cond q (Bad Strange) (At i start n (next from)))) from (f (after_of (cond p (Bad Past) (cond q (Bad Strange) (At i start n (next from)))) from)))
      ≡ cond p None (cond q None (cond (eqb i x) (Some (record { start = start; len = n })) (first_of x (f (next from)))))
  unfolding joined after_of first_of
  tested true q from i start n f = refl
  tested false true from i start n f = refl
  tested false false from i start n f = refl

  one : (from : ℕ) → from < length s → found from ≡ found_by from (ltb (rest request s from) (size_at request s from)) (ltb (get_or s from 0) 16) (eqb (get_or s from 0) x)
  one from h = rw (step request s from, met request s from h) (tested (ltb (rest request s from) (size_at request s from)) (ltb (get_or s from 0) 16) from _ _ _ (elements_from request s))

  -- a part is that of the first x from a place on, and no fault lies before its end
  pub record IsFirst (from : ℕ) (p : Part) : Type 0 where
    pub at : ℕ
    pub first : FirstAt request s from x at
    pub same : p ≡ part_of x at
    pub clear : (f : Fault) (b : ℕ) → ElementFault request s from f b → next at ≤ b

  -- each part that is found from a place on
  abbrev Finds : ℕ → Type 0
  Finds from = (p : Part) → found from ≡ Some p → IsFirst from p

  none : (from : ℕ) → length s ≤ from → Finds from
  unfolding first_of
  none from h p t = let e : None ≡ Some p = rw (ended request s from h) at t in cc

  -- an x at the place itself, and one behind the element there
  at_once : (from : ℕ) → from < length s → from + size_at request s from ≤ length s → 16 ≤ get_or s from 0 → get_or s from 0 ≡ x → IsFirst from (part_of (get_or s from 0) from)
  at_once from h w k e = record {
    at = from;
    first = record { begins = here request s from h; is = e; first = λ b y is. omega (arith, onward request s y.1.0 from, y.1.1); whole = w };
    same = rw e;
    clear = λ f b y. (behind request s (next from) f b (down request s from w k f b y)).0;
  }

  later : (from : ℕ) (p : Part) → from + size_at request s from ≤ length s → 16 ≤ get_or s from 0 → (get_or s from 0 ≡ x → ⊥) → IsFirst (next from) p → IsFirst from p
  unfolding place_of
  later from p w k other i = record {
    at = i.at;
    first = record { begins = (f.begins.0, (suc f.begins.1.0, f.begins.1.1)); is = f.is; first = λ b y. sooner b y.0 y.1.0 y.1.1; whole = f.whole };
    same = i.same;
    clear = λ g b y. i.clear g b (down request s from w k g b y);
  }
    where
      f : FirstAt request s (next from) x i.at
      f = i.first

      sooner : (b : ℕ) → b < length s → (n : ℕ) → place_of request s from n ≡ b → get_or s b 0 ≡ x → i.at ≤ b
      sooner b l zero y is = absurd (other (rw y is))
      sooner b l (suc n) y is = f.first b (l, (n, y)) is

  go : (from : ℕ) (p q e : Bool) → from < length s → ltb (rest request s from) (size_at request s from) ≡ p → ltb (get_or s from 0) 16 ≡ q → eqb (get_or s from 0) x ≡ e
      → (r : Part) → found_by from p q e ≡ Some r → Finds (next from) → IsFirst from r
  go from true q e h a d c r t f = cc
  go from false true e h a d c r t f = cc
  go from false false true h a d c r t f =
      subst (IsFirst from) (same_Some _ _ t) (at_once from h (omega (arith, left request s from h, ltb-false (rest request s from) (size_at request s from) a)) (ltb-false _ _ d) (eqb-true _ _ c))
  go from false false false h a d c r t f = later from r (omega (arith, left request s from h, ltb-false (rest request s from) (size_at request s from) a)) (ltb-false _ _ d) (eqb-false _ _ c) (f r t)

  some : (b : Bool) (from : ℕ) → ltb from (length s) ≡ b → Finds (next from) → Finds from
  some false from e f p t = none from (ltb-false _ _ e) p t
  some true from e f p t =
      let h : from < length s = ltb-true _ _ e in
      go from (ltb (rest request s from) (size_at request s from)) (ltb (get_or s from 0) 16) (eqb (get_or s from 0) x) h refl refl refl p (rw (one from h) at t) f

  walk : (fuel from : ℕ) → length s ≤ from + fuel → Finds from
  walk zero from h = none from (omega arith)
  walk (suc fuel) from h = some (ltb from (length s)) from refl (walk fuel (next from) (omega (arith, taken request (get_or s from 0) (drop (suc from) s))))

  -- what is found is the first x
  pub found_first : (from : ℕ) (p : Part) → first_of x (elements_from request s from) ≡ Some p → IsFirst from p
  found_first from = walk (length s) from (omega arith)

  -- the first x is found, if no fault lies before it
  module _ (known : 16 ≤ x) where
    passed : (from at : ℕ) → from < length s → ((f : Fault) (b : ℕ) → ElementFault request s from f b → at ≤ b) → from < at
        → (ltb (rest request s from) (size_at request s from) ≡ false) × (ltb (get_or s from 0) 16 ≡ false)
    unfolding ElementFault
    passed from at h clear l = (past (ltb (rest request s from) (size_at request s from)) refl, strange (ltb (get_or s from 0) 16) refl)
      where
        past : (p : Bool) → ltb (rest request s from) (size_at request s from) ≡ p → p ≡ false
        past true e = absurd (let z : at ≤ from = clear Past from (here request s from h, omega (arith, left request s from h, ltb-true (rest request s from) (size_at request s from) e)) in omega arith)
        past false e = refl

        strange : (q : Bool) → ltb (get_or s from 0) 16 ≡ q → q ≡ false
        strange true e = absurd (let z : at ≤ from = clear Strange from (here request s from h, ltb-true _ _ e) in omega arith)
        strange false e = refl

    there : (n from at : ℕ) → place_of request s from n ≡ at → at < length s → get_or s at 0 ≡ x → ((b : ℕ) → Begins request s from b → get_or s b 0 ≡ x → at ≤ b) → at + size_at request s at ≤ length s
        → ((f : Fault) (b : ℕ) → ElementFault request s from f b → at ≤ b) → found from ≡ Some (part_of x at)
    unfolding place_of
    there zero from at e h is first w clear =
        rw (e, one at h, le-ltb (rest request s at) (size_at request s at) (omega (arith, left request s at h)), le-ltb (get_or s at 0) 16 (rw is known), eq-eqb (get_or s at 0) x is, is)
    there (suc n) from at e h is first w clear =
        let l : from < at = omega (arith, onward request s n (next from), e, taken request (get_or s from 0) (drop (suc from) s)) in
        let k : from < length s = omega arith in
        let t = passed from at k clear l in
        let room : next from ≤ length s = omega (arith, left request s from k, ltb-false (rest request s from) (size_at request s from) t.0) in
        let other : get_or s from 0 ≡ x → ⊥ = λ i. (let z : at ≤ from = first from (here request s from k) i in omega arith) in
        rw (one from k, t.0, t.1, ne_eqb (get_or s from 0) x other)
        (there n (next from) at e h is (λ b y. first b (y.0, (suc y.1.0, y.1.1))) w (λ f b y. clear f b (up request s from room (ltb-false _ _ t.1) f b y)))

    pub first_found : (from at : ℕ) → FirstAt request s from x at → ((f : Fault) (b : ℕ) → ElementFault request s from f b → at ≤ b) → first_of x (elements_from request s from) ≡ Some (part_of x at)
    first_found from at f = there f.begins.1.0 from at f.begins.1.1 f.begins.0 f.is f.first f.whole
