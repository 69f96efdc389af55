-- What the definitions of elements are at a place of a message, over plain numbers: the element there, and the elements from there on, one by one.
-- Assumes nothing.
use Prim.Native.Nat.{ℕ, zero, suc, ◌+◌, ◌-◌, ◌<◌, ◌≤◌}
use mathlib.Core.Path.{◌≡◌, refl, sym, ◌∙◌, ap}
use mathlib.Core.Bool.{Bool, true, false, cond}
use mathlib.Core.List.{List, [], ◌∷◌}
use native.Mathlib.Omega.{arith}
use native.Mathlib.Numerals.{add-one}
use native.Mathlib.Nat.{add-zero, add-suc, suc-add}
use lib.ListN.{length, get_or, drop, length-drop, drop_of_length-le}
use lib.Seq.{drop-cons, drop-drop}
use lib.Dec.{ltb, eqb}
use borrow.Author.Tests.{lt-ltb, le-ltb, le-leb, ltb-true, ltb-false}
use Rattle.octets.specs.Element.{format_of, code_of, lead_by, lead_of, contents_by, contents_of, size_of, read_as, element_of, element_at, after_of, walked_at, Elements, joined, elements_of, elements_from}
use Rattle.octets.specs.declared.Layout.{Layout}
use Rattle.octets.specs.declared.Layout.TheVariants.{Whole, LongLength, ShortLength, SevenInRequest, MustBeKnown}
use Rattle.octets.specs.Element.Elements.{over, broken, element}
use Rattle.octets.specs.declared.Fault.{Fault}
use Rattle.octets.specs.declared.Fault.TheVariants.{Past, Strange}
use Rattle.octets.specs.declared.Element.TheVariants.{End, Bad, At}
use Rattle.octets.specs.declared.Walked.{Walked}
use Rattle.octets.proofs.Codes.{read-coded}

-- the octets from a place on
left : (s : List ℕ) (at : ℕ) → at < length s → suc (length (drop (suc at) s)) ≡ length s - at
left s at h = simp length-drop (omega arith)

-- the element at a place, by the octets before its contents and those of its contents
pub found : (request : Bool) (s : List ℕ) (at k n : ℕ) (f : Layout) → at < length s → f ≡ format_of (get_or s at 0) → k ≡ lead_by request f → n ≡ contents_by request f (drop (at + 1) s)
    → element_at request s at ≡ cond (ltb (length s - at) (k + n)) (Bad Past) (read_as f (At (get_or s at 0) (at + k) n (at + (k + n))))
unfolding element_at element_of size_of lead_of contents_of
found request s at k n f h d e g = rw (lt-ltb _ _ h, left s at h, ← d, e, g, add-one)

-- each element takes an octet at least
some : (request : Bool) (f : Layout) (s : List ℕ) → 1 ≤ lead_by request f + contents_by request f s
unfolding lead_by contents_by
some request Whole s = omega arith
some request LongLength s = omega arith
some request ShortLength s = omega arith
some true SevenInRequest s = omega arith
some false SevenInRequest s = omega arith
some request MustBeKnown s = omega arith

pub taken : (request : Bool) (i : ℕ) (s : List ℕ) → 1 ≤ size_of request i s
unfolding size_of lead_of contents_of
taken request i s = some request (format_of i) s

-- passing k octets of an element begun is reading on after them
pub skip : (request : Bool) (k at : ℕ) (s : List ℕ) → elements_of request k at s ≡ elements_of request 0 (at + k) (drop k s)
unfolding elements_of
skip request zero at [] = refl
skip request zero at (o ∷ s) = rw add-zero
skip request (suc k) at [] = refl
skip request (suc k) at (o ∷ s) = rw (add-suc, ← suc-add) (skip request k (suc at) s)

module _ (request : Bool) (s : List ℕ) (at : ℕ) where
  abbrev here : ℕ
  here = get_or s at 0

  abbrev rest : List ℕ
  rest = drop (suc at) s

  -- behind the element begun at a place
  behind : elements_of request (size_of request here rest - 1) (suc at) rest ≡ elements_from request s (at + size_of request here rest)
  unfolding elements_from
  behind =
      skip request (size_of request here rest - 1) (suc at) rest
      ∙ rw drop-drop
      (ap (elements_from request s) (omega (arith, taken request here rest)))

  begun : at < length s → elements_from request s at ≡ joined (element_of request at here rest) at (elements_from request s (at + size_of request here rest))
  unfolding elements_of elements_from
  begun h = rw (drop-cons s at 0 h) (ap (joined (element_of request at here rest) at) behind)

-- what follows an element is looked at only where there is one, and then from the place after it
onward : (p q : Bool) (f : ℕ → Elements) (at i b n next : ℕ)
    → joined (cond p (Bad Past) (cond q (Bad Strange) (At i b n next))) at (f next)
    ≡ joined (cond p (Bad Past) (cond q (Bad Strange) (At i b n next))) at (f (after_of (cond p (Bad Past) (cond q (Bad Strange) (At i b n next))) at))
unfolding joined after_of
onward true q f at i b n next = refl
onward false true f at i b n next = refl
onward false false f at i b n next = refl

-- One step: the elements from a place on are the element there and those from the place after it
inside : (request : Bool) (s : List ℕ) (at : ℕ) → at < length s
    → elements_from request s at ≡ joined (element_of request at (get_or s at 0) (drop (suc at) s)) at (elements_from request s (after_of (element_of request at (get_or s at 0) (drop (suc at) s)) at))
unfolding element_of
inside request s at h =
    begun request s at h
    ∙ rw read-coded (onward (ltb (suc (length (rest request s at))) (size_of request (here request s at) (rest request s at))) (eqb (code_of (format_of (here request s at))) 3) (elements_from request s) at
    (here request s at) (at + lead_of request (here request s at)) (contents_of request (here request s at) (rest request s at)) (at + size_of request (here request s at) (rest request s at)))

module _ (request : Bool) (s : List ℕ) (at : ℕ) where
  pub ended : length s ≤ at → elements_from request s at ≡ over
  unfolding elements_of elements_from
  ended h = rw (drop_of_length-le s h)

  either : (t : Bool) → ltb at (length s) ≡ t → elements_from request s at ≡ joined (element_at request s at) at (elements_from request s (after_of (element_at request s at) at))
  unfolding element_at joined after_of
  either true e = rw e (inside request s at (ltb-true _ _ e))
  either false e = rw e (ended (ltb-false _ _ e))

  pub step : elements_from request s at ≡ joined (element_at request s at) at (elements_from request s (after_of (element_at request s at) at))
  step = either (ltb at (length s)) refl

-- "An identifier of 80 hex or more is one octet with its contents"
pub single : (request : Bool) (s : List ℕ) (at : ℕ) → at < length s → 128 ≤ get_or s at 0 → elements_from request s at ≡ element (get_or s at 0) at 1 (elements_from request s (at + 1))
unfolding format_of lead_by contents_by read_as joined after_of
single request s at h k =
    let w : format_of (get_or s at 0) ≡ Whole = simp (le-leb _ _ k) in
    let e : element_at request s at ≡ At (get_or s at 0) at 1 (at + 1) = found request s at 0 1 Whole h (sym w) refl refl ∙ rw (le-ltb (length s - at) 1 (omega arith), add-zero) in
    step request s at ∙ rw e

-- an element that is there begins within the message, and the next place is further on
further : (t p q : Bool) (s : List ℕ) (at i j b c m n size next : ℕ) → ltb at (length s) ≡ t → 1 ≤ size
    → cond t (cond p (Bad Past) (cond q (Bad Strange) (At j c m (at + size)))) End ≡ At i b n next → (at < length s) × (at < next)
further false p q s at i j b c m n size next e f g = let z : ◌≡◌ {A = ℕ} 0 1 = cc in omega arith
further true true q s at i j b c m n size next e f g = let z : ◌≡◌ {A = ℕ} 0 1 = cc in omega arith
further true false true s at i j b c m n size next e f g = let z : ◌≡◌ {A = ℕ} 0 1 = cc in omega arith
further true false false s at i j b c m n size next e f g = let z : at + size ≡ next = cc in (ltb-true _ _ e, omega arith)

onwards : (request : Bool) (s : List ℕ) (at i b n next : ℕ) → element_at request s at ≡ At i b n next → (at < length s) × (at < next)
unfolding element_at element_of
onwards request s at i b n next e =
    further (ltb at (length s)) (ltb (suc (length (rest request s at))) (size_of request (here request s at) (rest request s at))) (eqb (code_of (format_of (here request s at))) 3)
    s at i (here request s at) b (at + lead_of request (here request s at)) (contents_of request (here request s at) (rest request s at)) n (size_of request (here request s at) (rest request s at)) next
    refl (taken request (here request s at) (rest request s at)) (simp read-coded at e)

-- the elements from a place on, by what a walker sees there
module _ (request : Bool) (s : List ℕ) (at : ℕ) (w : Walked) (met : w ≡ walked_at request s at) where
  seen : elements_from request s at ≡ joined w.here at (elements_from request s w.next)
  unfolding walked_at
  seen = rw met (step request s at)

  pub none_left : w.here ≡ End → elements_from request s at ≡ over
  unfolding joined
  none_left e = rw (seen, e)

  pub fault-next : (f : Fault) → w.here ≡ Bad f → elements_from request s at ≡ broken f at
  unfolding joined
  fault-next f e = rw (seen, e)

  pub one_more : (i b n next : ℕ) → w.here ≡ At i b n next → elements_from request s at ≡ element i b n (elements_from request s w.next)
  unfolding joined
  one_more i b n next e = rw (seen, e)

  pub passes : (i b n next : ℕ) → w.here ≡ At i b n next → (at < length s) × (at < w.next)
  unfolding walked_at after_of
  passes i b n next e =
      let h : element_at request s at ≡ At i b n next = cc in
      let g : w.next ≡ next = rw h at (ap (λ (x : Walked). x.next) met) in
      rw g (onwards request s at i b n next h)
