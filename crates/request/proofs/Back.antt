-- Elements laid out behind any octets are read back, whatever stands in the list: each is found by its identifier, with its contents.
-- Assumes nothing.
use Prim.Native.Nat.{ℕ, suc, ◌+◌, ◌-◌, ◌≤◌}
use mathlib.Core.Path.{◌≡◌, refl, ◌∙◌, ap}
use mathlib.Core.Bool.{Bool, true, false, cond}
use mathlib.Core.Logic.{◌⊎◌, inl, inr}
use mathlib.Core.List.{List, [], ◌∷◌, ◌++◌, append_assoc, append-nil}
use native.Mathlib.Omega.{arith}
use lib.ListN.{length, length-append}
use lib.Seq.{take_at, drop_at}
use lib.Dec.{eqb}
use borrow.Author.Tests.{le-ltb}
use Rattle.std.specs.Prelude.{Option, Some, None, Ok}
use Rattle.octets.specs.declared.Element.{Element}
use Rattle.octets.specs.declared.Part.{Part}
use Rattle.octets.specs.declared.Layout.TheVariants.{ShortLength, LongLength, SevenInRequest}
use Rattle.octets.specs.Element.{format_of, lead_of, lead_by, contents_of, contents_by, size_of, read_as, element_of, joined, elements_of, elements_from, first_of, end_of}
use Rattle.octets.specs.Element.Elements.{element}
use Rattle.octets.proofs.Elements.{skip}
use Rattle.request.specs.Layout.{Form, Item, length_in, with_lead, item_octets, laid}
use Rattle.request.specs.Layout.Form.{short_form, long_form, plain_form}
use Rattle.request.specs.Layout.Item.{item}
use Rattle.request.specs.Reading.{part_of}

-- an element that is read as it is laid out
pub record Reads (f : Form) (id : ℕ) (c : List ℕ) : Type 0 where
  pub lead : lead_of true id ≡ suc (length (length_in f (length c)))
  pub size : (rest : List ℕ) → contents_of true id (length_in f (length c) ++ (c ++ rest)) ≡ length c
  pub known : (e : Element) → read_as (format_of id) e ≡ e

-- each form is that of its formats
module _ (id : ℕ) (c : List ℕ) where
  pub short-reads : format_of id ≡ ShortLength → Reads short_form id c
  unfolding lead_of lead_by contents_of contents_by read_as length_in
  short-reads e = record { lead = rw e; size = λ rest. rw e; known = λ x. rw e }

  pub long-reads : format_of id ≡ LongLength → Reads long_form id c
  unfolding lead_of lead_by contents_of contents_by read_as length_in
  long-reads e = record { lead = rw e; size = λ rest. rw e (omega arith); known = λ x. rw e }

  pub plain-reads : format_of id ≡ SevenInRequest → length c ≡ 6 → Reads plain_form id c
  unfolding lead_of lead_by contents_of contents_by read_as length_in
  plain-reads e h = record { lead = rw e; size = λ rest. rw (e, h); known = λ x. rw e }

-- an element, and those behind it
module _ (f : Form) (id : ℕ) (c rest : List ℕ) (at : ℕ) (r : Reads f id c) where
  abbrev m : List ℕ
  m = length_in f (length c)

  abbrev n : ℕ
  n = length m + length c

  sized : size_of true id (m ++ (c ++ rest)) ≡ suc n
  unfolding size_of
  sized = rw (r.lead, r.size rest) (omega arith)

  fits : suc n ≤ suc (length (m ++ (c ++ rest)))
  fits = simp length-append (omega arith)

  behind : elements_of true n (suc at) (m ++ (c ++ rest)) ≡ elements_of true 0 (at + suc n) rest
  behind =
      skip true n (suc at) (m ++ (c ++ rest))
      ∙ rw (← append_assoc m c rest, drop_at (m ++ c) rest n (length-append m c)) (ap (λ (k : ℕ). elements_of true 0 k rest) (omega arith))

  one : elements_of true 0 at (id ∷ (m ++ (c ++ rest))) ≡ element id (at + suc (length m)) (length c) (elements_of true 0 (at + suc n) rest)
  unfolding elements_of element_of joined
  one =
      let less : suc n - 1 ≡ n = omega arith in
      rw (sized, le-ltb _ _ fits, r.known, r.lead, r.size rest, less) (ap (element id (at + suc (length m)) (length c)) behind)

-- the same of one with contents, behind any octets
there : (f : Form) (id o : ℕ) (c rest p : List ℕ) → Reads f id (o ∷ c)
    → elements_of true 0 (length p) (item_octets f id (o ∷ c) ++ rest)
    ≡ element id (length p + suc (length (length_in f (length (o ∷ c))))) (length (o ∷ c)) (elements_of true 0 (length (p ++ item_octets f id (o ∷ c))) rest)
unfolding item_octets with_lead
there f id o c rest p r =
    rw append_assoc
    (one f id (o ∷ c) rest (length p) r
    ∙ ap (λ (k : ℕ). element id (length p + suc (length (length_in f (length (o ∷ c))))) (length (o ∷ c)) (elements_of true 0 k rest)) (simp length-append (omega arith)))

-- every element of a list is left out or read as it is laid out
unfoldable pub AllRead : List Item → Type 0
AllRead [] = Unit {0}
AllRead (item f id c ∷ l) = ((c ≡ []) ⊎ Reads f id c) × AllRead l

-- the first contents that are there
unfoldable pub or_else : List ℕ → List ℕ → List ℕ
or_else [] b = b
or_else (o ∷ a) b = o ∷ a

-- what a list says of an identifier
unfoldable pub says_in : ℕ → List Item → List ℕ
says_in x [] = []
says_in x (item f id c ∷ l) = cond (eqb id x) (or_else c (says_in x l)) (says_in x l)

-- whether there are octets
unfoldable pub some : List ℕ → Bool
some [] = false
some (o ∷ c) = true

-- a part of a message that has these octets
pub record Cut (s : List ℕ) (c : List ℕ) (p : Part) : Type 0 where
  pub held : some c ≡ true
  pub len : p.len ≡ length c
  pub cut : part_of s p ≡ c

-- or that is absent where there are none
unfoldable pub Found : List ℕ → Option Part → List ℕ → Type 0
Found s None c = c ≡ []
Found s (Some p) c = Cut s c p

-- an element's contents lie behind its lead
placed : (p m c rest : List ℕ) → part_of (p ++ ((m ++ c) ++ rest)) (record { start = length p + length m; len = length c }) ≡ c
placed p m c rest = rw (append_assoc m c rest, ← append_assoc p m (c ++ rest), drop_at (p ++ m) (c ++ rest) _ (length-append p m)) (take_at c rest (length c) refl)

same : (b : Bool) (l : List ℕ) → cond b l l ≡ l
same true l = refl
same false l = refl

-- an element and what is found behind it
module _ (x : ℕ) (f : Form) (id : ℕ) (rest says p : List ℕ) where
  abbrev Behind : List ℕ → Type 0
  Behind c = Found ((p ++ item_octets f id c) ++ rest) (first_of x (elements_of true 0 (length (p ++ item_octets f id c)) rest)) says

  picked : (o : ℕ) (c : List ℕ) (b : Bool) → Behind (o ∷ c)
      → Found (p ++ (item_octets f id (o ∷ c) ++ rest)) (cond b (Some (record { start = length p + suc (length (length_in f (length (o ∷ c)))); len = length (o ∷ c) })) (first_of x (elements_of true 0 (length (p ++ item_octets f id (o ∷ c))) rest))) (cond b (o ∷ c) says)
  unfolding Found some item_octets with_lead
  picked o c true h = record { held = refl; len = refl; cut = placed p (id ∷ length_in f (length (o ∷ c))) (o ∷ c) rest }
  picked o c false h = rw (← append_assoc p (item_octets f id (o ∷ c)) rest) h

  next : (c : List ℕ) → (c ≡ []) ⊎ Reads f id c → Behind c
      → Found (p ++ (item_octets f id c ++ rest)) (first_of x (elements_of true 0 (length p) (item_octets f id c ++ rest))) (cond (eqb id x) (or_else c says) says)
  unfolding item_octets with_lead or_else first_of
  next [] r h = rw same (rw append-nil at h)
  next (o ∷ c) (inl e) h = let z : ◌≡◌ {A = ℕ} 0 1 = cc in absurd (omega arith)
  next (o ∷ c) (inr r) h = rw (there f id o c rest p r) (picked o c (eqb id x) h)

-- Reading a list laid out behind any octets gives, for each identifier, what the list says of it
back_on : (x : ℕ) (l : List Item) (p : List ℕ) → AllRead l → Found (p ++ laid l) (first_of x (elements_of true 0 (length p) (laid l))) (says_in x l)
unfolding laid AllRead says_in elements_of first_of Found
back_on x [] p h = refl
back_on x (item f id c ∷ l) p h = next x f id (laid l) (says_in x l) p c h.0 (back_on x l (p ++ item_octets f id c) h.1)

ends_on : (l : List Item) (p : List ℕ) → AllRead l → end_of (elements_of true 0 (length p) (laid l)) ≡ (Ok tt)
unfolding laid AllRead elements_of end_of item_octets with_lead
ends_on [] p h = refl
ends_on (item f id [] ∷ l) p h = ends_on l p h.1
ends_on (item f id (o ∷ c) ∷ l) p (inl e, h) = let z : ◌≡◌ {A = ℕ} 0 1 = cc in absurd (omega arith)
ends_on (item f id (o ∷ c) ∷ l) p (inr r, h) = rw (there f id o c (laid l) p r) (ends_on l (p ++ item_octets f id (o ∷ c)) h)

module _ (p : List ℕ) (l : List Item) (h : AllRead l) where
  from : elements_from true (p ++ laid l) (length p) ≡ elements_of true 0 (length p) (laid l)
  unfolding elements_from
  from = rw (drop_at p (laid l) (length p) refl)

  pub back : (x : ℕ) → Found (p ++ laid l) (first_of x (elements_from true (p ++ laid l) (length p))) (says_in x l)
  back x = rw from (back_on x l p h)

  pub ends : end_of (elements_from true (p ++ laid l) (length p)) ≡ (Ok tt)
  ends = rw from (ends_on l p h)
