-- What a message says of an identifier does not hang on the order of its elements, nor on others among them: without their places its elements are a list
-- of identifiers and contents, wherever they stand, and a whole element is one of that list. Assumes nothing.
use Prim.Native.Nat.{ℕ, zero, suc, ◌+◌, ◌-◌, ◌*◌, ◌≤◌}
use mathlib.Core.Path.{◌≡◌, refl, sym, ◌∙◌, ap}
use mathlib.Core.Bool.{Bool, true, false, cond}
use Rattle.std.specs.Prelude.{Option, Some, None, Result, Ok, Err, ⊤}
use mathlib.Core.Logic.{◌≢◌}
use mathlib.Core.List.{List, [], ◌∷◌, ◌++◌, append_assoc}
use native.Mathlib.Omega.{arith}
use lib.ListN.{length, take, drop, length-append, length-drop}
use lib.Seq.{append_snoc, drop-append-add, drop-append-le, drop_at, take_at}
use lib.Dec.{ltb, eqb}
use borrow.Author.Tests.{le-ltb, eqb-true, ne_eqb}
use Rattle.octets.specs.Element.{format_of, code_of, lead_by, lead_of, contents_by, contents_of, size_of, read_as, element_of, Elements, joined, elements_of, elements_from, first_of, end_of}
use Rattle.octets.specs.Element.Elements.{over, broken, element}
use Rattle.octets.specs.declared.Fault.TheVariants.{Past, Strange}
use Rattle.octets.specs.declared.Element.{Element}
use Rattle.octets.specs.declared.Element.TheVariants.{Bad, At}
use Rattle.octets.specs.declared.Part.{Part}
use Rattle.octets.specs.declared.Malformed.{Malformed}
use Rattle.octets.specs.declared.Layout.{Layout}
use Rattle.octets.proofs.Codes.{read-coded}
use Rattle.octets.proofs.Elements.{skip}

-- What is said of an identifier: nothing, or the contents of its first element
pub data Says : Type 0 where
  nothing : Says
  contents : List ℕ → Says

unfoldable pub said_in : List ℕ → Option Part → Says
said_in s None = nothing
said_in s (Some p) = contents (take p.len (drop p.start s))

unfoldable pub is_whole : Result ⊤ Malformed → Bool
is_whole (Err m) = false
is_whole (Ok _) = true

-- what elements s behind the octets p say of x, and whether they are well formed
abbrev pub said : Bool → List ℕ → ℕ → List ℕ → Says
said request p x s = said_in (p ++ s) (first_of x (elements_from request (p ++ s) (length p)))

abbrev pub formed : Bool → List ℕ → List ℕ → Bool
formed request p s = is_whole (end_of (elements_from request (p ++ s) (length p)))

-- Elements without their places
data Read : Type 0 where
  done : Read
  fault : Read
  one : ℕ → List ℕ → Read → Read

unfoldable read_of : List ℕ → Elements → Read
read_of s over = done
read_of s (broken f at) = fault
read_of s (element i start n l) = one i (take n (drop start s)) (read_of s l)

unfoldable first_in : ℕ → Read → Says
first_in x done = nothing
first_in x fault = nothing
first_in x (one i c r) = cond (eqb i x) (contents c) (first_in x r)

unfoldable whole_in : Read → Bool
whole_in done = true
whole_in fault = false
whole_in (one i c r) = whole_in r

said-one : (b : Bool) (s : List ℕ) (start n : ℕ) (p : Option Part) (e : Says) → said_in s p ≡ e
    → said_in s (cond b (Some (record { start = start; len = n })) p) ≡ cond b (contents (take n (drop start s))) e
unfolding said_in
said-one true s start n p e h = refl
said-one false s start n p e h = h

said_read : (s : List ℕ) (x : ℕ) (l : Elements) → said_in s (first_of x l) ≡ first_in x (read_of s l)
unfolding said_in first_of first_in read_of
said_read s x over = refl
said_read s x (broken f at) = refl
said_read s x (element i start n l) = said-one (eqb i x) s start n (first_of x l) (first_in x (read_of s l)) (said_read s x l)

formed-read : (s : List ℕ) (l : Elements) → is_whole (end_of l) ≡ whole_in (read_of s l)
unfolding is_whole end_of whole_in read_of
formed-read s over = refl
formed-read s (broken f at) = refl
formed-read s (element i start n l) = formed-read s l

-- the same elements behind other octets
begun : (b c : Bool) (i lead n : ℕ) (s p q : List ℕ) (next next' : ℕ) (l m : Elements) → read_of (p ++ s) l ≡ read_of (q ++ s) m
    → read_of (p ++ s) (joined (cond b (Bad Past) (cond c (Bad Strange) (At i (length p + lead) n next))) (length p) l)
    ≡ read_of (q ++ s) (joined (cond b (Bad Past) (cond c (Bad Strange) (At i (length q + lead) n next'))) (length q) m)
unfolding read_of joined
begun true c i lead n s p q next next' l m e = refl
begun false true i lead n s p q next next' l m e = refl
begun false false i lead n s p q next next' l m e = rw (drop-append-add p s lead, drop-append-add q s lead, e)

module _ (request : Bool) where
  -- an octet further on
  further : (k o : ℕ) (s p : List ℕ) → read_of (p ++ (o ∷ s)) (elements_of request k (suc (length p)) s) ≡ read_of ((p ++ (o ∷ [])) ++ s) (elements_of request k (length (p ++ (o ∷ []))) s)
  further k o s p =
      let n : length (p ++ (o ∷ [])) ≡ suc (length p) = omega (arith, length-append p (o ∷ [])) in
      rw (append_snoc p o s, n)

  moved : (k : ℕ) (s p q : List ℕ) → read_of (p ++ s) (elements_of request k (length p) s) ≡ read_of (q ++ s) (elements_of request k (length q) s)
  unfolding elements_of element_of read_of
  moved zero [] p q = refl
  moved (suc k) [] p q = refl
  moved zero (i ∷ s) p q =
      rw (read-coded, read-coded)
      (begun (ltb (suc (length s)) (size_of request i s)) (eqb (code_of (format_of i)) 3) i (lead_of request i) (contents_of request i s) (i ∷ s) p q _ _ _ _
      (further (size_of request i s - 1) i s p ∙ moved (size_of request i s - 1) s (p ++ (i ∷ [])) (q ++ (i ∷ [])) ∙ sym (further (size_of request i s - 1) i s q)))
  moved (suc k) (o ∷ s) p q = further k o s p ∙ moved k s (p ++ (o ∷ [])) (q ++ (o ∷ [])) ∙ sym (further k o s q)

  -- the elements of s
  abbrev read : List ℕ → Read
  read s = read_of s (elements_of request 0 0 s)

  from : (p s : List ℕ) → read_of (p ++ s) (elements_from request (p ++ s) (length p)) ≡ read s
  unfolding elements_from
  from p s = rw (drop_at p s (length p) refl) (moved 0 s p [])

  said_of : (p : List ℕ) (x : ℕ) (s : List ℕ) → said request p x s ≡ first_in x (read s)
  said_of p x s = said_read (p ++ s) x (elements_from request (p ++ s) (length p)) ∙ ap (first_in x) (from p s)

  formed-of : (p s : List ℕ) → formed request p s ≡ whole_in (read s)
  formed-of p s = formed-read (p ++ s) (elements_from request (p ++ s) (length p)) ∙ ap whole_in (from p s)

-- A whole element: its identifier i and the octets t behind it are all that it takes, whatever follows, and it is none that has to be known.
pub record Alone (request : Bool) (i : ℕ) (t : List ℕ) : Type 0 where
  pub size : (rest : List ℕ) → size_of request i (t ++ rest) ≡ suc (length t)
  pub passed : (e : Element) → read_as (format_of i) e ≡ e

-- "An identifier of 80 hex or more is one octet with its contents; 70 to 7F has a two-octet length; below that a one-octet length; 52 in a request is seven octets in all."
module _ (request : Bool) (i : ℕ) where
  pub octet-alone : format_of i ≡ Layout.Whole → Alone request i []
  unfolding size_of lead_of lead_by contents_of contents_by read_as
  octet-alone e = record { size = λ rest. rw e; passed = λ x. rw e }

  pub long-alone : (hi lo : ℕ) (c : List ℕ) → format_of i ≡ Layout.LongLength → hi * 256 + lo ≡ length c → Alone request i (hi ∷ lo ∷ c)
  unfolding size_of lead_of lead_by contents_of contents_by read_as
  long-alone hi lo c e h = record { size = λ rest. rw e (omega arith); passed = λ x. rw e }

  pub short-alone : (n : ℕ) (c : List ℕ) → format_of i ≡ Layout.ShortLength → n ≡ length c → Alone request i (n ∷ c)
  unfolding size_of lead_of lead_by contents_of contents_by read_as
  short-alone n c e h = record { size = λ rest. rw e (omega arith); passed = λ x. rw e }

pub area-alone : (c : List ℕ) → length c ≡ 6 → Alone true 82 c
unfolding size_of lead_of lead_by contents_of contents_by read_as format_of
area-alone c h = record { size = λ rest. omega arith; passed = λ x. refl }

-- a whole element is the first of the list, its contents behind its lead, and those behind it follow
module _ (request : Bool) (i : ℕ) (t : List ℕ) (a : Alone request i t) where
  abbrev inner : List ℕ
  inner = drop (lead_of request i) (i ∷ t)

  step : (at : ℕ) (s : List ℕ)
      → elements_of request 0 at (i ∷ (t ++ s)) ≡ element i (at + lead_of request i) (contents_of request i (t ++ s)) (elements_of request (length t) (suc at) (t ++ s))
  unfolding elements_of element_of joined
  step at s =
      let fits : suc (length t) ≤ suc (length (t ++ s)) = omega (arith, length-append t s) in
      let less : suc (length t) - 1 ≡ length t = omega arith in
      rw (a.size s, le-ltb _ _ fits, a.passed, less)

  middle : (p s : List ℕ) → take (contents_of request i (t ++ s)) (drop (length p + lead_of request i) (p ++ (i ∷ (t ++ s)))) ≡ inner
  unfolding size_of
  middle p s =
      let h : lead_of request i + contents_of request i (t ++ s) ≡ suc (length t) = a.size s in
      let fits : lead_of request i ≤ length (i ∷ t) = omega arith in
      rw (drop-append-add p (i ∷ (t ++ s)) (lead_of request i), drop-append-le (lead_of request i) (i ∷ t) s fits)
      (take_at inner s (contents_of request i (t ++ s)) (omega (arith, length-drop (lead_of request i) (i ∷ t))))

  behind : (p s : List ℕ) → read_of (p ++ (i ∷ (t ++ s))) (elements_of request (length t) (suc (length p)) (t ++ s)) ≡ read request s
  behind p s =
      let n : suc (length p) + length t ≡ length (p ++ (i ∷ t)) = omega (arith, length-append p (i ∷ t)) in
      rw (skip request (length t) (suc (length p)) (t ++ s), drop_at t s (length t) refl, n, ← append_assoc p (i ∷ t) s) (moved request 0 s (p ++ (i ∷ t)) [])

  ahead_of : (p s : List ℕ) → read_of (p ++ (i ∷ (t ++ s))) (elements_of request 0 (length p) (i ∷ (t ++ s))) ≡ one i inner (read request s)
  unfolding read_of
  ahead_of p s = rw (step (length p) s, middle p s, behind p s)

  ahead : (s : List ℕ) → read request (i ∷ (t ++ s)) ≡ one i inner (read request s)
  ahead s = ahead_of [] s

-- the same said of x, and both well formed or neither
abbrev Alike : ℕ → Read → Read → Type 0
Alike x r u = (first_in x r ≡ first_in x u) × (whole_in r ≡ whole_in u)

module _ (x i : ℕ) (c : List ℕ) where
  one_alike : (r u : Read) → Alike x r u → Alike x (one i c r) (one i c u)
  unfolding first_in whole_in
  one_alike r u h = (ap (cond (eqb i x) (contents c)) h.0, h.1)

  skip-alike : (r : Read) → i ≢ x → Alike x (one i c r) r
  unfolding first_in whole_in
  skip-alike r h = (rw (ne_eqb i x h), refl)

  swap_alike : (j : ℕ) (d : List ℕ) (r : Read) → i ≢ j → Alike x (one i c (one j d r)) (one j d (one i c r))
  unfolding first_in whole_in
  swap_alike j d r h = (go (eqb i x) (eqb j x) refl refl, refl)
    where
      go : (b e : Bool) → eqb i x ≡ b → eqb j x ≡ e → cond b (contents c) (cond e (contents d) (first_in x r)) ≡ cond e (contents d) (cond b (contents c) (first_in x r))
      go true true f g = absurd (h (eqb-true i x f ∙ sym (eqb-true j x g)))
      go true false f g = refl
      go false e f g = refl

-- whole elements one behind the other
pub record Piece : Type 0 where
  pub id : ℕ
  pub rest : List ℕ

abbrev pub piece_octets : Piece → List ℕ
piece_octets a = a.id ∷ a.rest

unfoldable pub pieces_octets : List Piece → List ℕ
pieces_octets [] = []
pieces_octets (a ∷ ps) = piece_octets a ++ pieces_octets ps

unfoldable pub AllAlone : Bool → List Piece → Type 0
AllAlone request [] = Unit {0}
AllAlone request (a ∷ ps) = Alone request a.id a.rest × AllAlone request ps

-- A message p with elements s, and with elements t, say the same of x, and both are well formed or neither.
abbrev pub Same : Bool → List ℕ → ℕ → List ℕ → List ℕ → Type 0
Same request p x s t = (said request p x s ≡ said request p x t) × (formed request p s ≡ formed request p t)

module _ (request : Bool) (x : ℕ) where
  front : (ps : List Piece) → AllAlone request ps → (s t : List ℕ) → Alike x (read request s) (read request t) → Alike x (read request (pieces_octets ps ++ s)) (read request (pieces_octets ps ++ t))
  unfolding pieces_octets AllAlone
  front [] h s t e = e
  front (a ∷ ps) h s t e =
      rw (append_assoc a.rest (pieces_octets ps) s, append_assoc a.rest (pieces_octets ps) t, ahead request a.id a.rest h.0 (pieces_octets ps ++ s), ahead request a.id a.rest h.0 (pieces_octets ps ++ t))
      (one_alike x a.id (inner request a.id a.rest h.0) _ _ (front ps h.1 s t e))

  module _ (p : List ℕ) (ps : List Piece) (all : AllAlone request ps) where
    same : (s t : List ℕ) → Alike x (read request s) (read request t) → Same request p x (pieces_octets ps ++ s) (pieces_octets ps ++ t)
    same s t e =
        let h = front ps all s t e in
        (said_of request p x (pieces_octets ps ++ s) ∙ h.0 ∙ sym (said_of request p x (pieces_octets ps ++ t)), formed-of request p (pieces_octets ps ++ s) ∙ h.1 ∙ sym (formed-of request p (pieces_octets ps ++ t)))

    module _ (a : Piece) (h : Alone request a.id a.rest) (s : List ℕ) where
      -- "Order is free": two elements with different identifiers change about
      pub order-free : (b : Piece) → Alone request b.id b.rest → a.id ≢ b.id
          → Same request p x (pieces_octets ps ++ (piece_octets a ++ (piece_octets b ++ s))) (pieces_octets ps ++ (piece_octets b ++ (piece_octets a ++ s)))
      order-free b k n =
          same (piece_octets a ++ (piece_octets b ++ s)) (piece_octets b ++ (piece_octets a ++ s))
          (rw (ahead request a.id a.rest h (piece_octets b ++ s), ahead request b.id b.rest k s, ahead request b.id b.rest k (piece_octets a ++ s), ahead request a.id a.rest h s)
          (swap_alike x a.id _ b.id _ (read request s) n))

      -- "Unknown ones are skipped": an element that is not asked for changes nothing
      pub unknown-skipped : a.id ≢ x → Same request p x (pieces_octets ps ++ (piece_octets a ++ s)) (pieces_octets ps ++ s)
      unknown-skipped n = same (piece_octets a ++ s) s (rw (ahead request a.id a.rest h s) (skip-alike x a.id _ (read request s) n))
