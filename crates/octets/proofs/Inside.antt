-- The elements of a message lie within it: each ends there, and 52 in a request has six octets. By induction on the octets. Assumes nothing.
use Prim.Native.Nat.{ℕ, zero, suc, ◌+◌, ◌-◌, ◌≤◌}
use mathlib.Core.Path.{◌≡◌, refl, ◌∙◌, subst}
use mathlib.Core.Bool.{Bool, true, false, cond}
use Rattle.std.specs.Prelude.{Some}
use mathlib.Core.List.{List, [], ◌∷◌}
use native.Mathlib.Omega.{arith}
use native.Mathlib.Nat.{add-suc, suc-add}
use lib.ListN.{length, drop, length-drop}
use lib.Dec.{ltb, eqb}
use borrow.Author.Tests.{ltb-false, eqb-true}
use Rattle.octets.specs.Element.{format_of, code_of, lead_of, contents_by, contents_of, size_of, element_of, Elements, joined, elements_of, elements_from, first_of}
use Rattle.octets.specs.Element.Elements.{over, broken, element}
use Rattle.octets.specs.declared.Fault.TheVariants.{Past, Strange}
use Rattle.octets.specs.declared.Element.TheVariants.{Bad, At}
use Rattle.octets.specs.declared.Part.{Part}
use Rattle.octets.proofs.Codes.{read-coded}

-- each element ends within n octets, 52 in a request has six, and a fault is told at an octet or at the end
unfoldable pub Sound : Bool → ℕ → Elements → Type 0
Sound request n over = Unit {0}
Sound request n (broken f at) = at ≤ n
Sound request n (element i start k l) = ((start + k ≤ n) × (request ≡ true → i ≡ 82 → k ≡ 6)) × Sound request n l

module _ (request : Bool) where
  -- "52 in a request is seven octets in all"
  six : (i : ℕ) (s : List ℕ) → request ≡ true → i ≡ 82 → contents_of request i s ≡ 6
  unfolding contents_of contents_by format_of
  six i s r e = rw (r, e)

  -- the element begun here, and those behind it
  begun : (b c : Bool) (n at i lead k next : ℕ) (l : Elements) → at ≤ n → (b ≡ false → at + (lead + k) ≤ n) → (request ≡ true → i ≡ 82 → k ≡ 6) → Sound request n l
      → Sound request n (joined (cond b (Bad Past) (cond c (Bad Strange) (At i (at + lead) k next))) at l)
  unfolding Sound joined
  begun true c n at i lead k next l h g e s = h
  begun false true n at i lead k next l h g e s = h
  begun false false n at i lead k next l h g e s = ((omega (arith, g refl), e), s)

  sound : (k at : ℕ) (s : List ℕ) → Sound request (at + length s) (elements_of request k at s)
  unfolding elements_of element_of size_of Sound
  sound zero at [] = tt
  sound (suc k) at [] = tt
  sound zero at (i ∷ s) =
      rw read-coded
      (begun (ltb (suc (length s)) (lead_of request i + contents_of request i s)) (eqb (code_of (format_of i)) 3) (at + suc (length s)) at i (lead_of request i) (contents_of request i s) _ _ (omega arith)
      (λ e. omega (arith, ltb-false (suc (length s)) (lead_of request i + contents_of request i s) e)) (six i s) (rw (add-suc, ← suc-add) (sound (lead_of request i + contents_of request i s - 1) (suc at) s)))
  sound (suc k) at (o ∷ s) = rw (add-suc, ← suc-add) (sound k (suc at) s)

  -- those from a place of a message on
  pub from_place : (s : List ℕ) (from : ℕ) → from ≤ length s → Sound request (length s) (elements_from request s from)
  unfolding elements_from
  from_place s from h = rw ends at (sound 0 from (drop from s))
    where
      ends : from + length (drop from s) ≡ length s
      ends = simp length-drop (omega arith)

  -- so does a part that is found among them
  abbrev Within : ℕ → ℕ → Part → Type 0
  Within n x p = (p.start + p.len ≤ n) × (request ≡ true → x ≡ 82 → p.len ≡ 6)

  pub found_inside : (n x : ℕ) (l : Elements) (p : Part) → Sound request n l → first_of x l ≡ Some p → Within n x p
  unfolding first_of Sound
  found_inside n x over p s t = cc
  found_inside n x (broken f at) p s t = cc
  found_inside n x (element i start k l) p s t = go (eqb i x) refl t (found_inside n x l p s.1)
    where
      go : (b : Bool) → eqb i x ≡ b → cond b (Some (record { start = start; len = k })) (first_of x l) ≡ Some p → (first_of x l ≡ Some p → Within n x p) → Within n x p
      go true e u h = let z : ◌≡◌ {A = Part} (record { start = start; len = k }) p = cc in subst (Within n x) z (s.0.0, λ r f. s.0.1 r (eqb-true i x e ∙ f))
      go false e u h = h u
