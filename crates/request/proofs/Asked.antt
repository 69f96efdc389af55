-- What reads as a request by itself is one: each test that the reading makes is a fact of the octets, and what is read fits the layout. Assumes nothing.
use Prim.Native.Nat.{ℕ, ◌+◌, ◌*◌, ◌/◌, ◌%◌, ◌<◌, ◌≤◌}
use mathlib.Core.Path.{◌≡◌, refl, ◌∙◌}
use mathlib.Core.Bool.{Bool, true, false, cond, false≢true}
use mathlib.Core.Logic.{◌⊎◌, inl, inr, ◌≢◌}
use mathlib.Core.List.{List, []}
use native.Mathlib.Omega.{arith}
use native.Mathlib.Nat.{add-zero}
use lib.ListN.{length, get_or, take, drop, length-drop}
use lib.Seq.{length-take-le, get_or-take, get_or-drop}
use lib.Dec.{ltb, eqb}
use borrow.Author.Tests.{ltb-false, leb-true, eqb-true, eqb-false}
use Rattle.std.proofs.lemmas.Option.{IfSome_then}
use Rattle.std.specs.Prelude.{Option, Some, None, IfSome, IsSomeAnd}
use Rattle.octets.specs.declared.Part.{Part}
use Rattle.octets.specs.Element.{Elements, first_of}
use Rattle.octets.proofs.Inside.{Sound, from_place, found_inside}
use Rattle.record.specs.Tests.{both, either, within}
use Rattle.record.proofs.Bounds.{one, rest, least, most}
use Rattle.request.specs.Layout.{Fields, Fit}
use Rattle.request.specs.Reading.{identity_in, is_fourth, is_identity, is_security, is_capability, is_request, filled_of, leading_of, guti_in, request_in, part_of, cut_of}
use Rattle.request.specs.Reader.{elements_in, PartBelow}
use Rattle.request.specs.declared.Request.{Request}
use Rattle.request.proofs.Below.{Headed, found_below, cut-length}

-- "identity F2 and 10 octets, or 01 and 9 to 64 octets in all", by its first octet and its length
abbrev Known : ℕ → ℕ → Type 0
Known o n = ((o ≡ 0xF2) × (n ≡ 11)) ⊎ ((o ≡ 0x01) × ((9 ≤ n) × (n ≤ 64)))

-- Octets that are a request, and what is read in them: each part that is there lies in them and in its range.
pub record Asked (s : List ℕ) (q : Request) : Type 0 where
  pub opens : (get_or s 0 0 ≡ 0x7E) × ((get_or s 1 0 ≡ 0x00) × (get_or s 2 0 ≡ 0x41))
  pub regtype : (1 ≤ q.regtype) × (q.regtype ≤ 3)
  pub ksi : q.ksi ≤ 7
  pub fourth : get_or s 3 0 ≡ q.ksi * 16 + q.regtype
  pub identity : q.identity ≡ record { start = 6; len = get_or s 4 0 * 256 + get_or s 5 0 }
  pub known : Known (get_or s 6 0) q.identity.len
  pub inside : 6 + q.identity.len ≤ length s
  pub capability : IfSome q.capability (λ p. ((1 ≤ p.len) × (p.len ≤ 13)) × (p.start + p.len ≤ length s))
  pub security : IsSomeAnd q.security (λ p. ((2 ≤ p.len) × (p.len ≤ 8)) × (p.start + p.len ≤ length s))
  pub last : IfSome q.last (λ p. (p.len ≡ 6) × (p.start + p.len ≤ length s))
  pub uplink : IfSome q.uplink (λ p. (p.len ≡ 2) × (p.start + p.len ≤ length s))
  pub sessions : IfSome q.sessions (λ p. (p.len ≡ 2) × (p.start + p.len ≤ length s))
  pub additional : IfSome q.additional (λ p. (get_or s p.start 0 ≡ 0xF2) × ((p.len ≡ 11) × (p.start + p.len ≤ length s)))
  pub status : IfSome q.status (λ p. (p.len ≡ 1) × (p.start + p.len ≤ length s))
  pub attach : IfSome q.attach (λ p. (1 ≤ p.len) × (p.start + p.len ≤ length s))

-- the tests as facts

fourth-facts : (o : ℕ) → is_fourth o ≡ true → ((1 ≤ o % 16) × (o % 16 ≤ 3)) × (o / 16 ≤ 7)
unfolding is_fourth
fourth-facts o e =
    let w : within 1 3 (o % 16) ≡ true = one (within 1 3 (o % 16)) _ e in
    ((least 1 3 (o % 16) w, most 1 3 (o % 16) w), leb-true (o / 16) 7 (rest (within 1 3 (o % 16)) _ e))

identity-facts : (o n : ℕ) → is_identity o n ≡ true → Known o n
unfolding is_identity
identity-facts o n e = go (both (eqb o 0xF2) (eqb n 11)) refl e
  where
    go : (b : Bool) → both (eqb o 0xF2) (eqb n 11) ≡ b → either b (both (eqb o 0x01) (within 9 64 n)) ≡ true → Known o n
    go true g t = inl (eqb-true o 0xF2 (one (eqb o 0xF2) _ g), eqb-true n 11 (rest (eqb o 0xF2) _ g))
    go false g t =
        let w : within 9 64 n ≡ true = rest (eqb o 0x01) _ t in
        inr (eqb-true o 0x01 (one (eqb o 0x01) _ t), (least 9 64 n w, most 9 64 n w))

capability-facts : (n : ℕ) (o : Option Part) → PartBelow n o → is_capability o ≡ true → IfSome (filled_of o) (λ p. ((1 ≤ p.len) × (p.len ≤ 13)) × (p.start + p.len ≤ n))
unfolding is_capability filled_of
capability-facts n None w c = tt
capability-facts n (Some p) w c = go (eqb p.len 0) refl
  where
    go : (b : Bool) → eqb p.len 0 ≡ b → IfSome {T = Part} (cond b None (Some p)) (λ p. ((1 ≤ p.len) × (p.len ≤ 13)) × (p.start + p.len ≤ n))
    go true e = tt
    go false e = let z : p.len ≢ 0 = eqb-false p.len 0 e in ((omega arith, leb-true p.len 13 c), w)

security-facts : (n : ℕ) (o : Option Part) → PartBelow n o → is_security o ≡ true → IsSomeAnd o (λ p. ((2 ≤ p.len) × (p.len ≤ 8)) × (p.start + p.len ≤ n))
unfolding is_security
security-facts n None w e = absurd (false≢true e)
security-facts n (Some p) w e = ((least 2 8 p.len e, most 2 8 p.len e), w)

leading-facts : (n k : ℕ) (o : Option Part) → PartBelow n o → IfSome (leading_of k o) (λ p. (p.len ≡ k) × (p.start + p.len ≤ n))
unfolding leading_of
leading-facts n k None w = tt
leading-facts n k (Some p) w = go (ltb p.len k) refl
  where
    go : (b : Bool) → ltb p.len k ≡ b → IfSome {T = Part} (cond b None (Some (record { start = p.start; len = k }))) (λ p. (p.len ≡ k) × (p.start + p.len ≤ n))
    go true e = tt
    go false e = let h : k ≤ p.len = ltb-false p.len k e in (refl, omega arith)

guti-facts : (s : List ℕ) (o : Option Part) → PartBelow (length s) o → IfSome (guti_in s o) (λ p. (get_or s p.start 0 ≡ 0xF2) × ((p.len ≡ 11) × (p.start + p.len ≤ length s)))
unfolding guti_in leading_of
guti-facts s None w = tt
guti-facts s (Some p) w = go (eqb (get_or s p.start 0) 0xF2) (ltb p.len 11) refl refl
  where
    go : (x b : Bool) → eqb (get_or s p.start 0) 0xF2 ≡ x → ltb p.len 11 ≡ b
        → IfSome {T = Part} (cond x (cond b None (Some (record { start = p.start; len = 11 }))) None) (λ p. (get_or s p.start 0 ≡ 0xF2) × ((p.len ≡ 11) × (p.start + p.len ≤ length s)))
    go true true d e = tt
    go true false d e = let h : 11 ≤ p.len = ltb-false p.len 11 e in (eqb-true _ _ d, (refl, omega arith))
    go false b d e = tt

filled-facts : (n : ℕ) (o : Option Part) → PartBelow n o → IfSome (filled_of o) (λ p. (1 ≤ p.len) × (p.start + p.len ≤ n))
unfolding filled_of
filled-facts n None w = tt
filled-facts n (Some p) w = go (eqb p.len 0) refl
  where
    go : (b : Bool) → eqb p.len 0 ≡ b → IfSome {T = Part} (cond b None (Some p)) (λ p. (1 ≤ p.len) × (p.start + p.len ≤ n))
    go true e = tt
    go false e = let z : p.len ≢ 0 = eqb-false p.len 0 e in (omega arith, w)

module _ (s : List ℕ) (head : Headed s) where
  abbrev n : ℕ
  n = identity_in s

  abbrev l : Elements
  l = elements_in s

  sound : Sound true (length s) l
  sound = from_place true s (6 + n) head.inside

  pub fits : is_request s n l ≡ true → Asked s (request_in s n l)
  unfolding is_request request_in
  fits e =
      let o = fourth-facts (get_or s 3 0) (one (is_fourth (get_or s 3 0)) _ e) in
      let parts = rest (is_fourth (get_or s 3 0)) _ e in
      let items = rest (is_identity (get_or s 6 0) n) _ parts in
      let able : is_capability (first_of 0x10 l) ≡ true = one (is_capability (first_of 0x10 l)) _ items in
      let safe : is_security (first_of 0x2E l) ≡ true = rest (is_capability (first_of 0x10 l)) _ items in
      record {
        opens = head.opens;
        regtype = o.0;
        ksi = o.1;
        fourth = omega arith;
        identity = refl;
        known = identity-facts (get_or s 6 0) n (one (is_identity (get_or s 6 0) n) _ parts);
        inside = head.inside;
        capability = capability-facts (length s) (first_of 0x10 l) (found_below s head.inside 0x10) able;
        security = security-facts (length s) (first_of 0x2E l) (found_below s head.inside 0x2E) safe;
        last = area (first_of 0x52 l) refl;
        uplink = leading-facts (length s) 2 (first_of 0x40 l) (found_below s head.inside 0x40);
        sessions = leading-facts (length s) 2 (first_of 0x50 l) (found_below s head.inside 0x50);
        additional = guti-facts s (first_of 0x77 l) (found_below s head.inside 0x77);
        status = leading-facts (length s) 1 (first_of 0x2B l) (found_below s head.inside 0x2B);
        attach = filled-facts (length s) (first_of 0x70 l) (found_below s head.inside 0x70);
      }
    where
      area : (o : Option Part) → first_of 0x52 l ≡ o → IfSome o (λ p. (p.len ≡ 6) × (p.start + p.len ≤ length s))
      area None e = tt
      area (Some p) e = let f = found_inside true (length s) 0x52 l p sound e in (f.1 refl refl, f.0)

-- a part that is absent has no octets
cut-at-most : (s : List ℕ) (o : Option Part) (k : ℕ) → IfSome o (λ p. (p.len ≤ k) × (p.start + p.len ≤ length s)) → length (cut_of s o) ≤ k
unfolding cut_of
cut-at-most s None k f = omega arith
cut-at-most s (Some p) k f = rw (cut-length s p f.1) f.0

-- one that has k octets or is absent
cut-or-none : (s : List ℕ) (o : Option Part) (k : ℕ) → IfSome o (λ p. (p.len ≡ k) × (p.start + p.len ≤ length s)) → (cut_of s o ≡ []) ⊎ (length (cut_of s o) ≡ k)
unfolding cut_of
cut-or-none s None k f = inl refl
cut-or-none s (Some p) k f = inr (cut-length s p f.1 ∙ f.0)

-- a GUTI with its F2, or none
cut-guti : (s : List ℕ) (o : Option Part) → IfSome o (λ p. (get_or s p.start 0 ≡ 0xF2) × ((p.len ≡ 11) × (p.start + p.len ≤ length s)))
    → (cut_of s o ≡ []) ⊎ ((get_or (cut_of s o) 0 0 ≡ 0xF2) × (length (cut_of s o) ≡ 11))
unfolding cut_of
cut-guti s None f = inl refl
cut-guti s (Some p) f =
    let first : get_or (take p.len (drop p.start s)) 0 0 ≡ get_or s (p.start + 0) 0 = get_or-take p.len (drop p.start s) 0 0 (omega (arith, f.1.0)) ∙ get_or-drop p.start s 0 0 in
    inr (rw (first, add-zero) f.0, cut-length s p f.1.1 ∙ f.1.0)

-- one that is there, of two to eight octets
cut-security : (s : List ℕ) (o : Option Part) → IsSomeAnd o (λ p. ((2 ≤ p.len) × (p.len ≤ 8)) × (p.start + p.len ≤ length s)) → (2 ≤ length (cut_of s o)) × (length (cut_of s o) ≤ 8)
unfolding cut_of
cut-security s None f = absurd f
cut-security s (Some p) f = let n = cut-length s p f.1 in (rw n f.0.0, rw n f.0.1)

-- what is read, by its octets
abbrev pub told : List ℕ → Request → Fields
told s q = record {
  regtype = q.regtype;
  ksi = q.ksi;
  identity = part_of s q.identity;
  capability = cut_of s q.capability;
  security = cut_of s q.security;
  last = cut_of s q.last;
  uplink = cut_of s q.uplink;
  sessions = cut_of s q.sessions;
  additional = cut_of s q.additional;
  status = cut_of s q.status;
  attach = cut_of s q.attach;
}

-- So it is what the layout may say
module _ (s : List ℕ) (q : Request) (a : Asked s q) where
  pub fit : Fit (told s q)
  unfolding cut_of
  fit = record {
    regtype = a.regtype;
    ksi = a.ksi;
    identity = rw a.identity (known (get_or s 4 0 * 256 + get_or s 5 0) (rw a.identity at a.known) (rw a.identity at a.inside));
    capability = cut-at-most s q.capability 13 (IfSome_then q.capability a.capability (λ p h. (h.0.1, h.1)));
    security = cut-security s q.security a.security;
    last = cut-or-none s q.last 6 a.last;
    uplink = cut-or-none s q.uplink 2 a.uplink;
    sessions = cut-or-none s q.sessions 2 a.sessions;
    additional = cut-guti s q.additional a.additional;
    status = cut-or-none s q.status 1 a.status;
  }
    where
      some : (n : ℕ) → Known (get_or s 6 0) n → 0 < n
      some n (inl (e, h)) = omega arith
      some n (inr (e, h)) = omega arith

      known : (n : ℕ) → Known (get_or s 6 0) n → 6 + n ≤ length s → Known (get_or (take n (drop 6 s)) 0 0) (length (take n (drop 6 s)))
      known n k h =
          let first : get_or (take n (drop 6 s)) 0 0 ≡ get_or s 6 0 = get_or-take n (drop 6 s) 0 0 (some n k) ∙ get_or-drop 6 s 0 0 in
          rw (first, length-take-le n (drop 6 s) (simp length-drop (omega arith))) k
