-- The container of a request, as the sentences have it, is the one that reading finds: its first 71, if it has octets. Assumes nothing.
use Prim.Native.Nat.{ℕ, suc, ◌+◌, ◌-◌, ◌≤◌, ◌<◌}
use mathlib.Core.Path.{◌≡◌, refl, sym, ◌∙◌, ap}
use mathlib.Core.Bool.{true}
use mathlib.Core.List.{List}
use native.Mathlib.Omega.{arith}
use lib.ListN.{length, get_or, take, drop}
use borrow.Author.Tests.{ne_eqb}
use Rattle.octets.specs.declared.Fault.{Fault}
use Rattle.std.specs.Prelude.{Some}
use Rattle.octets.specs.declared.Part.{Part}
use Rattle.octets.specs.Element.{format_of, lead_by, lead_of, contents_of, size_of, first_of}
use Rattle.messages.specs.Faults.{fixed_of, in_request, size_at, ElementFault}
use Rattle.request.specs.Reading.{identity_in, filled_of, part_of}
use Rattle.request.specs.Faults.{FirstAt, Contains, contents_at}
use Rattle.request.specs.Reader.{elements_in, container_in}
use Rattle.request.proofs.Below.{Headed, container-below, cut-length}
use Rattle.request.proofs.First.{found_first, first_found}
use Rattle.request.proofs.Own.{asks}
use Rattle.request.proofs.Ways.{filled-full}

-- the part that a 71 is, at a place
abbrev pub part71 : List ℕ → ℕ → Part
part71 s at = record { start = at + lead_of true 0x71; len = contents_of true 0x71 (drop (suc at) s) }

lead71 : lead_of true 0x71 ≡ 3
unfolding lead_of lead_by format_of
lead71 = refl

-- a 71 is an identifier, a two-octet length and its contents
size71 : (s : List ℕ) (at : ℕ) → get_or s at 0 ≡ 0x71 → size_at true s at ≡ 3 + contents_of true 0x71 (drop (suc at) s)
unfolding size_of
size71 s at e = rw (e, lead71)

cut71 : (s : List ℕ) (at : ℕ) (c : Part) → c ≡ part71 s at → get_or s at 0 ≡ 0x71 → part_of s c ≡ take (size_at true s at - 3) (drop (at + 3) s)
cut71 s at c e is =
    let k : size_at true s at - 3 ≡ contents_of true 0x71 (drop (suc at) s) = omega (arith, size71 s at is) in
    rw (e, k, lead71)

module _ (s : List ℕ) (head : Headed s) where
  -- what stands of a container that is found
  pub record Holds (c : Part) : Type 0 where
    pub at : ℕ
    pub contains : Contains s at
    pub start : c.start ≡ at + 3
    pub cut : part_of s c ≡ contents_at s at
    pub long : c.len ≡ length (contents_at s at)
    pub clear : (f : Fault) (b : ℕ) → ElementFault (in_request s) s (fixed_of s) f b → c.start + c.len ≤ b

  pub holds : (c : Part) → container_in s ≡ Some c → Holds c
  holds c t =
      let f = filled-full (first_of 0x71 (elements_in s)) c t in
      let i = found_first true s 0x71 (6 + identity_in s) c f.0 in
      let start : c.start ≡ i.at + 3 = ap (λ (p : Part). p.start) i.same ∙ ap (λ (n : ℕ). i.at + n) lead71 in
      let size : size_at true s i.at ≡ 3 + c.len = size71 s i.at i.first.is ∙ ap (λ (p : Part). 3 + p.len) (sym i.same) in
      let cut : part_of s c ≡ contents_at s i.at = rw (asks s head).0 (cut71 s i.at c i.same i.first.is) in
      record {
        at = i.at;
        contains = record { first = rw ((asks s head).0, (asks s head).1) i.first; some = rw (asks s head).0 (omega (arith, size, f.1)) };
        start = start;
        cut = cut;
        long = sym (cut-length s c (container-below s head.inside c t)) ∙ ap length cut;
        clear = rw ((asks s head).0, (asks s head).1) (λ f b y. omega (arith, i.clear f b y, size, start));
      }

  -- one that the sentences have is found, if no fault lies before it
  pub held-there : (c : ℕ) → Contains s c → ((f : Fault) (b : ℕ) → ElementFault (in_request s) s (fixed_of s) f b → c ≤ b) → container_in s ≡ Some (part71 s c)
  unfolding filled_of
  held-there c x clear =
      let first : FirstAt true s (6 + identity_in s) 0x71 c = rw ((asks s head).0, (asks s head).1) at x.first in
      let found = first_found true s 0x71 (omega arith) (6 + identity_in s) c first (rw ((asks s head).0, (asks s head).1) at clear) in
      let some : 3 < size_at true s c = rw (asks s head).0 at x.some in
      rw (found, ne_eqb (contents_of true 0x71 (drop (suc c) s)) 0 (λ e. omega (arith, size71 s c first.is)))

  -- and there is only one
  pub only : (a b : ℕ) → Contains s a → Contains s b → a ≡ b
  only a b x y = omega (arith, x.first.first b y.first.begins y.first.is, y.first.first a x.first.begins x.first.is)
