-- What each way through `element` and `message` returns, and why both end: the octets of a 71 lie in the message, fewer than all. Assumes nothing.
use Prim.Native.Nat.{ℕ, zero, suc, ◌+◌, ◌-◌, ◌≤◌, ◌<◌}
use mathlib.Core.Path.{◌≡◌, refl, sym, ◌∙◌, ap}
use mathlib.Core.Bool.{Bool, true, false, cond}
use mathlib.Core.List.{List}
use native.Mathlib.Omega.{arith}
use native.Mathlib.Numerals.{sub-one}
use lib.ListN.{length, drop}
use lib.Dec.{eqb}
use borrow.Author.Tests.{eqb-false}
use Rattle.request.specs.declared.Request.{Request}
use Rattle.std.specs.Prelude.{Option, Some, None, Result, Ok, Err}
use Rattle.octets.specs.declared.Gathered.{Gathered}
use Rattle.std.proofs.lemmas.Option.{same_Some}
use Rattle.octets.specs.declared.Part.{Part}
use Rattle.octets.specs.declared.Malformed.{Malformed}
use Rattle.octets.specs.Element.{lead_of, lead_by, format_of, first_of}
use Rattle.messages.specs.Message.{ended_by}
use Rattle.request.specs.Reading.{identity_in, head_of, filled_of, part_of, refused}
use Rattle.request.specs.Levels.{shifted, container_of, asked_by, message_by, read_to}
use Rattle.request.specs.Reader.{elements_in, parts_of, alone_of, enclosed_of, inside_of, elements_reading, Below}
use Rattle.request.specs.declared.Unread.{Unread}
use Rattle.request.specs.declared.Unread.TheVariants as unread
use Rattle.request.proofs.Below.{container-below, reads-below, raised}
use Rattle.request.proofs.First.{found_first}
use Rattle.request.proofs.Gathers.{gathered}
use Rattle.request.proofs.Pieces.{take_short}

-- a part with octets is the part itself
pub filled-full : (o : Option Part) (c : Part) → filled_of o ≡ Some c → (o ≡ Some c) × (c.len ≡ 0 → ⊥)
unfolding filled_of
filled-full None c t = cc
filled-full (Some p) c t = go (eqb p.len 0) refl t
  where
    go : (b : Bool) → eqb p.len 0 ≡ b → cond b None (Some p) ≡ Some c → (Some p ≡ Some c) × (c.len ≡ 0 → ⊥)
    go true e t = cc
    go false e t = (t, λ z. eqb-false p.len 0 e (rw (same_Some p c t) z))

-- a 71 has an identifier and a two-octet length before its contents
lead : {c : Part} {n : ℕ} (at : ℕ) → c ≡ record { start = at + lead_of true 0x71; len = n } → c.start ≡ at + 3
unfolding lead_of lead_by format_of
lead at e = rw e

-- a reading is its head's fault, or what the elements make of it
pub by-head : (d : ℕ) (s : List ℕ) → read_to d s ≡ ended_by refused (head_of s) (elements_reading d s)
unfolding read_to message_by elements_reading inside_of
by-head zero s = refl
by-head (suc d) s = refl

module _ (d : ℕ) (s : List ℕ) where
  pub broken-way : (m : Malformed) → head_of s ≡ Err m → Err (unread.Malformed m) ≡ read_to d s
  unfolding ended_by
  broken-way m e = rw (by-head d s, e)

  pub whole-way : (r : Result Request Unread) → head_of s ≡ (Ok tt) → r ≡ elements_reading d s → r ≡ read_to d s
  unfolding ended_by
  whole-way r e h = rw (by-head d s, e) h

module _ (s : List ℕ) (g : Gathered) (o : Option Part) (eg : g ≡ parts_of s) (ec : o ≡ filled_of g.fourth) where
  same : o ≡ container_of (elements_in s)
  same = ec ∙ ap filled_of (gathered s g eg).fourth

  pub alone-way : (d : ℕ) (r : Result Request Unread) → o ≡ None → (g ≡ parts_of s → r ≡ alone_of s) → r ≡ elements_reading d s
  unfolding elements_reading asked_by alone_of
  alone-way d r h e = rw (← same, h) (e eg)

  module _ (c : Part) (h : o ≡ Some c) where
    held : container_of (elements_in s) ≡ Some c
    held = sym same ∙ h

    pub deep-way : (d : ℕ) (r : Result Request Unread) → d ≡ 0 → (g ≡ parts_of s → r ≡ enclosed_of s (Err (unread.Deep (c.start - 3)))) → r ≡ elements_reading d s
    unfolding elements_reading asked_by enclosed_of inside_of
    deep-way d r z e = rw (held, z) (e eg)

    pub inside-way : (d : ℕ) (inner placed r : Result Request Unread) → (d ≡ 0 → ⊥) → inner ≡ read_to (d - 1) (part_of s c) → placed ≡ shifted c.start inner
        → (g ≡ parts_of s → r ≡ enclosed_of s placed) → r ≡ elements_reading d s
    unfolding elements_reading asked_by enclosed_of inside_of
    inside-way zero inner placed r z i p e = absurd (z refl)
    inside-way (suc d) inner placed r z i p e = rw held (e eg ∙ rw (p, i, sub-one))

    -- where a 71's octets lie: behind its identifier and length, within the message, and fewer than all
    module _ (inside : 6 + identity_in s ≤ length s) where
      pub lies : c.start + c.len ≤ length s
      lies = container-below s inside c held

      pub behind : 3 ≤ c.start
      behind =
          let f = filled-full (first_of 0x71 (elements_in s)) c held in
          let x = found_first true s 0x71 (6 + identity_in s) c f.0 in
          let e : c.start ≡ x.at + 3 = lead x.at x.same in
          omega arith

      pub fewer : length (part_of s c) < length s
      fewer = omega (arith, take_short c.len (drop c.start s), lies, behind)

      -- so what is read in it has room to be moved there
      pub room : (d : ℕ) (inner : Result Request Unread) → length s ≤ 18446744073709551615 → inner ≡ read_to d (part_of s c) → Below (18446744073709551615 - c.start) inner
      room d inner h i = rw i (raised (length (part_of s c)) _ (omega (arith, take_short c.len (drop c.start s), lies)) (read_to d (part_of s c)) (reads-below d (part_of s c)))
