-- The pieces of a request are its layout. Assumes nothing.
use Prim.Native.Nat.{ℕ, zero, suc, ◌+◌, ◌*◌, ◌/◌, ◌%◌, ◌≤◌, ◌<◌}
use Rattle.std.proofs.Common.{rules, w16}
use Rattle.std.specs.Int.{to_be_bytes}
use mathlib.Core.Path.{◌≡◌, refl, ◌∙◌, ap}
use mathlib.Core.Bool.{Bool, true, false, cond}
use mathlib.Core.List.{List, [], ◌∷◌, ◌++◌, append-nil, append_assoc}
use native.Mathlib.Omega.{arith}
use native.Mathlib.Nat.{zero-add}
use lib.ListN.{length, take, drop, replicate, length-append, drop_of_length-le}
use lib.Dec.{eqb}
use borrow.Author.Tests.{eq-eqb, ne_eqb, le-leb, lt-leb}
use Rattle.laws.specs.Splice.{spliced, Put}
use Rattle.laws.specs.Upto.{over}
use Rattle.laws.proofs.Splice.{join}
use Rattle.std.proofs.Common.{Option, Some, None, Ok, Err}
use Rattle.record.specs.declared.Answer.TheVariants.{Short}
use Rattle.identity.specs.Choice.{slot_of, part_of, chosen_of}
use Rattle.request.specs.Layout.{Fields, length_in, with_lead, item_octets, laid, opening_head, opening, items_of, octets_of, clear, nested, shown, levels_of, layout}
use Rattle.request.specs.Layout.Form.{short_form, long_form, plain_form}
use Rattle.request.specs.Writing.{gutis_of}
use Rattle.request.specs.Steps.{tail_octets, front_octets, rear_octets, sized_of, request_size, Small, sent_of, sent_over}

-- a length of two octets
pub two-octets : (n : ℕ) → n < 65536 → to_be_bytes w16 n ≡ (n / 256) ∷ (n % 256) ∷ []
two-octets n h = search rules

-- an element of no octets, and one of some
pub lead-none : (lead s : List ℕ) → length s ≡ 0 → with_lead lead s ≡ []
unfolding with_lead
lead-none lead [] e = refl
lead-none lead (o ∷ s) e = absurd (omega arith)

pub lead-some : (lead s : List ℕ) → (length s ≡ 0 → ⊥) → with_lead lead s ≡ lead ++ s
unfolding with_lead
lead-some lead [] h = absurd (h refl)
lead-some lead (o ∷ s) h = refl

pub lead-long : (lead s : List ℕ) → (length s ≡ 0 → ⊥) → length (with_lead lead s) ≡ length lead + length s
lead-long lead s h = ap length (lead-some lead s h) ∙ length-append lead s

-- how many octets an element takes
sizes : (lead s : List ℕ) → length (with_lead lead s) ≡ sized_of (length lead) (length s)
unfolding with_lead
sizes lead [] = refl
sizes lead (o ∷ s) = rw (ne_eqb (length (o ∷ s)) 0 (λ e. omega arith)) (length-append lead (o ∷ s))

most : (b : Bool) (k : ℕ) → cond b 0 k ≤ k
most true k = omega arith
most false k = omega arith

pub sized-most : (k n : ℕ) → sized_of k n ≤ k + n
sized-most k n = most (eqb n 0) (k + n)

module _ (f : Fields) where
  -- a request is its opening and one element behind the other
  pub in_order : octets_of f ≡ front_octets f ++ rear_octets f
  unfolding octets_of items_of laid tail_octets front_octets rear_octets
  in_order = simp (append_assoc, append-nil)

  -- how many octets they take
  pub opens : length (opening f) ≡ 6 + length f.identity
  unfolding opening opening_head length_in
  opens = omega arith

  pub spread : length (front_octets f) ≡ length (opening f) + length (item_octets short_form 0x10 f.capability) + length (item_octets short_form 0x2E f.security) + length (tail_octets f)
  unfolding front_octets
  spread = simp length-append

  pub spread-tail : length (tail_octets f) ≡ length (item_octets plain_form 0x52 f.last) + length (item_octets short_form 0x40 f.uplink) + length (item_octets short_form 0x50 f.sessions)
  unfolding tail_octets
  spread-tail = simp length-append

  pub spread-rear : length (rear_octets f) ≡ length (item_octets long_form 0x77 f.additional) + length (item_octets short_form 0x2B f.status) + length (item_octets long_form 0x70 f.attach)
  unfolding rear_octets
  spread-rear = simp length-append

  -- what stands before 77, and 77, 2B and 70
  pub parts-long : length (octets_of f) ≡ length (front_octets f) + length (rear_octets f)
  parts-long = ap length in_order ∙ length-append (front_octets f) (rear_octets f)

  pub long : length (octets_of f) ≡ request_size f
  unfolding item_octets length_in
  long =
      rw (parts-long, spread, spread-tail, spread-rear, opens, sizes _ f.capability, sizes _ f.security, sizes _ f.last, sizes _ f.uplink, sizes _ f.sessions, sizes _ f.additional, sizes _ f.status, sizes _ f.attach)
      (omega arith)

  pub size-most : request_size f
      ≤ 23
      + (length f.identity + (length f.capability + (length f.security + (length f.last + (length f.uplink + (length f.sessions + (length f.additional + (length f.status + length f.attach))))))))
  size-most =
      omega (
        arith,
        sized-most 2 (length f.capability),
        sized-most 2 (length f.security),
        sized-most 1 (length f.last),
        sized-most 2 (length f.uplink),
        sized-most 2 (length f.sessions),
        sized-most 3 (length f.additional),
        sized-most 2 (length f.status),
        sized-most 3 (length f.attach),
      )

  -- the whole request in a 71 behind the clear part: how many octets that is, and the pieces that it is put in
  abbrev outer : List ℕ
  outer = octets_of (clear f)

  abbrev whole : List ℕ
  whole = octets_of f

  inside : nested 1 f ≡ (outer ++ (0x71 ∷ length_in long_form (length whole))) ++ whole
  unfolding nested item_octets
  inside = rw (lead-some _ whole (λ z. omega (arith, long)), append_assoc)

  pub nested-long : {a b : ℕ} → length outer ≡ a → length whole ≡ b → length (nested 1 f) ≡ a + 3 + b
  unfolding length_in
  nested-long x y = rw inside (simp length-append (omega arith))

  pub nests : {b d e g : List ℕ} {p q r n : ℕ} → length whole ≡ n → Put b 0 outer d p → Put d p (0x71 ∷ length_in long_form n) e q → Put e q whole g r → Put b 0 (nested 1 f) g r
  nests k x y z = rw (inside, k) (join (omega arith) (join (omega arith) x y) z)

  -- pieces that have room leave 71's length two octets
  pub whole-small : Small f → length whole ≤ 65130
  whole-small h =
      omega (arith, long, size-most, h.identity, h.capability, h.security, h.last, h.uplink, h.sessions, h.additional, h.status, h.attach)

  -- the clear part of such pieces is such a request
  pub clear-small : Small f → Small (clear f)
  unfolding clear
  clear-small h = record {
    regtype = h.regtype;
    ksi = h.ksi;
    identity = h.identity;
    capability = omega arith;
    security = h.security;
    last = omega arith;
    uplink = omega arith;
    sessions = omega arith;
    additional = h.additional;
    status = h.status;
    attach = h.attach;
  }

  -- what is sent, by whether ngKSI is 7
  pub alone : f.ksi ≡ 7 → octets_of (clear f) ≡ layout f
  unfolding layout levels_of nested shown
  alone e = rw (eq-eqb f.ksi 7 e)

  pub composed : (f.ksi ≡ 7 → ⊥) → nested 1 f ≡ layout f
  unfolding layout levels_of shown
  composed h = rw (ne_eqb f.ksi 7 h)

pub sent-short : (o b : List ℕ) (len : ℕ) → length o ≡ len → length b < len → (Err Short ≡ sent_of o (length b)) × (b ≡ sent_over o b)
unfolding sent_of sent_over
sent-short o b len e h = (rw (e, lt-leb len (length b) h), rw (e, lt-leb len (length b) h))

pub sent-taken : (o b d : List ℕ) (len next : ℕ) → length o ≡ len → len ≤ length b → Put b 0 o d next → (Ok len ≡ sent_of o (length b)) × (d ≡ sent_over o b)
unfolding sent_of sent_over spliced over
sent-taken o b d len next e h f = (rw (e, le-leb len (length b) h), rw (e, le-leb len (length b) h) (rw (zero-add, e) at f.holds))

-- a GUTI behind F2
f2 : (g : List ℕ) → length g ≡ 10 → with_lead (0xF2 ∷ []) g ≡ 0xF2 ∷ g
f2 g e = lead-some (0xF2 ∷ []) g (λ z. omega arith)

pub f2-long : (g : List ℕ) → length g ≡ 10 → length (with_lead (0xF2 ∷ []) g) ≡ 11
f2-long g e = rw (f2 g e) (omega arith)

-- two of them fill the 22 octets
pub paired : (a b c d : List ℕ) (i j : ℕ) → length a ≡ 10 → length b ≡ 10
    → Put (replicate 22 0) 0 (with_lead (0xF2 ∷ []) a) c i → Put c i (with_lead (0xF2 ∷ []) b) d j → d ≡ gutis_of a b
unfolding spliced gutis_of
paired a b c d i j ha hb x y =
    (join (omega arith) x y).holds
    ∙ rw (zero-add, f2 a ha, f2 b hb, drop_of_length-le {A = ℕ} (replicate 22 0) over22, append-nil ((0xF2 ∷ a) ++ (0xF2 ∷ b)))
  where
    over22 : length (replicate {A = ℕ} 22 0) ≤ length ((0xF2 ∷ a) ++ (0xF2 ∷ b))
    over22 = omega (arith, length-append (0xF2 ∷ a) (0xF2 ∷ b))

-- a part of at most so many octets is chosen from such a SUCI
pub take_short : (n : ℕ) (l : List ℕ) → length (take n l) ≤ n
take_short zero l = omega arith
take_short (suc n) [] = omega arith
take_short (suc n) (x ∷ l) = omega (arith, take_short n l)

pub chosen-short : (k : ℕ) (g s : List ℕ) (access held0 held1 net : ℕ) (nets : List ℕ) (count : ℕ) → 11 ≤ k → length s ≤ k → length (chosen_of g s access held0 held1 net nets count) ≤ k
unfolding chosen_of part_of
chosen-short k g s access held0 held1 net nets count e h = go (slot_of g access held0 held1 net nets count)
  where
    go : (o : Option ℕ) → length (part_of g s o) ≤ k
    go None = h
    go (Some slot) = omega (arith, take_short 11 (drop (slot * 11) g))
