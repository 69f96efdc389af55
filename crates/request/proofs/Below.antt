-- Every offset that a reading tells lies in the message, however deep it was read: each level's own offsets lie in it, and those of the octets of a 71 lie in
-- the 71. Assumes nothing.
use Prim.Native.Nat.{ℕ, zero, suc, ◌+◌, ◌≤◌, ◌<◌}
use mathlib.Core.Path.{◌≡◌, refl}
use mathlib.Core.Bool.{Bool, true, false, cond}
use mathlib.Core.List.{List}
use native.Mathlib.Omega.{arith}
use lib.ListN.{length, get_or, drop, length-drop}
use lib.Seq.{length-take-le}
use lib.Dec.{ltb, eqb}
use borrow.Author.Tests.{ltb-true, ltb-false, eqb-true}
use Rattle.request.specs.declared.Request.{Request}
use Rattle.std.specs.Prelude.{Option, Some, None, Result, Ok, Err, ⊤}
use Rattle.octets.specs.declared.Fault.{Fault}
use Rattle.octets.specs.declared.Fault.TheVariants.{Cut, First, Second, Kind}
use Rattle.octets.specs.declared.Malformed.{Malformed}
use Rattle.octets.specs.declared.Part.{Part}
use Rattle.std.specs.Option.{option_map, option_map_or}
use Rattle.octets.specs.Element.{Elements, first_of, end_of, malformed}
use Rattle.octets.specs.Element.Elements.{over, broken, element}
use Rattle.octets.proofs.Inside.{Sound, from_place, found_inside}
use Rattle.messages.specs.Message.{opened_by, ended_by}
use Rattle.messages.proofs.Readings.{choice, opened-so}
use Rattle.request.specs.Reading.{identity_in, fixed_reading, head_of, is_request, filled_of, leading_of, guti_in, request_in, judged_of, part_of, refused}
use Rattle.request.specs.Levels.{shifted_part, shifted_request, shifted, around_of, container_of, asked_by, message_by, too_deep, followed, read_to}
use Rattle.request.specs.Reader.{elements_in, PartBelow, RequestBelow, Below}
use Rattle.request.specs.declared.Unread.{Unread}
use Rattle.request.specs.declared.Unread.TheVariants as unread

-- an ending whose offset is at most n
unfoldable EndsBelow : ℕ → Result ⊤ Malformed → Type 0
EndsBelow n (Err m) = m.at ≤ n
EndsBelow n (Ok _) = Unit {0}

broken-below : (n : ℕ) (f : Fault) (at : ℕ) → at ≤ n → EndsBelow n (malformed f at)
unfolding EndsBelow
broken-below n f at h = h

-- The head

-- an octet that is there and right, and what follows
opened-whole : (s : List ℕ) (at octet : ℕ) (f : Fault) (rest : Result ⊤ Malformed) → opened_by malformed s at octet f rest ≡ (Ok tt) → (at < length s) × ((get_or s at 0 ≡ octet) × (rest ≡ (Ok tt)))
unfolding opened_by
opened-whole s at octet f rest e = go (ltb at (length s)) (eqb (get_or s at 0) octet) refl refl e
  where
    go : (a b : Bool) → ltb at (length s) ≡ a → eqb (get_or s at 0) octet ≡ b → cond a (cond b rest (malformed f at)) (malformed Cut at) ≡ (Ok tt) → (at < length s) × ((get_or s at 0 ≡ octet) × (rest ≡ (Ok tt)))
    go true true x y z = (ltb-true at (length s) x, (eqb-true (get_or s at 0) octet y, z))
    go true false x y z = let n : ◌≡◌ {A = ℕ} 0 1 = cc in absurd (omega arith)
    go false b x y z = let n : ◌≡◌ {A = ℕ} 0 1 = cc in absurd (omega arith)

-- a head that is whole: 7E 00 41, octet 4 and the identity
pub record Headed (s : List ℕ) : Type 0 where
  pub opens : (get_or s 0 0 ≡ 0x7E) × ((get_or s 1 0 ≡ 0x00) × (get_or s 2 0 ≡ 0x41))
  pub inside : 6 + identity_in s ≤ length s

pub headed : (s : List ℕ) → head_of s ≡ (Ok tt) → Headed s
unfolding head_of
headed s e =
    let a = opened-whole s 0 0x7E First (opened_by malformed s 1 0x00 Second (fixed_reading s)) e in
    let b = opened-whole s 1 0x00 Second (fixed_reading s) a.1.1 in
    let c = opened-whole s 2 0x41 Kind (cond (ltb (length s) (6 + identity_in s)) (malformed Cut (length s)) (Ok tt)) b.1.1 in
    record { opens = (a.1.0, (b.1.0, c.1.0)); inside = fits (ltb (length s) (6 + identity_in s)) refl c.1.1 }
  where
    fits : (b : Bool) → ltb (length s) (6 + identity_in s) ≡ b → cond b (malformed Cut (length s)) (Ok (tt {0})) ≡ Ok (tt {0}) → 6 + identity_in s ≤ length s
    fits true x y = let n : ◌≡◌ {A = ℕ} 0 1 = cc in absurd (omega arith)
    fits false x y = ltb-false (length s) (6 + identity_in s) x

head-below : (s : List ℕ) → EndsBelow (length s) (head_of s)
unfolding head_of EndsBelow
head-below s =
    opened 0 0x7E First _ (omega arith) (λ h a. opened 1 0x00 Second _ h (λ g b. opened 2 0x41 Kind _ g
    (λ k c. choice (EndsBelow (length s)) _ _ (ltb (length s) (6 + identity_in s)) (λ e. omega arith) (λ e. tt))))
  where
    opened : (at octet : ℕ) (f : Fault) (e : Result ⊤ Malformed) → at ≤ length s → (at < length s → get_or s at 0 ≡ octet → EndsBelow (length s) e) → EndsBelow (length s) (opened_by malformed s at octet f e)
    opened = opened-so (EndsBelow (length s)) malformed s (broken-below (length s))

-- The elements

ends-below : (n : ℕ) (l : Elements) → Sound true n l → EndsBelow n (end_of l)
unfolding EndsBelow end_of Sound
ends-below n over x = tt
ends-below n (broken f at) x = x
ends-below n (element i start k l) x = ends-below n l x.1

ended-below : (n : ℕ) (e : Result ⊤ Malformed) (a : Result Request Unread) → EndsBelow n e → Below n a → Below n (ended_by refused e a)
unfolding EndsBelow Below ended_by
ended-below n (Err m) a x y = x
ended-below n (Ok _) a x y = y

module _ (n : ℕ) where
  pub filled-below : (o : Option Part) → PartBelow n o → PartBelow n (filled_of o)
  unfolding filled_of
  filled-below None h = tt
  filled-below (Some p) h = choice (PartBelow n) None (Some p) (eqb p.len 0) (λ e. tt) (λ e. h)

  leading-below : (k : ℕ) (o : Option Part) → PartBelow n o → PartBelow n (leading_of k o)
  unfolding leading_of
  leading-below k None h = tt
  leading-below k (Some p) h =
      choice (PartBelow n) None (Some (record { start = p.start; len = k })) (ltb p.len k) (λ e. tt)
      (λ e. let l : k ≤ p.len = ltb-false p.len k e in omega arith)

  guti-below : (s : List ℕ) (o : Option Part) → PartBelow n o → PartBelow n (guti_in s o)
  unfolding guti_in
  guti-below s None h = tt
  guti-below s (Some p) h = choice (PartBelow n) (leading_of 11 (Some p)) None (eqb (get_or s p.start 0) 0xF2) (λ e. leading-below 11 (Some p) h) (λ e. tt)

-- what is moved by k lies as much higher
module _ (k n m : ℕ) (room : k + n ≤ m) where
  part_moved : (o : Option Part) → PartBelow n o → PartBelow m (option_map (shifted_part k) o)
  unfolding shifted_part
  part_moved None h = tt
  part_moved (Some p) h = omega arith

  pub moved-below : (a : Result Request Unread) → Below n a → Below m (shifted k a)
  unfolding Below shifted shifted_request
  moved-below (Ok q) x = record {
    identity = part_moved (Some q.identity) x.identity;
    capability = part_moved q.capability x.capability;
    security = part_moved q.security x.security;
    last = part_moved q.last x.last;
    uplink = part_moved q.uplink x.uplink;
    sessions = part_moved q.sessions x.sessions;
    additional = part_moved q.additional x.additional;
    status = part_moved q.status x.status;
    attach = part_moved q.attach x.attach;
  }
  moved-below (Err (unread.Malformed m)) x = omega arith
  moved-below (Err (unread.Deep at)) x = omega arith
  moved-below (Err unread.Unfit) x = tt

-- the octets of a part are as many as it has
pub cut-length : (s : List ℕ) (p : Part) → p.start + p.len ≤ length s → length (part_of s p) ≡ p.len
cut-length s p h = length-take-le p.len (drop p.start s) (simp length-drop (omega arith))

module _ (s : List ℕ) (inside : 6 + identity_in s ≤ length s) where
  abbrev n : ℕ
  n = identity_in s

  abbrev l : Elements
  l = elements_in s

  sound : Sound true (length s) l
  sound = from_place true s (6 + n) inside

  pub found_below : (x : ℕ) → PartBelow (length s) (first_of x l)
  found_below x = go (first_of x l) refl
    where
      go : (o : Option Part) → first_of x l ≡ o → PartBelow (length s) o
      go None e = tt
      go (Some p) e = (found_inside true (length s) x l p sound e).0

  -- a container lies in the message
  pub container-below : (c : Part) → container_of l ≡ Some c → c.start + c.len ≤ length s
  container-below c e = rw e at (filled-below (length s) (first_of 0x71 l) (found_below 0x71))

  request-below : RequestBelow (length s) (request_in s n l)
  unfolding request_in
  request-below = record {
    identity = inside;
    capability = filled-below (length s) (first_of 0x10 l) (found_below 0x10);
    security = found_below 0x2E;
    last = found_below 0x52;
    uplink = leading-below (length s) 2 (first_of 0x40 l) (found_below 0x40);
    sessions = leading-below (length s) 2 (first_of 0x50 l) (found_below 0x50);
    additional = guti-below (length s) s (first_of 0x77 l) (found_below 0x77);
    status = leading-below (length s) 1 (first_of 0x2B l) (found_below 0x2B);
    attach = filled-below (length s) (first_of 0x70 l) (found_below 0x70);
  }

  judged-below : Below (length s) (judged_of s n l)
  unfolding judged_of Below
  judged-below = choice (Below (length s)) _ _ (is_request s n l) (λ e. request-below) (λ e. tt)

  around-below : (b : Bool) (a : Result Request Unread) → Below (length s) a → Below (length s) (around_of (end_of l) b a)
  unfolding around_of Below
  around-below b (Ok q) x = ended-below (length s) (end_of l) _ (ends-below (length s) l sound) (choice (Below (length s)) _ _ b (λ e. x) (λ e. tt))
  around-below b (Err (unread.Malformed m)) x = x
  around-below b (Err (unread.Deep at)) x = ended-below (length s) (end_of l) _ (ends-below (length s) l sound) x
  around-below b (Err unread.Unfit) x = ended-below (length s) (end_of l) _ (ends-below (length s) l sound) x

  asked-below : (f : Part → Result Request Unread) → ((c : Part) → container_of l ≡ Some c → Below (length s) (f c)) → Below (length s) (asked_by f s n l)
  unfolding asked_by
  asked-below f h = go (container_of l) refl
    where
      go : (o : Option Part) → container_of l ≡ o → Below (length s) (option_map_or (λ c. around_of (end_of l) (is_request s n l) (f c)) o (ended_by refused (end_of l) (judged_of s n l)))
      go None e = ended-below (length s) (end_of l) _ (ends-below (length s) l sound) judged-below
      go (Some c) e = around-below (is_request s n l) (f c) (h c e)

-- a level, where what is read in its 71 lies in it
message-below : (s : List ℕ) (f : Part → Result Request Unread) → (6 + identity_in s ≤ length s → (c : Part) → container_of (elements_in s) ≡ Some c → Below (length s) (f c)) → Below (length s) (message_by f s)
unfolding message_by EndsBelow Below ended_by
message-below s f h = go (head_of s) refl (head-below s)
  where
    go : (e : Result ⊤ Malformed) → head_of s ≡ e → EndsBelow (length s) e → Below (length s) (ended_by refused e (asked_by f s (identity_in s) (elements_in s)))
    go (Err m) x y = y
    go (Ok _) x y = let i : 6 + identity_in s ≤ length s = (headed s x).inside in asked-below s i f (h i)

pub reads-below : (d : ℕ) (s : List ℕ) → Below (length s) (read_to d s)
unfolding read_to Below
reads-below zero s = message-below s too_deep (λ i c e. omega (arith, container-below s i c e))
reads-below (suc d) s =
    message-below s (followed (read_to d) s)
    (λ i c e. let k = container-below s i c e in moved-below c.start (length (part_of s c)) (length s) (rw (cut-length s c k) k) (read_to d (part_of s c)) (reads-below d (part_of s c)))

-- a bound may be raised
raised-part : (n m : ℕ) → n ≤ m → (o : Option Part) → PartBelow n o → PartBelow m o
raised-part n m h None x = tt
raised-part n m h (Some p) x = omega arith

pub raised : (n m : ℕ) → n ≤ m → (a : Result Request Unread) → Below n a → Below m a
unfolding Below
raised n m h (Ok q) x = record {
  identity = raised-part n m h (Some q.identity) x.identity;
  capability = raised-part n m h q.capability x.capability;
  security = raised-part n m h q.security x.security;
  last = raised-part n m h q.last x.last;
  uplink = raised-part n m h q.uplink x.uplink;
  sessions = raised-part n m h q.sessions x.sessions;
  additional = raised-part n m h q.additional x.additional;
  status = raised-part n m h q.status x.status;
  attach = raised-part n m h q.attach x.attach;
}
raised n m h (Err (unread.Malformed e)) x = omega arith
raised n m h (Err (unread.Deep at)) x = omega arith
raised n m h (Err unread.Unfit) x = tt
