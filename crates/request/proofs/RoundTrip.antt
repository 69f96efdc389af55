-- A level of a request reads as it is laid out, for any fields that fit: the opening as it stands, each element by its identifier, in any order and with
-- others among them; and what lies in its 71 reads as a message of its own. Assumes nothing.
use Prim.Native.Nat.{ℕ, suc, ◌+◌, ◌-◌, ◌*◌, ◌/◌, ◌%◌, ◌≤◌}
use mathlib.Core.Path.{◌≡◌, refl, sym, ◌∙◌, ap}
use mathlib.Core.Bool.{Bool, true, false, cond}
use mathlib.Core.Logic.{◌⊎◌, inl, inr}
use mathlib.Core.List.{List, [], ◌∷◌, ◌++◌}
use native.Mathlib.Omega.{arith}
use native.Mathlib.Nat.{add-zero}
use lib.ListN.{length, get_or, drop, length-append}
use lib.Seq.{take_at, get_or-take, get_or-drop}
use lib.Dec.{eqb}
use borrow.Author.Tests.{lt-ltb, le-ltb, le-leb, ne_eqb}
use Rattle.std.specs.Prelude.{Option, Some, None, Ok, Err}
use Rattle.octets.specs.declared.Part.{Part}
use Rattle.octets.specs.Element.{Elements, format_of, elements_from, first_of, end_of}
use Rattle.messages.specs.Message.{opened_by, ended_by}
use Rattle.request.specs.Layout.{Fields, Fit, Item, length_in, laid, opening_head, opening, items_of}
use Rattle.request.specs.Layout.Form.{short_form, long_form, plain_form}
use Rattle.request.specs.Layout.Item.{item}
use Rattle.request.specs.Reading.{identity_in, head_of, is_fourth, is_identity, is_security, is_capability, is_request, filled_of, leading_of, guti_in, request_in, judged_of, part_of, cut_of, told_by}
use Rattle.request.specs.Reading.Said.{says}
use Rattle.request.specs.Levels.{shifted, asked_by, read_to}
use Rattle.request.specs.Reader.{inside_of, elements_reading}
use Rattle.request.specs.declared.Unread.TheVariants as unread
use Rattle.request.proofs.Back.{Reads, AllRead, short-reads, long-reads, plain-reads, or_else, says_in, Cut, Found, back, ends}
use Rattle.request.proofs.Below.{reads-below}
use Rattle.request.proofs.Shifts.{told-shifted, kept-around}
use Rattle.request.proofs.Ways.{by-head}

-- 7E 00 41, octet 4 and the identity are all there
head-whole : (o hi lo : ℕ) (t : List ℕ) → hi * 256 + lo ≤ length t → head_of (0x7E ∷ 0x00 ∷ 0x41 ∷ o ∷ hi ∷ lo ∷ t) ≡ (Ok tt)
unfolding head_of opened_by
head-whole o hi lo t h =
    rw (lt-ltb 0 (suc (suc (suc (suc (suc (suc (length t))))))) (omega arith), lt-ltb 1 (suc (suc (suc (suc (suc (suc (length t))))))) (omega arith), lt-ltb 2 (suc (suc (suc (suc (suc (suc (length t))))))) (omega arith), le-ltb (suc (suc (suc (suc (suc (suc (length t))))))) (6 + (hi * 256 + lo)) (omega arith))

fourth : (ksi regtype : ℕ) → 1 ≤ regtype → regtype ≤ 3 → ksi ≤ 7 → is_fourth (ksi * 16 + regtype) ≡ true
unfolding is_fourth
fourth ksi regtype l m h = rw (le-leb 1 ((ksi * 16 + regtype) % 16) (omega arith), le-leb ((ksi * 16 + regtype) % 16) 3 (omega arith), le-leb ((ksi * 16 + regtype) / 16) 7 (omega arith))

identified : (o n : ℕ) → ((o ≡ 0xF2) × (n ≡ 11)) ⊎ ((o ≡ 0x01) × ((9 ≤ n) × (n ≤ 64))) → is_identity o n ≡ true
unfolding is_identity
identified o n (inl (e, h)) = rw (e, h)
identified o n (inr (e, (h, k))) = rw (e, le-leb 9 n h, le-leb n 64 k)

sized : (o n : ℕ) → ((o ≡ 0xF2) × (n ≡ 11)) ⊎ ((o ≡ 0x01) × ((9 ≤ n) × (n ≤ 64))) → (9 ≤ n) × (n ≤ 64)
sized o n (inl (e, h)) = (omega arith, omega arith)
sized o n (inr (e, h)) = h

leads : (i e : List ℕ) → 9 ≤ length i → get_or (i ++ e) 0 0 ≡ get_or i 0 0
leads [] e h = absurd (omega arith)
leads (o ∷ i) e h = refl

-- the elements of a request are read as they are laid out
area-read : (c : List ℕ) → (c ≡ []) ⊎ (length c ≡ 6) → (c ≡ []) ⊎ Reads plain_form 0x52 c
unfolding format_of
area-read c (inl e) = inl e
area-read c (inr e) = inr (plain-reads 0x52 c refl e)

pub rear-read : (f : Fields) → AllRead (item long_form 0x77 f.additional ∷ item short_form 0x2B f.status ∷ item long_form 0x70 f.attach ∷ [])
unfolding AllRead format_of
rear-read f = (inr (long-reads 0x77 f.additional refl), (inr (short-reads 0x2B f.status refl), (inr (long-reads 0x70 f.attach refl), tt)))

pub all_read : (f : Fields) → Fit f → AllRead (items_of f)
unfolding AllRead items_of format_of
all_read f fit = (
  inr (short-reads 0x10 f.capability refl),
  (inr (short-reads 0x2E f.security refl), (area-read f.last fit.last, (inr (short-reads 0x40 f.uplink refl), (inr (short-reads 0x50 f.sessions refl), rear-read f)))),
)

pub alone : (c : List ℕ) → or_else c [] ≡ c
unfolding or_else
alone [] = refl
alone (o ∷ c) = refl

-- a part found passes its test, and stays
module _ (s : List ℕ) where
  nothing-left : (o : ℕ) (c : List ℕ) → o ∷ c ≡ [] → ⊥
  nothing-left o c e = let z : ◌≡◌ {A = ℕ} 0 1 = cc in absurd (omega arith)

  capable : (q : Option Part) (c : List ℕ) → Found s q c → length c ≤ 13 → is_capability q ≡ true
  unfolding is_capability Found
  capable None c h k = refl
  capable (Some p) c h k = rw (h.len, le-leb (length c) 13 k)

  secure : (q : Option Part) (c : List ℕ) → Found s q c → 2 ≤ length c → length c ≤ 8 → is_security q ≡ true
  unfolding is_security Found
  secure None c h k m = let z : length c ≡ 0 = ap length h in absurd (omega arith)
  secure (Some p) c h k m = rw (h.len, le-leb 2 (length c) k, le-leb (length c) 8 m)

  found-cut : (q : Option Part) (c : List ℕ) → Found s q c → cut_of s q ≡ c
  unfolding cut_of Found
  found-cut None c h = sym h
  found-cut (Some p) c h = h.cut

  stays : (q : Option Part) (c : List ℕ) → Found s q c → cut_of s (filled_of q) ≡ c
  unfolding filled_of cut_of Found
  stays None c h = sym h
  stays (Some p) [] h = rw h.len
  stays (Some p) (o ∷ c) h = rw (ne_eqb p.len 0 (λ e. omega (arith, h.len))) h.cut

  -- one of as many octets as its kind has, or none, is all of it
  led : (k : ℕ) (q : Option Part) (c : List ℕ) → Found s q c → (c ≡ []) ⊎ (length c ≡ suc k) → cut_of s (leading_of (suc k) q) ≡ c
  unfolding leading_of cut_of Found
  led k None c h x = sym h
  led k (Some p) c h (inl e) = let z : p.len ≡ 0 = h.len ∙ ap length e in rw (z, e, lt-ltb 0 (suc k) (omega arith))
  led k (Some p) c h (inr e) = let z : p.len ≡ suc k = h.len ∙ e in rw (z, le-ltb (suc k) (suc k) (omega arith)) (rw z at h.cut)

  -- a GUTI begins with its F2
  opening-octet : (p : Part) (o : ℕ) (c : List ℕ) → Cut s (o ∷ c) p → get_or s p.start 0 ≡ o
  opening-octet p o c h =
      ap (λ (k : ℕ). get_or s k 0) (sym (add-zero p.start))
      ∙ sym (get_or-take p.len (drop p.start s) 0 0 (omega (arith, h.len)) ∙ get_or-drop p.start s 0 0)
      ∙ ap (λ (l : List ℕ). get_or l 0 0) h.cut

  identified-back : (q : Option Part) (c : List ℕ) → Found s q c → (c ≡ []) ⊎ ((get_or c 0 0 ≡ 0xF2) × (length c ≡ 11)) → cut_of s (guti_in s q) ≡ c
  unfolding guti_in cut_of Found
  identified-back None c h x = sym h
  identified-back (Some p) [] h x = go (eqb (get_or s p.start 0) 0xF2)
    where
      go : (b : Bool) → cut_of s (cond b (leading_of 11 (Some p)) None) ≡ []
      go true = led 10 (Some p) [] h (inl refl)
      go false = refl
  identified-back (Some p) (o ∷ c) h (inl e) = absurd (nothing-left o c e)
  identified-back (Some p) (o ∷ c) h (inr (e, l)) = let z : get_or s p.start 0 ≡ 0xF2 = opening-octet p o c h ∙ e in rw z (led 10 (Some p) (o ∷ c) h (inr l))

  -- octets in a part are not none
  found-some : (q : Option Part) (o : ℕ) (c : List ℕ) → Found s q (o ∷ c) → (p : Part) × ((q ≡ Some p) × Cut s (o ∷ c) p)
  unfolding Found
  found-some None o c h = absurd (nothing-left o c h)
  found-some (Some p) o c h = (p, (refl, h))

  -- and one of none is left out
  found-none : (q : Option Part) → Found s q [] → filled_of q ≡ None
  unfolding filled_of Found
  found-none None h = refl
  found-none (Some p) h = rw h.len

-- elements that say what the fields say, in any order, others among them
pub record Tells (i : List Item) (f : Fields) : Type 0 where
  pub read : AllRead i
  pub capability : says_in 0x10 i ≡ f.capability
  pub security : says_in 0x2E i ≡ f.security
  pub last : says_in 0x52 i ≡ f.last
  pub uplink : says_in 0x40 i ≡ f.uplink
  pub sessions : says_in 0x50 i ≡ f.sessions
  pub additional : says_in 0x77 i ≡ f.additional
  pub status : says_in 0x2B i ≡ f.status
  pub attach : says_in 0x70 i ≡ f.attach

module _ (f : Fields) (fit : Fit f) (i : List Item) (tells : Tells i f) where
  abbrev s : List ℕ
  s = opening f ++ laid i

  abbrev n : ℕ
  n = length f.identity

  abbrev l : Elements
  l = elements_from true s (6 + n)

  size : (9 ≤ n) × (n ≤ 64)
  size = sized (get_or f.identity 0 0) n fit.identity

  opened : length (opening f) ≡ 6 + n
  unfolding opening opening_head length_in
  opened = omega arith

  finds : (x : ℕ) → Found s (first_of x l) (says_in x i)
  finds x = rw (← opened) (back (opening f) i tells.read x)

  found-capability : Found s (first_of 0x10 l) f.capability
  found-capability = rw tells.capability at (finds 0x10)

  found-security : Found s (first_of 0x2E l) f.security
  found-security = rw tells.security at (finds 0x2E)

  found-last : Found s (first_of 0x52 l) f.last
  found-last = rw tells.last at (finds 0x52)

  found-uplink : Found s (first_of 0x40 l) f.uplink
  found-uplink = rw tells.uplink at (finds 0x40)

  found-sessions : Found s (first_of 0x50 l) f.sessions
  found-sessions = rw tells.sessions at (finds 0x50)

  found-additional : Found s (first_of 0x77 l) f.additional
  found-additional = rw tells.additional at (finds 0x77)

  found-status : Found s (first_of 0x2B l) f.status
  found-status = rw tells.status at (finds 0x2B)

  found-attach : Found s (first_of 0x70 l) f.attach
  found-attach = rw tells.attach at (finds 0x70)

  long : identity_in s ≡ n
  unfolding opening opening_head length_in
  long = let h : n ≤ 64 = size.1 in omega arith

  begins : head_of s ≡ (Ok tt)
  unfolding opening opening_head length_in
  begins = let h : n ≤ 64 = size.1 in head-whole (f.ksi * 16 + f.regtype) (n / 256) (n % 256) (f.identity ++ laid i) (omega (arith, length-append f.identity (laid i)))

  whole : end_of l ≡ (Ok tt)
  whole = rw (← opened) (ends (opening f) i tells.read)

  opens : (is_fourth (get_or s 3 0) ≡ true) × (is_identity (get_or s 6 0) n ≡ true)
  unfolding opening opening_head length_in
  opens = (fourth f.ksi f.regtype fit.regtype.0 fit.regtype.1 fit.ksi, rw (leads f.identity (laid i) size.0) (identified (get_or f.identity 0 0) n fit.identity))

  keeps : is_request s n l ≡ true
  unfolding is_request
  keeps = rw (opens.0, opens.1, capable s (first_of 0x10 l) f.capability found-capability fit.capability, secure s (first_of 0x2E l) f.security found-security fit.security.0 fit.security.1)

  -- the level reads as its elements have it
  level : (d : ℕ) → read_to d s ≡ asked_by (inside_of d s) s n l
  unfolding ended_by elements_reading
  level d = rw (by-head d s, begins, long)

  same-identity : part_of s (record { start = 6; len = n }) ≡ f.identity
  unfolding opening opening_head length_in
  same-identity = take_at f.identity (laid i) n refl

  halves : (get_or s 3 0 % 16 ≡ f.regtype) × (get_or s 3 0 / 16 ≡ f.ksi)
  unfolding opening opening_head
  halves = let h : f.regtype ≤ 3 = fit.regtype.1 in (omega arith, omega arith)

  told : told_by s (Ok (request_in s n l)) ≡ says f
  unfolding told_by request_in
  told =
      rw (
        halves.0,
        halves.1,
        same-identity,
        stays s _ f.capability found-capability,
        found-cut s _ f.security found-security,
        found-cut s _ f.last found-last,
        led s 1 _ f.uplink found-uplink fit.uplink,
        led s 1 _ f.sessions found-sessions fit.sessions,
        identified-back s _ f.additional found-additional fit.additional,
        led s 0 _ f.status found-status fit.status,
        stays s _ f.attach found-attach,
      )

  -- "Reading a request back accepts, elements in any order": others among them change nothing of what is said
  pub any_order : (d : ℕ) → says_in 0x71 i ≡ [] → told_by s (read_to d s) ≡ says f
  unfolding asked_by judged_of ended_by
  any_order d none = ap (told_by s) (level d ∙ rw (found-none s (first_of 0x71 l) (rw none at (finds 0x71)), whole, keeps)) ∙ told

  -- with octets in a 71, what they say
  module _ (o : ℕ) (c : List ℕ) (has : says_in 0x71 i ≡ o ∷ c) where
    pub found : (p : Part) × ((first_of 0x71 l ≡ Some p) × Cut s (o ∷ c) p)
    found = found-some s (first_of 0x71 l) o c (rw has at (finds 0x71))

    abbrev p : Part
    p = found.0

    full : filled_of (first_of 0x71 l) ≡ Some p
    unfolding filled_of
    full = rw found.1.0 (rw (ne_eqb p.len 0 (λ e. omega (arith, found.1.1.len))))

    around : (d : ℕ) → read_to d s ≡ inside_of d s p
    unfolding asked_by
    around d = level d ∙ rw (full, whole, keeps) (kept-around (inside_of d s p))

    pub inner : (d : ℕ) → read_to (suc d) s ≡ shifted p.start (read_to d (o ∷ c))
    unfolding inside_of
    inner d = around (suc d) ∙ ap (λ (t : List ℕ). shifted p.start (read_to d t)) found.1.1.cut

    -- "and reads the inner one as the message"
    pub inner-told : (d : ℕ) → told_by s (read_to (suc d) s) ≡ told_by (o ∷ c) (read_to d (o ∷ c))
    inner-told d =
        ap (told_by s) (inner d)
        ∙ told-shifted s p (read_to d (o ∷ c)) (rw found.1.1.len (reads-below d (o ∷ c)))
        ∙ ap (λ (t : List ℕ). told_by t (read_to d (o ∷ c))) found.1.1.cut

    pub too-deep : read_to 0 s ≡ Err (unread.Deep (p.start - 3))
    unfolding inside_of
    too-deep = around 0
