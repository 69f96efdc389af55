-- What a request says does not hang on the order of its elements, nor on unknown ones among them: it is made of its opening and of what the elements say of
-- 10, 2E, 52, 40, 50, 77, 2B, 70 and 71, by their contents alone. Assumes nothing.
use Prim.Native.Nat.{ℕ, zero, suc, ◌+◌, ◌/◌, ◌%◌, ◌<◌, ◌≤◌}
use mathlib.Core.Path.{◌≡◌, refl, sym, ◌∙◌, ap, subst}
use mathlib.Core.Bool.{Bool, true, false, cond}
use mathlib.Core.Logic.{◌≢◌}
use mathlib.Core.List.{List, [], ◌∷◌, ◌++◌}
use native.Mathlib.Omega.{arith}
use lib.ListN.{length, get_or, take, drop, length-append, length-drop, get_or-append}
use native.Mathlib.Nat.{add-zero}
use lib.Seq.{take_at, take-take, drop-append-le, get_or-take, get_or-drop}
use lib.Dec.{ltb, leb, eqb}
use borrow.Author.Tests.{lt-ltb, le-ltb, ltb-false, eqb-true, eqb-false}
use Rattle.request.specs.declared.Request.{Request}
use Rattle.std.specs.Prelude.{Option, Some, None, Result, Ok, Err, ⊤}
use Rattle.std.specs.Option.{option_map_or}
use Rattle.octets.specs.declared.Part.{Part}
use Rattle.octets.specs.declared.Malformed.{Malformed}
use Rattle.octets.specs.Element.{Elements, elements_from, first_of, end_of}
use Rattle.octets.proofs.Inside.{Sound, from_place, found_inside}
use Rattle.octets.proofs.Order.{Says, said_in, is_whole, said, formed, Same, Alone, Piece, piece_octets, pieces_octets, AllAlone, order-free, unknown-skipped}
use Rattle.octets.proofs.Order.Says.{contents, nothing as missing}
use Rattle.messages.specs.Message.{opened_by, ended_by}
use Rattle.record.specs.Tests.{both, within}
use Rattle.request.specs.Reading.{identity_in, head_of, is_fourth, is_identity, is_security, is_capability, is_request, filled_of, leading_of, guti_in, request_in, judged_of, Said, part_of, cut_of, told_by, refused}
use Rattle.request.specs.Reading.Said.{says, nothing}
use Rattle.request.specs.Levels.{around_of, asked_by, read_to, asking_of}
use Rattle.request.specs.Reader.{inside_of, elements_reading, PartBelow, Below}
use Rattle.request.specs.declared.Unread.{Unread}
use Rattle.request.specs.declared.Unread.TheVariants as unread
use Rattle.request.proofs.Below.{cut-length, reads-below}
use Rattle.request.proofs.Shifts.{told-shifted}
use Rattle.request.proofs.Ways.{by-head}

-- the octets found, and the tests of a 10 and of a 2E on them

unfoldable octets_in : Says → List ℕ
octets_in missing = []
octets_in (contents c) = c

unfoldable capable_in : Says → Bool
capable_in missing = true
capable_in (contents c) = leb (length c) 13

unfoldable secure_in : Says → Bool
secure_in missing = false
secure_in (contents c) = within 2 8 (length c)

-- the first octets of one, as many as its kind has, and a GUTI
unfoldable leading_in : ℕ → Says → List ℕ
leading_in k missing = []
leading_in k (contents c) = cond (ltb (length c) k) [] (take k c)

unfoldable guti_said : Says → List ℕ
guti_said missing = []
guti_said (contents c) = cond (eqb (get_or c 0 0) 0xF2) (cond (ltb (length c) 11) [] (take 11 c)) []

module _ (s : List ℕ) where
  cut-said : (o : Option Part) → cut_of s o ≡ octets_in (said_in s o)
  unfolding cut_of octets_in said_in
  cut-said None = refl
  cut-said (Some p) = refl

  -- a 10 of no octets says none
  able-said : (o : Option Part) → cut_of s (filled_of o) ≡ octets_in (said_in s o)
  unfolding filled_of cut_of octets_in said_in
  able-said None = refl
  able-said (Some p) = go (eqb p.len 0) refl
    where
      go : (b : Bool) → eqb p.len 0 ≡ b → cut_of s (cond b None (Some p)) ≡ part_of s p
      go true e = rw (eqb-true p.len 0 e)
      go false e = refl

  capable-said : (o : Option Part) → PartBelow (length s) o → is_capability o ≡ capable_in (said_in s o)
  unfolding is_capability capable_in said_in
  capable-said None inside = refl
  capable-said (Some p) inside = rw (cut-length s p inside)

  leading-said : (k : ℕ) (o : Option Part) → PartBelow (length s) o → cut_of s (leading_of k o) ≡ leading_in k (said_in s o)
  unfolding leading_of cut_of leading_in said_in
  leading-said k None inside = refl
  leading-said k (Some p) inside = go (ltb p.len k) refl
    where
      go : (b : Bool) → ltb p.len k ≡ b → cut_of s (cond b None (Some (record { start = p.start; len = k }))) ≡ cond (ltb (length (part_of s p)) k) [] (take k (part_of s p))
      go true e = rw (cut-length s p inside, e)
      go false e = rw (cut-length s p inside, e) (sym (take-take k p.len (drop p.start s) (ltb-false p.len k e)))

  guti-said : (o : Option Part) → PartBelow (length s) o → cut_of s (guti_in s o) ≡ guti_said (said_in s o)
  unfolding guti_in leading_of cut_of guti_said said_in
  guti-said None inside = refl
  guti-said (Some p) inside = go (eqb (get_or s p.start 0) 0xF2) (ltb p.len 11) refl refl
    where
      none : (x : Bool) → cond {A = List ℕ} x [] [] ≡ []
      none true = refl
      none false = refl

      first : ltb p.len 11 ≡ false → get_or (part_of s p) 0 0 ≡ get_or s p.start 0
      first e =
          let h : 11 ≤ p.len = ltb-false p.len 11 e in
          get_or-take p.len (drop p.start s) 0 0 (omega arith) ∙ get_or-drop p.start s 0 0 ∙ ap (λ (k : ℕ). get_or s k 0) (add-zero p.start)

      go : (x b : Bool) → eqb (get_or s p.start 0) 0xF2 ≡ x → ltb p.len 11 ≡ b
          → cut_of s (cond x (cond b None (Some (record { start = p.start; len = 11 }))) None) ≡ cond (eqb (get_or (part_of s p) 0 0) 0xF2) (cond (ltb (length (part_of s p)) 11) [] (take 11 (part_of s p))) []
      go true true d e = rw (cut-length s p inside, e) (sym (none (eqb (get_or (part_of s p) 0 0) 0xF2)))
      go false true d e = rw (cut-length s p inside, e) (sym (none (eqb (get_or (part_of s p) 0 0) 0xF2)))
      go true false d e = rw (first e, d, cut-length s p inside, e) (sym (take-take 11 p.len (drop p.start s) (ltb-false p.len 11 e)))
      go false false d e = rw (first e, d)

  secure-said : (o : Option Part) → PartBelow (length s) o → is_security o ≡ secure_in (said_in s o)
  unfolding is_security secure_in said_in
  secure-said None inside = refl
  secure-said (Some p) inside = rw (cut-length s p inside)

-- whether a request keeps the layout, by octet 4, its identity and what is found
unfoldable keeping : ℕ → Bool → Says → Says → Bool
keeping o known x y = both (is_fourth o) (both known (both (capable_in x) (secure_in y)))

-- and what it says
unfoldable saying : ℕ → Bool → List ℕ → (ℕ → Says) → Said
saying o known identity f =
    cond (keeping o known (f 0x10) (f 0x2E))
    (says (record {
      regtype = o % 16;
      ksi = o / 16;
      identity = identity;
      capability = octets_in (f 0x10);
      security = octets_in (f 0x2E);
      last = octets_in (f 0x52);
      uplink = leading_in 2 (f 0x40);
      sessions = leading_in 2 (f 0x50);
      additional = guti_said (f 0x77);
      status = leading_in 1 (f 0x2B);
      attach = octets_in (f 0x70);
    }))
    nothing

-- each choice of the reading, told

module _ (s : List ℕ) (n : ℕ) (l : Elements) (sound : Sound true (length s) l) where
  found : (x : ℕ) → PartBelow (length s) (first_of x l)
  found x = go (first_of x l) refl
    where
      go : (o : Option Part) → first_of x l ≡ o → PartBelow (length s) o
      go None e = tt
      go (Some p) e = (found_inside true (length s) x l p sound e).0

  kept-told : is_request s n l ≡ keeping (get_or s 3 0) (is_identity (get_or s 6 0) n) (said_in s (first_of 0x10 l)) (said_in s (first_of 0x2E l))
  unfolding is_request keeping
  kept-told = rw (← capable-said s (first_of 0x10 l) (found 0x10), ← secure-said s (first_of 0x2E l) (found 0x2E))

  judged-told : told_by s (judged_of s n l)
      ≡ saying (get_or s 3 0) (is_identity (get_or s 6 0) n) (part_of s (record { start = 6; len = n })) (λ x. said_in s (first_of x l))
  unfolding judged_of request_in told_by saying
  judged-told =
      rw (
        ← kept-told,
        ← able-said s (first_of 0x10 l),
        ← cut-said s (first_of 0x2E l),
        ← cut-said s (first_of 0x52 l),
        ← leading-said s 2 (first_of 0x40 l) (found 0x40),
        ← leading-said s 2 (first_of 0x50 l) (found 0x50),
        ← guti-said s (first_of 0x77 l) (found 0x77),
        ← leading-said s 1 (first_of 0x2B l) (found 0x2B),
        ← able-said s (first_of 0x70 l),
      )
      (go (is_request s n l))
    where
      go : (b : Bool) → told_by s (cond b (Ok (request_in s n l)) (Err unread.Unfit)) ≡ cond b (told_by s (Ok (request_in s n l))) nothing
      go true = refl
      go false = refl

ended-told : (s : List ℕ) (e : Result ⊤ Malformed) (a : Result Request Unread) → told_by s (ended_by refused e a) ≡ cond (is_whole e) (told_by s a) nothing
unfolding told_by ended_by is_whole
ended-told s (Err m) a = refl
ended-told s (Ok _) a = refl

around-told : (s : List ℕ) (e : Result ⊤ Malformed) (b : Bool) (a : Result Request Unread) → told_by s (around_of e b a) ≡ cond (is_whole e) (cond b (told_by s a) nothing) nothing
unfolding told_by around_of ended_by is_whole
around-told s (Ok _) true (Ok q) = refl
around-told s (Ok _) true (Err (unread.Malformed m)) = refl
around-told s (Ok _) true (Err (unread.Deep at)) = refl
around-told s (Ok _) true (Err unread.Unfit) = refl
around-told s (Ok _) false (Ok q) = refl
around-told s (Ok _) false (Err (unread.Malformed m)) = refl
around-told s (Ok _) false (Err (unread.Deep at)) = refl
around-told s (Ok _) false (Err unread.Unfit) = refl
around-told s (Err m) b (Ok q) = refl
around-told s (Err m) b (Err (unread.Malformed w)) = refl
around-told s (Err m) b (Err (unread.Deep at)) = refl
around-told s (Err m) b (Err unread.Unfit) = refl

-- what a level says, by what its 71 holds, whether it keeps the layout and what it says by itself
unfoldable level_says : ℕ → Says → Bool → Said → Said
level_says d missing b own = own
level_says d (contents []) b own = own
level_says zero (contents (o ∷ c)) b own = nothing
level_says (suc d) (contents (o ∷ c)) b own = cond b (told_by (o ∷ c) (read_to d (o ∷ c))) nothing

module _ (d : ℕ) (s : List ℕ) (n : ℕ) (l : Elements) (sound : Sound true (length s) l) where
  abbrev own : Said
  own = told_by s (judged_of s n l)

  none : (b : Bool) → cond b nothing nothing ≡ nothing
  none true = refl
  none false = refl

  -- octets in a 71
  module _ (p : Part) (inside : p.start + p.len ≤ length s) (b : Bool) where
    inside-told : (d o : ℕ) (c : List ℕ) → part_of s p ≡ o ∷ c → cond b (told_by s (inside_of d s p)) nothing ≡ level_says d (contents (o ∷ c)) b own
    unfolding inside_of level_says told_by
    inside-told zero o c e = none b
    inside-told (suc d) o c e =
        let below = subst (λ (k : ℕ). Below k (read_to d (part_of s p))) (cut-length s p inside) (reads-below d (part_of s p)) in
        rw (told-shifted s p (read_to d (part_of s p)) below, e)

    nested-told : (t : List ℕ) → part_of s p ≡ t → (p.len ≡ 0 → ⊥) → told_by s (around_of (end_of l) b (inside_of d s p)) ≡ cond (is_whole (end_of l)) (level_says d (contents t) b own) nothing
    nested-told [] e z = absurd (z (sym (cut-length s p inside) ∙ ap length e))
    nested-told (o ∷ c) e z = around-told s (end_of l) b (inside_of d s p) ∙ ap (λ (x : Said). cond (is_whole (end_of l)) x nothing) (inside-told d o c e)

  -- by whether there is a 71 and whether it is empty
  by-71 : (o : Option Part) → PartBelow (length s) o
      → told_by s (option_map_or (λ c. around_of (end_of l) (is_request s n l) (inside_of d s c)) (filled_of o) (ended_by refused (end_of l) (judged_of s n l)))
      ≡ cond (is_whole (end_of l)) (level_says d (said_in s o) (is_request s n l) own) nothing
  unfolding level_says filled_of said_in
  by-71 None w = ended-told s (end_of l) (judged_of s n l)
  by-71 (Some p) w = go (eqb p.len 0) refl
    where
      go : (b : Bool) → eqb p.len 0 ≡ b
          → told_by s (option_map_or (λ c. around_of (end_of l) (is_request s n l) (inside_of d s c)) (cond b None (Some p)) (ended_by refused (end_of l) (judged_of s n l)))
          ≡ cond (is_whole (end_of l)) (level_says d (contents (part_of s p)) (is_request s n l) own) nothing
      go true e = rw (eqb-true p.len 0 e) (ended-told s (end_of l) (judged_of s n l))
      go false e = nested-told p w (is_request s n l) (part_of s p) refl (eqb-false p.len 0 e)

  asked-told : told_by s (asked_by (inside_of d s) s n l) ≡ cond (is_whole (end_of l)) (level_says d (said_in s (first_of 0x71 l)) (is_request s n l) own) nothing
  unfolding asked_by
  asked-told = by-71 (first_of 0x71 l) (found s n l sound 0x71)

-- no identity has no octets
none-known : (o : ℕ) → is_identity o 0 ≡ false
unfolding is_identity
none-known o = go (eqb o 0xF2) (eqb o 0x01)
  where
    go : (b c : Bool) → cond (both b false) true (both c false) ≡ false
    go true true = refl
    go true false = refl
    go false true = refl
    go false false = refl

-- An opening: six octets, and an identity as long as they say
module _ (p : List ℕ) (long : length p ≡ 6 + identity_in p) (s : List ℕ) where
  abbrev all : List ℕ
  all = p ++ s

  abbrev n : ℕ
  n = identity_in p

  ahead : (k : ℕ) → k < 6 → get_or all k 0 ≡ get_or p k 0
  ahead k h = get_or-append p s 0 k (omega arith)

  room : 6 + n ≤ length all
  room = omega (arith, length-append p s)

  known_same : is_identity (get_or all 6 0) n ≡ is_identity (get_or p 6 0) n
  known_same = go n refl
    where
      go : (m : ℕ) → n ≡ m → is_identity (get_or all 6 0) m ≡ is_identity (get_or p 6 0) m
      go zero e = none-known (get_or all 6 0) ∙ sym (none-known (get_or p 6 0))
      go (suc m) e = rw (get_or-append p s 0 6 (omega arith))

  identity-same : part_of all (record { start = 6; len = n }) ≡ drop 6 p
  identity-same = rw (drop-append-le 6 p s (omega arith)) (take_at (drop 6 p) s n (omega (arith, length-drop 6 p)))

  head-same : head_of all ≡ head_of p
  unfolding head_of opened_by
  head-same =
      rw (
        lt-ltb 0 (length all) (omega (arith, room)),
        lt-ltb 1 (length all) (omega (arith, room)),
        lt-ltb 2 (length all) (omega (arith, room)),
        lt-ltb 0 (length p) (omega arith),
        lt-ltb 1 (length p) (omega arith),
        lt-ltb 2 (length p) (omega arith),
        ahead 0 (omega arith),
        ahead 1 (omega arith),
        ahead 2 (omega arith),
        ahead 4 (omega arith),
        ahead 5 (omega arith),
        le-ltb (length all) (6 + n) room,
        le-ltb (length p) (6 + n) (omega arith),
      )

  abbrev l : Elements
  l = elements_from true all (length p)

  sound : Sound true (length all) l
  sound = from_place true all (length p) (omega (arith, length-append p s))

  told_of : (d : ℕ) → told_by all (read_to d all)
      ≡ cond (is_whole (head_of p)) (cond (formed true p s)
      (level_says d (said true p 0x71 s) (keeping (get_or p 3 0) (is_identity (get_or p 6 0) n) (said true p 0x10 s) (said true p 0x2E s))
      (saying (get_or p 3 0) (is_identity (get_or p 6 0) n) (drop 6 p) (λ x. said true p x s))) nothing) nothing
  unfolding elements_reading
  told_of d =
      rw (by-head d all, ended-told all (head_of all) (elements_reading d all), head-same, ahead 4 (omega arith), ahead 5 (omega arith), ← long)
      (rw (asked-told d all n l sound, kept-told all n l sound, judged-told all n l sound, ahead 3 (omega arith), known_same, identity-same))

-- Elements that say the same of 10, 2E, 52, 40, 50, 77, 2B, 70 and 71 make the same request
module _ (p : List ℕ) (long : length p ≡ 6 + identity_in p) where
  same-request : (s t : List ℕ) → Same true p 0x10 s t → Same true p 0x2E s t → Same true p 0x52 s t → Same true p 0x40 s t → Same true p 0x50 s t → Same true p 0x77 s t → Same true p 0x2B s t → Same true p 0x70 s t → Same true p 0x71 s t
      → told_by (p ++ s) (asking_of (p ++ s)) ≡ told_by (p ++ t) (asking_of (p ++ t))
  unfolding asking_of saying
  same-request s t x y z u v g k m w = rw (told_of p long s 1, told_of p long t 1, x.1, x.0, y.0, z.0, u.0, v.0, g.0, k.0, m.0, w.0)

  module _ (ps : List Piece) (all : AllAlone true ps) (a : Piece) (h : Alone true a.id a.rest) (s : List ℕ) where
    -- "Reading a request back accepts, elements in any order"
    pub request-order-free : (b : Piece) → Alone true b.id b.rest → a.id ≢ b.id
        → told_by (p ++ (pieces_octets ps ++ (piece_octets a ++ (piece_octets b ++ s)))) (asking_of (p ++ (pieces_octets ps ++ (piece_octets a ++ (piece_octets b ++ s)))))
        ≡ told_by (p ++ (pieces_octets ps ++ (piece_octets b ++ (piece_octets a ++ s)))) (asking_of (p ++ (pieces_octets ps ++ (piece_octets b ++ (piece_octets a ++ s)))))
    request-order-free b k n =
        same-request _ _ (free 0x10) (free 0x2E) (free 0x52) (free 0x40) (free 0x50) (free 0x77) (free 0x2B) (free 0x70) (free 0x71)
      where
        free : (x : ℕ) → Same true p x (pieces_octets ps ++ (piece_octets a ++ (piece_octets b ++ s))) (pieces_octets ps ++ (piece_octets b ++ (piece_octets a ++ s)))
        free x = order-free true x p ps all a h s b k n

    -- "Unknown ones are skipped"
    pub request-unknown-skipped : a.id ≢ 0x10 → a.id ≢ 0x2E → a.id ≢ 0x52 → a.id ≢ 0x40 → a.id ≢ 0x50 → a.id ≢ 0x77 → a.id ≢ 0x2B → a.id ≢ 0x70 → a.id ≢ 0x71
        → told_by (p ++ (pieces_octets ps ++ (piece_octets a ++ s))) (asking_of (p ++ (pieces_octets ps ++ (piece_octets a ++ s)))) ≡ told_by (p ++ (pieces_octets ps ++ s)) (asking_of (p ++ (pieces_octets ps ++ s)))
    request-unknown-skipped x y z u v g k m w =
        same-request _ _ (skipped 0x10 x) (skipped 0x2E y) (skipped 0x52 z) (skipped 0x40 u) (skipped 0x50 v) (skipped 0x77 g) (skipped 0x2B k) (skipped 0x70 m) (skipped 0x71 w)
      where
        skipped : (id : ℕ) → a.id ≢ id → Same true p id (pieces_octets ps ++ (piece_octets a ++ s)) (pieces_octets ps ++ s)
        skipped id = unknown-skipped true id p ps all a h s
