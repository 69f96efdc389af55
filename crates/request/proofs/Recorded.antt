-- The round trip of a record: reading what the writer writes gives what the record says. Assumes nothing.
use Prim.Native.Nat.{ℕ, zero, suc, ◌*◌, ◌<◌, ◌≤◌}
use mathlib.Core.Path.{◌≡◌, refl, ◌∙◌, ap}
use mathlib.Core.Bool.{Bool, true, false, cond, false≢true}
use mathlib.Core.Logic.{◌⊎◌, inl, inr}
use mathlib.Core.List.{List, [], ◌∷◌, ◌++◌}
use native.Mathlib.Omega.{arith}
use lib.ListN.{length, get_or, take, drop}
use lib.Seq.{length-take-le, take_at, drop_at, take_all}
use lib.Dec.{leb, eqb}
use borrow.Author.Tests.{eqb-true, ne_eqb}
use Rattle.std.specs.Prelude.{Option, Some, None, Ok, Err, IfSome}
use Rattle.laws.specs.Upto.{over}
use Rattle.record.specs.declared.Access.{Access}
use Rattle.record.specs.declared.Record.{Record}
use Rattle.record.specs.declared.Answer.TheVariants.{Taken, Range, State, Short}
use Rattle.record.specs.Answers.{is_taken}
use Rattle.record.specs.Tests.{either as or_else}
use Rattle.ranges.specs.Valid.{valid_of}
use Rattle.identity.specs.declared.S1.{S1}
use Rattle.identity.specs.Mapping.{mapped_guti}
use Rattle.identity.specs.Identity.{Identities, order_of, is_held, source_of, octets_from, identity_of, is_mapped}
use Rattle.identity.specs.Identity.Source.{suci as suci_source}
use Rattle.identity.specs.Choice.{slot_of, part_of, chosen_of, is_mapped_by}
use Rattle.identity.proofs.Mapped.{mapped-long}
use Rattle.identity.proofs.Editions.{First, always, slot-small, identity-by, best-chosen}
use Rattle.request.specs.Layout.{Fit, shown}
use Rattle.request.specs.Reading.{told_by}
use Rattle.request.specs.Levels.{asking_of}
use Rattle.request.specs.Reading.Said.{says}
use Rattle.record.specs.Sides.{access_of}
use Rattle.request.specs.Writing.{gutis_of, last_of, uplink_of, sessions_of, saying_of, identities_of, additional_of, status_of, says_by, says_of, fields_of, request_of, may_request, writing_answer, written_of, buffer_of}
use Rattle.request.proofs.Ranges.{Ready, ready, may-facts}
use Rattle.request.proofs.Depth.{round-layout}

-- A record that the code holds has its arrays' lengths.
pub record Whole (r : Record) : Type 0 where
  pub guti0 : length r.guti0 ≡ 10
  pub guti1 : length r.guti1 ≡ 10
  pub suci : length r.suci ≡ 64
  pub capability : length r.capability ≡ 13
  pub security : length r.security ≡ 8

-- an identity as a request may have it
abbrev pub Known : List ℕ → Type 0
Known i = ((get_or i 0 0 ≡ 0xF2) × (length i ≡ 11)) ⊎ ((get_or i 0 0 ≡ 0x01) × ((9 ≤ length i) × (length i ≤ 64)))

-- the two GUTIs, each by its slot
slot-known : (k : ℕ) (a b : List ℕ) → length a ≡ 10 → length b ≡ 10 → k < 2 → (get_or (take 11 (drop (k * 11) (gutis_of a b))) 0 0 ≡ 0xF2) × (length (take 11 (drop (k * 11) (gutis_of a b))) ≡ 11)
unfolding gutis_of
slot-known zero a b ha hb h =
    let e : take 11 ((0xF2 ∷ a) ++ (0xF2 ∷ b)) ≡ 0xF2 ∷ a = take_at (0xF2 ∷ a) (0xF2 ∷ b) 11 (omega arith) in
    let n : length (0xF2 ∷ a) ≡ 11 = omega arith in
    (ap (λ (l : List ℕ). get_or l 0 0) e, ap length e ∙ n)
slot-known (suc zero) a b ha hb h =
    let d : drop 11 ((0xF2 ∷ a) ++ (0xF2 ∷ b)) ≡ 0xF2 ∷ b = drop_at (0xF2 ∷ a) (0xF2 ∷ b) 11 (omega arith) in
    let e : take 11 (drop 11 ((0xF2 ∷ a) ++ (0xF2 ∷ b))) ≡ 0xF2 ∷ b = ap (take 11) d ∙ take_all 11 (0xF2 ∷ b) (omega arith) in
    let n : length (0xF2 ∷ b) ≡ 11 = omega arith in
    (ap (λ (l : List ℕ). get_or l 0 0) e, ap length e ∙ n)
slot-known (suc (suc k)) a b ha hb h = absurd (omega arith)

either : (x : Bool) (g s : List ℕ) → (x ≡ true → Known g) → Known s → Known (cond x g s)
either true g s h k = h refl
either false g s h k = k

-- the SUCI's used octets
leads : (n : ℕ) (l : List ℕ) → 9 ≤ n → get_or (take n l) 0 0 ≡ get_or l 0 0
leads zero l h = absurd (omega arith)
leads (suc n) [] h = refl
leads (suc n) (o ∷ l) h = refl

known : (a b s : List ℕ) (access held0 held1 net : ℕ) (nets : List ℕ) (count : ℕ) → length a ≡ 10 → length b ≡ 10 → Known s
    → Known (chosen_of (gutis_of a b) s access held0 held1 net nets count)
unfolding chosen_of part_of
known a b s access held0 held1 net nets count ha hb h = go (slot_of (gutis_of a b) access held0 held1 net nets count) (slot-small (gutis_of a b) access held0 held1 net nets count)
  where
    go : (o : Option ℕ) → IfSome o (λ k. k ≤ 1) → Known (part_of (gutis_of a b) s o)
    go None t = h
    go (Some k) t = inl (slot-known k a b ha hb (omega arith))

-- a mapped GUTI is one too
mapped-known : (b : Bool) (g i : List ℕ) → Known i → Known (cond b (mapped_guti g) i)
unfolding mapped_guti
mapped-known b g i h = either b (mapped_guti g) i (λ t. inl (refl, mapped-long g)) h

-- the best 5G-GUTI is a GUTI or none, and so is what 77 has
GutiOrNone : List ℕ → Type 0
GutiOrNone g = (g ≡ []) ⊎ ((get_or g 0 0 ≡ 0xF2) × (length g ≡ 11))

best-known : (a b : List ℕ) (access held0 held1 net : ℕ) (nets : List ℕ) (count : ℕ) → length a ≡ 10 → length b ≡ 10 → GutiOrNone (chosen_of (gutis_of a b) [] access held0 held1 net nets count)
unfolding chosen_of part_of GutiOrNone
best-known a b access held0 held1 net nets count ha hb = go (slot_of (gutis_of a b) access held0 held1 net nets count) (slot-small (gutis_of a b) access held0 held1 net nets count)
  where
    go : (o : Option ℕ) → IfSome o (λ k. k ≤ 1) → GutiOrNone (part_of (gutis_of a b) [] o)
    go None t = inl refl
    go (Some k) t = inr (slot-known k a b ha hb (omega arith))

kept-or-none : (x : Bool) (g : List ℕ) → GutiOrNone g → GutiOrNone (cond x g [])
unfolding GutiOrNone
kept-or-none true g h = h
kept-or-none false g h = inl refl

one : (x : Bool) (o : ℕ) → (cond x (o ∷ []) [] ≡ []) ⊎ (length (cond x (o ∷ []) []) ≡ 1)
one true o = inr refl
one false o = inl refl

six : (x : Bool) (a b c d e f : ℕ) → (cond x [] (a ∷ b ∷ c ∷ d ∷ e ∷ f ∷ []) ≡ []) ⊎ (length (cond x [] (a ∷ b ∷ c ∷ d ∷ e ∷ f ∷ [])) ≡ 6)
six true a b c d e f = inl refl
six false a b c d e f = inr refl

area : (a : Access) → (last_of a ≡ []) ⊎ (length (last_of a) ≡ 6)
unfolding last_of
area a = six (eqb a.visited 0) _ _ _ _ _ _

two : (x : Bool) (a b : ℕ) → (cond x [] (a ∷ b ∷ []) ≡ []) ⊎ (length (cond x [] (a ∷ b ∷ [])) ≡ 2)
two true a b = inl refl
two false a b = inr refl

uplinks : (a : Access) → (uplink_of a ≡ []) ⊎ (length (uplink_of a) ≡ 2)
unfolding uplink_of
uplinks a = two (or_else (leb a.regtype 1) (eqb a.uplink 0)) _ _

sessions : (a : Access) → (sessions_of a ≡ []) ⊎ (length (sessions_of a) ≡ 2)
unfolding sessions_of
sessions a = two (leb a.regtype 1) _ _

module _ (r : Record) (access : ℕ) (whole : Whole r) (valid : valid_of r ≡ true) (state : (access_of r.hot access).state ≡ 4) where
  abbrev all : Ready r (access_of r.hot access)
  all = ready r access valid state

  long : length (take r.hot.dev.suci r.suci) ≡ r.hot.dev.suci
  long = length-take-le r.hot.dev.suci r.suci (omega (arith, all.suci.1, whole.suci))

  suci : Known (take r.hot.dev.suci r.suci)
  suci = inr (leads r.hot.dev.suci r.suci all.suci.0 ∙ all.opens, (rw long all.suci.0, rw long all.suci.1))

  module _ (s1 : S1) (attach : List ℕ) where
    abbrev h : Identities
    h = identities_of r.hot access (access_of r.hot access) r.guti0 r.guti1 r.suci (cond (eqb access 0) r.equivalents0 r.equivalents1) s1

    identified : Known (identity_of r.hot.dev.edition h)
    unfolding identities_of
    identified =
        rw (identity-by h r.hot.dev.edition)
        (mapped-known (is_mapped_by r.hot.dev.edition h.regtype s1) s1.guti (chosen_of h.gutis h.suci access h.held0 h.held1 h.net h.equivalents h.count)
        (known r.guti0 r.guti1 h.suci access h.held0 h.held1 h.net h.equivalents h.count whole.guti0 whole.guti1 suci))

    added : GutiOrNone (additional_of r.hot.dev.edition h)
    unfolding additional_of identities_of
    added = rw (best-chosen h) (kept-or-none (is_mapped (source_of r.hot.dev.edition h)) _ (best-known r.guti0 r.guti1 access h.held0 h.held1 h.net h.equivalents h.count whole.guti0 whole.guti1))

    pub fits : Fit (fields_of r access s1 attach)
    unfolding fields_of says_of says_by saying_of status_of GutiOrNone
    fits = record {
      regtype = all.regtype;
      ksi = all.ksi;
      identity = identified;
      capability = rw (length-take-le r.hot.dev.capability r.capability (omega (arith, all.capability.1, whole.capability))) all.capability.1;
      security =
          let n : length (take r.hot.dev.security r.security) ≡ r.hot.dev.security = length-take-le r.hot.dev.security r.security (omega (arith, all.security.1, whole.security)) in
          (rw n all.security.0, rw n all.security.1);
      last = area (access_of r.hot access);
      uplink = uplinks (access_of r.hot access);
      sessions = sessions (access_of r.hot access);
      additional = added;
      status = one (is_mapped (source_of r.hot.dev.edition h)) 0x00;
    }

    -- reading back the octets of a request gives what the record says
    pub recorded : told_by (request_of r access s1 attach) (asking_of (request_of r access s1 attach)) ≡ says (shown (fields_of r access s1 attach))
    unfolding request_of
    recorded = round-layout (fields_of r access s1 attach) fits

    -- "an identity is always sent, from the first source held in the edition's order"
    pub sent-first : First (is_held h) (order_of r.hot.dev.edition) (source_of r.hot.dev.edition h)
        × (((fields_of r access s1 attach).identity ≡ octets_from h (source_of r.hot.dev.edition h)) × Known (fields_of r access s1 attach).identity)
    unfolding fields_of says_of says_by saying_of identity_of is_held identities_of
    sent-first = (always h sure r.hot.dev.edition, (refl, identified))
      where
        sure : is_held h suci_source ≡ true
        sure = rw (ne_eqb (length (take r.hot.dev.suci r.suci)) 0 (λ z. omega (arith, long, all.suci.0)))

-- only a valid record in state 4 is taken
passed : (x y z : Bool) → is_taken (cond x (cond y (cond z Taken Short) State) Range) ≡ true → (x ≡ true) × (y ≡ true)
unfolding is_taken
passed true true z e = (refl, refl)
passed true false z e = absurd (false≢true e)
passed false y z e = absurd (false≢true e)

-- what is written of a request is all of it
module _ (r : Record) (access : ℕ) (s1 : S1) (attach b : List ℕ) (n : ℕ) (w : written_of r access s1 attach (length b) ≡ Ok n) where
  taken : (is_taken (writing_answer r access s1 attach (length b)) ≡ true) × (n ≡ length (request_of r access s1 attach))
  unfolding written_of
  taken = go (is_taken (writing_answer r access s1 attach (length b))) refl w
    where
      go : (t : Bool) → is_taken (writing_answer r access s1 attach (length b)) ≡ t
          → cond t (Ok (length (request_of r access s1 attach))) (Err (writing_answer r access s1 attach (length b))) ≡ Ok n
          → (is_taken (writing_answer r access s1 attach (length b)) ≡ true) × (n ≡ length (request_of r access s1 attach))
      go true e x = (e, cc)
      go false e x = cc

  tests : (may_request r access (length attach) ≡ true) × (eqb (access_of r.hot access).state 4 ≡ true)
  unfolding writing_answer
  tests = passed _ _ (leb (length (request_of r access s1 attach)) (length b)) taken.0

  -- what the writer has written
  abbrev pub sent : List ℕ
  sent = take n (buffer_of r access s1 attach b)

  same : sent ≡ request_of r access s1 attach
  unfolding buffer_of over
  same = rw (taken.0, taken.1) (take_at (request_of r access s1 attach) (drop (length (request_of r access s1 attach)) b) (length (request_of r access s1 attach)) refl)

  -- the round trip: reading what the writer has written gives what the record says
  pub read_back : Whole r → told_by sent (asking_of sent) ≡ says (shown (fields_of r access s1 attach))
  read_back whole = rw same (recorded r access whole (may-facts r access (length attach) tests.0).valid (eqb-true _ 4 tests.1) s1 attach)
