-- A request has at most 193 octets where no GUTI is mapped, and 130,119 in all. The clear part has 16, its identity, and 77, 2B and 70; then 3 of the lead of 71; the
-- whole request has 22 more of the capability and the last area, and those of 40 and 50. Without a mapped GUTI: an identity of 64, and 8 of 40 and 50. With one: 11 of the
-- identity, 65,020 of 77, 2B and 70, and in an initial registration no 40 and 50. Assumes nothing.
use Prim.Native.Nat.{ℕ, ◌+◌, ◌≤◌}
use mathlib.Core.Path.{◌≡◌, refl}
use mathlib.Core.Bool.{Bool, true, false, cond, false≢true}
use mathlib.Core.List.{List, [], ◌++◌}
use native.Mathlib.Omega.{arith}
use lib.ListN.{length, take}
use lib.Dec.{leb, eqb}
use borrow.Author.Tests.{eqb-true}
use Rattle.record.specs.declared.Access.{Access}
use Rattle.record.specs.declared.Record.{Record}
use Rattle.record.specs.Tests.{both, either}
use Rattle.record.specs.Sides.{access_of}
use Rattle.record.proofs.Bounds.{one}
use Rattle.ranges.specs.Valid.{valid_of}
use Rattle.networks.specs.Networks.{octets3}
use Rattle.identity.specs.declared.S1.{S1}
use Rattle.identity.specs.Identity.{Identities, is_from_s1, is_from_native, identity_of}
use Rattle.identity.specs.Choice.{chosen_of, is_mapped_by}
use Rattle.identity.proofs.Mapped.{mapped-long}
use Rattle.identity.proofs.Editions.{mapped-by, identity-by, best-chosen}
use Rattle.request.specs.Layout.{Fields, octets_of, clear, nested, shown, levels_of, layout}
use Rattle.request.specs.Writing.{octets2, last_of, uplink_of, sessions_of, saying_of, identities_of, additional_of, status_of, attach_of, says_by, says_of, fields_of, request_of, no_s1}
use Rattle.request.specs.Steps.{sized_of}
use Rattle.request.proofs.Pieces.{sized-most, long, nested-long, take_short, chosen-short}
use Rattle.request.proofs.Ranges.{ready}

-- by the octets of the identity, of 40 and 50, and of 77, 2B and 70
module _ (f : Fields) (a b d : ℕ) (hi : length f.identity ≤ a) (hc : length f.capability ≤ 13) (hs : length f.security ≤ 8) (hl : length f.last ≤ 6)
    (hu : sized_of 2 (length f.uplink) + sized_of 2 (length f.sessions) ≤ b) (hr : sized_of 3 (length f.additional) + (sized_of 2 (length f.status) + sized_of 3 (length f.attach)) ≤ d) where
  clear-short : length (octets_of (clear f)) ≤ 16 + a + d
  unfolding clear
  clear-short = omega (arith, long (clear f), sized-most 2 (length f.security))

  whole-short : length (octets_of f) ≤ 38 + a + b + d
  whole-short = omega (arith, long f, sized-most 2 (length f.security), sized-most 2 (length f.capability), sized-most 1 (length f.last))

  layout-short : length (layout f) ≤ 57 + (a + a) + b + (d + d)
  unfolding layout levels_of nested shown
  layout-short = go (eqb f.ksi 7) where
    go : (x : Bool) → length (nested (cond x 0 1) (cond x (clear f) f)) ≤ 57 + (a + a) + b + (d + d)
    go true = omega (arith, clear-short)
    go false = omega (arith, nested-long f refl refl, clear-short, whole-short)

within-short : (b : Bool) (k : ℕ) (c : List ℕ) → length c ≤ k → length (cond b [] c) ≤ k
within-short true k c h = omega arith
within-short false k c h = h

-- 40 and 50, which an initial registration has not
updates-short : (a : Access) → sized_of 2 (length (uplink_of a)) + sized_of 2 (length (sessions_of a)) ≤ 8
unfolding uplink_of sessions_of
updates-short a =
    omega (
      arith,
      sized-most 2 (length (uplink_of a)),
      sized-most 2 (length (sessions_of a)),
      within-short (either (leb a.regtype 1) (eqb a.uplink 0)) 2 (octets2 a.uplink) (omega arith),
      within-short (leb a.regtype 1) 2 (octets2 a.sessions) (omega arith),
    )

initial-none : (a : Access) → a.regtype ≡ 1 → sized_of 2 (length (uplink_of a)) + sized_of 2 (length (sessions_of a)) ≤ 0
unfolding uplink_of sessions_of
initial-none a e = rw e (omega arith)

-- a GUTI is mapped in initial registrations alone
mapped-initial : (edition regtype : ℕ) (s : S1) → is_mapped_by edition regtype s ≡ true → regtype ≡ 1
unfolding is_mapped_by is_from_native is_from_s1
mapped-initial edition regtype s = go (eqb edition 2) (eqb edition 3)
  where
    go : (x y : Bool) → cond x (is_from_s1 regtype s) (cond y (is_from_native regtype s) false) ≡ true → regtype ≡ 1
    go true y e = eqb-true regtype 1 (one (eqb regtype 1) _ e)
    go false true e = eqb-true regtype 1 (one (eqb regtype 1) _ (one (is_from_s1 regtype s) _ e))
    go false false e = absurd (false≢true e)

module _ (r : Record) (access : ℕ) (s1 : S1) (attach : List ℕ) (valid : valid_of r ≡ true) (state : (access_of r.hot access).state ≡ 4) where
  abbrev own : Access
  own = access_of r.hot access

  abbrev h : Identities
  h = identities_of r.hot access own r.guti0 r.guti1 r.suci (cond (eqb access 0) r.equivalents0 r.equivalents1) s1

  abbrev mapped : Bool
  mapped = is_mapped_by r.hot.dev.edition own.regtype s1

  suci-short : length (take r.hot.dev.suci r.suci) ≤ 64
  suci-short = omega (arith, take_short r.hot.dev.suci r.suci, (ready r access valid state).suci.1)

  record-short : (a b d : ℕ) → length (identity_of r.hot.dev.edition h) ≤ a → sized_of 2 (length (uplink_of own)) + sized_of 2 (length (sessions_of own)) ≤ b
      → sized_of 3 (length (additional_of r.hot.dev.edition h)) + (sized_of 2 (length (status_of r.hot.dev.edition h)) + sized_of 3 (length (attach_of r.hot.dev.edition h attach))) ≤ d
      → length (request_of r access s1 attach) ≤ 57 + (a + a) + b + (d + d)
  unfolding request_of fields_of says_of says_by last_of saying_of
  record-short a b d hi hu hr =
      let all = ready r access valid state in
      layout-short _ a b d hi (omega (arith, take_short r.hot.dev.capability r.capability, all.capability.1))
      (omega (arith, take_short r.hot.dev.security r.security, all.security.1))
      (within-short (eqb own.visited 0) 6 (octets3 own.lastnet ++ octets3 own.lastcode) (omega arith)) hu hr

  -- no GUTI is mapped
  pub request-short : mapped ≡ false → length (request_of r access s1 attach) ≤ 193
  unfolding additional_of status_of attach_of identities_of
  request-short e =
      record-short 64 8 0 (rw (identity-by h r.hot.dev.edition, e) (chosen-short 64 _ _ _ _ _ _ _ _ (omega arith) suci-short)) (updates-short own) (rw (mapped-by h r.hot.dev.edition, e) (omega arith))

  mapped-short : length attach ≤ 65000 → mapped ≡ true → length (request_of r access s1 attach) ≤ 130119
  unfolding additional_of status_of attach_of identities_of
  mapped-short n e =
      let best : length (chosen_of h.gutis [] h.access h.held0 h.held1 h.net h.equivalents h.count) ≤ 11 = chosen-short 11 h.gutis [] h.access h.held0 h.held1 h.net h.equivalents h.count (omega arith) (omega arith) in
      record-short 11 0 65020 (rw (identity-by h r.hot.dev.edition, e, mapped-long s1.guti) (omega arith)) (initial-none own (mapped-initial r.hot.dev.edition own.regtype s1 e))
      (rw (mapped-by h r.hot.dev.edition, e, best-chosen h)
      (omega (arith, n, best, sized-most 3 (length attach), sized-most 3 (length (chosen_of h.gutis [] h.access h.held0 h.held1 h.net h.equivalents h.count)))))

  -- whatever is lent
  pub request-most : length attach ≤ 65000 → length (request_of r access s1 attach) ≤ 130119
  request-most n = go mapped refl
    where
      go : (b : Bool) → mapped ≡ b → length (request_of r access s1 attach) ≤ 130119
      go true e = mapped-short n e
      go false e = omega (arith, request-short e)

-- nothing is lent
pub nothing-mapped : (edition regtype : ℕ) → is_mapped_by edition regtype no_s1 ≡ false
unfolding is_mapped_by is_from_s1 is_from_native
nothing-mapped edition regtype = go (eqb edition 2) (eqb edition 3) (eqb regtype 1)
  where
    go : (x y z : Bool) → cond x (both z false) (cond y (both (both z false) false) false) ≡ false
    go true y true = refl
    go true y false = refl
    go false true true = refl
    go false true false = refl
    go false false z = refl
