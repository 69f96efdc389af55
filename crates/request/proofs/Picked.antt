-- What goes with a mapped GUTI and what goes without: how long it is, and that what is picked is what the record says. Assumes nothing.
use Prim.Native.Nat.{ℕ, ◌≤◌}
use mathlib.Core.Path.{◌≡◌, refl, ◌∙◌}
use mathlib.Core.Bool.{Bool, true, false, cond, not}
use mathlib.Core.List.{List, [], ◌++◌}
use native.Mathlib.Omega.{arith}
use lib.ListN.{length, take}
use lib.Dec.{ltb, leb, eqb}
use Rattle.std.proofs.lemmas.Bool.Decides.{nat_tests}
use Rattle.networks.specs.Networks.{octets3}
use Rattle.record.specs.Tests.{both, either}
use Rattle.record.specs.declared.Access.{Access}
use Rattle.record.specs.declared.Hot.{Hot}
use Rattle.identity.specs.declared.S1.{S1}
use Rattle.identity.specs.Mapping.{mapped_guti}
use Rattle.identity.specs.Identity.{Identities}
use Rattle.identity.specs.Choice.{chosen_of, is_mapped_by}
use Rattle.identity.proofs.Editions.{mapped-by, identity-by, best-chosen}
use Rattle.request.specs.Writing.{gutis_of, octets2, last_of, uplink_of, sessions_of, identities_of, additional_of, status_of, attach_of, says_by}
use Rattle.request.specs.Steps.{identified_of}

ltb-leb : (m n : ℕ) → ltb m n ≡ not (leb n m)
ltb-leb m n = grind (arith, nat_tests)

module _ (mapped : Bool) where
  pub one_of : {A : Type 0} (P : A → Type 0) (x y : A) → (mapped ≡ true → P x) → P y → P (cond mapped x y)
  one_of P x y h k = go mapped refl
    where
      go : (b : Bool) → mapped ≡ b → P (cond b x y)
      go true e = h e
      go false e = k

-- what goes with an update, or where a last area is held
module _ (a : Access) where
  pub area-picked : (b : Bool) (l : List ℕ) → b ≡ not (eqb a.visited 0) → l ≡ cond b (octets3 a.lastnet ++ octets3 a.lastcode) [] → l ≡ last_of a
  unfolding last_of
  area-picked b l e f = f ∙ rw e (go (eqb a.visited 0))
    where
      go : (v : Bool) → cond (not v) (octets3 a.lastnet ++ octets3 a.lastcode) [] ≡ cond v [] (octets3 a.lastnet ++ octets3 a.lastcode)
      go true = refl
      go false = refl

  pub uplink-picked : (b : Bool) (l : List ℕ) → b ≡ both (ltb 1 a.regtype) (not (eqb a.uplink 0)) → l ≡ cond b (octets2 a.uplink) [] → l ≡ uplink_of a
  unfolding uplink_of
  uplink-picked b l e f = f ∙ rw (e, ltb-leb 1 a.regtype) (go (leb a.regtype 1) (eqb a.uplink 0))
    where
      go : (v w : Bool) → cond (both (not v) (not w)) (octets2 a.uplink) [] ≡ cond (either v w) [] (octets2 a.uplink)
      go true w = refl
      go false true = refl
      go false false = refl

  pub sessions-picked : (l : List ℕ) → l ≡ cond (ltb 1 a.regtype) (octets2 a.sessions) [] → l ≡ sessions_of a
  unfolding sessions_of
  sessions-picked l f = f ∙ rw (ltb-leb 1 a.regtype) (go (leb a.regtype 1))
    where
      go : (v : Bool) → cond (not v) (octets2 a.sessions) [] ≡ cond v [] (octets2 a.sessions)
      go true = refl
      go false = refl

-- no more than there is
pub cond-short : (b : Bool) (k : ℕ) (l : List ℕ) → length l ≤ k → length (cond b l []) ≤ k
cond-short true k l h = h
cond-short false k l h = omega arith

-- the best identity, chosen with no SUCI beside a mapped GUTI
module _ (hot : Hot) (access : ℕ) (a : Access) (guti0 guti1 suci capability security nets : List ℕ) (s1 : S1) (attach : List ℕ) where
  abbrev h : Identities
  h = identities_of hot access a guti0 guti1 suci nets s1

  abbrev edition : ℕ
  edition = hot.dev.edition

  abbrev chosen : List ℕ → List ℕ
  chosen s = chosen_of (gutis_of guti0 guti1) s access hot.a0.guti hot.a1.guti a.net nets a.equivalents

  pub says-picked : (mapped : Bool) (x best : List ℕ) → mapped ≡ is_mapped_by edition a.regtype s1 → x ≡ mapped_guti s1.guti → best ≡ chosen (cond (not mapped) (take hot.dev.suci suci) [])
      → identified_of a hot.dev mapped x best capability security attach ≡ says_by edition h a (take hot.dev.capability capability) (take hot.dev.security security) attach
  unfolding identified_of says_by additional_of status_of attach_of identities_of
  says-picked true x best e f g = rw (mapped-by h edition, identity-by h edition, best-chosen h, ← e, f, g)
  says-picked false x best e f g = rw (mapped-by h edition, identity-by h edition, ← e, g)
