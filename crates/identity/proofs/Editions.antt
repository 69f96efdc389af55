-- The first source held in an edition's order: that it is held and none before it is, whichever the edition; and that the chooser, which goes by slots, finds it.
-- Assumes nothing.
use Prim.Native.Nat.{ℕ, ◌-◌, ◌≤◌}
use mathlib.Core.Path.{◌≡◌, refl, sym, ◌∙◌, ap}
use mathlib.Core.Bool.{Bool, true, false, cond}
use mathlib.Core.List.{List, [], ◌∷◌, ◌++◌}
use native.Mathlib.Omega.{arith}
use lib.ListN.{length}
use lib.Dec.{eqb}
use Rattle.std.specs.Prelude.{Option, Some, None, IfSome}
use Rattle.identity.specs.Mapping.{mapped_guti}
use Rattle.identity.specs.Identity.{Side, Source, Identities, gutis_5g, edition1, edition2, edition3, order_of, slot_on, has_guti, is_from_s1, is_from_native, is_held, first_held, source_of, guti_on, octets_from, identity_of, is_mapped, guti_5g_from, best_guti}
use Rattle.identity.specs.Identity.Side.{this, other}
use Rattle.identity.specs.Identity.Source.{mapped, mapped_native, of_pending, of_equivalent, of_any, suci}
use Rattle.identity.specs.Choice.{is_pending, is_equivalent, own_first, slot_by, slot_of, part_of, chosen_of, is_mapped_by}

-- A source of a list that is held, and none before it is
pub record First (held : Source → Bool) (l : List Source) (x : Source) : Type 0 where
  pub before : List Source
  pub behind : List Source
  pub order : l ≡ before ++ (x ∷ behind)
  pub is : held x ≡ true
  pub none : (y : Source) (a b : List Source) → before ≡ a ++ (y ∷ b) → held y ≡ false

nowhere : (y : Source) (a b : List Source) → [] ≡ a ++ (y ∷ b) → ⊥
nowhere y [] b e = let z : ◌≡◌ {A = ℕ} 0 1 = cc in absurd (omega arith)
nowhere y (z ∷ a) b e = let z : ◌≡◌ {A = ℕ} 0 1 = cc in absurd (omega arith)

module _ (held : Source → Bool) (sure : held suci ≡ true) where
  -- one more in front: it is the first itself, or is not held
  next : (x : Source) (l : List Source) (y : Source) (b : Bool) → held x ≡ b → First held l y → First held (x ∷ l) (cond b x y)
  next x l y true e f = record { before = []; behind = l; order = refl; is = e; none = λ z a b p. absurd (nowhere z a b p) }
  next x l y false e f = record { before = x ∷ f.before; behind = f.behind; order = ap (λ (k : List Source). x ∷ k) f.order; is = f.is; none = earlier }
    where
      earlier : (z : Source) (a b : List Source) → x ∷ f.before ≡ a ++ (z ∷ b) → held z ≡ false
      earlier z [] b p = let s : x ≡ z = cc in rw (← s) e
      earlier z (w ∷ a) b p = f.none z a b cc

  -- a list with the SUCI last has a first source held
  pub first-held : (l : List Source) → First held (l ++ (suci ∷ [])) (first_held held (l ++ (suci ∷ [])))
  unfolding first_held
  first-held [] = rw sure (record { before = []; behind = []; order = refl; is = sure; none = λ y a b e. absurd (nowhere y a b e) })
  first-held (x ∷ l) = next x (l ++ (suci ∷ [])) (first_held held (l ++ (suci ∷ []))) (held x) refl (first-held l)

-- b) to e) of each edition
abbrev plain_5g : List Source
plain_5g = gutis_5g ++ (suci ∷ [])

-- whichever the edition
pub always : (h : Identities) → is_held h suci ≡ true → (edition : ℕ) → First (is_held h) (order_of edition) (source_of edition h)
unfolding source_of order_of edition1 edition2 edition3
always h sure edition = go (eqb edition 2) (eqb edition 3)
  where
    go : (a b : Bool) → First (is_held h) (cond a (mapped ∷ plain_5g) (cond b (mapped_native ∷ plain_5g) plain_5g)) (first_held (is_held h) (cond a (mapped ∷ plain_5g) (cond b (mapped_native ∷ plain_5g) plain_5g)))
    go true b = first-held (is_held h) sure (mapped ∷ gutis_5g)
    go false true = first-held (is_held h) sure (mapped_native ∷ gutis_5g)
    go false false = first-held (is_held h) sure gutis_5g

-- a choice of sources or slots is one of what they come to
pushed : {A B : Type 0} (f : A → B) (b : Bool) (x y : A) → f (cond b x y) ≡ cond b (f x) (f y)
pushed f true x y = refl
pushed f false x y = refl

same : {A : Type 0} (b : Bool) (x : A) → cond b x x ≡ x
same true x = refl
same false x = refl

-- a slot is 0 or 1
own-small : (here there : Bool) (own : ℕ) (next : Option ℕ) → own ≤ 1 → IfSome next (λ k. k ≤ 1) → IfSome (own_first here there own next) (λ k. k ≤ 1)
unfolding own_first
own-small true there own next h g = h
own-small false true own next h g = omega arith
own-small false false own next h g = g

pub slot-small : (g : List ℕ) (access held0 held1 net : ℕ) (equivalents : List ℕ) (count : ℕ) → IfSome (slot_of g access held0 held1 net equivalents count) (λ k. k ≤ 1)
unfolding slot_of slot_by
slot-small g access held0 held1 net equivalents count = go (eqb (length g) 22) (eqb access 0)
  where
    by : (own : ℕ) (a b c d e f : Bool) → own ≤ 1 → IfSome (own_first a b own (own_first c d own (own_first e f own None))) (λ k. k ≤ 1)
    by own a b c d e f h = own-small a b own _ h (own-small c d own _ h (own-small e f own None h tt))

    go : (x y : Bool) → IfSome {T = ℕ} (cond x (cond y (slot_by g 0 held0 held1 net equivalents count) (slot_by g 1 held1 held0 net equivalents count)) None) (λ k. k ≤ 1)
    go true true = by 0 _ _ _ _ _ _ (omega arith)
    go true false = by 1 _ _ _ _ _ _ (omega arith)
    go false y = tt

-- what the chooser goes by
abbrev slot_in : Identities → Option ℕ
slot_in h = slot_of h.gutis h.access h.held0 h.held1 h.net h.equivalents h.count

module _ (h : Identities) where
  -- the octets of each slot
  module _ (s : List ℕ) where
    abbrev part : Option ℕ → List ℕ
    part = part_of h.gutis s

    by-own : (v : Bool) → eqb h.access 0 ≡ v → (part (Some (cond v 0 1)) ≡ guti_on h this) × (part (Some (cond v 1 0)) ≡ guti_on h other)
    unfolding part_of guti_on slot_on
    by-own true c = rw c (refl, refl)
    by-own false c = rw c (refl, refl)

    by-none : part None ≡ s
    unfolding part_of
    by-none = refl

  -- a 5G-GUTI by its slot; where there is none, what follows in the list, which f takes to s
  module _ (f : Source → List ℕ) (s : List ℕ) (p : (x : Side) → f (of_pending x) ≡ guti_on h x) (e : (x : Side) → f (of_equivalent x) ≡ guti_on h x) (a : (x : Side) → f (of_any x) ≡ guti_on h x) (l : List Source) (z : f (first_held (is_held h) l) ≡ s) where
    by-slot : f (first_held (is_held h) (gutis_5g ++ l)) ≡ part s (slot_in h)
    unfolding gutis_5g first_held is_held has_guti slot_on slot_of slot_by own_first is_pending is_equivalent
    by-slot = go (eqb (length h.gutis) 22) (eqb h.access 0) refl refl
      where
        go : (w v : Bool) → eqb (length h.gutis) 22 ≡ w → eqb h.access 0 ≡ v → f (first_held (is_held h) (gutis_5g ++ l)) ≡ part s (slot_in h)
        go true true d c = rw (d, c) (simp (pushed f, p, e, a, z, pushed (part s), (by-own s true c).0, (by-own s true c).1, by-none s) refl)
        go true false d c = rw (d, c) (simp (pushed f, p, e, a, z, pushed (part s), (by-own s false c).0, (by-own s false c).1, by-none s) refl)
        go false v d c = rw d (z ∙ sym (by-none s))

  -- the chooser's part with a SUCI s
  abbrev chosen : List ℕ → List ℕ
  chosen s = chosen_of h.gutis s h.access h.held0 h.held1 h.net h.equivalents h.count

  octets-last : octets_from h (first_held (is_held h) (suci ∷ [])) ≡ h.suci
  unfolding octets_from first_held
  octets-last = ap (octets_from h) (same (is_held h suci) suci)

  -- edition 1 is the chooser's
  pub first-chosen : octets_from h (first_held (is_held h) edition1) ≡ chosen h.suci
  unfolding octets_from edition1 chosen_of
  first-chosen = by-slot (octets_from h) h.suci (λ x. refl) (λ x. refl) (λ x. refl) (suci ∷ []) octets-last

  -- and the best 5G-GUTI what it chooses where the SUCI has no octets
  pub best-chosen : best_guti h ≡ chosen []
  unfolding best_guti guti_5g_from chosen_of first_held gutis_5g
  best-chosen = by-slot (guti_5g_from h) [] (λ x. refl) (λ x. refl) (λ x. refl) [] refl

  -- no 5G-GUTI and no SUCI is mapped
  plain : is_mapped (first_held (is_held h) edition1) ≡ false
  unfolding edition1 gutis_5g first_held is_mapped
  plain = simp (pushed is_mapped, same) refl

  -- what an edition comes to: its own source where that is held, else what edition 1 does
  by-edition : {A : Type 0} (f : Source → A) (m p : A) → f mapped ≡ m → f mapped_native ≡ m → f (first_held (is_held h) edition1) ≡ p → (edition : ℕ)
      → f (source_of edition h) ≡ cond (is_mapped_by edition h.regtype h.s1) m p
  unfolding source_of order_of edition1 edition2 edition3 is_mapped_by first_held is_held
  by-edition f m p u v w edition = go (eqb edition 2) (eqb edition 3)
    where
      go : (a b : Bool)
          → f (first_held (is_held h) (cond a (mapped ∷ plain_5g) (cond b (mapped_native ∷ plain_5g) plain_5g))) ≡ cond (cond a (is_from_s1 h.regtype h.s1) (cond b (is_from_native h.regtype h.s1) false)) m p
      go true b = pushed f (is_from_s1 h.regtype h.s1) mapped (first_held (is_held h) plain_5g) ∙ rw (u, w)
      go false true = pushed f (is_from_native h.regtype h.s1) mapped_native (first_held (is_held h) plain_5g) ∙ rw (v, w)
      go false false = w

  pub mapped-by : (edition : ℕ) → is_mapped (source_of edition h) ≡ is_mapped_by edition h.regtype h.s1
  unfolding is_mapped
  mapped-by edition = by-edition is_mapped true false refl refl plain edition ∙ chosen-bool (is_mapped_by edition h.regtype h.s1)
    where
      chosen-bool : (b : Bool) → cond b true false ≡ b
      chosen-bool true = refl
      chosen-bool false = refl

  pub identity-by : (edition : ℕ) → identity_of edition h ≡ cond (is_mapped_by edition h.regtype h.s1) (mapped_guti h.s1.guti) (chosen h.suci)
  unfolding identity_of octets_from
  identity-by edition = by-edition (octets_from h) (mapped_guti h.s1.guti) (chosen h.suci) refl refl first-chosen edition
