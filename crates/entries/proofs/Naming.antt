-- Whether a card's file names a network, looked for one place after the other; FF FF FF is never named. Assumes nothing.
use Prim.Native.Nat.{ℕ, ◌+◌, ◌≤◌, ◌<◌}
use mathlib.Core.Path.{◌≡◌, refl, sym, ◌∙◌, ap}
use mathlib.Core.Bool.{Bool, true, false, cond, true≢false}
use mathlib.Core.List.{List, [], ◌∷◌, ◌++◌}
use lib.Dec.{eqb}
use lib.ListN.{length, drop}
use borrow.Author.Tests.{eqb-true}
use Rattle.networks.specs.Networks.{network_of, unused, network_at, used_by, networks_in}
use Rattle.networks.proofs.Reading.{file-next, file-over}
use Rattle.entries.specs.Entries.{is_filed}
use Rattle.entries.proofs.Chunks.{chunk-next, chunk-over}

-- one more network before the rest, unless it is none
among-used : (n x : ℕ) (rest : List ℕ) → eqb n unused ≡ false → is_filed n (used_by x rest) ≡ cond (eqb x n) true (is_filed n rest)
unfolding is_filed
among-used n x rest u = go (eqb x unused) refl
  where
    go : (b : Bool) → eqb x unused ≡ b → is_filed n (used_by x rest) ≡ cond (eqb x n) true (is_filed n rest)
    go true q = rw q (other (eqb x n) refl)
      where
        other : (b : Bool) → eqb x n ≡ b → is_filed n rest ≡ cond (eqb x n) true (is_filed n rest)
        other true e = let z : eqb x unused ≡ false = rw (eqb-true x n e) u in absurd (true≢false (sym q ∙ z))
        other false e = rw e
    go false q = rw q

pub among_none : (n : ℕ) (file : List ℕ) → eqb n unused ≡ true → is_filed n (networks_in file) ≡ false
unfolding networks_in is_filed
among_none n [] u = refl
among_none n (a ∷ []) u = refl
among_none n (a ∷ b ∷ []) u = refl
among_none n (a ∷ b ∷ c ∷ file) u = go (eqb (network_of a b c) unused) refl (among_none n file u)
  where
    go : (s : Bool) → eqb (network_of a b c) unused ≡ s → is_filed n (networks_in file) ≡ false → is_filed n (used_by (network_of a b c) (networks_in file)) ≡ false
    go true q ih = rw q ih
    go false q ih = rw (q, eqb-true n unused u, q) ih

module _ (n : ℕ) (file : List ℕ) (u : eqb n unused ≡ false) (i : ℕ) (c : is_filed n (networks_in file) ≡ is_filed n (networks_in (drop i file))) where
  module _ (h : i + 2 < length file) where
    still : is_filed n (networks_in file) ≡ cond (eqb (network_at file i) n) true (is_filed n (networks_in (drop (i + 3) file)))
    still = c ∙ ap (is_filed n) (file-next i file h) ∙ among-used n (network_at file i) (networks_in (drop (i + 3) file)) u

    pub name-hit : (net : ℕ) → net ≡ network_at file i → eqb net n ≡ true → is_filed n (networks_in file) ≡ true
    name-hit net e q = rw (← e, q) at still

    pub name-miss : (net : ℕ) → net ≡ network_at file i → eqb net n ≡ false → is_filed n (networks_in file) ≡ is_filed n (networks_in (drop (i + 3) file))
    name-miss net e q = rw (← e, q) at still

  pub name-over : length file ≤ i + 2 → is_filed n (networks_in file) ≡ false
  unfolding is_filed
  name-over h = c ∙ ap (is_filed n) (file-over i file h)

-- the same, three octets at a time
module _ (n : ℕ) (file : List ℕ) (u : eqb n unused ≡ false) (s : List ℕ) (c : is_filed n (networks_in file) ≡ is_filed n (networks_in s)) where
  module _ (x rest : List ℕ) (split : s ≡ x ++ rest) (three : length x ≡ 3) (net : ℕ) (q : net ≡ network_at x 0) where
    one : is_filed n (networks_in file) ≡ cond (eqb net n) true (is_filed n (networks_in rest))
    one = c ∙ ap (is_filed n) (chunk-next s x rest split three) ∙ rw (q) (among-used n (network_at x 0) (networks_in rest) u)

    pub named-here : eqb net n ≡ true → is_filed n (networks_in file) ≡ true
    named-here e = rw e at one

    pub named_behind : eqb net n ≡ false → is_filed n (networks_in file) ≡ is_filed n (networks_in rest)
    named_behind e = rw e at one

  pub named_nowhere : length s < 3 → is_filed n (networks_in file) ≡ false
  unfolding is_filed
  named_nowhere h = c ∙ ap (is_filed n) (chunk-over s h)
