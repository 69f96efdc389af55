-- A test of each network of a file, one place more at a time. Assumes nothing.
use Prim.Native.Nat.{ℕ, ◌+◌, ◌≤◌, ◌<◌}
use mathlib.Core.Path.{◌≡◌, refl, sym, ◌∙◌, ap}
use mathlib.Core.Bool.{Bool, true, false, true≢false, false≢true}
use mathlib.Core.List.{List}
use lib.Dec.{eqb}
use lib.ListN.{length, drop}
use Rattle.laws.specs.Upto.{every}
use Rattle.networks.specs.Networks.{unused, network_at, used_by, networks_in}
use Rattle.networks.proofs.Reading.{file-next, file-over}
use Rattle.record.specs.Tests.{either}

-- the test of all is that of the networks from place i on
module _ (p : ℕ → Bool) (file : List ℕ) (all : Bool) (i : ℕ) (c : all ≡ every p (networks_in (drop i file))) where
  module _ (h : i + 2 < length file) (net : ℕ) (q : net ≡ network_at file i) where
    abbrev rest : List ℕ
    rest = networks_in (drop (i + 3) file)

    still : all ≡ every p (used_by net rest)
    still = c ∙ ap (every p) (file-next i file h ∙ ap (λ (m : ℕ). used_by m rest) (sym q))

    pub right-next : either (eqb net unused) (p net) ≡ true → all ≡ every p rest
    unfolding every
    right-next e = still ∙ go (eqb net unused) refl (p net) refl e
      where
        go : (b : Bool) → eqb net unused ≡ b → (b' : Bool) → p net ≡ b' → either (eqb net unused) (p net) ≡ true → every p (used_by net rest) ≡ every p rest
        go true u b' v f = rw u
        go false u true v f = rw (u, v)
        go false u false v f = absurd (false≢true (rw (u, v) at f))

    pub right-ends : either (eqb net unused) (p net) ≡ false → false ≡ all
    unfolding every
    right-ends e = sym (still ∙ go (eqb net unused) refl (p net) refl e)
      where
        go : (b : Bool) → eqb net unused ≡ b → (b' : Bool) → p net ≡ b' → either (eqb net unused) (p net) ≡ false → every p (used_by net rest) ≡ false
        go true u b' v f = absurd (true≢false (rw u at f))
        go false u true v f = absurd (true≢false (rw (u, v) at f))
        go false u false v f = rw (u, v)

  pub right-over : length file ≤ i + 2 → true ≡ all
  unfolding every
  right-over h = sym (c ∙ ap (every p) (file-over i file h))
