-- An ask names one of ten slots, or none. Assumes nothing.
use Prim.Native.Nat.{ℕ, ◌≤◌}
use mathlib.Core.Path.{◌≡◌, refl}
use native.Mathlib.Omega.{arith}
use Rattle.deadlines.specs.declared.Table.{Table}
use Rattle.std.proofs.Common.{Option, Some, None}
use Rattle.deadlines.specs.Asking.{asked, place_of}
use Rattle.deadlines.proofs.Choice.{furthest-named}

pub few : (now : ℕ) (t : Table) → place_of (asked now t) ≤ 10
unfolding place_of
few now t = go (asked now t) refl
  where
    go : (n : Option ℕ) → asked now t ≡ n → place_of n ≤ 10
    go (Some j) e = omega (arith, (furthest-named now t j e).below)
    go None e = omega arith
