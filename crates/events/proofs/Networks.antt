-- A network among those read three octets each: the octets at three times its place. Assumes nothing.
use Prim.Native.Nat.{ℕ, zero, suc, ◌+◌, ◌*◌, ◌<◌}
use mathlib.Core.Path.{◌≡◌, refl}
use mathlib.Core.List.{List}
use native.Mathlib.Omega.{arith}
use lib.ListN.{get_or, drop}
use lib.Seq.{get_or-drop}
use Rattle.networks.specs.Networks.{network_of}
use Rattle.events.specs.Parts.{networks_of}

pub network-at : (n i : ℕ) (s : List ℕ) → i < n → get_or (networks_of n s) i 0 ≡ network_of (get_or s (i * 3) 0) (get_or s (i * 3 + 1) 0) (get_or s (i * 3 + 2) 0)
unfolding networks_of
network-at zero i s h = omega arith
network-at (suc n) zero s h = refl
network-at (suc n) (suc i) s h =
    let a : (suc i) * 3 ≡ 3 + i * 3 = omega arith in
    let b : 3 + i * 3 + 1 ≡ 3 + (i * 3 + 1) = omega arith in
    let d : 3 + i * 3 + 2 ≡ 3 + (i * 3 + 2) = omega arith in
    rw (a, b, d, ← get_or-drop 3 s (i * 3) 0, ← get_or-drop 3 s (i * 3 + 1) 0, ← get_or-drop 3 s (i * 3 + 2) 0) (network-at n i (drop 3 s) (omega arith))
