-- A file read three octets at a time: its first network, and those behind it; nothing where fewer than three are left. Assumes nothing.
use Prim.Native.Nat.{ℕ, ◌<◌}
use mathlib.Core.Path.{◌≡◌, refl}
use mathlib.Core.List.{List, [], ◌∷◌, ◌++◌}
use native.Mathlib.Omega.{arith}
use lib.ListN.{length}
use Rattle.networks.specs.Networks.{network_at, used_by, networks_in}

pub chunk-next : (s x rest : List ℕ) → s ≡ x ++ rest → length x ≡ 3 → networks_in s ≡ used_by (network_at x 0) (networks_in rest)
unfolding networks_in network_at
chunk-next s [] rest e l = absurd (omega arith)
chunk-next s (a ∷ []) rest e l = absurd (omega arith)
chunk-next s (a ∷ b ∷ []) rest e l = absurd (omega arith)
chunk-next s (a ∷ b ∷ c ∷ []) rest e l = rw e
chunk-next s (a ∷ b ∷ c ∷ d ∷ x) rest e l = absurd (omega arith)

pub chunk-over : (s : List ℕ) → length s < 3 → networks_in s ≡ []
unfolding networks_in
chunk-over [] h = refl
chunk-over (a ∷ []) h = refl
chunk-over (a ∷ b ∷ []) h = refl
chunk-over (a ∷ b ∷ c ∷ s) h = absurd (omega arith)
