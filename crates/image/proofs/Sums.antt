-- The library's fold of the steps is the checksum's: by induction on the octets. Assumes nothing.
use Rattle.std.proofs.Common.{ℕ, ◌≡◌, List, [], ◌∷◌, refl}
use Rattle.std.specs.List.{fold}
use Rattle.image.specs.Checksum.{octet_step, steps_from}

pub folded : (c : ℕ) (s : List ℕ) → fold octet_step c s ≡ steps_from c s
unfolding steps_from
folded c [] = refl
folded c (o ∷ s) = folded (octet_step c o) s
