-- What a width's columns keep, whatever the width. Assumes nothing.
use Rattle.std.specs.Prelude.{◌≡◌, ℕ, zero, suc, ◌+◌, ◌/◌, List, [], ◌∷◌, ◌++◌, length, refl}
use Rattle.std.proofs.Common.{ap}
use Rattle.image.specs.Numbers.{number_octets, numbers_octets, number_at, numbers_at}

pub number-long : (k x : ℕ) → length (number_octets k x) ≡ k
unfolding number_octets
number-long zero x = refl
number-long (suc k) x = ap suc (number-long k (x / 256))

pub octets_none : (k : ℕ) → numbers_octets k [] ≡ []
unfolding numbers_octets
octets_none k = refl

pub octets_more : (k x : ℕ) (xs : List ℕ) → numbers_octets k (x ∷ xs) ≡ number_octets k x ++ numbers_octets k xs
unfolding numbers_octets
octets_more k x xs = refl

pub numbers_none : (k : ℕ) (s : List ℕ) (at : ℕ) → numbers_at k zero s at ≡ []
unfolding numbers_at
numbers_none k s at = refl

pub numbers_more : (k n : ℕ) (s : List ℕ) (at : ℕ) → numbers_at k (suc n) s at ≡ number_at k s at ∷ numbers_at k n s (at + k)
unfolding numbers_at
numbers_more k n s at = refl
