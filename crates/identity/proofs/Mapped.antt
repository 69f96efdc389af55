-- Of octets the mapping changes none: behind F2 all ten stay. Assumes nothing.
use Prim.Native.Nat.{ℕ, ◌+◌, ◌*◌, ◌/◌, ◌%◌, ◌<◌}
use mathlib.Core.Path.{◌≡◌, refl}
use mathlib.Core.List.{List, [], ◌∷◌}
use native.Mathlib.Omega.{arith}
use lib.ListN.{length, get_or}
use Rattle.identity.specs.Mapping.{amf_octets, amf_of, mapped_guti}

pub mapped-long : (g : List ℕ) → length (mapped_guti g) ≡ 11
unfolding mapped_guti amf_of amf_octets
mapped-long g = refl

-- (4 e + f / 64) / 4 is e; what is left of it, with the pointer, is f
amf-same : (d e f : ℕ) → d < 256 → e < 256 → f < 256 → amf_of d e f ≡ d ∷ e ∷ f ∷ []
unfolding amf_of amf_octets
amf-same d e f hd he hf =
    let x : (d * 256 + e) / 256 ≡ d = omega arith in
    let y : ((d * 256 + e) % 256 * 4 + f / 64) / 4 ≡ e = omega arith in
    let z : ((d * 256 + e) % 256 * 4 + f / 64) % 4 * 64 + f % 64 ≡ f = omega arith in
    rw (x, y, z)

pub mapped-same : (g : List ℕ) → length g ≡ 10 → get_or g 3 0 < 256 → get_or g 4 0 < 256 → get_or g 5 0 < 256 → mapped_guti g ≡ 0xF2 ∷ g
unfolding mapped_guti
mapped-same [] n hd he hf = absurd (omega arith)
mapped-same (a ∷ []) n hd he hf = absurd (omega arith)
mapped-same (a ∷ b ∷ []) n hd he hf = absurd (omega arith)
mapped-same (a ∷ b ∷ c ∷ []) n hd he hf = absurd (omega arith)
mapped-same (a ∷ b ∷ c ∷ d ∷ []) n hd he hf = absurd (omega arith)
mapped-same (a ∷ b ∷ c ∷ d ∷ e ∷ []) n hd he hf = absurd (omega arith)
mapped-same (a ∷ b ∷ c ∷ d ∷ e ∷ f ∷ []) n hd he hf = absurd (omega arith)
mapped-same (a ∷ b ∷ c ∷ d ∷ e ∷ f ∷ h ∷ []) n hd he hf = absurd (omega arith)
mapped-same (a ∷ b ∷ c ∷ d ∷ e ∷ f ∷ h ∷ i ∷ []) n hd he hf = absurd (omega arith)
mapped-same (a ∷ b ∷ c ∷ d ∷ e ∷ f ∷ h ∷ i ∷ j ∷ []) n hd he hf = absurd (omega arith)
mapped-same (a ∷ b ∷ c ∷ d ∷ e ∷ f ∷ h ∷ i ∷ j ∷ k ∷ []) n hd he hf = rw (amf-same d e f hd he hf)
mapped-same (a ∷ b ∷ c ∷ d ∷ e ∷ f ∷ h ∷ i ∷ j ∷ k ∷ l ∷ g) n hd he hf = absurd (omega arith)
