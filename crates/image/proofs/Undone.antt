-- A step of the checksum can be undone: mixing is, and the polynomial's highest bit tells whether a bit fell out. So two sums over octets that differ in one place alone are two. Assumes nothing.
use Prim.Native.Nat.{ℕ, zero, suc, ◌+◌, ◌-◌, ◌*◌, ◌/◌, ◌%◌, ◌^◌, ◌<◌}
use mathlib.Core.Path.{◌≡◌, refl, sym, ◌∙◌, ap}
use mathlib.Core.Bool.{Bool, true, false, cond}
use mathlib.Core.List.{List, [], ◌∷◌}
use native.Mathlib.Omega.{arith}
use lib.Arith.{bin_ind}
use lib.Bits.{bit_xor, differ, xor_step, xor_comm, xor_lt, xor_shr}
use lib.Dec.{eqb}
use lib.ListN.{length, get_or, set}
use borrow.Author.Tests.{eqb-true, eqb-false}
use Rattle.image.specs.Checksum.{bit_step, four_steps, octet_step, steps_from, ones, checksum_of}

differ-most : (x y : ℕ) → x < 2 → y < 2 → differ x y < 2
differ-most zero y h k = k
differ-most (suc zero) zero h k = omega arith
differ-most (suc zero) (suc y) h k = omega (arith, k)
differ-most (suc (suc x)) y h k = absurd (omega (arith, h))

differ-one : (x y z : ℕ) → x < 2 → y < 2 → z < 2 → differ x y ≡ differ x z → y ≡ z
differ-one zero y z h k l e = e
differ-one (suc zero) zero zero h k l e = refl
differ-one (suc zero) zero (suc z) h k l e = absurd (omega (arith, e, l))
differ-one (suc zero) (suc y) zero h k l e = absurd (omega (arith, e, k))
differ-one (suc zero) (suc y) (suc z) h k l e = ap suc e
differ-one (suc (suc x)) y z h k l e = absurd (omega (arith, h))

-- a number mixed with one is no other's
xor-one : (a b c : ℕ) → bit_xor a b ≡ bit_xor a c → b ≡ c
xor-one = bin_ind (λ (n : ℕ). (b c : ℕ) → bit_xor n b ≡ bit_xor n c → b ≡ c) (λ b c e. e) step
  where
    step : (n : ℕ) → ((b c : ℕ) → bit_xor (n / 2) b ≡ bit_xor (n / 2) c → b ≡ c) → (b c : ℕ) → bit_xor n b ≡ bit_xor n c → b ≡ c
    step n ih b c e =
        let f : bit_xor (n / 2) (b / 2) * 2 + differ (n % 2) (b % 2) ≡ bit_xor (n / 2) (c / 2) * 2 + differ (n % 2) (c % 2) = sym (xor_step n b) ∙ (e ∙ xor_step n c) in
        let x : differ (n % 2) (b % 2) < 2 = differ-most (n % 2) (b % 2) (omega arith) (omega arith) in
        let y : differ (n % 2) (c % 2) < 2 = differ-most (n % 2) (c % 2) (omega arith) (omega arith) in
        let g : b / 2 ≡ c / 2 = ih (b / 2) (c / 2) (omega (arith, f, x, y)) in
        let h : b % 2 ≡ c % 2 = differ-one (n % 2) (b % 2) (c % 2) (omega arith) (omega arith) (omega arith) (omega (arith, f, x, y)) in
        omega (arith, g, h)

-- the polynomial has the highest bit, which half a number of 32 bits has not
high : (n : ℕ) → n < 2 ^ 31 → bit_xor 0xEDB88320 n / 2 ^ 31 ≡ 1
high n h =
    let z : n / 2 ^ 31 ≡ 0 = omega (arith, h) in
    xor_shr 0xEDB88320 n 31 ∙ rw z

clash : (m n : ℕ) → m < 2 ^ 31 → m ≡ n → n / 2 ^ 31 ≡ 1 → ⊥
clash m n h e f =
    let z : m / 2 ^ 31 ≡ 0 = omega (arith, h) in
    let w : n / 2 ^ 31 ≡ 0 = rw e at z in
    omega (arith, w, f)

bit_below : (c : ℕ) → c < 2 ^ 32 → bit_step c < 2 ^ 32
unfolding bit_step
bit_below c h = elim (eqb (c % 2) 0) as (λ b. cond b (c / 2) (bit_xor 0xEDB88320 (c / 2)) < 2 ^ 32) [ true ↦ omega (arith, h) | false ↦ xor_lt 32 0xEDB88320 (c / 2) (omega arith) (omega (arith, h)) ]

bit-one : (c d : ℕ) → c < 2 ^ 32 → d < 2 ^ 32 → bit_step c ≡ bit_step d → c ≡ d
unfolding bit_step
bit-one c d h k = go (eqb (c % 2) 0) (eqb (d % 2) 0) refl refl
  where
    go : (x y : Bool) → eqb (c % 2) 0 ≡ x → eqb (d % 2) 0 ≡ y → cond x (c / 2) (bit_xor 0xEDB88320 (c / 2)) ≡ cond y (d / 2) (bit_xor 0xEDB88320 (d / 2)) → c ≡ d
    go true true x y e = omega (arith, e, eqb-true (c % 2) 0 x, eqb-true (d % 2) 0 y)
    go true false x y e = absurd (clash (c / 2) (bit_xor 0xEDB88320 (d / 2)) (omega (arith, h)) e (high (d / 2) (omega (arith, k))))
    go false true x y e = absurd (clash (d / 2) (bit_xor 0xEDB88320 (c / 2)) (omega (arith, k)) (sym e) (high (c / 2) (omega (arith, h))))
    go false false x y e =
        let f : c / 2 ≡ d / 2 = xor-one 0xEDB88320 (c / 2) (d / 2) e in
        let odd-c : c % 2 ≡ 0 → ⊥ = eqb-false (c % 2) 0 x in
        let odd-d : d % 2 ≡ 0 → ⊥ = eqb-false (d % 2) 0 y in
        omega (arith, f, odd-c, odd-d)

four_below : (c : ℕ) → c < 2 ^ 32 → four_steps c < 2 ^ 32
unfolding four_steps
four_below c h = bit_below _ (bit_below _ (bit_below _ (bit_below c h)))

four-one : (c d : ℕ) → c < 2 ^ 32 → d < 2 ^ 32 → four_steps c ≡ four_steps d → c ≡ d
unfolding four_steps
four-one c d h k e =
    let b = bit_below in
    bit-one c d h k (bit-one _ _ (b c h) (b d k) (bit-one _ _ (b _ (b c h)) (b _ (b d k)) (bit-one _ _ (b _ (b _ (b c h))) (b _ (b _ (b d k))) e)))

mixed : (c o : ℕ) → c < 2 ^ 32 → o < 256 → bit_xor c o < 2 ^ 32
mixed c o h k = xor_lt 32 c o h (omega (arith, k))

octet-below : (c o : ℕ) → c < 2 ^ 32 → o < 256 → octet_step c o < 2 ^ 32
unfolding octet_step
octet-below c o h k = four_below _ (four_below _ (mixed c o h k))

eight-one : (c d : ℕ) → c < 2 ^ 32 → d < 2 ^ 32 → four_steps (four_steps c) ≡ four_steps (four_steps d) → c ≡ d
eight-one c d h k e = four-one c d h k (four-one (four_steps c) (four_steps d) (four_below c h) (four_below d k) e)

-- the same octet leads from one sum alone to one, and from one sum each octet to another
sum_one : (c d o : ℕ) → c < 2 ^ 32 → d < 2 ^ 32 → o < 256 → octet_step c o ≡ octet_step d o → c ≡ d
unfolding octet_step
sum_one c d o h k l e =
    let f : bit_xor c o ≡ bit_xor d o = eight-one (bit_xor c o) (bit_xor d o) (mixed c o h l) (mixed d o k l) e in
    xor-one o c d (xor_comm o c ∙ (f ∙ xor_comm d o))

octet-one : (c o p : ℕ) → c < 2 ^ 32 → o < 256 → p < 256 → octet_step c o ≡ octet_step c p → o ≡ p
unfolding octet_step
octet-one c o p h k l e = xor-one c o p (eight-one (bit_xor c o) (bit_xor c p) (mixed c o h k) (mixed c p h l) e)

abbrev pub Octets : List ℕ → Type 0
Octets s = (k : ℕ) → get_or s k 0 < 256

steps-below : (c : ℕ) (s : List ℕ) → c < 2 ^ 32 → Octets s → steps_from c s < 2 ^ 32
unfolding steps_from
steps-below c [] h k = h
steps-below c (o ∷ s) h k = steps-below (octet_step c o) s (octet-below c o h (k 0)) (λ i. k (suc i))

steps-one : (c d : ℕ) (s : List ℕ) → c < 2 ^ 32 → d < 2 ^ 32 → Octets s → steps_from c s ≡ steps_from d s → c ≡ d
unfolding steps_from
steps-one c d [] h k l e = e
steps-one c d (o ∷ s) h k l e = sum_one c d o h k (l 0) (steps-one (octet_step c o) (octet_step d o) s (octet-below c o h (l 0)) (octet-below d o k (l 0)) (λ i. l (suc i)) e)

octets-set : (s : List ℕ) (i y : ℕ) → Octets s → y < 256 → Octets (set s i y)
octets-set [] i y h l k = omega arith
octets-set (o ∷ s) zero y h l zero = l
octets-set (o ∷ s) zero y h l (suc k) = h (suc k)
octets-set (o ∷ s) (suc i) y h l zero = h 0
octets-set (o ∷ s) (suc i) y h l (suc k) = octets-set s i y (λ j. h (suc j)) l k

-- one octet changed, wherever it stands
set-one : (c : ℕ) (s : List ℕ) (i y : ℕ) → c < 2 ^ 32 → Octets s → y < 256 → i < length s → steps_from c (set s i y) ≡ steps_from c s → y ≡ get_or s i 0
unfolding steps_from
set-one c [] i y h k l r e = absurd (omega (arith, r))
set-one c (o ∷ s) zero y h k l r e = octet-one c y o h l (k 0) (steps-one (octet_step c y) (octet_step c o) s (octet-below c y h l) (octet-below c o h (k 0)) (λ i. k (suc i)) e)
set-one c (o ∷ s) (suc i) y h k l r e = set-one (octet_step c o) s i y (octet-below c o h (k 0)) (λ j. k (suc j)) l (omega (arith, r)) e

minus_one : (u v : ℕ) → u < 2 ^ 32 → v < 2 ^ 32 → ones - u ≡ ones - v → u ≡ v
minus_one u v h k e = omega (arith, h, k, e)

pub checksum-one : (s : List ℕ) (i y : ℕ) → Octets s → y < 256 → i < length s → checksum_of (set s i y) ≡ checksum_of s → y ≡ get_or s i 0
unfolding checksum_of
checksum-one s i y h l r e =
    let u : steps_from ones (set s i y) < 2 ^ 32 = steps-below ones (set s i y) (omega arith) (octets-set s i y h l) in
    let v : steps_from ones s < 2 ^ 32 = steps-below ones s (omega arith) h in
    set-one ones s i y (omega arith) h l r (minus_one (steps_from ones (set s i y)) (steps_from ones s) u v e)
