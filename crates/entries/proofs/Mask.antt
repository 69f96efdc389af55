-- Those of sixteen elements that pass, as the bits of a number, the first as the lowest: its trailing zeros are the place of the first that passes. Assumes nothing.
use Prim.Native.Nat.{ℕ, zero, suc, ◌+◌, ◌*◌, ◌%◌, ◌^◌, ◌≤◌, ◌<◌}
use mathlib.Core.Path.{◌≡◌, refl, sym, ap, ◌∙◌}
use mathlib.Core.Bool.{Bool, true, false, cond}
use mathlib.Core.List.{List, [], ◌∷◌}
use native.Mathlib.Nat.{add-zero, pow-suc, mod-eq_of_lt}
use native.Mathlib.Numerals.{add-one}
use native.Mathlib.Omega.{arith}
use lib.Arith.{digits_div, digits_mod}
use lib.Bits.{bit_or, or_zero_r}
use Rattle.std.specs.Int.Bits.{or_shifted_r}
use lib.Count.{count_trailing_zeros}
use lib.ListN.{get_or, drop}
use lib.Pow.{pow-lt}
use mir.Val.{bool_byte}
use lib.Seq.{get_or-drop}
use Rattle.laws.specs.Upto.{seek_to}
use Rattle.laws.proofs.Seek.{seek_is, seek-before, seek_found}

-- a digit below the others
low : (n m : ℕ) (s : Bool) → count_trailing_zeros (suc n) (m * 2 + cond s 1 0) ≡ cond s 0 (suc (count_trailing_zeros n m))
unfolding count_trailing_zeros
low n m true = rw (digits_mod m {m = 2} {r = 1} (omega arith))
low n m false = rw (digits_mod m {m = 2} {r = 0} (omega arith), digits_div m {m = 2} {r = 0} (omega arith))

-- the first n elements, each a digit
unfoldable pub passing : (ℕ → Bool) → ℕ → List ℕ → ℕ
passing p zero xs = 0
passing p (suc n) xs = passing p n (drop 1 xs) * 2 + cond (p (get_or xs 0 0)) 1 0

lowest : (p : ℕ → Bool) (n : ℕ) (xs : List ℕ) → count_trailing_zeros n (passing p n xs) ≡ seek_to p n xs
unfolding passing seek_to count_trailing_zeros
lowest p zero xs = refl
lowest p (suc n) [] = low n (passing p n []) (p 0) ∙ rw (lowest p n [])
lowest p (suc n) (x ∷ xs) = low n (passing p n xs) (p x) ∙ rw (lowest p n xs)

pub mask-none : (p : ℕ → Bool) (xs : List ℕ) → 0 ≡ passing p 0 xs
unfolding passing
mask-none p xs = refl

within : (p : ℕ → Bool) (n : ℕ) (xs : List ℕ) → passing p n xs < 2 ^ n
unfolding passing
within p zero xs = omega arith
within p (suc n) xs = rw pow-suc (go (p (get_or xs 0 0)) (within p n (drop 1 xs)))
  where
    go : (s : Bool) → passing p n (drop 1 xs) < 2 ^ n → passing p n (drop 1 xs) * 2 + cond s 1 0 < 2 ^ n * 2
    go true h = omega arith
    go false h = omega arith

-- one more element is one more digit above the others
above : (p : ℕ → Bool) (n : ℕ) (xs : List ℕ) → passing p (suc n) xs ≡ passing p n xs + cond (p (get_or xs n 0)) (2 ^ n) 0
unfolding passing
above p zero xs = refl
above p (suc n) xs =
    let e : 1 + n ≡ suc n = omega arith in
    rw (above p n (drop 1 xs), get_or-drop, e, pow-suc) (go (p (get_or xs (suc n) 0)) (p (get_or xs 0 0)))
  where
    go : (s t : Bool) → (passing p n (drop 1 xs) + cond s (2 ^ n) 0) * 2 + cond t 1 0 ≡ passing p n (drop 1 xs) * 2 + cond t 1 0 + cond s (2 ^ n * 2) 0
    go true t = omega arith
    go false t = omega arith

pub mask-more : (p : ℕ → Bool) (i : ℕ) (xs : List ℕ) → i < 16 → bit_or (passing p i xs) (bool_byte (p (get_or xs i 0)) * 2 ^ i % 65536) ≡ passing p (i + 1) xs
mask-more p i xs h = rw (add-one, above p i xs) (go (p (get_or xs i 0)))
  where
    go : (s : Bool) → bit_or (passing p i xs) (bool_byte s * 2 ^ i % 65536) ≡ passing p i xs + cond s (2 ^ i) 0
    go true =
        let k : 1 * 2 ^ i < 65536 = omega (arith, pow-lt {i = i} {j = 16} h) in
        rw (mod-eq_of_lt k) (or_shifted_r 1 i (passing p i xs) (within p i xs) ∙ omega arith)
    go false = let e : 0 * 2 ^ i % 65536 ≡ 0 = omega arith in rw e (or_zero_r (passing p i xs) ∙ sym (add-zero (passing p i xs)))

module _ (p : ℕ → Bool) (xs : List ℕ) (n m : ℕ) (d : m ≡ passing p 16 xs) where
  whole : count_trailing_zeros 16 m ≡ seek_to p 16 xs
  whole = ap (count_trailing_zeros 16) d ∙ lowest p 16 xs

  -- what is found among sixteen is found among n, if it is one of them
  pub mask-hit : n ≤ 16 → count_trailing_zeros 16 m < n → count_trailing_zeros 16 m ≡ seek_to p n xs
  mask-hit k f = rw whole (sym (seek_is p n xs (seek_to p 16 xs) (omega (arith, whole)) (seek-before p 16 xs) (λ g. seek_found p 16 xs (omega (arith, whole)))))

  pub mask-miss : n ≤ count_trailing_zeros 16 m → n ≡ seek_to p n xs
  mask-miss f = sym (seek_is p n xs n (omega arith) (λ k g. seek-before p 16 xs k (omega (arith, whole))) (λ g. absurd (omega arith)))
