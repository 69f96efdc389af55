-- How the marked networks are counted and written, an entry more at a time. Assumes nothing.
use Prim.Native.Nat.{ℕ, zero, suc, ◌+◌, ◌*◌, ◌-◌, ◌/◌, ◌%◌, ◌≤◌, ◌<◌}
use mathlib.Core.Path.{◌≡◌, refl, sym, ◌∙◌, ap}
use mathlib.Core.Bool.{Bool, true, false, cond, not}
use Rattle.std.specs.List.{count_by}
use Rattle.std.proofs.lemmas.List.Sums.{count_by_more_yes, count_by_more_no}
use mathlib.Core.List.{List, [], ◌∷◌, ◌++◌, append_assoc}
use native.Mathlib.Numerals.{add-one}
use native.Mathlib.Omega.{arith}
use lib.Dec.{eqb}
use lib.ListN.{length, get_or, set, take, drop, length-append, length-set}
use Rattle.laws.specs.Upto.{over}
use Rattle.laws.proofs.Lists.{stored}
use Rattle.networks.specs.Networks.{octets3, octets_of}
use Rattle.usim.specs.Usim.{marked_to}

-- an entry without a mark, one with a mark
module _ (nets forbidden : List ℕ) (i : ℕ) where
  pub not-marked : eqb (get_or forbidden i 0) 0 ≡ true → marked_to (i + 1) nets forbidden ≡ marked_to i nets forbidden
  unfolding marked_to
  not-marked e = rw (add-one, e)

  pub is-marked : eqb (get_or forbidden i 0) 0 ≡ false → marked_to (i + 1) nets forbidden ≡ marked_to i nets forbidden ++ (get_or nets i 0 ∷ [])
  unfolding marked_to
  is-marked e = rw (add-one, e)

one_more : (xs : List ℕ) (x : ℕ) → length (xs ++ (x ∷ [])) ≡ length xs + 1
one_more xs x = length-append xs (x ∷ [])

-- which networks they are does not matter for how many
pub marked-many : (n : ℕ) (xs ys forbidden : List ℕ) → length (marked_to n xs forbidden) ≡ length (marked_to n ys forbidden)
unfolding marked_to
marked-many zero xs ys forbidden = refl
marked-many (suc n) xs ys forbidden =
    elim (eqb (get_or forbidden n 0) 0)
    as (λ b. length (cond b (marked_to n xs forbidden) (marked_to n xs forbidden ++ (get_or xs n 0 ∷ []))) ≡ length (cond b (marked_to n ys forbidden) (marked_to n ys forbidden ++ (get_or ys n 0 ∷ [])))) [
      | true ↦ marked-many n xs ys forbidden
      | false ↦ one_more (marked_to n xs forbidden) (get_or xs n 0) ∙ ap (λ (k : ℕ). k + 1) (marked-many n xs ys forbidden) ∙ sym (one_more (marked_to n ys forbidden) (get_or ys n 0))
    ]

-- how many are marked, as the library counts them
abbrev is_mark : ℕ → Bool
is_mark x = not (eqb x 0)

module _ (forbidden : List ℕ) where
  one-counted : (n : ℕ) → n < length forbidden → count_by is_mark (take n forbidden) ≡ length (marked_to n [] forbidden) → (b : Bool) → eqb (get_or forbidden n 0) 0 ≡ b
      → count_by is_mark (take (n + 1) forbidden) ≡ length (marked_to (n + 1) [] forbidden)
  one-counted n h e true q = count_by_more_no is_mark forbidden n 0 h (rw q) ∙ e ∙ ap length (sym (not-marked [] forbidden n q))
  one-counted n h e false q =
      count_by_more_yes is_mark forbidden n 0 h (rw q) ∙ ap (λ (k : ℕ). k + 1) e ∙ sym (one_more (marked_to n [] forbidden) (get_or [] n 0)) ∙ ap length (sym (is-marked [] forbidden n q))

  pub count-marked : (n : ℕ) → n ≤ length forbidden → count_by (λ x. not (eqb x 0)) (take n forbidden) ≡ length (marked_to n [] forbidden)
  unfolding marked_to
  count-marked zero h = refl
  count-marked (suc n) h = rw add-one at (one-counted n (omega arith) (count-marked n (omega arith)) (eqb (get_or forbidden n 0) 0) refl)

-- the more entries the more are marked
more : (nets forbidden : List ℕ) (n : ℕ) → length (marked_to n nets forbidden) ≤ length (marked_to (suc n) nets forbidden)
unfolding marked_to
more nets forbidden n =
    elim (eqb (get_or forbidden n 0) 0) as (λ b. length (marked_to n nets forbidden) ≤ length (cond b (marked_to n nets forbidden) (marked_to n nets forbidden ++ (get_or nets n 0 ∷ [])))) [
      | true ↦ omega arith
      | false ↦ omega (arith, one_more (marked_to n nets forbidden) (get_or nets n 0))
    ]

pub marked-most : (nets forbidden : List ℕ) (n : ℕ) → length (marked_to n nets forbidden) ≤ n
unfolding marked_to
marked-most nets forbidden zero = omega arith
marked-most nets forbidden (suc n) =
    elim (eqb (get_or forbidden n 0) 0) as (λ b. length (cond b (marked_to n nets forbidden) (marked_to n nets forbidden ++ (get_or nets n 0 ∷ []))) ≤ suc n) [
      | true ↦ omega (arith, marked-most nets forbidden n)
      | false ↦ omega (arith, one_more (marked_to n nets forbidden) (get_or nets n 0), marked-most nets forbidden n)
    ]

grows : (nets forbidden : List ℕ) (k i : ℕ) → length (marked_to i nets forbidden) ≤ length (marked_to (i + k) nets forbidden)
grows nets forbidden zero i = let e : i + 0 ≡ i = omega arith in rw e (omega arith)
grows nets forbidden (suc k) i = let e : i + suc k ≡ suc (i + k) = omega arith in rw e (omega (arith, grows nets forbidden k i, more nets forbidden (i + k)))

pub marked-few : (nets forbidden : List ℕ) (i n : ℕ) → i ≤ n → length (marked_to i nets forbidden) ≤ length (marked_to n nets forbidden)
marked-few nets forbidden i n h = let e : n ≡ i + (n - i) = omega arith in rw e (grows nets forbidden (n - i) i)

-- three octets each
octets-more : (xs : List ℕ) (x : ℕ) → octets_of (xs ++ (x ∷ [])) ≡ octets_of xs ++ octets3 x
unfolding octets_of
octets-more [] x = refl
octets-more (y ∷ xs) x = ap (λ (r : List ℕ). octets3 y ++ r) (octets-more xs x)

pub octets-length : (xs : List ℕ) → length (octets_of xs) ≡ length xs * 3
unfolding octets_of
octets-length [] = refl
octets-length (x ∷ xs) = omega (arith, octets-length xs)

-- three stores behind what was written
laid : (l o : List ℕ) (at a b c : ℕ) → at ≡ length l → at + 2 < length o → set (set (set (l ++ drop at o) at a) (at + 1) b) (at + 2) c ≡ (l ++ (a ∷ b ∷ c ∷ [])) ++ drop (at + 3) o
laid l o at a b c e h =
    let two : at + 1 + 1 ≡ at + 2 = omega arith in
    let three : at + 2 + 1 ≡ at + 3 = omega arith in
    let m : length (l ++ (a ∷ [])) ≡ at + 1 = one_more l a ∙ omega arith in
    let n : length ((l ++ (a ∷ [])) ++ (b ∷ [])) ≡ at + 2 = one_more (l ++ (a ∷ [])) b ∙ omega arith in
    ap (λ (r : List ℕ). set (set r (at + 1) b) (at + 2) c) (stored l o at a e (omega arith))
    ∙ ap (λ (r : List ℕ). set r (at + 2) c) (rw two at (stored (l ++ (a ∷ [])) o (at + 1) b (sym m) (omega arith)))
    ∙ rw three at (stored ((l ++ (a ∷ [])) ++ (b ∷ [])) o (at + 2) c (sym n) (omega arith))
    ∙ ap (λ (r : List ℕ). r ++ drop (at + 3) o) (append_assoc (l ++ (a ∷ [])) (b ∷ []) (c ∷ []) ∙ append_assoc l (a ∷ []) (b ∷ c ∷ []))

-- what is written so far is what is marked among the entries before
module _ (n : ℕ) (nets forbidden file₀ : List ℕ) where
  abbrev pub Written : List ℕ → ℕ → ℕ → Type 0
  Written file at i =
      (i ≤ n) × (at ≡ length (marked_to i nets forbidden) * 3) × (file ≡ octets_of (marked_to i nets forbidden) ++ drop at file₀) × (length file ≡ length file₀)

  module _ (room : length (marked_to n nets forbidden) * 3 ≤ length file₀) (file : List ℕ) (at i : ℕ) (w : Written file at i) (h : i < n) where
    pub pass : eqb (get_or forbidden i 0) 0 ≡ true → Written file at (i + 1)
    pass e = rw (not-marked nets forbidden i e) (omega arith, w.1, w.2, w.3)

    -- a marked one has room
    pub fits : eqb (get_or forbidden i 0) 0 ≡ false → at + 2 < length file
    fits e =
        let one : length (marked_to (i + 1) nets forbidden) ≡ length (marked_to i nets forbidden) + 1 = ap length (is-marked nets forbidden i e) ∙ one_more (marked_to i nets forbidden) (get_or nets i 0) in
        let all = marked-few nets forbidden (i + 1) n (omega arith) in
        let s = w.1 in
        let t = w.3 in
        omega arith

    pub lays : eqb (get_or forbidden i 0) 0 ≡ false
        → Written (set (set (set file at (get_or nets i 0 / 65536 % 256)) (at + 1) (get_or nets i 0 / 256 % 256)) (at + 2) (get_or nets i 0 % 256)) (at + 3) (i + 1)
    lays e =
        let f = fits e in
        let t = w.3 in
        let s : at ≡ length (octets_of (marked_to i nets forbidden)) = w.1 ∙ sym (octets-length (marked_to i nets forbidden)) in
        rw (is-marked nets forbidden i e) (
          omega arith,
          omega (arith, w.1, one_more (marked_to i nets forbidden) (get_or nets i 0)),
          ap (λ (r : List ℕ). set (set (set r at (get_or nets i 0 / 65536 % 256)) (at + 1) (get_or nets i 0 / 256 % 256)) (at + 2) (get_or nets i 0 % 256)) w.2
              ∙ laid (octets_of (marked_to i nets forbidden)) file₀ at (get_or nets i 0 / 65536 % 256) (get_or nets i 0 / 256 % 256) (get_or nets i 0 % 256) s (omega arith)
              ∙ ap (λ (r : List ℕ). r ++ drop (at + 3) file₀) (sym (octets-more (marked_to i nets forbidden) (get_or nets i 0))),
          length-set (set (set file at (get_or nets i 0 / 65536 % 256)) (at + 1) (get_or nets i 0 / 256 % 256)) (at + 2) (get_or nets i 0 % 256)
              ∙ length-set (set file at (get_or nets i 0 / 65536 % 256)) (at + 1) (get_or nets i 0 / 256 % 256) ∙ length-set file at (get_or nets i 0 / 65536 % 256) ∙ w.3,
        )

  pub wrote : (file : List ℕ) (at i : ℕ) → Written file at i → n ≤ i → file ≡ over (octets_of (marked_to n nets forbidden)) file₀
  unfolding over
  wrote file at i w h =
      let e : i ≡ n = let l = w.0 in omega arith in
      rw (← e) (w.2 ∙ ap (λ (k : ℕ). octets_of (marked_to i nets forbidden) ++ drop k file₀) (w.1 ∙ sym (octets-length (marked_to i nets forbidden))))
