-- Numbers laid one behind the other: each takes its width, one more goes behind those laid, and what is left of the room is the rest's; by induction on the numbers and the columns. Assumes nothing.
use Prim.Native.Nat.{ℕ, suc, ◌+◌, ◌*◌, ◌/◌, ◌%◌, ◌-◌, ◌≤◌, ◌<◌}
use mathlib.Core.Path.{◌≡◌, refl, sym, ◌∙◌}
use mathlib.Core.List.{List, [], ◌∷◌, ◌++◌, append-nil, append_assoc}
use native.Mathlib.Omega.{arith}
use native.Mathlib.Nat.{zero-add, zero-mul, suc-mul, add_comm, mul-le-mul_right}
use native.Mathlib.Numerals.{add-one}
use lib.ListN.{length, take, drop, set, get_or, length-append}
use lib.Seq.{take-suc, take_all, take-suc-set, take-append_seam, drop-set-lt}
use Rattle.laws.specs.Splice.{spliced, Put}
use Rattle.laws.specs.Upto.{over}
use Rattle.laws.proofs.Splice.{join, none}
use Rattle.image.specs.Numbers.{number_octets, numbers_octets, Column, column_octets}
use Rattle.image.specs.Numbers.Column.{column as piece}
use Rattle.image.specs.Widths.{number-long}

-- how many octets numbers take
pub numbers-long : (k : ℕ) (xs : List ℕ) → length (numbers_octets k xs) ≡ length xs * k
unfolding numbers_octets
numbers-long k [] = sym (zero-mul k)
numbers-long k (x ∷ xs) = length-append (number_octets k x) (numbers_octets k xs) ∙ rw (number-long, numbers-long k xs, suc-mul) (add_comm k (length xs * k))

-- a number's lowest octet is put, and those above it behind it
put_one : (b : List ℕ) (p o : ℕ) (s : List ℕ) → p < length b → spliced (set b p o) (suc p) s ≡ spliced b p (o ∷ s)
unfolding spliced
put_one b p o s h =
    let e : suc p + length s ≡ p + suc (length s) = omega arith in
    rw (take-suc-set b p o h, drop-set-lt (suc p + length s) b p o (omega arith), e, append_assoc (take p b) (o ∷ []) s)

pub octet-more : (b : List ℕ) (at k x i : ℕ) → i < k → at + i < length b
    → spliced (set b (at + i) (x % 256)) (at + (i + 1)) (number_octets (k - (i + 1)) (x / 256)) ≡ spliced b (at + i) (number_octets (k - i) x)
unfolding number_octets
octet-more b at k x i h g =
    let e : at + (i + 1) ≡ suc (at + i) = omega arith in
    let f : k - i ≡ suc (k - (i + 1)) = omega arith in
    rw (e, f) (put_one b (at + i) (x % 256) (number_octets (k - (i + 1)) (x / 256)) g)

pub octets-all : (b c : List ℕ) (at k x rest : ℕ) → spliced c (at + k) (number_octets (k - k) rest) ≡ spliced b at (number_octets k x) → Put b at (number_octets k x) c (at + k)
unfolding number_octets
octets-all b c at k x rest h =
    let e : k - k ≡ 0 = omega arith in
    record { holds = (none c (at + k)).holds ∙ rw e at h; goes = omega (arith, number-long k x) }

-- The first i numbers are laid, and the buffer is as long as it was.
pub record Part {A : Type 0} (width : ℕ) (column : List A → List ℕ) (b : List ℕ) (at : ℕ) (xs : List A) (c : List ℕ) (p i : ℕ) : Type 0 where
  pub most : i ≤ length xs
  pub long : length c ≡ length b
  pub goes : p ≡ at + i * width
  pub put : Put b at (column (take i xs)) c p

-- room for one more, where there is room for all
pub room-for : (width n i at p l : ℕ) → i < n → at + n * width ≤ l → p ≡ at + i * width → p + width ≤ l
room-for width n i at p l h r e =
    let m : (i + 1) * width ≤ n * width = mul-le-mul_right width (omega arith) in
    omega (arith, suc-mul i width, rw add-one at m)

-- so for numbers of any width
module _ {A : Type 0} (octets : A → List ℕ) (column : List A → List ℕ) (width : ℕ) (wide : (x : A) → length (octets x) ≡ width) (none-laid : column [] ≡ []) (more : (x : A) (xs : List A) → column (x ∷ xs) ≡ octets x ++ column xs) where
  behind : (xs : List A) (x : A) → column (xs ++ (x ∷ [])) ≡ column xs ++ octets x
  behind [] x = rw (more x [], none-laid) (append-nil (octets x))
  behind (y ∷ xs) x = rw (more y (xs ++ (x ∷ [])), behind xs x, more y xs, append_assoc)

  module _ {b : List ℕ} {at : ℕ} {xs : List A} where
    pub part_none : Part width column b at xs b at 0
    part_none = record { most = omega arith; long = refl; goes = omega (arith, zero-mul width); put = rw none-laid (none b at) }

    pub part-more : {c d : List ℕ} {p q i : ℕ} {x : A} → Part width column b at xs c p i → at ≤ length b → i < length xs → x ≡ get_or xs i x → length d ≡ length c → Put c p (octets x) d q → Part width column b at xs d q (i + 1)
    part-more {i = i} {x = x} h r l is e y = record {
      most = omega arith;
      long = e ∙ h.long;
      goes = rw (add-one, suc-mul) (omega (arith, wide x));
      put = rw (add-one, take-suc xs i x l, ← is, behind (take i xs) x) (join r h.put y);
    }

    pub part-all : {c : List ℕ} {p i : ℕ} → Part width column b at xs c p i → length xs ≤ i → Put b at (column xs) c p
    part-all {i = i} h l = rw (take_all i xs l) at h.put

-- columns, one behind the other
pub columns-append : (cs ds : List Column) → column_octets (cs ++ ds) ≡ column_octets cs ++ column_octets ds
unfolding column_octets
columns-append [] ds = refl
columns-append (piece k xs ∷ cs) ds = rw (columns-append cs ds, append_assoc)

-- the room that a piece leaves behind it
pub room : {b c s : List ℕ} {at p n : ℕ} (m : ℕ) → length s ≡ n → Put b at s c p → length c ≡ length b → at + (n + m) ≤ length b → p + m ≤ length c
room m e x k h = omega arith

pub column-room : {b c : List ℕ} {at p n : ℕ} (k : ℕ) (xs : List ℕ) (m : ℕ) → length xs ≡ n → Put b at (numbers_octets k xs) c p → length c ≡ length b → at + (n * k + m) ≤ length b → p + m ≤ length c
column-room k xs m e x = room m (rw e at (numbers-long k xs)) x

-- a column of one number
pub column-one : (k x : ℕ) → numbers_octets k (x ∷ []) ≡ number_octets k x
unfolding numbers_octets
column-one k x = append-nil (number_octets k x)

-- a piece put at the front: it is there, and the rest of the buffer behind it
module _ {b c s : List ℕ} {p : ℕ} (x : Put b 0 s c p) where
  pub at_front : take p c ≡ s
  unfolding spliced
  at_front = rw (x.holds, x.goes, zero-add) (take-append_seam s (drop (length s) b))

  pub put-over : c ≡ over s b
  unfolding spliced over
  put-over = rw zero-add at x.holds
