-- What was saved loads back: a number is the octets that it was laid in, a column its numbers, and so column by column; the head says what it is, and the checksum is over what stands before it. Assumes nothing.
use Prim.Native.Nat.{ℕ, zero, suc, ◌+◌, ◌*◌, ◌/◌, ◌%◌, ◌^◌, ◌≤◌, ◌<◌}
use mathlib.Core.Path.{◌≡◌, refl, ◌∙◌, ap}
use mathlib.Core.Bool.{true}
use mathlib.Core.List.{List, [], ◌∷◌, ◌++◌, append_assoc}
use native.Mathlib.Omega.{arith}
use native.Mathlib.Nat.{add-zero, zero-add, add-suc, add_assoc, pow-suc}
use lib.ListN.{length, get_or, take, drop, length-append}
use lib.Seq.{get_or-append-add, take_at}
use borrow.Author.Tests.{le-leb, eq-eqb}
use Rattle.laws.specs.Upto.{over}
use Rattle.entries.specs.declared.Entries.{Entries}
use Rattle.record.specs.declared.Access.{Access}
use Rattle.record.specs.declared.Record.{Record}
use Rattle.record.specs.Answers.{is_taken}
use Rattle.ranges.specs.Valid.{valid_of}
use Rattle.deadlines.specs.declared.Table.{Table}
use Rattle.std.specs.Prelude.{Ok}
use Rattle.image.specs.Numbers.{number_octets, numbers_octets, Column, column_octets, number_at, numbers_at, Narrow}
use Rattle.image.specs.Numbers.Column.{column}
use Rattle.image.specs.Checksum.{checksum_of}
use Rattle.image.specs.Layout.{head_columns, device_words, device_octets, device_columns, access_words, access_pairs, access_octets, access_columns, entries_columns, area_columns, card_columns, hot_columns, record_columns, table_columns, image_columns, device_from, device_at, access_from, access_at, hot_at, entries_at, record_at, table_at, serial_at}
use Rattle.image.specs.Image.{body_of, image_of, save_answer, saved_over, is_marked, has_room, sum_holds, is_whole, frame_of, held, opened_of, load_by, load_of, version_at, length_at}
use Rattle.image.specs.Shape.{Shape, Fills, head_shape, record_shape, table_shape, Typed}
use Rattle.image.specs.Shape.Shape.{shape}
use Rattle.image.specs.Widths.{number-long}
use Rattle.image.proofs.Lays.{numbers-long}

-- behind so many octets the same is read so much further on
number-shift : (k : ℕ) (p s : List ℕ) (at : ℕ) → number_at k (p ++ s) (length p + at) ≡ number_at k s at
unfolding number_at
number-shift zero p s at = refl
number-shift (suc k) p s at = rw (get_or-append-add p s at 0, ← add-suc (length p) at, number-shift k p s (suc at))

numbers-shift : (k n : ℕ) (p s : List ℕ) (at : ℕ) → numbers_at k n (p ++ s) (length p + at) ≡ numbers_at k n s at
unfolding numbers_at
numbers-shift k zero p s at = refl
numbers-shift k (suc n) p s at = rw (number-shift k p s at, add_assoc (length p) at k, numbers-shift k n p s (at + k))

number-back : (k x : ℕ) (s : List ℕ) → x < 256 ^ k → number_at k (number_octets k x ++ s) 0 ≡ x
unfolding number_at number_octets
number-back zero x s h = omega arith
number-back (suc k) x s h =
    let l : x / 256 < 256 ^ k = omega (arith, pow-suc 256 k) in
    let e : number_at k (x % 256 ∷ (number_octets k (x / 256) ++ s)) 1 ≡ x / 256 = number-shift k (x % 256 ∷ []) (number_octets k (x / 256) ++ s) 0 ∙ number-back k (x / 256) s l in
    rw e (omega arith)

numbers-back : (k : ℕ) (xs s : List ℕ) → Narrow k xs → numbers_at k (length xs) (numbers_octets k xs ++ s) 0 ≡ xs
unfolding numbers_at numbers_octets Narrow
numbers-back k [] s h = refl
numbers-back k (x ∷ xs) s h =
    let rest : List ℕ = numbers_octets k xs ++ s in
    let e : numbers_at k (length xs) (number_octets k x ++ rest) k ≡ xs = rw (number-long k x, add-zero) at (numbers-shift k (length xs) (number_octets k x) rest 0) ∙ numbers-back k xs s h.1 in
    rw (append_assoc (number_octets k x) (numbers_octets k xs) s, number-back k x rest h.0, zero-add, e)

-- the columns of these shapes
columns_at : List Shape → List ℕ → ℕ → List Column
columns_at [] s at = []
columns_at (shape k n ∷ ss) s at = column k (numbers_at k n s at) ∷ columns_at ss s (at + n * k)

columns-shift : (ss : List Shape) (p s : List ℕ) (at : ℕ) → columns_at ss (p ++ s) (length p + at) ≡ columns_at ss s at
unfolding columns_at
columns-shift [] p s at = refl
columns-shift (shape k n ∷ ss) p s at = rw (numbers-shift k n p s at, add_assoc (length p) at (n * k), columns-shift ss p s (at + n * k))

columns-back : (ss : List Shape) (cs : List Column) (s : List ℕ) → Fills ss cs → columns_at ss (column_octets cs ++ s) 0 ≡ cs
unfolding column_octets columns_at Fills
columns-back [] [] s h = refl
columns-back [] (c ∷ cs) s h = absurd h
columns-back (z ∷ ss) [] s h = absurd h
columns-back (shape k n ∷ ss) (column j xs ∷ cs) s h =
    let rest : List ℕ = column_octets cs ++ s in
    let e : columns_at ss (numbers_octets k xs ++ rest) (n * k) ≡ cs = rw (numbers-long k xs, h.0.1.0, add-zero) at (columns-shift ss (numbers_octets k xs) rest 0) ∙ columns-back ss cs s h.1 in
    let b : numbers_at k n (numbers_octets k xs ++ rest) 0 ≡ xs = rw h.0.1.0 at (numbers-back k xs rest h.0.1.1) in
    rw (h.0.0, append_assoc (numbers_octets k xs) (column_octets cs) s, b, zero-add, e)

-- the fields of the image's columns, by their places
numbers_of : List Column → ℕ → List ℕ
numbers_of [] i = []
numbers_of (column k xs ∷ cs) zero = xs
numbers_of (column k xs ∷ cs) (suc i) = numbers_of cs i

access_of : List Column → ℕ → Access
access_of cs i = access_from (numbers_of cs i) (numbers_of cs (i + 1)) (numbers_of cs (i + 2))

entries_of : List Column → ℕ → Entries
entries_of cs i = record {
  nets = numbers_of cs i;
  bans = numbers_of cs (i + 1);
  n1s = numbers_of cs (i + 2);
  forbidden = numbers_of cs (i + 3);
  barred = numbers_of cs (i + 4);
  ranks = numbers_of cs (i + 5);
}

record_of : List Column → Record
record_of cs = record {
  hot = record { dev = device_from (numbers_of cs 3) (numbers_of cs 4); a0 = access_of cs 5; a1 = access_of cs 8 };
  e0 = entries_of cs 11;
  e1 = entries_of cs 17;
  roaming = numbers_of cs 23;
  regional = numbers_of cs 24;
  guti0 = numbers_of cs 25;
  guti1 = numbers_of cs 26;
  equivalents0 = numbers_of cs 27;
  equivalents1 = numbers_of cs 28;
  suci = numbers_of cs 29;
  capability = numbers_of cs 30;
  security = numbers_of cs 31;
}

table_of : List Column → Table
table_of cs = record { rests = numbers_of cs 32; ends = numbers_of cs 33; held = numbers_of cs 34 }

abbrev image_shape : List Shape
image_shape = head_shape ++ (record_shape ++ table_shape)

record_of_lem : (s : List ℕ) → record_at s ≡ record_of (columns_at image_shape s 0)
unfolding record_at hot_at device_at access_at entries_at record_of access_of entries_of numbers_of columns_at
record_of_lem s = refl

table-of : (s : List ℕ) → table_at s ≡ table_of (columns_at image_shape s 0)
unfolding table_at table_of numbers_of columns_at
table-of s = refl

serial-of : (s : List ℕ) → serial_at s ≡ get_or (numbers_of (columns_at image_shape s 0) 2) 0 0
unfolding numbers_of columns_at numbers_at
serial-of s = refl

module _ (serial : ℕ) (r : Record) (t : Table) where
  abbrev cs : List Column
  cs = image_columns serial r t

  its-record : record_of cs ≡ r
  unfolding record_of access_of entries_of numbers_of image_columns head_columns record_columns hot_columns device_columns access_columns entries_columns area_columns card_columns table_columns device_from access_from device_words device_octets access_words access_pairs access_octets
  its-record = refl

  its-table : table_of cs ≡ t
  unfolding table_of numbers_of image_columns head_columns record_columns hot_columns device_columns access_columns entries_columns area_columns card_columns table_columns
  its-table = refl

  its-serial : get_or (numbers_of cs 2) 0 0 ≡ serial
  unfolding numbers_of image_columns head_columns
  its-serial = refl

-- how many octets columns of these shapes take
abbrev size_of : List Shape → ℕ
size_of [] = 0
size_of (shape k n ∷ ss) = n * k + size_of ss

columns-long : (ss : List Shape) (cs : List Column) → Fills ss cs → length (column_octets cs) ≡ size_of ss
unfolding column_octets Fills
columns-long [] [] h = refl
columns-long [] (c ∷ cs) h = absurd h
columns-long (z ∷ ss) [] h = absurd h
columns-long (shape k n ∷ ss) (column j xs ∷ cs) h = length-append (numbers_octets j xs) (column_octets cs) ∙ rw (numbers-long j xs, h.0.0, h.0.1.0, columns-long ss cs h.1)

-- What stands in a buffer behind an image that was saved into it, whatever follows.
module _ (serial : ℕ) (r : Record) (t : Table) (typed : Typed serial r t) (rest : List ℕ) where
  abbrev body : List ℕ
  body = body_of serial r t

  abbrev sum : List ℕ
  sum = number_octets 4 (checksum_of body)

  abbrev s : List ℕ
  s = image_of serial r t ++ rest

  parted : s ≡ body ++ (sum ++ rest)
  unfolding image_of
  parted = append_assoc body sum rest

  body-long : length body ≡ 1388
  unfolding body_of Typed
  body-long = columns-long image_shape (image_columns serial r t) typed

  columns : columns_at image_shape s 0 ≡ image_columns serial r t
  unfolding body_of Typed
  columns = rw parted (columns-back image_shape (image_columns serial r t) (sum ++ rest) typed)

  sum_back : number_at 4 s 1388 ≡ checksum_of body
  unfolding checksum_of
  sum_back =
      let e : number_at 4 (body ++ (sum ++ rest)) 1388 ≡ number_at 4 (sum ++ rest) 0 = rw (body-long, add-zero) at (number-shift 4 body (sum ++ rest) 0) in
      rw parted (e ∙ number-back 4 (checksum_of body) rest (omega arith))

  marked : is_marked s ≡ true
  unfolding is_marked number_at image_of body_of image_columns head_columns column_octets numbers_octets number_octets
  marked = refl

  its-length : length_at s ≡ 1392
  unfolding number_at image_of body_of image_columns head_columns column_octets numbers_octets number_octets
  its-length = refl

  its-version : version_at s ≡ 1
  unfolding number_at image_of body_of image_columns head_columns column_octets numbers_octets number_octets
  its-version = refl

  long : 1392 ≤ length s
  long = omega (arith, ap length parted, length-append body (sum ++ rest), length-append sum rest, body-long, number-long 4 (checksum_of body))

  room : has_room s ≡ true
  unfolding has_room
  room = rw (its-length, le-leb 1392 (length s) long)

  sum-holds : sum_holds s ≡ true
  unfolding sum_holds
  sum-holds =
      let e : take 1388 s ≡ body = rw parted (take_at body (sum ++ rest) 1388 body-long) in
      rw (its-length, e, sum_back) (eq-eqb (checksum_of body) (checksum_of body) refl)

  whole : is_whole s ≡ true
  unfolding is_whole
  whole = rw (le-leb 12 (length s) (omega (arith, long)), marked, room, sum-holds)

  framed : frame_of s ≡ Ok (tt {0})
  unfolding frame_of
  framed = rw (whole, its-version, its-length)

  -- for every valid record, with its table and a serial
  pub loads-back : valid_of r ≡ true → load_of s ≡ Ok (held r t serial)
  unfolding load_of load_by opened_of
  loads-back valid =
      let er : record_at s ≡ r = record_of_lem s ∙ rw columns (its-record serial r t) in
      let et : table_at s ≡ t = table-of s ∙ rw columns (its-table serial r t) in
      let en : serial_at s ≡ serial = serial-of s ∙ rw columns (its-serial serial r t) in
      rw (framed, er, valid, et, en)

-- and so out of the buffer that it was saved into
pub saved-loads : (serial : ℕ) (r : Record) (t : Table) → Typed serial r t → valid_of r ≡ true → (buffer : List ℕ) → 1392 ≤ length buffer
    → load_of (saved_over serial r t buffer) ≡ Ok (held r t serial)
unfolding saved_over save_answer over is_taken
saved-loads serial r t typed valid buffer h = rw (valid, le-leb 1392 (length buffer) h) (loads-back serial r t typed (drop (length (image_of serial r t)) buffer) valid)
