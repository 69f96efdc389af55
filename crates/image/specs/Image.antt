-- What is saved and what is loaded, and what each call answers. Assumes nothing.
use Rattle.std.specs.Prelude.{ℕ, ◌-◌, Bool, cond, List, ◌++◌, length, take, leb, eqb, Result, Ok, Err, ⊤}
use Rattle.laws.specs.Upto.{over}
use Rattle.record.specs.Tests.{both}
use Rattle.record.specs.Answers.{is_taken}
use Rattle.record.specs.declared.Record.{Record}
use Rattle.record.specs.declared.Answer.{Answer}
use Rattle.record.specs.declared.Answer.TheVariants.{Taken, Range, Short}
use Rattle.ranges.specs.Valid.{valid_of}
use Rattle.deadlines.specs.declared.Table.{Table}
use Rattle.image.specs.declared.Loaded.{Loaded}
use Rattle.image.specs.declared.Refusal.{Refusal}
use Rattle.image.specs.declared.Refusal.TheVariants.{Invalid, Version, Damaged}
use Rattle.image.specs.Numbers.{number_octets, column_octets, number_at}
use Rattle.image.specs.Checksum.{checksum_of}
use Rattle.image.specs.Layout.{image_length, image_columns, record_at, table_at, serial_at}

-- all but the checksum, and the whole
unfoldable pub body_of : ℕ → Record → Table → List ℕ
body_of serial r t = column_octets (image_columns serial r t)

unfoldable pub image_of : ℕ → Record → Table → List ℕ
image_of serial r t = body_of serial r t ++ number_octets 4 (checksum_of (body_of serial r t))

-- 1 for a record that is not valid, 12 for a buffer of n octets that is too short
unfoldable pub save_answer : Record → ℕ → Answer
save_answer r n = cond (valid_of r) (cond (leb image_length n) Taken Short) Range

-- a refusal leaves the buffer; behind the image it stays in any case
unfoldable pub saved_over : ℕ → Record → Table → List ℕ → List ℕ
saved_over serial r t buffer = cond (is_taken (save_answer r (length buffer))) (over (image_of serial r t) buffer) buffer

-- What every version has: the mark, a version, the image's length with its checksum, and the checksum at the end of it
abbrev pub version_at : List ℕ → ℕ
version_at s = number_at 2 s 4

abbrev pub length_at : List ℕ → ℕ
length_at s = number_at 2 s 6

unfoldable pub is_marked : List ℕ → Bool
is_marked s = eqb (number_at 4 s 0) 0x46524A54

unfoldable pub has_room : List ℕ → Bool
has_room s = both (leb 12 (length_at s)) (leb (length_at s) (length s))

unfoldable pub sum_holds : List ℕ → Bool
sum_holds s = eqb (checksum_of (take (length_at s - 4) s)) (number_at 4 s (length_at s - 4))

unfoldable pub is_whole : List ℕ → Bool
is_whole s = both (both (leb 12 (length s)) (is_marked s)) (both (has_room s) (sum_holds s))

-- "damaged": no image, or one that a cut or a changed octet has met; "another version"; of this version another length is none either
unfoldable pub frame_of : List ℕ → Result ⊤ Refusal
frame_of s = cond (is_whole s) (cond (eqb (version_at s) 1) (cond (eqb (length_at s) image_length) (Ok tt) (Err Damaged)) (Err Version)) (Err Damaged)

abbrev pub held : Record → Table → ℕ → Loaded
held r t serial = record { next = r; table = t; serial = serial }

-- a refusal leaves what the caller has
abbrev pub kept_by : Record → Table → ℕ → Result Loaded Refusal → Loaded
kept_by r t serial (Ok l) = l
kept_by r t serial (Err e) = held r t serial

-- "an invalid record", else "loaded"
unfoldable pub opened_of : List ℕ → Result Loaded Refusal
opened_of s = cond (valid_of (record_at s)) (Ok (held (record_at s) (table_at s) (serial_at s))) (Err Invalid)

unfoldable pub load_by : Result ⊤ Refusal → List ℕ → Result Loaded Refusal
load_by (Ok t) s = opened_of s
load_by (Err e) s = Err e

-- any octets
unfoldable pub load_of : List ℕ → Result Loaded Refusal
load_of s = load_by (frame_of s) s

-- the refusals' numbers
unfoldable pub refusal_number : Refusal → ℕ
refusal_number Invalid = 1
refusal_number Version = 23
refusal_number Damaged = 24
