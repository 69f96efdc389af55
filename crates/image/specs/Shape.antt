-- What the types of a record and of a table say: how many numbers a column has, and in how many octets each has room. Assumes nothing.
use Rattle.std.specs.Prelude.{ℕ, ◌≡◌, List, [], ◌∷◌, ◌++◌, length}
use Rattle.record.specs.declared.Record.{Record}
use Rattle.deadlines.specs.declared.Table.{Table}
use Rattle.image.specs.Numbers.{Column, Narrow}
use Rattle.image.specs.Numbers.Column.{column}
use Rattle.image.specs.Layout.{image_columns}

-- an array's type: the octets of a number, and how many there are
pub data Shape : Type 0 where
  shape : ℕ → ℕ → Shape

unfoldable pub Fills : List Shape → List Column → Type 0
Fills [] [] = Unit {0}
Fills [] (c ∷ cs) = ⊥
Fills (s ∷ ss) [] = ⊥
Fills (shape k n ∷ ss) (column j xs ∷ cs) = ((j ≡ k) × ((length xs ≡ n) × Narrow k xs)) × Fills ss cs

abbrev pub head_shape : List Shape
head_shape = shape 1 4 ∷ shape 2 2 ∷ shape 4 1 ∷ []

abbrev pub device_shape : List Shape
device_shape = shape 4 2 ∷ shape 1 13 ∷ []

abbrev pub access_shape : List Shape
access_shape = shape 4 4 ∷ shape 2 3 ∷ shape 1 14 ∷ []

abbrev pub entries_shape : List Shape
entries_shape = shape 4 16 ∷ shape 1 16 ∷ shape 1 16 ∷ shape 1 16 ∷ shape 1 16 ∷ shape 1 16 ∷ []

abbrev pub area_shape : List Shape
area_shape = shape 8 40 ∷ shape 8 40 ∷ shape 1 10 ∷ shape 1 10 ∷ shape 4 15 ∷ shape 4 15 ∷ []

abbrev pub card_shape : List Shape
card_shape = shape 1 64 ∷ shape 1 13 ∷ shape 1 8 ∷ []

abbrev pub record_shape : List Shape
record_shape = (device_shape ++ (access_shape ++ access_shape)) ++ (entries_shape ++ (entries_shape ++ (area_shape ++ card_shape)))

abbrev pub table_shape : List Shape
table_shape = shape 8 10 ∷ shape 4 10 ∷ shape 1 10 ∷ []

-- a serial, a record and a table of these types
unfoldable pub Typed : ℕ → Record → Table → Type 0
Typed serial r t = Fills (head_shape ++ (record_shape ++ table_shape)) (image_columns serial r t)
