-- Every value of the types is `Typed`: an unsigned number has room in its octets, and an array is as long as its type says, with such numbers in it. Assumes nothing.
use Prim.Native.Nat.{ℕ, ◌<◌, ◌≤◌, ◌^◌}
use mathlib.Core.Path.{◌≡◌, refl}
use mathlib.Core.Bool.{true}
use mathlib.Core.List.{List, [], ◌∷◌, ◌++◌}
use native.Mathlib.Omega.{arith}
use lib.ListN.{length}
use mir.Syntax.{Width, w8, w32, w64}
use mir.Val.{Val, bits}
use denote.Laws.{Is}
use denote.Shadow.{shadow}
use denote.Plain.{UInt}
use denote.Array.{each, Array}
use denote.Struct.Declared.{row}
use Rattle.entries.specs.declared.Entries.{Entries}
use Rattle.entries.specs.contracts.Entries as E
use Rattle.record.specs.declared.Device.{Device}
use Rattle.record.specs.contracts.Device as D
use Rattle.record.specs.declared.Access.{Access}
use Rattle.record.specs.contracts.Access as A
use Rattle.record.specs.declared.Hot.{Hot}
use Rattle.record.specs.contracts.Hot as H
use Rattle.record.specs.declared.Record.{Record}
use Rattle.record.specs.contracts.Record as R
use Rattle.ranges.specs.Valid.{valid_of}
use Rattle.deadlines.specs.declared.Table.{Table}
use Rattle.deadlines.specs.contracts.Table as T
use Rattle.image.specs.Numbers.{Column, Narrow}
use Rattle.image.specs.Numbers.Column.{column}
use Rattle.std.specs.Prelude.{Ok}
use Rattle.image.specs.Layout.{device_words, device_octets, access_words, access_pairs, access_octets, head_columns, device_columns, access_columns, entries_columns, area_columns, card_columns, hot_columns, record_columns, table_columns, image_columns}
use Rattle.image.specs.Shape.{Shape, Fills, head_shape, device_shape, access_shape, entries_shape, area_shape, card_shape, record_shape, table_shape, Typed}
use Rattle.image.specs.Shape.Shape.{shape}
use Rattle.image.specs.Image.{saved_over, held, load_of}
use Rattle.image.proofs.Back.{saved-loads}

-- the numbers of an array
each-narrow : (w : Width) (k : ℕ) → 2 ^ bits w ≡ 256 ^ k → (xs : List ℕ) (us : List Val) → shadow (each ℕ (UInt w).own_val xs us) → Narrow k xs
unfolding Narrow
each-narrow w k e [] us s = tt
each-narrow w k e (x ∷ xs) [] s = absurd s
each-narrow w k e (x ∷ xs) (u ∷ us) s = (rw e at s.0.1, each-narrow w k e xs us s.1)

array-full : (w : Width) (k n : ℕ) → 2 ^ bits w ≡ 256 ^ k → (xs : List ℕ) (vs : List Val) → Is (Array (UInt w) n) xs vs → (length xs ≡ n) × Narrow k xs
array-full w k n e xs vs g = (g.1.0.1, each-narrow w k e xs g.0 g.1.1)

octets-full : (n : ℕ) (xs : List ℕ) (vs : List Val) → Is (Array (UInt w8) n) xs vs → (length xs ≡ n) × Narrow 1 xs
octets-full n xs vs g = array-full w8 1 n refl xs vs g

device-narrow : (d : Device) (vs : List Val) → Is (row D.the_type) d vs → Narrow 4 (device_words d) × Narrow 1 (device_octets d)
unfolding Narrow device_words device_octets
device-narrow d vs g =
    let f = g.1.1 in
    let o = f.1.1 in
    let h = o.1.1.1.1.1.1 in
    ((f.0.1, (f.1.0.1, tt)), (o.0.1, (o.1.0.1, (o.1.1.0.1, (o.1.1.1.0.1, (o.1.1.1.1.0.1, (o.1.1.1.1.1.0.1, (h.0.1, (h.1.0.1, (h.1.1.0.1, (h.1.1.1.0.1, (h.1.1.1.1.0.1, (h.1.1.1.1.1.0.1, (h.1.1.1.1.1.1.0.1, tt))))))))))))))

access-narrow : (a : Access) (vs : List Val) → Is (row A.the_type) a vs → Narrow 4 (access_words a) × (Narrow 2 (access_pairs a) × Narrow 1 (access_octets a))
unfolding Narrow access_words access_pairs access_octets
access-narrow a vs g =
    let f = g.1.1 in
    let p = f.1.1.1.1 in
    let o = p.1.1.1 in
    let h = o.1.1.1.1.1.1.1 in (
      (f.0.1, (f.1.0.1, (f.1.1.0.1, (f.1.1.1.0.1, tt)))),
      (
        (p.0.1, (p.1.0.1, (p.1.1.0.1, tt))),
        (o.0.1, (o.1.0.1, (o.1.1.0.1, (o.1.1.1.0.1, (o.1.1.1.1.0.1, (o.1.1.1.1.1.0.1, (o.1.1.1.1.1.1.0.1, (h.0.1, (h.1.0.1, (h.1.1.0.1, (h.1.1.1.0.1, (h.1.1.1.1.0.1, (h.1.1.1.1.1.0.1, (h.1.1.1.1.1.1.0.1, tt)))))))))))))),
      ),
    )

-- columns behind one another
fills-append : (ss zs : List Shape) (cs ds : List Column) → Fills ss cs → Fills zs ds → Fills (ss ++ zs) (cs ++ ds)
unfolding Fills
fills-append [] zs [] ds h k = k
fills-append [] zs (c ∷ cs) ds h k = absurd h
fills-append (s ∷ ss) zs [] ds h k = absurd h
fills-append (shape n m ∷ ss) zs (column j xs ∷ cs) ds h k = (h.0, fills-append ss zs cs ds h.1 k)

device-fills : (d : Device) (vs : List Val) → Is (row D.the_type) d vs → Fills device_shape (device_columns d)
unfolding Fills device_columns device_words device_octets
device-fills d vs g = let n = device-narrow d vs g in ((refl, (refl, n.0)), ((refl, (refl, n.1)), tt))

access-fills : (a : Access) (vs : List Val) → Is (row A.the_type) a vs → Fills access_shape (access_columns a)
unfolding Fills access_columns access_words access_pairs access_octets
access-fills a vs g = let n = access-narrow a vs g in ((refl, (refl, n.0)), ((refl, (refl, n.1.0)), ((refl, (refl, n.1.1)), tt)))

entries-fills : (t : Entries) (vs : List Val) → Is (row E.the_type) t vs → Fills entries_shape (entries_columns t)
unfolding Fills entries_columns
entries-fills t vs g =
    let f = g.1.1 in
    let o = f.1 in (
      (refl, array-full w32 4 16 refl t.nets _ f.0),
      ((refl, octets-full 16 t.bans _ o.0), ((refl, octets-full 16 t.n1s _ o.1.0), ((refl, octets-full 16 t.forbidden _ o.1.1.0), ((refl, octets-full 16 t.barred _ o.1.1.1.0), ((refl, octets-full 16 t.ranks _ o.1.1.1.1.0), tt))))),
    )

table-fills : (t : Table) (vs : List Val) → Is (row T.the_type) t vs → Fills table_shape (table_columns t)
unfolding Fills table_columns
table-fills t vs g =
    let f = g.1.1 in
    ((refl, array-full w64 8 10 refl t.rests _ f.0), ((refl, array-full w32 4 10 refl t.ends _ f.1.0), ((refl, octets-full 10 t.held _ f.1.1.0), tt)))

area-fills : (r : Record) (vs : List Val) → Is (row R.the_type) r vs → Fills area_shape (area_columns r)
unfolding Fills area_columns
area-fills r vs g =
    let a = g.1.1.1.1.1 in (
      (refl, array-full w64 8 40 refl r.roaming _ a.0),
      ((refl, array-full w64 8 40 refl r.regional _ a.1.0), ((refl, octets-full 10 r.guti0 _ a.1.1.0), ((refl, octets-full 10 r.guti1 _ a.1.1.1.0), ((refl, array-full w32 4 15 refl r.equivalents0 _ a.1.1.1.1.0), ((refl, array-full w32 4 15 refl r.equivalents1 _ a.1.1.1.1.1.0), tt))))),
    )

card-fills : (r : Record) (vs : List Val) → Is (row R.the_type) r vs → Fills card_shape (card_columns r)
unfolding Fills card_columns
card-fills r vs g =
    let d = g.1.1.1.1.1.1.1.1.1.1.1 in
    ((refl, octets-full 64 r.suci _ d.0), ((refl, octets-full 13 r.capability _ d.1.0), ((refl, octets-full 8 r.security _ d.1.1.0), tt)))

hot-fills : (h : Hot) (vs : List Val) → Is (row H.the_type) h vs → Fills (device_shape ++ (access_shape ++ access_shape)) (hot_columns h)
unfolding hot_columns
hot-fills h vs g =
    let f = g.1.1 in
    fills-append device_shape (access_shape ++ access_shape) (device_columns h.dev) (access_columns h.a0 ++ access_columns h.a1) (device-fills h.dev _ f.0)
    (fills-append access_shape access_shape (access_columns h.a0) (access_columns h.a1) (access-fills h.a0 _ f.1.0) (access-fills h.a1 _ f.1.1.0))

record-fills : (r : Record) (vs : List Val) → Is (row R.the_type) r vs → Fills record_shape (record_columns r)
unfolding record_columns
record-fills r vs g =
    let f = g.1.1 in
    fills-append (device_shape ++ (access_shape ++ access_shape)) _ (hot_columns r.hot) _ (hot-fills r.hot _ f.0)
    (fills-append entries_shape _ (entries_columns r.e0) _ (entries-fills r.e0 _ f.1.0)
    (fills-append entries_shape _ (entries_columns r.e1) _ (entries-fills r.e1 _ f.1.1.0) (fills-append area_shape card_shape (area_columns r) (card_columns r) (area-fills r vs g) (card-fills r vs g))))

head-fills : (serial : ℕ) → serial < 2 ^ 32 → Fills head_shape (head_columns serial)
unfolding Fills head_columns Narrow
head-fills serial h = ((refl, (refl, (omega arith, (omega arith, (omega arith, (omega arith, tt)))))), ((refl, (refl, (omega arith, (omega arith, tt)))), ((refl, (refl, (h, tt))), tt)))

pub typed : (serial : ℕ) (r : Record) (t : Table) (vs us : List Val) → serial < 2 ^ 32 → Is (row R.the_type) r vs → Is (row T.the_type) t us → Typed serial r t
unfolding Typed image_columns
typed serial r t vs us h g k =
    fills-append head_shape (record_shape ++ table_shape) (head_columns serial) (record_columns r ++ table_columns t) (head-fills serial h)
    (fills-append record_shape table_shape (record_columns r) (table_columns t) (record-fills r vs g) (table-fills t us k))

-- so that of the program's own values a valid record always loads back
pub value-loads : (serial : ℕ) (r : Record) (t : Table) (vs us : List Val) → serial < 2 ^ 32 → Is (row R.the_type) r vs → Is (row T.the_type) t us
    → valid_of r ≡ true → (buffer : List ℕ) → 1392 ≤ length buffer → load_of (saved_over serial r t buffer) ≡ Ok (held r t serial)
value-loads serial r t vs us h g k valid buffer long = saved-loads serial r t (typed serial r t vs us h g k) valid buffer long
