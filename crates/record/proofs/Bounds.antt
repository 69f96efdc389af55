-- A list of tests that holds has each of them hold: so a count that passed its test is a bound. Assumes nothing.
use mathlib.Core.Path.{◌≡◌, refl, ap}
use mathlib.Core.Bool.{Bool, true, false}
use Prim.Native.Nat.{ℕ, ◌≤◌}
use mathlib.Core.List.{List, [], ◌∷◌}
use lib.Dec.{leb}
use lib.ListN.{length}
use borrow.Author.Tests.{leb-true}
use Rattle.record.specs.Tests.{both, within}
use Rattle.record.specs.New.{may_make, new_record, made_of}
use Rattle.record.specs.declared.Record.{Record}
use Rattle.record.specs.declared.Made.{Made}
use Rattle.record.specs.declared.Answer.{Answer}
use Rattle.record.specs.declared.Answer.TheVariants.{Taken, Range}

pub one : (a b : Bool) → both a b ≡ true → a ≡ true
one true b e = refl
one false b e = e

pub rest : (a b : Bool) → both a b ≡ true → b ≡ true
rest true b e = e
rest false true e = refl
rest false false e = e

pub least : (a b n : ℕ) → within a b n ≡ true → a ≤ n
least a b n e = leb-true a n (one (leb a n) (leb n b) e)

pub most : (a b n : ℕ) → within a b n ≡ true → n ≤ b
most a b n e = leb-true n b (rest (leb a n) (leb n b) e)

-- capabilities that a record is made of have room in it
pub sized : (x y z c s : ℕ) → may_make x y z c s ≡ true → (c ≤ 13) × (s ≤ 8)
unfolding may_make
sized x y z c s e =
    let lengths : both (within 1 13 c) (within 2 8 s) ≡ true = rest (within 1 10 z) _ (rest (within 1 10 y) _ (rest (within 1 10 x) _ e)) in
    (most 1 13 c (one _ _ lengths), most 2 8 s (rest (within 1 13 c) _ lengths))

abbrev answered : Answer → Record → Made
answered a r = record { answer = a; made = r }

module _ (x y z : ℕ) (c s : List ℕ) (r : Record) where
  pub made : may_make x y z (length c) (length s) ≡ true → r ≡ new_record x y z c s → answered Taken r ≡ made_of x y z c s
  unfolding made_of
  made t e = rw t (ap (answered Taken) e)

  pub refused : may_make x y z (length c) (length s) ≡ false → r ≡ new_record 1 1 1 (0 ∷ []) (0 ∷ 0 ∷ []) → answered Range r ≡ made_of x y z c s
  unfolding made_of
  refused t e = rw t (ap (answered Range) e)
