-- What passing the checks says, and that no more than 64 are permitted. Assumes nothing.
use Prim.Native.Nat.{ℕ, ◌≤◌}
use mathlib.Core.Path.{◌≡◌, refl}
use mathlib.Core.Bool.{Bool, true, false, cond}
use mathlib.Core.List.{List}
use Rattle.std.specs.Prelude.{Ok, Err}
use lib.ListN.{length}
use lib.Dec.{leb, eqb}
use native.Mathlib.Omega.{arith}
use borrow.Author.Tests.{leb-true}
use Rattle.laws.specs.Upto.{all_to}
use Rattle.entries.specs.declared.Entries.{Entries}
use Rattle.entries.specs.Places.{entries_held}
use Rattle.record.specs.declared.Record.{Record}
use Rattle.record.specs.declared.Answer.TheVariants.{Taken, Range, Short}
use Rattle.record.specs.Tests.{both, is_short}
use Rattle.record.specs.Answers.{is_taken}
use Rattle.record.specs.Sides.{access_of}
use Rattle.record.proofs.Bounds.{one, rest}
use Rattle.ranges.specs.Valid.{valid_of}
use Rattle.cells.specs.Cells.{permitted_by, permitted_of, may_choose, choice_answer, choice_of}
use Rattle.cells.proofs.Steps.{permitted-few}

module _ (r : Record) (access : ℕ) (heard : List ℕ) where
  abbrev sound : Bool
  sound = both (all_to is_short (length heard) heard) (valid_of r)

  sized : may_choose r access heard ≡ true → both (leb (length heard) 64) sound ≡ true
  unfolding may_choose
  sized h = rest (leb access 1) (both (leb (length heard) 64) sound) h

  pub may-valid : may_choose r access heard ≡ true → valid_of r ≡ true
  may-valid h = rest (all_to is_short (length heard) heard) (valid_of r) (rest (leb (length heard) 64) sound (sized h))

  may-few : may_choose r access heard ≡ true → length heard ≤ 64
  may-few h = leb-true (length heard) 64 (one (leb (length heard) 64) sound (sized h))

  abbrev own : Entries
  own = cond (eqb access 0) r.e0 r.e1

  pub few : (n count : ℕ) → choice_of r access heard n ≡ Ok count → count ≤ 64
  unfolding choice_of choice_answer is_taken permitted_of permitted_by
  few n count e = go (may_choose r access heard) refl (leb (length heard) n) e
    where
      go : (b : Bool) → may_choose r access heard ≡ b → (b' : Bool) → (let a = cond b (cond b' Taken Short) Range in cond (is_taken a) (Ok (length (permitted_of r access heard))) (Err a)) ≡ Ok count → count ≤ 64
      go true q true e =
          let h : length heard ≤ 64 = may-few q in
          let c : length (permitted_of r access heard) ≡ count = cc in
          omega (arith, permitted-few heard (entries_held (access_of r.hot access).entries) own.nets own.forbidden own.barred (length heard))
      go true q false e = cc
      go false q b' e = cc
