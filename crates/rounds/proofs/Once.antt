-- A round names each slot once at most: a slot that is named has a chance, behind its timer it has none, and no timer gives it one again. Assumes nothing.
use Prim.Native.Nat.{ℕ, zero, suc, ◌^◌, ◌<◌}
use mathlib.Core.Path.{◌≡◌, refl}
use mathlib.Core.Bool.{true}
use mathlib.Core.List.{List, [], ◌∷◌}
use native.Mathlib.Omega.{arith}
use Rattle.record.specs.declared.Record.{Record}
use Rattle.ranges.specs.Valid.{valid_of}
use Rattle.validity.specs.Sized.{Sized}
use Rattle.std.proofs.Common.{Option, Some, None}
use Rattle.deadlines.specs.declared.Table.{Table}
use Rattle.deadlines.specs.Asking.{slot_at, asked, after_ask, Ten}
use Rattle.deadlines.specs.Arming.{fits_to}
use Rattle.deadlines.proofs.Choice.{furthest-named}
use Rattle.rounds.specs.Words.{Ran}
use Rattle.rounds.specs.Round.{out_of, behind, round_by, round_to}
use Rattle.rounds.proofs.Matched.{Matched, ask-matched, out-matched}
use Rattle.rounds.proofs.Bound.{chances, behind_out, named-chance, out-gone, out_stays, matches}

-- none of these is of slot i
abbrev pub Absent : ℕ → List Ran → Type 0
Absent i [] = Unit {0}
Absent i (x ∷ xs) = (x.at ≡ i → ⊥) × Absent i xs

-- no two are of one slot
abbrev pub Once : List Ran → Type 0
Once [] = Unit {0}
Once (x ∷ xs) = Absent x.at xs × Once xs

absent : (i n : ℕ) (r : Record) (t : Table) (now : ℕ) → now < 2 ^ 32 → i < 10 → Matched r t → chances now r t i ≡ 0 → Absent i (round_to n now r t).ran
unfolding round_to round_by behind
absent i zero r t now b l h m = tt
absent i (suc n) r t now b l h m = go (asked now t) refl (λ q u k w. absent i n q u now b l k w)
  where
    go : (x : Option ℕ) → asked now t ≡ x → ((q : Record) (u : Table) → Matched q u → chances now q u i ≡ 0 → Absent i (round_to n now q u).ran) → Absent i (round_by (round_to n now) now x r (after_ask now t)).ran
    go None e f = tt
    go (Some at) e f = (
      λ q. omega (arith, rw q at (named-chance r t now b h at e)),
      f (out_of r at).next (behind_out now r t at) (out-matched now at r (after_ask now t) (ask-matched now r t h)) (omega (arith, out_stays r t now b h at e i l)),
    )

pub ran-once : (n : ℕ) (r : Record) (t : Table) (now : ℕ) → now < 2 ^ 32 → Matched r t → Once (round_to n now r t).ran
unfolding round_to round_by behind
ran-once zero r t now b h = tt
ran-once (suc n) r t now b h = go (asked now t) refl (λ q u k. ran-once n q u now b k)
  where
    go : (x : Option ℕ) → asked now t ≡ x → ((q : Record) (u : Table) → Matched q u → Once (round_to n now q u).ran) → Once (round_by (round_to n now) now x r (after_ask now t)).ran
    go None e f = tt
    go (Some at) e f =
        let k : Matched (out_of r at).next (behind_out now r t at) = out-matched now at r (after_ask now t) (ask-matched now r t h) in
        (absent at n (out_of r at).next (behind_out now r t at) now b (furthest-named now t at e).below k (out-gone r t now b h at e), f (out_of r at).next (behind_out now r t at) k)

-- of any valid record and a table that fits it
pub round-once : (n : ℕ) (r : Record) (t : Table) (now : ℕ) → now < 2 ^ 32 → Sized r → valid_of r ≡ true → fits_to r.hot t.held ≡ true → Ten t → ((i : ℕ) → i < 10 → (slot_at t i).ends < 2 ^ 32)
    → Once (round_to n now r t).ran
round-once n r t now b z v f h e = ran-once n r t now b (matches r t z v f h e)
