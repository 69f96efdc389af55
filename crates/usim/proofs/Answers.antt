-- The returns of `write`, one for each answer: the checks in their order, and a refusal leaves the file; and how many are written at most. Assumes nothing.
use Prim.Native.Nat.{ℕ, ◌*◌, ◌-◌, ◌≤◌, ◌<◌}
use mathlib.Core.Path.{◌≡◌, sym, ◌∙◌, ap}
use mathlib.Core.Bool.{Bool, true, false, cond, not}
use mathlib.Core.List.{List, [], ◌++◌}
use Rattle.std.specs.Prelude.{Result, Ok, Err}
use native.Mathlib.Omega.{arith}
use lib.ListN.{length, take, drop, replicate, length-append, length-drop}
use lib.Seq.{take_at}
use borrow.Author.Tests.{le-leb, lt-leb, not-true, not-false}
use Rattle.laws.specs.Upto.{over}
use Rattle.networks.specs.Networks.{octets_of}
use Rattle.entries.specs.Places.{entries_held}
use Rattle.entries.proofs.Joining.{held_fits}
use Rattle.record.specs.declared.Record.{Record}
use Rattle.record.specs.declared.Answer.{Answer}
use Rattle.record.specs.declared.Answer.TheVariants.{Range, Short}
use Rattle.record.specs.Answers.{is_taken}
use Rattle.usim.specs.Usim.{marked_to, marked_of, file_of, may_write, write_answer, listed_of, file_after}
use Rattle.usim.proofs.Steps.{marked-many, marked-most, octets-length}

module _ (r : Record) (file : List ℕ) (t : Bool) (e : t ≡ may_write r (length file)) where
  abbrev Returns : Result ℕ Answer → List ℕ → Type 0
  Returns l after = (l ≡ listed_of r (length file)) × (after ≡ file_after r file)

  pub out_of_range : not t ≡ true → Returns (Err Range) file
  unfolding listed_of file_after write_answer is_taken
  out_of_range h = let fails : may_write r (length file) ≡ false = sym e ∙ not-true t h in (rw fails, rw fails)

  module _ (h : not t ≡ false) (n k : ℕ) (s : n ≡ entries_held r.hot.a0.entries) (m : k ≡ length (marked_to n [] r.e0.forbidden)) where
    holds : may_write r (length file) ≡ true
    holds = sym e ∙ not-false t h

    -- what is marked of the first n entries, and how many
    abbrev marked : List ℕ
    marked = marked_to n r.e0.nets r.e0.forbidden

    is-marked : marked ≡ marked_of r
    unfolding marked_of
    is-marked = rw s

    many : k ≡ length marked
    many = m ∙ marked-many n [] r.e0.nets r.e0.forbidden

    many-of : k ≡ length (marked_of r)
    many-of = many ∙ ap length is-marked

    pub too_short : length file < k * 3 → Returns (Err Short) file
    unfolding listed_of file_after write_answer is_taken
    too_short g = (rw (holds, ← many-of, lt-leb _ _ g), rw (holds, ← many-of, lt-leb _ _ g))

    module _ (g : k * 3 ≤ length file) where
      pub room : length marked * 3 ≤ length file
      room = omega (arith, many)

      octets : length (octets_of marked) ≡ k * 3
      octets = octets-length marked ∙ ap (λ (x : ℕ). x * 3) (sym many)

      same_length : length (over (octets_of marked) file) ≡ length file
      unfolding over
      same_length = length-append (octets_of marked) (drop (length (octets_of marked)) file) ∙ rw (length-drop (length (octets_of marked)) file) (omega (arith, octets))

      pub fits : (laid after : List ℕ) → laid ≡ over (octets_of marked) file → after ≡ take (k * 3) laid ++ replicate (length laid - k * 3) 0xFF → Returns (Ok k) after
      unfolding listed_of file_after file_of write_answer over is_taken
      fits laid after p q = (
        rw (holds, ← many-of, le-leb _ _ g),
        q ∙ rw (holds, ← many-of, le-leb _ _ g, p, same_length, ← is-marked) (ap (λ (xs : List ℕ). xs ++ replicate (length file - k * 3) 0xFF) (take_at (octets_of marked) (drop (length (octets_of marked)) file) (k * 3) octets)),
      )

-- no more than sixteen are written
pub few : (r : Record) (n count : ℕ) → listed_of r n ≡ Ok count → count ≤ 16
unfolding listed_of marked_of entries_held
few r n count e = go (is_taken (write_answer r n)) e
  where
    go : (b : Bool) → cond b (Ok (length (marked_of r))) (Err (write_answer r n)) ≡ Ok count → count ≤ 16
    go true e =
        let c : length (marked_of r) ≡ count = cc in
        omega (arith, marked-most r.e0.nets r.e0.forbidden (entries_held r.hot.a0.entries), held_fits r.hot.a0.entries)
    go false e = cc
