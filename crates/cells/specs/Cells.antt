-- Document 02, R-2: of the networks heard those that an access permits, and what the call answers. Assumes nothing.
use Rattle.std.specs.Prelude.{ℕ, zero, suc, Bool, false, cond, List, [], ◌∷◌, ◌++◌, length, get_or, leb, eqb, Result, Ok, Err}
use Rattle.laws.specs.Upto.{over, all_to}
use Rattle.entries.specs.declared.Entries.{Entries}
use Rattle.entries.specs.Places.{entries_held}
use Rattle.record.specs.Tests.{both, either, flip, is_short}
use Rattle.record.specs.Sides.{access_of}
use Rattle.record.specs.Answers.{is_taken}
use Rattle.record.specs.declared.Record.{Record}
use Rattle.record.specs.declared.Answer.{Answer}
use Rattle.record.specs.declared.Answer.TheVariants.{Taken, Range, Short}
use Rattle.ranges.specs.Valid.{valid_of}

-- one of the first n places passes
unfoldable pub some_of : (ℕ → Bool) → ℕ → Bool
some_of p zero = false
some_of p (suc n) = either (p n) (some_of p n)

-- a number is among the first n of a list
abbrev pub among : List ℕ → ℕ → ℕ → Bool
among xs x n = some_of (λ i. eqb (get_or xs i 0) x) n

-- an entry, if it is of the network: "either mark stands"
unfoldable pub stands : Bool → ℕ → ℕ → Bool
stands same forbidden barred = both same (either (flip (eqb forbidden 0)) (flip (eqb barred 0)))

-- "either mark stands on that access": at one of its first n entries
abbrev pub marked : List ℕ → List ℕ → List ℕ → ℕ → ℕ → Bool
marked nets forbidden barred net n = some_of (λ i. stands (eqb (get_or nets i 0) net) (get_or forbidden i 0) (get_or barred i 0)) n

-- "A network is left out exactly if either mark stands on that access or it was heard before in this list": the one at place n, by the first count entries
unfoldable pub left_out : List ℕ → ℕ → List ℕ → List ℕ → List ℕ → ℕ → Bool
left_out heard count nets forbidden barred n = either (among heard (get_or heard n 0) n) (marked nets forbidden barred (get_or heard n 0) count)

-- "the permitted ones for an access, in the order heard, each once": of the first n heard
unfoldable pub permitted_to : List ℕ → ℕ → List ℕ → List ℕ → List ℕ → ℕ → List ℕ
permitted_to heard count nets forbidden barred zero = []
permitted_to heard count nets forbidden barred (suc n) =
    cond (left_out heard count nets forbidden barred n) (permitted_to heard count nets forbidden barred n)
    (permitted_to heard count nets forbidden barred n ++ (get_or heard n 0 ∷ []))

unfoldable pub permitted_by : List ℕ → ℕ → Entries → List ℕ
permitted_by heard count t = permitted_to heard (entries_held count) t.nets t.forbidden t.barred (length heard)

unfoldable pub permitted_of : Record → ℕ → List ℕ → List ℕ
permitted_of r access heard = permitted_by heard (access_of r.hot access).entries (cond (eqb access 0) r.e0 r.e1)

-- "1 for access, more than 64, or a number above 24 bits", and for a bad record
unfoldable pub may_choose : Record → ℕ → List ℕ → Bool
may_choose r access heard = both (leb access 1) (both (leb (length heard) 64) (both (all_to is_short (length heard) heard) (valid_of r)))

-- "12 if the second list is shorter than the first": it has n places
unfoldable pub choice_answer : Record → ℕ → List ℕ → ℕ → Answer
choice_answer r access heard n = cond (may_choose r access heard) (cond (leb (length heard) n) Taken Short) Range

-- "their count", or the answer
unfoldable pub choice_of : Record → ℕ → List ℕ → ℕ → Result ℕ Answer
choice_of r access heard n = cond (is_taken (choice_answer r access heard n)) (Ok (length (permitted_of r access heard))) (Err (choice_answer r access heard n))

-- the second list after the call: "The rest of the second list stays"
unfoldable pub list_of : Record → ℕ → List ℕ → List ℕ → List ℕ
list_of r access heard list = cond (is_taken (choice_answer r access heard (length list))) (over (permitted_of r access heard) list) list
