-- Document 02, R-8: the USIM file of forbidden networks, written from access 0, and what the call answers. Assumes nothing.
use Rattle.std.specs.Prelude.{ℕ, zero, suc, ◌*◌, ◌-◌, ◌%◌, Bool, cond, List, [], ◌∷◌, ◌++◌, length, get_or, replicate, leb, eqb, Result, Ok, Err}
use Rattle.networks.specs.Networks.{octets_of}
use Rattle.entries.specs.Places.{entries_held}
use Rattle.record.specs.Tests.{both}
use Rattle.record.specs.Answers.{is_taken}
use Rattle.record.specs.declared.Record.{Record}
use Rattle.record.specs.declared.Answer.{Answer}
use Rattle.record.specs.declared.Answer.TheVariants.{Taken, Range, Short}
use Rattle.ranges.specs.Valid.{valid_of}

-- "marked networks in entry order": of the first n entries
unfoldable pub marked_to : ℕ → List ℕ → List ℕ → List ℕ
marked_to zero nets forbidden = []
marked_to (suc n) nets forbidden = cond (eqb (get_or forbidden n 0) 0) (marked_to n nets forbidden) (marked_to n nets forbidden ++ (get_or nets n 0 ∷ []))

-- those of access 0
unfoldable pub marked_of : Record → List ℕ
marked_of r = marked_to (entries_held r.hot.a0.entries) r.e0.nets r.e0.forbidden

-- "marked networks .., then FF to the end" of a file of n octets
unfoldable pub file_of : List ℕ → ℕ → List ℕ
file_of nets n = octets_of nets ++ replicate (n - length nets * 3) 0xFF

-- "1 for a length not a multiple of three", and for a bad record
unfoldable pub may_write : Record → ℕ → Bool
may_write r n = both (eqb (n % 3) 0) (valid_of r)

-- 1, "12 if the file is shorter than the list"
unfoldable pub write_answer : Record → ℕ → Answer
write_answer r n = cond (may_write r n) (cond (leb (length (marked_of r) * 3) n) Taken Short) Range

-- how many networks the list has, or the answer
unfoldable pub listed_of : Record → ℕ → Result ℕ Answer
listed_of r n = cond (is_taken (write_answer r n)) (Ok (length (marked_of r))) (Err (write_answer r n))

-- the file after the call
unfoldable pub file_after : Record → List ℕ → List ℕ
file_after r file = cond (is_taken (write_answer r (length file))) (file_of (marked_of r) (length file)) file
