-- What the calls that keep a record over a power cut come to: an image saved, and one loaded. Assumes nothing.
use Rattle.std.specs.Prelude.{ℕ, Result, Ok, Err, List}
use Rattle.record.specs.Answers.{number_of}
use Rattle.record.specs.declared.Record.{Record}
use Rattle.deadlines.specs.declared.Table.{Table}
use Rattle.image.specs.declared.Loaded.{Loaded}
use Rattle.image.specs.declared.Refusal.{Refusal}
use Rattle.image.specs.Image.{save_answer, kept_by, load_of, refusal_number}

-- the answer to octets that were to be loaded by its number, and the record, the table and the serial after it
pub record Regained : Type 0 where
  pub answer : ℕ
  pub next : Record
  pub table : Table
  pub serial : ℕ

-- into a buffer of n octets
unfoldable pub saved_of : Record → ℕ → ℕ
saved_of r n = number_of (save_answer r n)

-- 0, or the refusal's number
unfoldable pub regained_number : Result Loaded Refusal → ℕ
regained_number (Ok f) = 0
regained_number (Err e) = refusal_number e

unfoldable pub regained_by : Record → Table → ℕ → Result Loaded Refusal → Regained
regained_by r t serial l = record { answer = regained_number l; next = (kept_by r t serial l).next; table = (kept_by r t serial l).table; serial = (kept_by r t serial l).serial }

-- of these octets, into what is lent
unfoldable pub regained_of : Record → Table → ℕ → List ℕ → Regained
regained_of r t serial s = regained_by r t serial (load_of s)
