-- What the calls of C come to: a new record, an event as the event log has it, a request, the networks permitted, the card's file, and the version. Assumes nothing.
use Rattle.std.specs.Prelude.{ℕ, ◌+◌, cond, Result, Ok, Err, List, []}
use Rattle.record.specs.Answers.{number_of, is_taken}
use Rattle.record.specs.New.{made_of}
use Rattle.record.specs.declared.Record.{Record}
use Rattle.record.specs.declared.Made.{Made}
use Rattle.record.specs.declared.Answer.{Answer}
use Rattle.events.specs.declared.Outcome.{Outcome}
use Rattle.events.specs.Step.{step_of}
use Rattle.eventlog.specs.Log.{event_of, beside_of}
use Rattle.request.specs.Writing.{no_s1, written_of}
use Rattle.identity.specs.declared.S1.{S1}
use Rattle.cells.specs.Cells.{choice_of}
use Rattle.usim.specs.Usim.{listed_of}
use Rattle.image.specs.Same.{changed_of}
use Rattle.firmware.specs.declared.Notice.{Notice}
use Rattle.firmware.specs.Notice.{notice_of}

-- the answer to a new record by its number, and the record after it
pub record Opened : Type 0 where
  pub answer : ℕ
  pub next : Record

-- an event's answer by its number, what is told, and the record after it
pub record Taken : Type 0 where
  pub answer : ℕ
  pub notice : Notice
  pub next : Record

-- the answer to a request by its number, and how many octets were written: 0 with a refusal
pub record Wrote : Type 0 where
  pub answer : ℕ
  pub len : ℕ

-- "All but 0 change nothing": the record that was there stays
unfoldable pub new_by : Record → Made → Opened
new_by r m = record { answer = number_of m.answer; next = cond (is_taken m.answer) m.made r }

unfoldable pub new_of : Record → ℕ → ℕ → ℕ → List ℕ → List ℕ → Opened
new_of r cardlimit banlimit n1limit capability security = new_by r (made_of cardlimit banlimit n1limit capability security)

-- the notice tells whether the record behind the event is another
unfoldable pub heard_by : Record → Outcome → Taken
heard_by r o = record { answer = number_of o.reply.answer; notice = notice_of (changed_of r o.next) o.reply; next = o.next }

-- a kind and a body are an event and the octets beside it
unfoldable pub heard_as : Record → ℕ → List ℕ → Taken
heard_as r kind body = heard_by r (step_of r (event_of kind body) (beside_of kind body))

-- a number, or 256 plus the refusal's
abbrev pub number_or : Answer → ℕ → ℕ
number_or a n = cond (is_taken a) n (256 + number_of a)

abbrev pub number_in : Result ℕ Answer → ℕ
number_in (Ok n) = n
number_in (Err a) = 256 + number_of a

-- how many octets were written
unfoldable pub wrote_by : Result ℕ Answer → ℕ
wrote_by w = number_in w

-- a request over an access with nothing lent, into a buffer of n octets
unfoldable pub wrote_of : Record → ℕ → ℕ → ℕ
wrote_of r access n = wrote_by (written_of r access no_s1 [] n)

-- a length may be above 255: the answer and the length apart
unfoldable pub wrote_apart : Result ℕ Answer → Wrote
wrote_apart (Ok len) = record { answer = 0; len = len }
wrote_apart (Err a) = record { answer = number_of a; len = 0 }

-- a request with the S1 facts and the attach message lent, into a buffer of n octets
unfoldable pub wrote_from_s1 : Record → ℕ → S1 → List ℕ → ℕ → Wrote
wrote_from_s1 r access s1 attach n = wrote_apart (written_of r access s1 attach n)

-- how many networks are permitted
unfoldable pub picked_by : Result ℕ Answer → ℕ
picked_by c = number_in c

-- of those heard over an access, into a list of n places
unfoldable pub picked_of : Record → ℕ → List ℕ → ℕ → ℕ
picked_of r access heard n = picked_by (choice_of r access heard n)

-- how many networks are forbidden
unfoldable pub filed_by : Result ℕ Answer → ℕ
filed_by l = number_in l

-- over access 0, into a file of n octets
unfoldable pub filed_of : Record → ℕ → ℕ
filed_of r n = filed_by (listed_of r n)

-- 0.12.0: ten thousand times the first number, a hundred times the second, and the third
abbrev pub version : ℕ
version = 1200
