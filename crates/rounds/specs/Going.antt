-- A round from where it stands: what it leaves of the record, the table and the list lent. Assumes nothing.
use Rattle.std.specs.Prelude.{ℕ, ◌+◌, ◌*◌, List, length}
use Rattle.record.specs.declared.Record.{Record}
use Rattle.deadlines.specs.declared.Table.{Table}
use Rattle.rounds.specs.Words.{round_words, laid}
use Rattle.rounds.specs.Round.{Round, round_to}

pub record Gone : Type 0 where
  pub next : Record
  pub table : Table
  pub count : ℕ
  pub words : List ℕ

abbrev pub gone_by : Record → Table → ℕ → List ℕ → Gone
gone_by r t count words = record { next = r; table = t; count = count; words = words }

-- behind so many timers that ran out already
unfoldable pub gone_with : ℕ → List ℕ → Round → Gone
gone_with count words g = gone_by g.next g.table (count + length g.ran) (laid (count * 28) (round_words g.ran) words)

unfoldable pub gone_of : ℕ → ℕ → Record → Table → ℕ → List ℕ → Gone
gone_of n now r t count words = gone_with count words (round_to n now r t)
