-- The lengths of a record's arrays: those of its type. Assumes nothing.
use Rattle.std.specs.Prelude.{◌≡◌, length}
use Rattle.entries.specs.declared.Entries.{Entries}
use Rattle.record.specs.declared.Record.{Record}

-- sixteen entries in each column
pub record Columns (t : Entries) : Type 0 where
  pub nets : length t.nets ≡ 16
  pub bans : length t.bans ≡ 16
  pub n1s : length t.n1s ≡ 16
  pub forbidden : length t.forbidden ≡ 16
  pub barred : length t.barred ≡ 16
  pub ranks : length t.ranks ≡ 16

pub record Sized (r : Record) : Type 0 where
  pub e0 : Columns r.e0
  pub e1 : Columns r.e1
  pub roaming : length r.roaming ≡ 40
  pub regional : length r.regional ≡ 40
  pub guti0 : length r.guti0 ≡ 10
  pub guti1 : length r.guti1 ≡ 10
  pub equivalents0 : length r.equivalents0 ≡ 15
  pub equivalents1 : length r.equivalents1 ≡ 15
  pub suci : length r.suci ≡ 64
  pub capability : length r.capability ≡ 13
  pub security : length r.security ≡ 8
