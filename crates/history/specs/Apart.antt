-- One access's record: its numbers, its entries, its GUTI and its equivalent networks. Assumes nothing.
use Rattle.std.specs.Prelude.{ℕ, cond, List, eqb}
use Rattle.entries.specs.declared.Entries.{Entries}
use Rattle.record.specs.declared.Access.{Access}
use Rattle.record.specs.declared.Record.{Record}
use Rattle.record.specs.Sides.{access_of}
use Rattle.history.specs.Cell.{entries_in}

pub record Half : Type 0 where
  pub numbers : Access
  pub entries : Entries
  pub guti : List ℕ
  pub equivalents : List ℕ

unfoldable pub half_of : Record → ℕ → Half
half_of r w = record {
  numbers = access_of r.hot w;
  entries = entries_in r w;
  guti = cond (eqb w 0) r.guti0 r.guti1;
  equivalents = cond (eqb w 0) r.equivalents0 r.equivalents1;
}
