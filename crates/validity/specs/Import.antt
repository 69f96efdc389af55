-- The record after an import, in document 02's words (R-8, R-9), and what is told of it. Assumes nothing.
use Rattle.std.specs.Prelude.{None, ℕ, ◌+◌, List, length}
use Rattle.networks.specs.Networks.{networks_in}
use Rattle.entries.specs.Places.{has_entry}
use Rattle.entries.specs.Entries.{file_taken, new_in}
use Rattle.record.specs.Setters.{with_entries}
use Rattle.record.specs.declared.Record.{Record}
use Rattle.record.specs.declared.Answer.TheVariants.{Taken}
use Rattle.turns.specs.declared.Told.TheVariants.{Left}
use Rattle.rules.specs.declared.Reply.{Reply}
use Rattle.rules.specs.Plan.{all_left}

-- "the distinct new networks" of a file
abbrev pub new_from : Record → List ℕ → List ℕ
new_from r file = new_in (λ m. has_entry r.hot.a0.entries m r.e0.nets) (networks_in file)

-- "into access 0": an entry more for each new network, and its networks marked, the last that were (R-9); all else stays
unfoldable pub import_record : Record → List ℕ → Record
import_record r file = record {
  hot = record { dev = r.hot.dev; a0 = with_entries (r.hot.a0.entries + length (new_from r file)) r.hot.a0; a1 = r.hot.a1 };
  e0 = file_taken file r.hot.a0.entries r.e0;
  e1 = r.e1;
  roaming = r.roaming;
  regional = r.regional;
  guti0 = r.guti0;
  guti1 = r.guti1;
  equivalents0 = r.equivalents0;
  equivalents1 = r.equivalents1;
  suci = r.suci;
  capability = r.capability;
  security = r.security;
}

-- no timer, no request
abbrev pub silence : Reply
silence = record { answer = Taken; c0 = all_left; c1 = all_left; t3247 = Left; t3512 = Left; restart = None; leave = None; update = None }
