-- The answer of an event on a record, before anything is done. Assumes nothing.
use Rattle.std.specs.Prelude.{Bool, List, ℕ}
use Rattle.entries.specs.declared.Seen.{Seen}
use Rattle.record.specs.declared.Answer.{Answer}
use Rattle.record.specs.declared.Record.{Record}
use Rattle.rules.specs.declared.Ask.{Ask}
use Rattle.rules.specs.declared.Event.{Event}
use Rattle.rules.specs.Plan.{ask_of, site_of, answer_of}
use Rattle.events.specs.Parts.{seen_of, listed_of}

-- what the event asks about
abbrev pub ask_in : Record → Event → Ask
ask_in r e = ask_of r.hot e

-- what stands about its network or its file, and whether its area is listed
abbrev pub seen_at : Record → Event → List ℕ → Seen
seen_at r e octets = seen_of (ask_in r e) octets r.hot r.e0 r.e1

abbrev pub listed_at : Record → Event → Bool
listed_at r e = listed_of (site_of e) r.hot r.roaming r.regional

unfoldable pub answered_by : Record → Event → List ℕ → Answer
answered_by r e octets = answer_of r.hot e (seen_at r e octets) (listed_at r e) octets
