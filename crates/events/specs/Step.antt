-- An event on the record: test it, decide, carry out. Assumes nothing.
use Rattle.std.specs.Prelude.{ℕ, cond, List}
use Rattle.ranges.specs.Valid.{valid_of}
use Rattle.record.specs.declared.Hot.{Hot}
use Rattle.record.specs.declared.Record.{Record}
use Rattle.record.specs.declared.Answer.TheVariants as answer
use Rattle.rules.specs.declared.Event.{Event}
use Rattle.rules.specs.Plan.{refused_reply}
use Rattle.events.specs.declared.Outcome.{Outcome}
use Rattle.events.specs.Parts.{Parts, parts_after, Kept, kept_of, kept_after}

-- the parts together, with the capabilities, which stay
unfoldable pub together : Record → Parts → Kept → Outcome
together r p k = record {
  reply = p.done.plan.reply;
  next = record {
    hot = p.done.hot;
    e0 = p.e0;
    e1 = p.e1;
    roaming = p.roaming;
    regional = p.regional;
    guti0 = k.guti0;
    guti1 = k.guti1;
    equivalents0 = k.equivalents0;
    equivalents1 = k.equivalents1;
    suci = k.suci;
    capability = r.capability;
    security = r.security;
  };
}

abbrev pub kept_in : Record → Kept
kept_in r = kept_of r.guti0 r.guti1 r.equivalents0 r.equivalents1 r.suci

-- the record with other numbers
abbrev pub with_hot : Hot → Record → Record
with_hot h r = record {
  hot = h;
  e0 = r.e0;
  e1 = r.e1;
  roaming = r.roaming;
  regional = r.regional;
  guti0 = r.guti0;
  guti1 = r.guti1;
  equivalents0 = r.equivalents0;
  equivalents1 = r.equivalents1;
  suci = r.suci;
  capability = r.capability;
  security = r.security;
}

-- the record with other of these, and all else as it was
unfoldable pub with_kept : Kept → Record → Record
with_kept k r = record {
  hot = r.hot;
  e0 = r.e0;
  e1 = r.e1;
  roaming = r.roaming;
  regional = r.regional;
  guti0 = k.guti0;
  guti1 = k.guti1;
  equivalents0 = k.equivalents0;
  equivalents1 = k.equivalents1;
  suci = k.suci;
  capability = r.capability;
  security = r.security;
}

unfoldable pub joined_of : Record → List ℕ → Parts → Outcome
joined_of r octets p = together r p (kept_after p.done.plan octets (kept_in r))

-- an event on a record that is not tested
unfoldable pub advance_of : Record → Event → List ℕ → Outcome
advance_of r e octets = joined_of r octets (parts_after r.hot e octets r.e0 r.e1 r.roaming r.regional)

-- "A record handed in is answer 1 if .."; 1 is the first check of every event
unfoldable pub step_of : Record → Event → List ℕ → Outcome
step_of r e octets = cond (valid_of r) (advance_of r e octets) (record { reply = refused_reply answer.Range 0; next = r })
