-- A taken reject does what its row's text says: the plan's deeds and tasks are the text's mark and lists. Assumes nothing.
use Prim.Native.Nat.{ℕ, zero, suc}
use mathlib.Core.Path.{◌≡◌, refl}
use mathlib.Core.Bool.{Bool, true, false, cond}
use mathlib.Core.List.{List}
use Rattle.std.specs.Prelude.{Ok}
use Rattle.entries.specs.declared.Entries.{Entries}
use Rattle.entries.specs.declared.Seat.{Seat}
use Rattle.entries.specs.declared.Deed.{Deed}
use Rattle.entries.specs.declared.Deed.TheVariants as deed
use Rattle.entries.specs.Entries.{found_in, seen_in, banned, barred_by, n1_to_limit, marks_after, ranks_after, is_import, with_file, entries_after}
use Rattle.areas.specs.Areas.{area_of, placed, placed_count, list_after, count_after}
use Rattle.messages.specs.declared.Reject.{Reject}
use Rattle.messages.specs.declared.Message.TheVariants as message
use Rattle.messages.specs.Message.{reading_of}
use Rattle.record.specs.declared.Record.{Record}
use Rattle.record.specs.Answers.{is_taken}
use Rattle.record.specs.Sides.{access_of, other_of, hot_of}
use Rattle.record.specs.Tests.{is_flag}
use Rattle.turns.specs.declared.Draws.{Draws}
use Rattle.turns.specs.Words.{Mark, no_mark, forbidden_and_counted, n1_not_allowed_and_counted, mark_in}
use Rattle.turns.specs.Rejects.{row_text, to_roaming, to_regional, across_n1}
use Rattle.turns.specs.Timers.{flag_after}
use Rattle.turns.specs.Turns.{row_turn, other_turn}
use Rattle.checks.specs.Answers.{row_now}
use Rattle.effects.specs.Effects.{ticked, mark_deed, row_deed, row_work, reject_effect}
use Rattle.areas.specs.declared.Task.{Task}
use Rattle.areas.specs.declared.Task.TheVariants as task
use Rattle.rules.specs.declared.Event.TheVariants.{Message}
use Rattle.rules.specs.declared.Plan.{Plan}
use Rattle.rules.specs.Plan.{ask_of, access_in, answer_of, message_effect, effect_of, hot_after, taken_plan, deed_on, deed_of}
use Rattle.events.specs.Parts.{sight_of, seen_by, seen_of, table_after, with_counts, done_of, carried_out, guti_after, equivalents_after, suci_after, kept_after}
use Rattle.events.specs.Step.{together, joined_of, advance_of, step_of}
use Rattle.validity.specs.Answered.{answered_by}
use Rattle.validity.specs.Reject.{seat, marked_in, record_after, reject_record}
use Rattle.validity.proofs.Refusal.{carry, taken-plan, step-taken}
use Rattle.validity.proofs.Taken.{message-passed}
use Rattle.validity.proofs.Own.{no_third, pending_seen}

-- a list that the area is put on, or not
list_put : (b : Bool) (net code protected n : ℕ) (xs : List ℕ) → list_after (cond {A = Task} b (task.Put net code protected) task.Nothing) n xs ≡ cond b (placed (area_of net code) protected n xs) xs
unfolding list_after
list_put true net code protected n xs = refl
list_put false net code protected n xs = refl

count-put : (b : Bool) (net code protected n : ℕ) (xs : List ℕ) → count_after (cond {A = Task} b (task.Put net code protected) task.Nothing) n xs ≡ cond b (placed_count (area_of net code) n xs) n
unfolding count_after
count-put true net code protected n xs = refl
count-put false net code protected n xs = refl

-- the entries of the other access
entry-across : (octets : List ℕ) (b : Bool) (net count banlimit n1limit : ℕ) (t : Entries)
    → entries_after (cond {A = Deed} b (deed.ToLimit net) deed.Nothing) octets count banlimit n1limit t ≡ cond b (n1_to_limit net count n1limit t) t
unfolding n1_to_limit entries_after with_file is_import ranks_after marks_after
entry-across octets true net count banlimit n1limit t = refl
entry-across octets false net count banlimit n1limit t = refl

-- the entries of the receiving access
entry-marked : (octets : List ℕ) (m : Mark) (k : Seat) (count banlimit n1limit : ℕ) (t : Entries)
    → entries_after (mark_deed m k) octets count banlimit n1limit t ≡ marked_in m k count banlimit n1limit t
unfolding banned barred_by entries_after with_file is_import ranks_after marks_after mark_deed marked_in
entry-marked octets no_mark k count banlimit n1limit t = refl
entry-marked octets forbidden_and_counted k count banlimit n1limit t = refl
entry-marked octets n1_not_allowed_and_counted k count banlimit n1limit t = refl

module _ (r : Record) (protected : ℕ) (draws : Draws) (g : Reject) (octets : List ℕ) where
  abbrev reject_plan : ℕ → Plan
  reject_plan w = taken_plan r.hot w (reject_effect r.hot w protected draws (pending_seen r octets w) g (row_now r.hot w protected g))

  -- over access 0, and over access 1
  carried : (w : ℕ) → is_flag w ≡ true → (carry r octets (reject_plan w)).next ≡ reject_record r w protected draws g
  unfolding joined_of together carried_out done_of with_counts taken_plan hot_after hot_of ticked flag_after reject_effect row_turn other_turn row_work row_deed to_roaming to_regional across_n1 access_of other_of seen_of seen_by sight_of seen_in found_in kept_after guti_after equivalents_after suci_after reject_record record_after table_after deed_of deed_on
  carried zero h = rw (
    entry-marked octets (mark_in (row_text (row_now r.hot 0 protected g))) (seat protected r.hot.a0 r.e0) r.hot.a0.entries r.hot.dev.banlimit r.hot.dev.n1limit r.e0,
    entry-across octets (across_n1 0 protected g.cause (row_now r.hot 0 protected g)) r.hot.a0.net r.hot.a1.entries r.hot.dev.banlimit r.hot.dev.n1limit r.e1,
    list_put (to_roaming 0 g.cause (row_now r.hot 0 protected g)) r.hot.a0.net r.hot.a0.code protected r.hot.dev.roaming r.roaming,
    count-put (to_roaming 0 g.cause (row_now r.hot 0 protected g)) r.hot.a0.net r.hot.a0.code protected r.hot.dev.roaming r.roaming,
    list_put (to_regional 0 g.cause (row_now r.hot 0 protected g)) r.hot.a0.net r.hot.a0.code protected r.hot.dev.regional r.regional,
    count-put (to_regional 0 g.cause (row_now r.hot 0 protected g)) r.hot.a0.net r.hot.a0.code protected r.hot.dev.regional r.regional,
  )
  carried (suc zero) h = rw (
    entry-marked octets (mark_in (row_text (row_now r.hot 1 protected g))) (seat protected r.hot.a1 r.e1) r.hot.a1.entries r.hot.dev.banlimit r.hot.dev.n1limit r.e1,
    entry-across octets (across_n1 1 protected g.cause (row_now r.hot 1 protected g)) r.hot.a1.net r.hot.a0.entries r.hot.dev.banlimit r.hot.dev.n1limit r.e0,
    list_put (to_roaming 1 g.cause (row_now r.hot 1 protected g)) r.hot.a1.net r.hot.a1.code protected r.hot.dev.roaming r.roaming,
    count-put (to_roaming 1 g.cause (row_now r.hot 1 protected g)) r.hot.a1.net r.hot.a1.code protected r.hot.dev.roaming r.roaming,
    list_put (to_regional 1 g.cause (row_now r.hot 1 protected g)) r.hot.a1.net r.hot.a1.code protected r.hot.dev.regional r.regional,
    count-put (to_regional 1 g.cause (row_now r.hot 1 protected g)) r.hot.a1.net r.hot.a1.code protected r.hot.dev.regional r.regional,
  )
  carried (suc (suc w)) h = absurd (no_third w h)

  -- a message that was read as a reject, and taken
  pub reject-is : (w : ℕ) → reading_of octets ≡ Ok (message.Reject g) → is_taken (answered_by r (Message w protected draws) octets) ≡ true
      → (advance_of r (Message w protected draws) octets).next ≡ reject_record r w protected draws g
  unfolding effect_of message_effect ask_of access_in answered_by answer_of
  reject-is w read taken =
      rw (taken-plan r (Message w protected draws) octets taken, read)
      (carried w (message-passed r.hot w protected draws (reading_of octets) (pending_seen r octets w) taken).0)

  -- the same of a step, which tests the record first
  pub step-reject : (w : ℕ) → reading_of octets ≡ Ok (message.Reject g) → is_taken (step_of r (Message w protected draws) octets).reply.answer ≡ true
      → (step_of r (Message w protected draws) octets).next ≡ reject_record r w protected draws g
  step-reject w read taken =
      let v = step-taken r (Message w protected draws) octets taken in
      rw v.0 (reject-is w read v.1)
