-- An import changes what document 02 names and nothing else, and asks for nothing. Assumes nothing.
use Prim.Native.Nat.{ℕ}
use mathlib.Core.Path.{◌≡◌, refl, ◌∙◌}
use mathlib.Core.Bool.{Bool, true, false, cond, false≢true}
use mathlib.Core.List.{List}
use Rattle.entries.specs.Entries.{held_with, marks_after, ranks_after, is_import, with_file, entries_after}
use Rattle.areas.specs.Areas.{list_after, count_after}
use Rattle.record.specs.declared.Record.{Record}
use Rattle.record.specs.Answers.{is_taken}
use Rattle.record.specs.Setters.{with_entries}
use Rattle.record.specs.Sides.{hot_of}
use Rattle.ranges.specs.Valid.{valid_of}
use Rattle.turns.specs.Timers.{flag_after, told_of, clocks_of, clocked}
use Rattle.checks.specs.Answers.{import_range}
use Rattle.effects.specs.Effects.{ticked, import_effect}
use Rattle.rules.specs.declared.Event.TheVariants.{Import}
use Rattle.rules.specs.Plan.{ask_of, access_in, answer_of, effect_of, hot_after, taken_reply, refused_reply, taken_plan, deed_on, deed_of}
use Rattle.events.specs.Parts.{file_seen, seen_by, seen_of, table_after, with_counts, done_of, carried_out, guti_after, equivalents_after, suci_after, kept_after}
use Rattle.events.specs.Step.{together, joined_of, advance_of, step_of}
use Rattle.validity.specs.Answered.{seen_at, answered_by}
use Rattle.validity.specs.Import.{import_record, silence}
use Rattle.validity.proofs.Imports.{held-is}
use Rattle.validity.proofs.Refusal.{taken-plan, step-taken}
use Rattle.validity.proofs.Taken.{import-passed}
use Rattle.validity.proofs.Valid.{valid-good}

module _ (r : Record) (file : List ℕ) where
  -- with as many entries as are held then
  carried : is_taken (answered_by r Import file) ≡ true → cond (import_range file) (held_with r.hot.a0.entries file r.e0.nets) 0 ≡ (import_record r file).hot.a0.entries
      → advance_of r Import file ≡ record { reply = silence; next = import_record r file }
  unfolding import_record with_entries ticked joined_of together carried_out done_of with_counts taken_plan taken_reply hot_after hot_of effect_of import_effect clocked clocks_of told_of flag_after access_in ask_of seen_of seen_by file_seen table_after deed_of deed_on entries_after with_file is_import ranks_after marks_after list_after count_after kept_after guti_after equivalents_after suci_after
  carried t e = rw (taken-plan r Import file t) (rw e)

  pub step-import : is_taken (step_of r Import file).reply.answer ≡ true → step_of r Import file ≡ record { reply = silence; next = import_record r file }
  unfolding step_of answered_by answer_of ask_of seen_of seen_by file_seen import_record with_entries refused_reply is_taken
  step-import t = go (valid_of r) refl
    where
      go : (b : Bool) → valid_of r ≡ b → step_of r Import file ≡ record { reply = silence; next = import_record r file }
      go true v =
          let k = step-taken r Import file t in
          let p = import-passed (seen_at r Import file) k.1 in
          k.0 ∙ carried k.1 (rw p.0 (held-is r.hot.a0.entries file r.e0 (valid-good r v).half0.fit.entries (rw p.0 at p.1)).0)
      go false v = absurd (false≢true (rw v at t))
