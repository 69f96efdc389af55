-- What a taken event makes of an access's entries and of their count: what its deed for that access makes of them. All that is shown of entries hangs on this.
-- Assumes nothing.
use Prim.Native.Nat.{ℕ, ◌<◌}
use mathlib.Core.Path.{◌≡◌, refl, ◌∙◌, ap}
use mathlib.Core.Bool.{Bool, true, false, cond}
use mathlib.Core.List.{List}
use lib.Dec.{eqb}
use borrow.Author.Tests.{eqb-true}
use Rattle.record.specs.Answers.{is_taken}
use Rattle.record.specs.Sides.{access_of}
use Rattle.record.specs.declared.Access.{Access}
use Rattle.record.specs.declared.Record.{Record}
use Rattle.entries.specs.Entries.{entries_after}
use Rattle.rules.specs.declared.Event.{Event}
use Rattle.rules.specs.Plan.{access_in}
use Rattle.validity.specs.Answered.{answered_by}
use Rattle.validity.proofs.Refusal.{effect_in}
use Rattle.history.specs.Cell.{entries_in}
use Rattle.history.proofs.Deeds.{count_by}
use Rattle.history.proofs.Next.{other-of, next, deed_in, taken-entries, taken-count}
use Rattle.history.proofs.Stays.{filed_in, small, event-counts}

module _ (r : Record) (e : Event) (octets : List ℕ) (t : is_taken (answered_by r e octets) ≡ true) (w : ℕ) (hw : w < 2) where
  abbrev count : ℕ
  count = (access_of r.hot w).entries

  count-step : (access_of (next r e octets).hot w).entries ≡ count_by (deed_in r e octets w) (filed_in r octets) count
  count-step = taken-count r e octets t (small r e octets t) w hw ∙ go (eqb (access_in e) w) refl
    where
      go : (s : Bool) → eqb (access_in e) w ≡ s
          → cond (eqb (access_in e) w) (effect_in r e octets).mine.access.entries (effect_in r e octets).theirs.access.entries ≡ count_by (deed_in r e octets w) (filed_in r octets) count
      go true q = rw q ((event-counts r e octets t).mine ∙ ap (λ (b : ℕ). count_by (effect_in r e octets).work.mine (filed_in r octets) (access_of r.hot b).entries) (eqb-true (access_in e) w q))
      go false q =
          rw q ((event-counts r e octets t).theirs
          ∙ ap (λ (a : Access). count_by (effect_in r e octets).work.theirs (filed_in r octets) a.entries) (other-of r.hot (access_in e) w (small r e octets t) hw q))

  pub event-table : ((access_of (next r e octets).hot w).entries ≡ count_by (deed_in r e octets w) (filed_in r octets) count)
      × (entries_in (next r e octets) w ≡ entries_after (deed_in r e octets w) octets count r.hot.dev.banlimit r.hot.dev.n1limit (entries_in r w))
  event-table = (count-step, taken-entries r e octets t w hw)
