-- The edition of the identity order is that of the last card taken: by induction on the events. Assumes nothing.
use Prim.Native.Nat.{ℕ}
use mathlib.Core.Path.{◌≡◌, refl, ◌∙◌, ap}
use mathlib.Core.List.{List, [], reverse}
use Rattle.record.specs.New.{new_device, new_access, empty_record, new_record}
use Rattle.record.specs.declared.Record.{Record}
use Rattle.validity.specs.Run.{Heard, run_of}
use Rattle.history.specs.Run.{answers_of}
use Rattle.history.specs.History.{taken_of, edition_after, edition_of}
use Rattle.history.proofs.Steps.{edition-step}
use Rattle.history.proofs.Runs.{run-keeps}

abbrev Kept : Record → List Heard → Type 0
Kept r t = r.hot.dev.edition ≡ edition_of t

module _ (cardlimit banlimit n1limit : ℕ) (capability security : List ℕ) (xs : List Heard) where
  abbrev made : Record
  made = new_record cardlimit banlimit n1limit capability security

  -- from any new record, after any events; before any card it is document 01's
  pub edition-kept : (run_of made xs).hot.dev.edition ≡ edition_of (reverse (taken_of xs (answers_of made xs)))
  unfolding new_record empty_record new_device new_access edition_of
  edition-kept = run-keeps Kept (λ r t g x v k. edition-step r x.event x.octets k ∙ ap (edition_after x.event) g) xs made [] refl
