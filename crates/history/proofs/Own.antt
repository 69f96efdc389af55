-- R-12: an access's entries are what its concerns make of none, so equal concerns give equal entries, whatever else happened. By induction on the events. Assumes nothing.
use Prim.Native.Nat.{ℕ, ◌<◌}
use mathlib.Core.Path.{◌≡◌, refl, sym, ◌∙◌, ap}
use mathlib.Core.Bool.{Bool, true, false, cond, true≢false}
use mathlib.Core.List.{List, [], ◌∷◌, reverse_aux}
use lib.Dec.{eqb}
use Rattle.entries.specs.Entries.{none}
use Rattle.record.specs.New.{new_device, new_access, empty_record, new_record}
use Rattle.record.specs.Answers.{is_taken}
use Rattle.record.specs.Sides.{access_of}
use Rattle.record.specs.declared.Record.{Record}
use Rattle.ranges.specs.Valid.{valid_of}
use Rattle.rules.specs.Plan.{access_in}
use Rattle.validity.specs.Answered.{answered_by}
use Rattle.validity.specs.Run.{Heard, run_of}
use Rattle.history.specs.Run.{answers_of}
use Rattle.history.specs.Cell.{entries_in}
use Rattle.history.specs.Tale.{Limits, is_one_of}
use Rattle.history.specs.History.{taken_of, pending_of, tale_of}
use Rattle.history.specs.Own.{Concern, concern_in, concerns_of, own_of, reaching_of}
use Rattle.history.proofs.Lined.{lined-has}
use Rattle.history.proofs.Next.{next, limits_of}
use Rattle.history.proofs.Stays.{small}
use Rattle.history.proofs.Runs.{run-keeps}
use Rattle.history.proofs.Demand3.{Agrees, agrees-taken, agrees-new}
use Rattle.history.proofs.Sides.{Side, side_in, side_after, after_both}
use Rattle.history.proofs.Concerns.{taken-side}

-- a new record's
abbrev new_side : Side
new_side = record { home = 0; net = 0; count = 0; table = none }

module _ (l : Limits) (w : ℕ) (hw : w < 2) (counts : List Heard → ℕ → Bool) (skip : (t : List Heard) (n : ℕ) → counts t n ≡ false → is_one_of n (tale_of l t w).held ≡ false) where
  -- the record agrees with the taken events, the latest first, and its side is what their concerns make
  abbrev Decided : Record → List Heard → Type 0
  Decided r t = Agrees l r t × (side_in r w ≡ side_after l w (concerns_of counts w t) new_side)

  decided-taken : (r : Record) (t : List Heard) → Decided r t → (x : Heard) → valid_of r ≡ true → is_taken (answered_by r x.event x.octets) ≡ true
      → Decided (next r x.event x.octets) (x ∷ t)
  unfolding concerns_of
  decided-taken r t g x v k = (
    agrees-taken l r t g.0 x v k,
    rw limits at (taken-side r x v k w hw (pending_of t) (sym (g.0.pending (access_in x.event) (small r x.event x.octets k))) (counts t) (λ n q. lined-has (g.0.few w hw) (g.0.tale w hw).lined n ∙ skip t n q))
        ∙ ap (side_after l w (concern_in w (pending_of t) (counts t) x)) g.1 ∙ sym (after_both l w (concern_in w (pending_of t) (counts t) x) (concerns_of counts w t) new_side),
  )
    where
      limits : limits_of r ≡ l
      limits = rw (g.0.ban, g.0.n1)

module _ (banlimit n1limit : ℕ) (w : ℕ) (hw : w < 2) where
  abbrev limits : Limits
  limits = record { ban = banlimit; n1 = n1limit }

  module _ (cardlimit : ℕ) (capability security : List ℕ) where
    abbrev made : Record
    made = new_record cardlimit banlimit n1limit capability security

    made-side : side_in made w ≡ new_side
    unfolding new_record empty_record new_device new_access access_of entries_in
    made-side = elim (eqb w 0) as (λ b. ◌≡◌ {A = Side} (record { home = 0; net = (cond b (new_access 0) (new_access 0)).net; count = (cond b (new_access 0) (new_access 0)).entries; table = cond b none none }) new_side) [ true ↦ refl | false ↦ refl ]

    run-side : (counts : List Heard → ℕ → Bool) → ((t : List Heard) (n : ℕ) → counts t n ≡ false → is_one_of n (tale_of limits t w).held ≡ false) → (xs : List Heard)
        → side_in (run_of made xs) w ≡ side_after limits w (concerns_of counts w (reverse_aux (taken_of xs (answers_of made xs)) [])) new_side
    unfolding concerns_of side_after
    run-side counts skip xs = (run-keeps (Decided limits w hw counts skip) (decided-taken limits w hw counts skip) xs made [] (agrees-new cardlimit banlimit n1limit capability security, made-side)).1

  -- Two new records with the same limits of the network counters, and the events that each was given.
  module _ (cardlimit cardlimit' : ℕ) (capability capability' security security' : List ℕ) (xs ys : List Heard) where
    abbrev one : Record
    one = made cardlimit capability security

    abbrev other : Record
    other = made cardlimit' capability' security'

    abbrev SameEntries : Type 0
    SameEntries = ((access_of (run_of one xs).hot w).entries ≡ (access_of (run_of other ys).hot w).entries) × (entries_in (run_of one xs) w ≡ entries_in (run_of other ys) w)

    equal : (counts : List Heard → ℕ → Bool) → ((t : List Heard) (n : ℕ) → counts t n ≡ false → is_one_of n (tale_of limits t w).held ≡ false)
        → concerns_of counts w (reverse_aux (taken_of xs (answers_of one xs)) []) ≡ concerns_of counts w (reverse_aux (taken_of ys (answers_of other ys)) []) → SameEntries
    equal counts skip p =
        let q =
        run-side cardlimit capability security counts skip xs ∙ ap (λ (cs : List Concern). side_after limits w cs new_side) p ∙ sym (run-side cardlimit' capability' security' counts skip ys) in
        (ap (λ (s : Side). s.count) q, ap (λ (s : Side). s.table) q)

    -- The same own events, and the same protected 27s over the other access: the same sixteen entries, and as many in use.
    pub entries-apart : own_of w xs (answers_of one xs) ≡ own_of w ys (answers_of other ys) → SameEntries
    unfolding own_of
    entries-apart p = equal (λ t n. true) (λ t n q. absurd (true≢false q)) p

    -- So too where those that were skipped differ.
    pub entries-apart-skipped : reaching_of limits w xs (answers_of one xs) ≡ reaching_of limits w ys (answers_of other ys) → SameEntries
    unfolding reaching_of
    entries-apart-skipped p = equal (λ t n. is_one_of n (tale_of limits t w).held) (λ t n q. q) p
