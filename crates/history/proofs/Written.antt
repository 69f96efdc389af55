-- The card's file, there and back: what a record writes, taken in by a record just given that card, gives each network the same forbidden mark. A network is in the
-- file exactly if its own entry is marked, since it has no other; the file reads back as the networks written; and an import puts exactly those on the list. Assumes nothing.
use Prim.Native.Nat.{ℕ, zero, suc, ◌+◌, ◌*◌, ◌%◌, ◌≤◌, ◌<◌}
use mathlib.Core.Path.{◌≡◌, refl, sym, ◌∙◌, ap}
use mathlib.Core.Bool.{Bool, true, false, cond, false≢true, ◌||◌}
use mathlib.Core.List.{List, [], ◌∷◌, ◌++◌}
use mathlib.Core.Logic.{◌≢◌}
use native.Mathlib.Omega.{arith}
use lib.Dec.{leb, ltb, eqb}
use lib.ListN.{length, get_or}
use borrow.Author.Tests.{leb-true, le-leb, ltb-true, ltb-false, lt-ltb, le-ltb, eqb-true, eqb-false, ne_eqb}
use Rattle.laws.specs.Upto.{seek_to, every}
use Rattle.laws.proofs.Seek.{seek_found, seek-before, seek_is}
use Rattle.networks.specs.Networks.{networks_in}
use Rattle.entries.specs.Places.{same_net, entries_held, place_in, has_entry, peek_at}
use Rattle.entries.specs.Entries.{is_filed, new_in, held_with}
use Rattle.entries.proofs.Joining.{held_fits}
use Rattle.record.specs.Tests.{is_flag}
use Rattle.record.specs.Network.{is_network}
use Rattle.record.specs.Answers.{is_taken}
use Rattle.record.specs.Sides.{access_of}
use Rattle.record.specs.New.{new_access, empty_record}
use Rattle.record.specs.declared.Record.{Record}
use Rattle.record.specs.declared.Answer.TheVariants.{Taken, Range, Short}
use Rattle.record.proofs.Bounds.{one, rest}
use Rattle.ranges.specs.Valid.{itself, valid_of}
use Rattle.checks.specs.Answers.{import_range, import_answer}
use Rattle.rules.specs.declared.Event.TheVariants.{Card, Import}
use Rattle.rules.specs.Plan.{ask_of, answer_of, refused_reply}
use Rattle.events.specs.declared.Outcome.{Outcome}
use Rattle.events.specs.Parts.{file_seen, seen_by, seen_of}
use Rattle.events.specs.Step.{advance_of, step_of}
use Rattle.usim.specs.Usim.{marked_to, marked_of, file_of, may_write, write_answer, file_after}
use Rattle.usim.proofs.Steps.{marked-most}
use Rattle.usim.proofs.Back.{file-length, reads-back}
use Rattle.validity.specs.Answered.{answered_by}
use Rattle.validity.specs.Card.{card_record}
use Rattle.validity.specs.Run.{Octets}
use Rattle.validity.specs.Sized.{Sized}
use Rattle.validity.proofs.Arrays.{All, Once}
use Rattle.validity.proofs.Bools.{most-is}
use Rattle.validity.proofs.Card.{card-is-new}
use Rattle.validity.proofs.Good.{Good}
use Rattle.validity.proofs.Kept.{valid-kept, step-advances}
use Rattle.validity.proofs.Refusal.{answer-told, step-taken}
use Rattle.validity.proofs.Sizes.{advance-sized}
use Rattle.validity.proofs.Valid.{valid-good}
use Rattle.history.specs.Cell.{cell_in, entries_in, cell_of}
use Rattle.history.specs.Tale.{Cell, Limits, mark_of}
use Rattle.history.proofs.Said.{mark_after, cell_after, imported, quiet}
use Rattle.history.proofs.Next.{limits_of}
use Rattle.history.proofs.News.{import-cell}

among-more : (n : ℕ) (xs : List ℕ) (y : ℕ) → is_filed n (xs ++ (y ∷ [])) ≡ (is_filed n xs || eqb y n)
unfolding is_filed
among-more n [] y = either-last (eqb y n)
  where
    either-last : (b : Bool) → cond b true false ≡ b
    either-last true = refl
    either-last false = refl
among-more n (x ∷ xs) y = ap (λ (s : Bool). cond (eqb x n) true s) (among-more n xs y) ∙ assoc (eqb x n) (is_filed n xs) (eqb y n)
  where
    assoc : (a b c : Bool) → cond a true (b || c) ≡ (cond a true b || c)
    assoc true b c = refl
    assoc false b c = refl

either-not : (b : Bool) → mark_of (b || false) ≡ mark_of b
either-not true = refl
either-not false = refl

either-so : (b : Bool) → mark_of (b || true) ≡ 1
either-so true = refl
either-so false = refl

-- the place of a network among one entry more
module _ (nets forbidden : List ℕ) (net : ℕ) where
  abbrev place : ℕ → ℕ
  place n = seek_to (same_net net) n nets

  place_kept : (n : ℕ) → place n < n → place (suc n) ≡ place n
  place_kept n h = seek_is (same_net net) (suc n) nets (place n) (omega arith) (seek-before (same_net net) n nets) (λ g. seek_found (same_net net) n nets h)

  place-new : (n : ℕ) → n ≤ place n → eqb (get_or nets n 0) net ≡ true → place (suc n) ≡ n
  place-new n h e = seek_is (same_net net) (suc n) nets n (omega arith) (λ k g. seek-before (same_net net) n nets k (omega arith)) (λ g. e)

  place_none : (n : ℕ) → n ≤ place n → eqb (get_or nets n 0) net ≡ false → place (suc n) ≡ suc n
  place_none n h e = seek_is (same_net net) (suc n) nets (suc n) (omega arith) none (λ g. absurd (omega arith))
    where
      none : (k : ℕ) → k < suc n → same_net net (get_or nets k 0) ≡ false
      none k g = go (eqb k n) refl
        where
          go : (b : Bool) → eqb k n ≡ b → same_net net (get_or nets k 0) ≡ false
          go true q = rw (eqb-true k n q) e
          go false q = seek-before (same_net net) n nets k (let d : k ≢ n = eqb-false k n q in omega arith)

  -- what is read at its place, found or not
  at_place : (n : ℕ) → place n < n → peek_at forbidden (place n) n ≡ get_or forbidden (place n) 0
  unfolding peek_at
  at_place n h = rw (lt-ltb (place n) n h)

  at-later : (n at : ℕ) → at < suc n → peek_at forbidden at (suc n) ≡ get_or forbidden at 0
  unfolding peek_at
  at-later n at h = rw (lt-ltb at (suc n) h)

  no_place : (n : ℕ) → n ≤ place n → peek_at forbidden (place n) n ≡ 0
  unfolding peek_at
  no_place n h = rw (le-ltb (place n) n h)

  -- a mark that is not 0 is 1
  is-flag : (m : ℕ) → is_flag m ≡ true → eqb m 0 ≡ false → m ≡ 1
  is-flag m f e = let d : m ≢ 0 = eqb-false m 0 e in let l : m ≤ 1 = leb-true m 1 f in omega arith

  -- the entry at n, marked or not
  marks-more : (n : ℕ) → Once itself (suc n) nets → All is_flag (suc n) forbidden → mark_of (is_filed net (marked_to n nets forbidden)) ≡ peek_at forbidden (place n) n
      → mark_of (is_filed net (marked_to (suc n) nets forbidden)) ≡ peek_at forbidden (place (suc n)) (suc n)
  unfolding marked_to
  marks-more n o f before = go (eqb (get_or forbidden n 0) 0) refl (ltb (place n) n) refl (eqb (get_or nets n 0) net) refl
    where
      Goal : Type 0
      Goal = mark_of (is_filed net (cond (eqb (get_or forbidden n 0) 0) (marked_to n nets forbidden) (marked_to n nets forbidden ++ (get_or nets n 0 ∷ [])))) ≡ peek_at forbidden (place (suc n)) (suc n)

      -- what is read after it: where it was, at the new entry, nowhere
      was : place n < n → peek_at forbidden (place (suc n)) (suc n) ≡ mark_of (is_filed net (marked_to n nets forbidden))
      was h = rw (place_kept n h) (at-later n (place n) (omega arith) ∙ sym (at_place n h) ∙ sym before)

      new : n ≤ place n → eqb (get_or nets n 0) net ≡ true → peek_at forbidden (place (suc n)) (suc n) ≡ get_or forbidden n 0
      new h e = rw (place-new n h e) (at-later n n (omega arith))

      nowhere : n ≤ place n → eqb (get_or nets n 0) net ≡ false → peek_at forbidden (place (suc n)) (suc n) ≡ 0
      nowhere h e = no_place (suc n) (rw (place_none n h e) (omega arith))

      -- two entries are not of one network
      other : place n < n → eqb (get_or nets n 0) net ≡ false
      other h = ne_eqb (get_or nets n 0) net (λ e. o (place n) n h (omega arith) (eqb-true (get_or nets (place n) 0) net (seek_found (same_net net) n nets h) ∙ sym e))

      none : n ≤ place n → mark_of (is_filed net (marked_to n nets forbidden)) ≡ 0
      none h = before ∙ no_place n h

      with-last : mark_of (is_filed net (marked_to n nets forbidden ++ (get_or nets n 0 ∷ []))) ≡ mark_of (is_filed net (marked_to n nets forbidden) || eqb (get_or nets n 0) net)
      with-last = ap mark_of (among-more net (marked_to n nets forbidden) (get_or nets n 0))

      last-not : eqb (get_or nets n 0) net ≡ false → mark_of (is_filed net (marked_to n nets forbidden ++ (get_or nets n 0 ∷ []))) ≡ mark_of (is_filed net (marked_to n nets forbidden))
      last-not e = with-last ∙ rw e (either-not (is_filed net (marked_to n nets forbidden)))

      last-is : eqb (get_or nets n 0) net ≡ true → mark_of (is_filed net (marked_to n nets forbidden ++ (get_or nets n 0 ∷ []))) ≡ 1
      last-is e = with-last ∙ rw e (either-so (is_filed net (marked_to n nets forbidden)))

      go : (b : Bool) → eqb (get_or forbidden n 0) 0 ≡ b → (b' : Bool) → ltb (place n) n ≡ b' → (b'' : Bool) → eqb (get_or nets n 0) net ≡ b'' → Goal
      go true q true q' b'' q'' = rw q (sym (was (ltb-true (place n) n q')))
      go true q false q' true q'' =
          let h : n ≤ place n = ltb-false (place n) n q' in
          rw q (none h ∙ sym (new h q'' ∙ eqb-true (get_or forbidden n 0) 0 q))
      go true q false q' false q'' = let h : n ≤ place n = ltb-false (place n) n q' in rw q (none h ∙ sym (nowhere h q''))
      go false q true q' b'' q'' = let h : place n < n = ltb-true (place n) n q' in rw q (last-not (other h) ∙ sym (was h))
      go false q false q' true q'' =
          let h : n ≤ place n = ltb-false (place n) n q' in
          rw q (last-is q'' ∙ sym (new h q'' ∙ is-flag (get_or forbidden n 0) (f n (omega arith)) q))
      go false q false q' false q'' = let h : n ≤ place n = ltb-false (place n) n q' in rw q (last-not q'' ∙ none h ∙ sym (nowhere h q''))

  -- it is among those marked exactly if its entry is
  marks-are : (n : ℕ) → Once itself n nets → All is_flag n forbidden → mark_of (is_filed net (marked_to n nets forbidden)) ≡ peek_at forbidden (place n) n
  unfolding marked_to is_filed
  marks-are zero o f = sym (no_place 0 (omega arith))
  marks-are (suc n) o f = marks-more n o f (marks-are n (λ i j g h. o i j g (omega arith)) (λ k h. f k (omega arith)))

every_more : (p : ℕ → Bool) (xs : List ℕ) (y : ℕ) → every p xs ≡ true → p y ≡ true → every p (xs ++ (y ∷ [])) ≡ true
unfolding every
every_more p [] y e q = rw q
every_more p (x ∷ xs) y e q = rw (one (p x) (every p xs) e) (every_more p xs y (rest (p x) (every p xs) e) q)

-- each is a network code
marked-codes : (nets forbidden : List ℕ) (n : ℕ) → All is_network n nets → every is_network (marked_to n nets forbidden) ≡ true
unfolding marked_to every
marked-codes nets forbidden zero f = refl
marked-codes nets forbidden (suc n) f = go (eqb (get_or forbidden n 0) 0) (marked-codes nets forbidden n (λ k h. f k (omega arith)))
  where
    go : (b : Bool) → every is_network (marked_to n nets forbidden) ≡ true
        → every is_network (cond b (marked_to n nets forbidden) (marked_to n nets forbidden ++ (get_or nets n 0 ∷ []))) ≡ true
    go true e = e
    go false e = every_more is_network (marked_to n nets forbidden) (get_or nets n 0) e (f n (omega arith))

-- no more are new than there are
new-few : (known : ℕ → Bool) (xs : List ℕ) → length (new_in known xs) ≤ length xs
unfolding new_in
new-few known [] = omega arith
new-few known (x ∷ xs) =
    elim (known x) as (λ b. length (cond b (new_in known xs) (x ∷ new_in (λ m. cond (eqb x m) true (known m)) xs)) ≤ suc (length xs)) [
      | true ↦ omega (arith, new-few known xs)
      | false ↦ omega (arith, new-few (λ m. cond (eqb x m) true (known m)) xs)
    ]

-- What passing the checks says.
passed : (a b : Bool) → is_taken (cond a (cond b Taken Short) Range) ≡ true → (a ≡ true) × (b ≡ true)
unfolding is_taken
passed true true e = (refl, refl)
passed true false e = absurd (false≢true e)
passed false b e = absurd (false≢true e)

module _ (r : Record) (file : List ℕ) (t : is_taken (write_answer r (length file)) ≡ true) where
  abbrev ms : List ℕ
  ms = marked_of r

  checks : (may_write r (length file) ≡ true) × (leb (length ms * 3) (length file) ≡ true)
  unfolding write_answer
  checks = passed (may_write r (length file)) (leb (length ms * 3) (length file)) t

  threes : eqb (length file % 3) 0 ≡ true
  unfolding may_write
  threes = one (eqb (length file % 3) 0) (valid_of r) checks.0

  pub write-valid : valid_of r ≡ true
  unfolding may_write
  write-valid = rest (eqb (length file % 3) 0) (valid_of r) checks.0

  good : Good r
  good = valid-good r write-valid

  size : entries_held r.hot.a0.entries ≡ r.hot.a0.entries
  unfolding entries_held
  size = most-is 16 r.hot.a0.entries good.half0.fit.entries

  codes : every is_network ms ≡ true
  unfolding marked_of
  codes = rw size (marked-codes r.e0.nets r.e0.forbidden r.hot.a0.entries good.half0.held.nets)

  few : length ms ≤ 16
  unfolding marked_of
  few = omega (arith, marked-most r.e0.nets r.e0.forbidden (entries_held r.hot.a0.entries), held_fits r.hot.a0.entries)

  -- the file that was written
  abbrev written : List ℕ
  written = file_after r file

  is-file : written ≡ file_of ms (length file)
  unfolding file_after
  is-file = rw t

  read_back : networks_in written ≡ ms
  read_back = ap networks_in is-file ∙ reads-back ms (length file) threes (leb-true (length ms * 3) (length file) checks.1) codes

  same_length : length written ≡ length file
  same_length = ap length is-file ∙ file-length ms (length file) threes (leb-true (length ms * 3) (length file) checks.1)

  -- the mark that the record has for a network
  was : (net : ℕ) → (cell_of r 0 net).forbidden ≡ mark_of (is_filed net ms)
  unfolding cell_of cell_in entries_in access_of marked_of place_in
  was net = rw size (sym (marks-are r.e0.nets r.e0.forbidden net r.hot.a0.entries good.half0.held.once good.half0.held.forbidden))

  -- into a record whose access 0 has no entries
  module _ (g : Record) (v : valid_of g ≡ true) (z : Sized g) (none : g.hot.a0.entries ≡ 0) where
    range : import_range written ≡ true
    unfolding import_range
    range = rw (same_length, threes, read_back) codes

    abbrev new : List ℕ
    new = new_in (λ m. has_entry 0 m g.e0.nets) ms

    fits : 0 + length new ≤ 16
    fits = omega (arith, new-few (λ m. has_entry 0 m g.e0.nets) ms, few)

    room : leb (held_with g.hot.a0.entries written g.e0.nets) 16 ≡ true
    unfolding held_with entries_held
    room = rw (none, read_back, lt-ltb (0 + length new) 17 (omega (arith, fits))) (le-leb (0 + length new) 16 fits)

    taken : answered_by g Import written ≡ Taken
    unfolding answered_by answer_of ask_of seen_of seen_by file_seen import_answer
    taken = rw (range, room)

    pub is-taken : (step_of g Import written).reply.answer ≡ Taken
    is-taken = rw (step-advances g Import written v) (answer-told g Import written ∙ taken)

    -- without entries there is no mark
    unmarked : (net : ℕ) → (cell_of g 0 net).forbidden ≡ 0
    unfolding cell_of cell_in entries_in access_of peek_at entries_held
    unmarked net = rw (none, le-ltb (place_in 0 net g.e0.nets) 0 (omega arith))

    put-or-not : (l : Limits) (b : Bool) (c : Cell) → c.forbidden ≡ 0 → (cell_after l (cond b imported quiet) c).forbidden ≡ mark_of b
    unfolding cell_after mark_after
    put-or-not l true c e = refl
    put-or-not l false c e = e

    pub same-marks : (net : ℕ) → (cell_of (step_of g Import written).next 0 net).forbidden ≡ (cell_of r 0 net).forbidden
    unfolding is_taken
    same-marks net =
        rw (step-advances g Import written v)
        (ap (λ (c : Cell). c.forbidden) (import-cell g v z.e0 written (ap is_taken taken) net)
        ∙ rw read_back (put-or-not (limits_of g) (is_filed net ms) (cell_of g 0 net) (unmarked net)) ∙ sym (was net))

  -- "reading what was written into a record just given that card gives the same forbidden marks"
  module _ (q : Record) (z : Sized q) (edition home : ℕ) (suci : List ℕ) (o : Octets suci) (k : is_taken (step_of q (Card edition home) suci).reply.answer ≡ true) where
    -- the record just given that card
    abbrev given : Record
    given = (step_of q (Card edition home) suci).next

    given_is : given ≡ (advance_of q (Card edition home) suci).next
    given_is = ap (λ (x : Outcome). x.next) (step-taken q (Card edition home) suci k).0

    card-valid : valid_of q ≡ true
    unfolding step_of refused_reply is_taken
    card-valid = go (valid_of q) refl
      where
        go : (b : Bool) → valid_of q ≡ b → valid_of q ≡ true
        go true e = e
        go false e = absurd (false≢true (rw e at k))

    given-valid : valid_of given ≡ true
    given-valid = rw given_is (valid-kept q (Card edition home) suci z o card-valid)

    given-sized : Sized given
    given-sized = rw given_is (advance-sized q (Card edition home) suci z)

    no-entries : given.hot.a0.entries ≡ 0
    unfolding card_record empty_record new_access
    no-entries = ap (λ (x : Record). x.hot.a0.entries) (given_is ∙ card-is-new q edition home suci (step-taken q (Card edition home) suci k).1)

    pub written-taken : (step_of given Import written).reply.answer ≡ Taken
    written-taken = is-taken given given-valid given-sized no-entries

    pub written-marks : (net : ℕ) → (cell_of (step_of given Import written).next 0 net).forbidden ≡ (cell_of r 0 net).forbidden
    written-marks net = same-marks given given-valid given-sized no-entries net
