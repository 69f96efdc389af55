-- R-2 in the customer's words: of the networks heard an access permits exactly those without a mark there, each once, in the order of their first hearing. By induction
-- on how many were heard; in a valid record a network has one entry, so that a mark found at any of them is the mark of its own. Assumes nothing.
use Prim.Native.Nat.{ℕ, zero, suc, ◌+◌, ◌≤◌, ◌<◌}
use mathlib.Core.Path.{◌≡◌, refl, sym, ◌∙◌, ap, subst}
use mathlib.Core.Bool.{Bool, true, false, cond, true≢false, false≢true}
use mathlib.Core.List.{List, [], ◌∷◌, ◌++◌}
use mathlib.Core.Logic.{◌≢◌}
use native.Mathlib.Omega.{arith}
use native.Mathlib.Numerals.{add-one}
use lib.ListN.{length, get_or, get_or-append}
use lib.Seq.{get_or-append_seam}
use lib.Dec.{leb, ltb, eqb}
use borrow.Author.Tests.{ltb-true, ltb-false, eq-eqb, eqb-true, eqb-false}
use Rattle.entries.specs.declared.Entries.{Entries}
use Rattle.entries.specs.Places.{same_net, entries_held, place_in, peek_at}
use Rattle.record.specs.Tests.{both, either, flip}
use Rattle.record.specs.Sides.{access_of}
use Rattle.record.specs.New.{made_of, may_make}
use Rattle.record.specs.declared.Record.{Record}
use Rattle.ranges.specs.Valid.{itself}
use Rattle.cells.specs.Cells.{some_of, among, stands, marked, left_out, permitted_to, permitted_by, permitted_of, may_choose}
use Rattle.cells.proofs.Steps.{hit, length-one-more}
use Rattle.cells.proofs.Answers.{may-valid}
use Rattle.rules.specs.declared.Event.TheVariants.{Start}
use Rattle.checks.specs.Answers.{is_free}
use Rattle.validity.specs.Answered.{seen_at}
use Rattle.validity.specs.Run.{Heard, run_of}
use Rattle.laws.proofs.Seek.{seek_found, seek-before, seek_is}
use Rattle.validity.proofs.Arrays.{Once}
use Rattle.validity.proofs.Bools.{most-is}
use Rattle.validity.proofs.Good.{Good}
use Rattle.validity.proofs.Valid.{valid-good}
use Rattle.history.specs.Run.{answers_of}
use Rattle.history.specs.Cell.{column_in, cell_in, entries_in, cell_of}
use Rattle.history.specs.Tale.{Cell}
use Rattle.history.specs.History.{said_of}
use Rattle.history.specs.Permitted.{is_in, first_heard, is_unmarked}
use Rattle.history.proofs.Demand3.{demand3-made}
use Rattle.history.proofs.Listed.{passes, seen}

-- a list with one number more
among-kept : (x : ℕ) (xs ys : List ℕ) (n : ℕ) → n ≤ length xs → among (xs ++ ys) x n ≡ among xs x n
unfolding some_of
among-kept x xs ys zero h = refl
among-kept x xs ys (suc n) h = rw (get_or-append xs ys 0 n h, among-kept x xs ys n (omega arith))

in-more : (x : ℕ) (xs : List ℕ) (y : ℕ) → is_in x (xs ++ (y ∷ [])) ≡ either (eqb y x) (is_in x xs)
unfolding some_of
in-more x xs y = rw (length-one-more xs y, add-one (length xs), get_or-append_seam xs y [] 0, among-kept x xs (y ∷ []) (length xs) (omega arith))

-- one that is left out was there or is marked, one that is taken was not and is not
left_out_lem : (e a m : Bool) → (e ≡ true → either a m ≡ true) → both a (flip m) ≡ both (either e a) (flip m)
left_out_lem true true m f = refl
left_out_lem true false true f = refl
left_out_lem true false false f = absurd (false≢true (f refl))
left_out_lem false a m f = refl

taken_in : (e a m : Bool) → (e ≡ true → either a m ≡ false) → either e (both a (flip m)) ≡ both (either e a) (flip m)
taken_in true true m f = absurd (true≢false (f refl))
taken_in true false true f = absurd (true≢false (f refl))
taken_in true false false f = refl
taken_in false a m f = refl

either-none : (a b : Bool) → either a b ≡ false → a ≡ false
either-none true b e = e
either-none false b e = refl

module _ (heard : List ℕ) (count : ℕ) (nets forbidden barred : List ℕ) where
  abbrev chosen : ℕ → List ℕ
  chosen n = permitted_to heard count nets forbidden barred n

  abbrev is_marked : ℕ → Bool
  is_marked x = marked nets forbidden barred x count

  -- exactly those heard that are not marked
  exactly-more : (x n : ℕ) → is_in x (chosen n) ≡ both (among heard x n) (flip (is_marked x)) → is_in x (chosen (suc n)) ≡ both (among heard x (suc n)) (flip (is_marked x))
  unfolding some_of permitted_to left_out
  exactly-more x n before = go (left_out heard count nets forbidden barred n) refl
    where
      same : (b : Bool) → left_out heard count nets forbidden barred n ≡ b → eqb (get_or heard n 0) x ≡ true → either (among heard x n) (is_marked x) ≡ b
      same b q e = subst (λ (y : ℕ). either (among heard y n) (is_marked y) ≡ b) (eqb-true (get_or heard n 0) x e) q

      go : (b : Bool) → left_out heard count nets forbidden barred n ≡ b
          → is_in x (cond b (chosen n) (chosen n ++ (get_or heard n 0 ∷ []))) ≡ both (either (eqb (get_or heard n 0) x) (among heard x n)) (flip (is_marked x))
      go true q = before ∙ left_out_lem (eqb (get_or heard n 0) x) (among heard x n) (is_marked x) (same true q)
      go false q =
          in-more x (chosen n) (get_or heard n 0) ∙ ap (either (eqb (get_or heard n 0) x)) before
          ∙ taken_in (eqb (get_or heard n 0) x) (among heard x n) (is_marked x) (same false q)

  exactly : (x n : ℕ) → is_in x (chosen n) ≡ both (among heard x n) (flip (is_marked x))
  unfolding some_of permitted_to
  exactly x zero = refl
  exactly x (suc n) = exactly-more x n (exactly x n)

  -- in the order of their first hearing
  record Rising (n : ℕ) (xs : List ℕ) : Type 0 where
    below : (i : ℕ) → i < length xs → first_heard heard (get_or xs i 0) < n
    rising : (i j : ℕ) → i < j → j < length xs → first_heard heard (get_or xs i 0) < first_heard heard (get_or xs j 0)

  further : (n : ℕ) (xs : List ℕ) → Rising n xs → Rising (suc n) xs
  further n xs r = record { below = λ i h. omega (arith, r.below i h); rising = r.rising }

  added : (n : ℕ) (xs : List ℕ) (y : ℕ) → first_heard heard y ≡ n → Rising n xs → Rising (suc n) (xs ++ (y ∷ []))
  added n xs y e r = record { below = below'; rising = rising' }
    where
      inside : (i : ℕ) → i < length (xs ++ (y ∷ [])) → eqb i (length xs) ≡ false → i < length xs
      inside i h q = let l : length (xs ++ (y ∷ [])) ≡ length xs + 1 = length-one-more xs y in let d : i ≢ length xs = eqb-false i (length xs) q in omega arith

      below' : (i : ℕ) → i < length (xs ++ (y ∷ [])) → first_heard heard (get_or (xs ++ (y ∷ [])) i 0) < suc n
      below' i h = go (eqb i (length xs)) refl
        where
          go : (b : Bool) → eqb i (length xs) ≡ b → first_heard heard (get_or (xs ++ (y ∷ [])) i 0) < suc n
          go true q = rw (eqb-true i (length xs) q, get_or-append_seam xs y [] 0, e) (omega arith)
          go false q = rw (get_or-append xs (y ∷ []) 0 i (inside i h q)) (omega (arith, r.below i (inside i h q)))

      rising' : (i j : ℕ) → i < j → j < length (xs ++ (y ∷ [])) → first_heard heard (get_or (xs ++ (y ∷ [])) i 0) < first_heard heard (get_or (xs ++ (y ∷ [])) j 0)
      rising' i j g h = go (eqb j (length xs)) refl
        where
          go : (b : Bool) → eqb j (length xs) ≡ b → first_heard heard (get_or (xs ++ (y ∷ [])) i 0) < first_heard heard (get_or (xs ++ (y ∷ [])) j 0)
          go true q =
              let l : j ≡ length xs = eqb-true j (length xs) q in
              rw (l, get_or-append_seam xs y [] 0, e, get_or-append xs (y ∷ []) 0 i (omega arith)) (r.below i (omega arith))
          go false q =
              let l : j < length xs = inside j h q in
              rw (get_or-append xs (y ∷ []) 0 i (omega arith), get_or-append xs (y ∷ []) 0 j l) (r.rising i j g l)

  -- one that was not heard before is first heard now
  first-now : (n : ℕ) → n < length heard → among heard (get_or heard n 0) n ≡ false → first_heard heard (get_or heard n 0) ≡ n
  first-now n h e = seek_is (same_net (get_or heard n 0)) (length heard) heard n (omega arith) new (λ l. eq-eqb (get_or heard n 0) (get_or heard n 0) refl)
    where
      new : (k : ℕ) → k < n → eqb (get_or heard k 0) (get_or heard n 0) ≡ false
      new k g = go (eqb (get_or heard k 0) (get_or heard n 0)) refl
        where
          go : (b : Bool) → eqb (get_or heard k 0) (get_or heard n 0) ≡ b → eqb (get_or heard k 0) (get_or heard n 0) ≡ false
          go true q = absurd (true≢false (sym (hit (λ i. eqb (get_or heard i 0) (get_or heard n 0)) n k g q) ∙ e))
          go false q = q

  rises-more : (n : ℕ) → n < length heard → Rising n (chosen n) → Rising (suc n) (chosen (suc n))
  unfolding permitted_to left_out
  rises-more n h r = go (left_out heard count nets forbidden barred n) refl
    where
      go : (b : Bool) → left_out heard count nets forbidden barred n ≡ b → Rising (suc n) (cond b (chosen n) (chosen n ++ (get_or heard n 0 ∷ [])))
      go true q = further n (chosen n) r
      go false q = added n (chosen n) (get_or heard n 0) (first-now n h (either-none _ _ q)) r

  rises : (n : ℕ) → n ≤ length heard → Rising n (chosen n)
  unfolding permitted_to
  rises zero h = record { below = λ i g. absurd (omega arith); rising = λ i j g l. absurd (omega arith) }
  rises (suc n) h = rises-more n (omega arith) (rises n (omega arith))

-- A mark at one of the entries is a mark of the network's own entry, since it has no other.
module _ (nets forbidden barred : List ℕ) (net : ℕ) where
  abbrev marks : ℕ → Bool
  marks i = either (flip (eqb (get_or forbidden i 0) 0)) (flip (eqb (get_or barred i 0) 0))

  none-marked : (n : ℕ) → ((k : ℕ) → k < n → eqb (get_or nets k 0) net ≡ false) → marked nets forbidden barred net n ≡ false
  unfolding some_of stands
  none-marked zero f = refl
  none-marked (suc n) f = rw (f n (omega arith), none-marked n (λ k h. f k (omega arith)))

  either-last : (a b : Bool) → b ≡ false → either a b ≡ a
  either-last true b e = refl
  either-last false b e = e

  one_more : (n at : ℕ) → eqb (get_or nets at 0) net ≡ true → ((k : ℕ) → k < suc n → k ≢ at → eqb (get_or nets k 0) net ≡ false)
      → (at < n → marked nets forbidden barred net n ≡ marks at) → at < suc n → marked nets forbidden barred net (suc n) ≡ marks at
  unfolding some_of stands
  one_more n at e f before h = go (eqb n at) refl
    where
      go : (b : Bool) → eqb n at ≡ b → marked nets forbidden barred net (suc n) ≡ marks at
      go true q =
          let l : n ≡ at = eqb-true n at q in
          rw (l, e) (either-last (marks at) (marked nets forbidden barred net at) (none-marked at (λ k g. f k (omega arith) (λ s. omega arith))))
      go false q = let d : n ≢ at = eqb-false n at q in rw (f n (omega arith) d) (before (omega arith))

  one-marked : (n at : ℕ) → eqb (get_or nets at 0) net ≡ true → ((k : ℕ) → k < n → k ≢ at → eqb (get_or nets k 0) net ≡ false) → at < n → marked nets forbidden barred net n ≡ marks at
  one-marked zero at e f h = absurd (omega arith)
  one-marked (suc n) at e f h = one_more n at e f (one-marked n at e (λ k g d. f k (omega arith) d)) h

unmarked-is : (a b : Bool) → flip (either (flip a) (flip b)) ≡ both a b
unmarked-is true true = refl
unmarked-is true false = refl
unmarked-is false b = refl

module _ (count : ℕ) (nets forbidden barred : List ℕ) (o : Once itself (entries_held count) nets) (net : ℕ) where
  abbrev at : ℕ
  at = place_in count net nets

  abbrev size : ℕ
  size = entries_held count

  cell-marks : flip (marked nets forbidden barred net size) ≡ both (eqb (column_in count nets forbidden net) 0) (eqb (column_in count nets barred net) 0)
  unfolding place_in peek_at
  cell-marks = go (ltb at size) refl
    where
      alone : at < size → (k : ℕ) → k < size → k ≢ at → eqb (get_or nets k 0) net ≡ false
      alone h k g d = test (eqb (get_or nets k 0) net) refl
        where
          found : get_or nets at 0 ≡ net
          found = eqb-true _ _ (seek_found (same_net net) size nets h)

          test : (b : Bool) → eqb (get_or nets k 0) net ≡ b → eqb (get_or nets k 0) net ≡ false
          test false q = q
          test true q = order (ltb k at) refl
            where
              order : (b : Bool) → ltb k at ≡ b → eqb (get_or nets k 0) net ≡ false
              order true l = seek-before (same_net net) size nets k (ltb-true k at l)
              order false l = absurd (o at k (let s : at ≤ k = ltb-false k at l in omega arith) g (found ∙ sym (eqb-true _ _ q)))

      go : (b : Bool) → ltb at size ≡ b
          → flip (marked nets forbidden barred net size) ≡ both (eqb (cond (ltb at size) (get_or forbidden at 0) 0) 0) (eqb (cond (ltb at size) (get_or barred at 0) 0) 0)
      go true q =
          let h : at < size = ltb-true at size q in
          rw (q, one-marked nets forbidden barred net size at (seek_found (same_net net) size nets h) (alone h) h) (unmarked-is (eqb (get_or forbidden at 0) 0) (eqb (get_or barred at 0) 0))
      go false q =
          let h : size ≤ at = ltb-false at size q in
          rw (q, none-marked nets forbidden barred net size (λ k g. seek-before (same_net net) size nets k (omega arith)))

-- one access's entries
permitted-by : (heard : List ℕ) (count : ℕ) (t : Entries) → leb count 16 ≡ true → Once itself count t.nets → (x : ℕ)
    → is_in x (permitted_by heard count t) ≡ both (is_in x heard) (is_unmarked (cell_in count t x))
unfolding permitted_by cell_in entries_held
permitted-by heard count t c o x =
    exactly heard (entries_held count) t.nets t.forbidden t.barred x (length heard)
    ∙ ap (both (is_in x heard)) (cell-marks count t.nets t.forbidden t.barred once x)
  where
    once : Once itself (entries_held count) t.nets
    once = rw (most-is 16 count c) o

-- "in the order heard, each once": of two that are permitted the one written first was first heard before the other
pub permitted-ordered : (r : Record) (access : ℕ) (heard : List ℕ) (i j : ℕ) → i < j → j < length (permitted_of r access heard)
    → first_heard heard (get_or (permitted_of r access heard) i 0) < first_heard heard (get_or (permitted_of r access heard) j 0)
unfolding permitted_of permitted_by
permitted-ordered r access heard i j g h = (rises heard _ _ _ _ (length heard) (omega arith)).rising i j g h

-- "left out exactly if either mark stands on that access or it was heard before": whoever was heard is permitted exactly if neither mark stands
module _ (r : Record) (access : ℕ) (heard : List ℕ) (may : may_choose r access heard ≡ true) where
  good : Good r
  good = valid-good r (may-valid r access heard may)

  pub permitted-exactly : (x : ℕ) → is_in x (permitted_of r access heard) ≡ both (is_in x heard) (is_unmarked (cell_of r access x))
  unfolding permitted_of cell_of entries_in access_of
  permitted-exactly x = go (eqb access 0)
    where
      go : (b : Bool) → is_in x (permitted_by heard (cond b r.hot.a0 r.hot.a1).entries (cond b r.e0 r.e1))
          ≡ both (is_in x heard) (is_unmarked (cell_in (cond b r.hot.a0 r.hot.a1).entries (cond b r.e0 r.e1) x))
      go true = permitted-by heard r.hot.a0.entries r.e0 good.half0.fit.entries good.half0.held.once x
      go false = permitted-by heard r.hot.a1.entries r.e1 good.half1.fit.entries good.half1.held.once x

-- so exactly if a start on it, not by hand, passes check 8
unmarked-passes : (c : Cell) → is_unmarked c ≡ passes 0 c
unmarked-passes c = go (eqb c.forbidden 0) (eqb c.barred 0)
  where
    go : (a b : Bool) → both a b ≡ both b (either a false)
    go true true = refl
    go true false = refl
    go false true = refl
    go false false = refl

pub permitted-passes : (r : Record) (access : ℕ) → access < 2 → (heard : List ℕ) → may_choose r access heard ≡ true → (x code : ℕ) (octets : List ℕ)
    → is_in x (permitted_of r access heard) ≡ both (is_in x heard) (is_free 0 (seen_at r (Start access 0 x code) octets))
permitted-passes r access h heard may x code octets =
    permitted-exactly r access heard may x ∙ ap (both (is_in x heard)) (unmarked-passes (cell_of r access x) ∙ sym (seen r access 0 x code octets h))

-- and by the history: from a new record, after any events, by what these and their answers say
module _ (cardlimit banlimit n1limit : ℕ) (capability security : List ℕ) (made : may_make cardlimit banlimit n1limit (length capability) (length security) ≡ true) (xs : List Heard) where
  abbrev first : Record
  first = (made_of cardlimit banlimit n1limit capability security).made

  pub permitted-history : (access : ℕ) → access < 2 → (heard : List ℕ) → may_choose (run_of first xs) access heard ≡ true → (x : ℕ)
      → is_in x (permitted_of (run_of first xs) access heard)
      ≡ both (is_in x heard) (is_unmarked (said_of (record { ban = banlimit; n1 = n1limit }) xs (answers_of first xs) access x))
  permitted-history access h heard may x =
      permitted-exactly (run_of first xs) access heard may x
      ∙ ap (λ (c : Cell). both (is_in x heard) (is_unmarked c)) (demand3-made cardlimit banlimit n1limit capability security made xs access x h)
