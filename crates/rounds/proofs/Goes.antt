-- A round timer after timer: none is left, or one runs out and the rest of the round goes on behind it. Assumes nothing.
use Rattle.std.proofs.Common.{◌≡◌, ℕ, suc, ◌+◌, ◌-◌, ◌*◌, ◌<◌, ◌≤◌, Bool, true, false, cond, ltb, Option, Some, None, Result, Ok, Err, List, length, refl, sym, ap, ◌∙◌, add-zero, zero-add, inl, inr, ⊎_elim, ◌⊎◌, le-ltb, lt-ltb, arith}
use Rattle.record.specs.declared.Answer.{Answer}
use Rattle.record.specs.declared.Answer.TheVariants as answer
use Rattle.record.specs.declared.Record.{Record}
use Rattle.record.specs.Answers.{is_taken}
use Rattle.checks.specs.Answers.{check}
use Rattle.ranges.specs.Valid.{valid_of}
use Rattle.deadlines.specs.declared.Table.{Table}
use Rattle.deadlines.specs.Asking.{asked, after_ask}
use Rattle.deadlines.specs.Arming.{armed, fits_to}
use Rattle.rounds.specs.declared.Rounded.{Rounded}
use Rattle.rounds.specs.Words.{ran_words, laid}
use Rattle.rounds.specs.Round.{Round, tolds_in, out_of, behind, round_by, round_to, round_answer, most_of, round_for, round_of, words_after, result_of}
use Rattle.rounds.specs.Going.{Gone, gone_by, gone_with, gone_of}
use Rattle.rounds.proofs.Laying.{laid_none, laid-round}

gone-none : (now : ℕ) (r : Record) (t : Table) (count : ℕ) (ws : List ℕ) → gone_by r t count ws ≡ gone_of 0 now r t count ws
unfolding gone_of gone_with round_to
gone-none now r t count ws = rw (add-zero count, laid_none (count * 28) ws)

gone-quiet : (n now : ℕ) (r : Record) (t : Table) (count : ℕ) (ws : List ℕ) → asked now t ≡ None → gone_by r (after_ask now t) count ws ≡ gone_of (suc n) now r t count ws
unfolding gone_of gone_with round_to round_by
gone-quiet n now r t count ws e = rw (e, add-zero count, laid_none (count * 28) ws)

gone-on : (n now at : ℕ) (r : Record) (t : Table) (count : ℕ) (ws : List ℕ) → asked now t ≡ Some at
    → gone_of (suc n) now r t count ws ≡ gone_of n now (out_of r at).next (armed now (tolds_in (out_of r at).reply) (after_ask now t)) (count + 1) (laid (count * 28) (ran_words (record { at = at; reply = (out_of r at).reply })) ws)
unfolding gone_of gone_with round_to round_by behind
gone-on n now at r t count ws e =
    let g : Round = round_to n now (out_of r at).next (armed now (tolds_in (out_of r at).reply) (after_ask now t)) in
    let k : count + suc (length g.ran) ≡ count + 1 + length g.ran = omega arith in
    rw (e, laid-round count (record { at = at; reply = (out_of r at).reply }) g.ran ws, k)

pub goes_first : (most now : ℕ) (r : Record) (t : Table) (ws : List ℕ) → gone_of (most - 0) now r t 0 ws ≡ gone_of most now r t 0 ws
goes_first most now r t ws = ap (λ n. gone_of n now r t 0 ws) (omega arith)

-- what is said of a round's rest holds of the rest behind one timer more
pub goes : (most count now at : ℕ) (r : Record) (t : Table) (ws : List ℕ) (g : Gone) → count < most → Some at ≡ asked now t → gone_of (most - count) now r t count ws ≡ g
    → gone_of (most - (count + 1)) now (out_of r at).next (armed now (tolds_in (out_of r at).reply) (after_ask now t)) (count + 1) (laid (count * 28) (ran_words (record { at = at; reply = (out_of r at).reply })) ws) ≡ g
goes most count now at r t ws g l e eg =
    let k : most - count ≡ suc (most - (count + 1)) = omega arith in
    sym (gone-on (most - (count + 1)) now at r t count ws (sym e)) ∙ rw k at eg

pub goes-not : (most count now : ℕ) (r : Record) (t : Table) (ws : List ℕ) (g : Gone) → count < most → None ≡ asked now t → gone_of (most - count) now r t count ws ≡ g → gone_by r (after_ask now t) count ws ≡ g
goes-not most count now r t ws g l e eg =
    let k : most - count ≡ suc (most - (count + 1)) = omega arith in
    gone-quiet (most - (count + 1)) now r t count ws (sym e) ∙ rw k at eg

pub goes_over : (most now : ℕ) (r : Record) (t : Table) (ws : List ℕ) (g : Gone) → gone_of (most - most) now r t most ws ≡ g → gone_by r t most ws ≡ g
goes_over most now r t ws g eg =
    let k : most - most ≡ 0 = omega arith in
    gone-none now r t most ws ∙ rw k at eg

-- a round that is over
pub record Over (r : Record) (t : Table) (now : ℕ) (ws : List ℕ) (x : Result ℕ Answer) (n : Record) (u : Table) (vs : List ℕ) : Type 0 where
  pub value : x ≡ result_of (round_of r t now (length ws))
  pub next : n ≡ (round_of r t now (length ws)).next
  pub table : u ≡ (round_of r t now (length ws)).table
  pub words : vs ≡ words_after r t now ws

-- a refusal runs none
pub round-refused : (r : Record) (t : Table) (now : ℕ) (ws : List ℕ) (a : Answer) → round_answer r t (length ws) ≡ a → is_taken a ≡ false → Over r t now ws (Err a) r t ws
unfolding round_of words_after round_for most_of round_to result_of
round-refused r t now ws a e f = record {
  value = rw (e, f);
  next = rw (e, f);
  table = rw (e, f);
  words = rw (e, f) (sym (laid_none 0 ws));
}

-- else ten may run out
pub round-taken : (r : Record) (t u : Table) (now : ℕ) (ws vs : List ℕ) (count : ℕ) (n : Record) → round_answer r t (length ws) ≡ answer.Taken → gone_by n u count vs ≡ gone_of 10 now r t 0 ws → Over r t now ws (Ok count) n u vs
unfolding round_of words_after round_for most_of result_of gone_of gone_with is_taken
round-taken r t u now ws vs count n e g = record {
  value = rw (e, ap (λ (g : Gone). g.count) g, zero-add (length (round_to 10 now r t).ran));
  next = rw e (ap (λ (g : Gone). g.next) g);
  table = rw e (ap (λ (g : Gone). g.table) g);
  words = rw e (ap (λ (g : Gone). g.words) g);
}

-- the answer by its tests
pub answer-invalid : (r : Record) (t : Table) (n : ℕ) → valid_of r ≡ false → round_answer r t n ≡ answer.Range
unfolding round_answer
answer-invalid r t n e = rw e

pub answer-unfit : (r : Record) (t : Table) (n : ℕ) → valid_of r ≡ true → fits_to r.hot t.held ≡ false → round_answer r t n ≡ answer.Range
unfolding round_answer
answer-unfit r t n e f = rw (e, f)

pub answer-short : (r : Record) (t : Table) (n : ℕ) → valid_of r ≡ true → fits_to r.hot t.held ≡ true → n < 280 → round_answer r t n ≡ answer.Short
unfolding round_answer
answer-short r t n e f l = rw (e, f, le-ltb 279 n (omega arith))

pub answer-taken : (r : Record) (t : Table) (n : ℕ) → valid_of r ≡ true → fits_to r.hot t.held ≡ true → 280 ≤ n → round_answer r t n ≡ answer.Taken
unfolding round_answer
answer-taken r t n e f l = rw (e, f, lt-ltb 279 n (omega arith))

-- no other answer is one that is taken
judged : (v f w : Bool) → let a : Answer = check v answer.Range (check f answer.Range (check w answer.Short answer.Taken)) in (a ≡ answer.Taken) ⊎ (is_taken a ≡ false)
unfolding is_taken
judged true true true = inl refl
judged true true false = inr refl
judged true false w = inr refl
judged false f w = inr refl

taken-or : (r : Record) (t : Table) (n : ℕ) → (round_answer r t n ≡ answer.Taken) ⊎ (is_taken (round_answer r t n) ≡ false)
unfolding round_answer
taken-or r t n = judged (valid_of r) (fits_to r.hot t.held) (ltb 279 n)

-- what a round gives in place is what it gives by value
pub rounded-taken : (r x : Record) (t u : Table) (now n count : ℕ) → Ok count ≡ result_of (round_of r t now n) → x ≡ (round_of r t now n).next → u ≡ (round_of r t now n).table → record { answer = answer.Taken; count = count; next = x; table = u } ≡ round_of r t now n
unfolding round_of result_of is_taken
rounded-taken r x t u now n count h f g = ⊎_elim yes no (taken-or r t n)
  where
    yes : round_answer r t n ≡ answer.Taken → record { answer = answer.Taken; count = count; next = x; table = u } ≡ round_of r t now n
    yes e = let k = rw e at h in let q : count ≡ length (round_for r t now n).ran = cc in rw (f, g, q, e)

    no : is_taken (round_answer r t n) ≡ false → record { answer = answer.Taken; count = count; next = x; table = u } ≡ round_of r t now n
    no e = let k = rw e at h in cc

pub rounded-refused : (r x : Record) (t u : Table) (now n : ℕ) (a : Answer) → Err a ≡ result_of (round_of r t now n) → x ≡ (round_of r t now n).next → u ≡ (round_of r t now n).table → record { answer = a; count = 0; next = x; table = u } ≡ round_of r t now n
unfolding round_of result_of is_taken round_for most_of round_to
rounded-refused r x t u now n a h f g = ⊎_elim yes no (taken-or r t n)
  where
    yes : round_answer r t n ≡ answer.Taken → record { answer = a; count = 0; next = x; table = u } ≡ round_of r t now n
    yes e = let k = rw e at h in cc

    no : is_taken (round_answer r t n) ≡ false → record { answer = a; count = 0; next = x; table = u } ≡ round_of r t now n
    no e = let k = rw e at h in let q : a ≡ round_answer r t n = cc in rw (f, g, e, q)
