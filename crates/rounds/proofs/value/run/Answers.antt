-- A refusal is told by its test, and else ten may run out. Assumes nothing.
use Rattle.std.proofs.Common.{◌≡◌, length, refl, sym, ◌∙◌, rules, arith}
use Rattle.record.specs.Answers.{is_taken}
use Rattle.record.specs.declared.Answer.TheVariants.{Taken, Range, Short}
use Rattle.rounds.specs.Round.{round_answer}
use Rattle.rounds.proofs.Goes.{round-refused, round-taken, answer-invalid, answer-unfit, answer-short, answer-taken}
use Rattle.rounds.proofs.value.run.Goals.{then-not-fits-via-then-not-fits, then-not-fits-via-else-not-fits+then-not-fits-2}
use Rattle.rounds.proofs.value.run.Goals as goal

pub returns-then-not-fits : goal.returns-then-not-fits
unfolding is_taken
returns-then-not-fits c =
    let e : round_answer c.args.r.now c.args.t.now (length c.args.words.now) ≡ Range = elim c.then-not-fits.branch [
      | then-not-fits-via-then-not-fits w ↦ answer-invalid _ _ _ (sym c.fits.ensures ∙ w.if-not-fits.true)
      | then-not-fits-via-else-not-fits+then-not-fits-2 w ↦ answer-unfit _ _ _ (sym c.fits.ensures ∙ w.if-not-fits.false) (sym w.fits-else-not-fits.ensures ∙ w.if-not-fits-2.true)
    ] in
    let o = round-refused c.args.r.now c.args.t.now c.args.time c.args.words.now Range e refl in
    record { value = o.value; next = o.next; table_after = o.table; list_after = o.words; count_bound = search rules }

pub returns-then-words-lt280 : goal.returns-then-words-lt280
unfolding is_taken
returns-then-words-lt280 c =
    let e = answer-short c.args.r.now c.args.t.now (length c.args.words.now) (sym c.fits.ensures ∙ c.if-not-fits.false) (sym c.fits-else-not-fits.ensures ∙ c.if-not-fits-2.false) c.if-words-lt280.true in
    let o = round-refused c.args.r.now c.args.t.now c.args.time c.args.words.now Short e refl in
    record { value = o.value; next = o.next; table_after = o.table; list_after = o.words; count_bound = search rules }

pub returns : goal.returns
returns c =
    let e = answer-taken c.args.r.now c.args.t.now (length c.args.words.now) (sym c.fits.ensures ∙ c.if-not-fits.false) (sym c.fits-else-not-fits.ensures ∙ c.if-not-fits-2.false) c.if-words-lt280.false in
    let o = round-taken c.args.r.now c.args.t.now c.go.new.t c.args.time c.args.words.now c.go.new.words c.go.result c.go.new.r e c.go.ensures.words_after in
    record { value = o.value; next = o.next; table_after = o.table; list_after = o.words; count_bound = c.go.ensures.count_bound }
