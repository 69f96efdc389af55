-- With work or without: each is the whole event. Assumes nothing.
use Rattle.std.proofs.Common.{refl, sym, ◌∙◌, ap}
use Rattle.record.specs.declared.Record.{Record}
use Rattle.events.specs.Step.{with_hot}
use Rattle.events.proofs.Whole.{no-work}
use Rattle.events.proofs.lent.swift.Goals as goal

pub returns-then-has_work : goal.returns-then-has_work
returns-then-has_work c =
    let i = sym c.has_work.ensures ∙ c.if-has_work.true in
    record { reply = c.worked.ensures.reply i; hot = c.worked.ensures.hot i; rest = c.worked.ensures.rest i }

pub returns : goal.returns
returns c =
    let i = sym c.has_work.ensures ∙ c.if-has_work.false in
    let a = no-work (with_hot c.args.h c.args.r.now) _ c.args.e c.args.octets.now c.numbers-p.result i (c.numbers-p.ensures i c.args.octets.now) refl in
    record {
      reply = a.reply;
      hot = ap (λ (x : Record). x.hot) a.next;
      rest = ap (λ (x : Record). with_hot c.args.r.now.hot x) a.next;
    }
