-- The law of an event over what each call ensures, on the record with the numbers that come beside it. Assumes nothing.
use Rattle.std.proofs.Common.{◌≡◌, true, refl, ap}
use Rattle.record.specs.declared.Record.{Record}
use Rattle.rules.specs.Sides.{has_work}
use Rattle.events.specs.Step.{with_hot}
use Rattle.events.proofs.Whole.{with-work}
use Rattle.events.proofs.lent.worked.Goals as goal

pub returns : goal.returns
returns c =
    let law = λ (i : has_work c.args.e ≡ true). with-work (with_hot c.args.h c.args.r.now) _ c.args.e c.args.octets.now _ _ c.work_plan-p.result c.ask_of.ensures c.see-s.ensures i c.work_plan-p.ensures refl in
    record {
      reply = λ i. (law i).reply;
      hot = λ i. rw c.carry_out-hot.ensures.hot (ap (λ (x : Record). x.hot) (law i).next);
      rest = λ i. rw c.carry_out-hot.ensures.rest (ap (λ (x : Record). with_hot c.args.r.now.hot x) (law i).next);
    }
