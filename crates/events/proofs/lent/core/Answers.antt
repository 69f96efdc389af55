-- The law of an event over what each call ensures. Assumes nothing.
use Rattle.std.proofs.Common.{refl}
use Rattle.events.specs.Step.{together, joined_of}
use Rattle.events.proofs.Whole.{whole}
use Rattle.events.proofs.lent.core.Goals as goal

pub returns : goal.returns
unfolding joined_of together
returns c =
    let a = whole c.args.r.now _ c.args.e c.args.octets.now _ _ c.plan_of-p.result c.ask_of.ensures c.see-s.ensures _ _ c.site_of.ensures c.listing-listed.ensures c.plan_of-p.ensures refl in
    record { reply = a.reply; next = rw (c.carry_out-r.ensures.hot, c.carry_out-r.ensures.rest) a.next }
