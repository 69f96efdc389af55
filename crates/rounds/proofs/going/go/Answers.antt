-- None is left, or one runs out and the round goes on behind it. Assumes nothing.
use Rattle.std.proofs.Common.{◌≡◌, length, ap, ◌∙◌, arith}
use Rattle.rounds.specs.Round.{out_of}
use Rattle.rounds.proofs.Laying.{laid-length}
use Rattle.rounds.proofs.Goes.{goes, goes-not, goes_over}
use Rattle.rounds.proofs.going.go.Goals as goal

pub returns-in_default-clause-words_after : goal.returns-in_default-clause-words_after
returns-in_default-clause-words_after c = rw c.ask.ensures.rests_after (goes-not _ _ _ _ _ _ _ c.loop-count-test.true (rw (← c.in_default.is) c.ask.ensures.value) c.loop-count.invariant.rest)

pub loop-count-preserved : goal.loop-count-preserved
unfolding out_of
loop-count-preserved c = record {
  same_length = ap length c.lay_ran.ensures ∙ (laid-length _ _ _ ∙ c.loop-count.invariant.same_length);
  rest = rw (c.lay_ran.ensures, c.arm.ensures, c.core-reply.ensures.reply, c.core-reply.ensures.next, c.timer_out.ensures, c.ask.ensures.rests_after) (goes _ _ _ _ _ _ _ _ c.loop-count-test.true (rw (← c.in-Some.is) c.ask.ensures.value) c.loop-count.invariant.rest);
}

pub returns-clause-words_after : goal.returns-clause-words_after
returns-clause-words_after c =
    let e : c.loop-count.count ≡ c.args.most = omega arith in
    goes_over _ _ _ _ _ _ (rw e at c.loop-count.invariant.rest)
