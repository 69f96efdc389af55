-- Each return is that of its answer. Assumes nothing.
use Rattle.request.proofs.Answers.{out_of_range, out-of-state, allowed, written}
use Rattle.request.proofs.writing.write.Goals as goal

pub returns-then-not-may : goal.returns-then-not-may
returns-then-not-may c =
    let p = out_of_range c.args.r.now c.args.access c.args.s1 c.args.attach.now _ c.may.ensures c.args.buffer.now c.if-not-may.true in
    record { value = p.0; buffer_after = p.1 }

pub returns-then-own-ne4 : goal.returns-then-own-ne4
returns-then-own-ne4 c =
    let p = out-of-state c.args.r.now c.args.access c.args.s1 c.args.attach.now _ c.may.ensures c.if-not-may.false _ c.access_of-own.ensures c.args.buffer.now c.if-own-ne4.true in
    record { value = p.0; buffer_after = p.1 }

pub compose-requires : goal.compose-requires
compose-requires c = allowed c.args.r.now c.args.access c.args.s1 c.args.attach.now _ c.may.ensures c.if-not-may.false _ c.access_of-own.ensures c.if-own-ne4.false

pub returns : goal.returns
returns c =
    let p = written c.args.r.now c.args.access c.args.s1 c.args.attach.now _ c.may.ensures c.if-not-may.false _ c.access_of-own.ensures c.if-own-ne4.false c.args.buffer.now _ _ c.compose.ensures.value c.compose.ensures.buffer_after in
    record { value = p.0; buffer_after = p.1 }
