-- Each return is that of its answer. Assumes nothing.
use Rattle.usim.proofs.Answers.{out_of_range, too_short, room, fits}
use mathlib.Core.Path.{ap}
use mathlib.Core.Bool.{not}
use Rattle.usim.proofs.write.Goals as goal

pub returns-then-not-may : goal.returns-then-not-may
returns-then-not-may c =
    let p = out_of_range c.args.r.now c.args.file.now _ c.may.ensures (ap not c.if-not-may.true) in
    record { value = p.0; file_after = p.1 }

pub returns-then-file-count : goal.returns-then-file-count
returns-then-file-count c =
    let p = too_short c.args.r.now c.args.file.now _ c.may.ensures (ap not c.if-not-may.false) _ _ c.size-n.ensures.value c.marked-count.ensures.value c.if-file-count.true in
    record { value = p.0; file_after = p.1 }

pub list-requires : goal.list-requires
list-requires c = (c.size-n.ensures.upper_bound, room c.args.r.now c.args.file.now _ c.may.ensures (ap not c.if-not-may.false) _ _ c.size-n.ensures.value c.marked-count.ensures.value c.if-file-count.false)

pub returns : goal.returns
returns c =
    let p = fits c.args.r.now c.args.file.now _ c.may.ensures (ap not c.if-not-may.false) _ _ c.size-n.ensures.value c.marked-count.ensures.value c.if-file-count.false _ _
    c.list.ensures c.pad.ensures in
    record { value = p.0; file_after = p.1 }
