-- The part chosen is the best identity, and what is picked by it is what the record says. Assumes nothing.
use Rattle.std.proofs.Common.{◌≡◌, ◌≤◌, cond, eqb, length, take, arith}
use borrow.Author.Tests.{eq-eqb, ne_eqb}
use Rattle.identity.proofs.Mapped.{mapped-long}
use Rattle.request.specs.Writing.{says_of}
use Rattle.request.proofs.Pieces.{take_short, chosen-short}
use Rattle.request.proofs.Picked.{says-picked, cond-short}
use Rattle.request.proofs.writing.compose.Goals.{then-access-eq0, else-access-eq0}
use Rattle.request.proofs.writing.compose.Goals as goal

pub identify-requires : goal.identify-requires
identify-requires c = let a = c.args in
    let p = c.requires in
    let n : length (take c.from.result a.r.now.suci) ≤ 64 = omega (arith, take_short c.from.result a.r.now.suci, c.from.ensures, p.0) in
    record {
      from4g = rw (c.map-from4g.ensures, mapped-long a.s1.guti) (omega arith);
      identity = rw c.choose-best.ensures.octets (chosen-short 64 _ _ _ _ _ _ _ _ (omega arith) (rw c.given.ensures (cond-short _ 64 _ n)));
      additional = λ e. rw c.choose-best.ensures.octets (chosen-short 11 _ _ _ _ _ _ _ _ (omega arith) (rw (c.given.ensures, e) (omega arith)));
      capable = p.1.0;
      secure = p.1.1.0;
      ksi = p.1.1.1.0;
      regtype = p.1.1.1.1.0;
      attach = p.1.1.1.1.1;
    }

pub returns : goal.returns
unfolding says_of
returns c =
    let a = c.args in
    let n : c.if-access-eq0.choose.now ≡ cond (eqb a.access 0) a.r.now.equivalents0 a.r.now.equivalents1 =
    elim c.if-access-eq0.branch [
      | then-access-eq0 w ↦ rw (w.choose-is, eq-eqb _ _ w.if-access-eq0.true)
      | else-access-eq0 w ↦ rw (w.choose-is, ne_eqb _ _ w.if-access-eq0.false)
    ] in
    let best = rw (c.gutis-gutis.ensures, c.given.ensures, c.from.ensures, n) at c.choose-best.ensures.octets in
    let same = says-picked a.r.now.hot a.access a.own a.r.now.guti0 a.r.now.guti1 a.r.now.suci a.r.now.capability a.r.now.security _ a.s1 a.attach.now _ _ _ c.is_mapped-mapped.ensures c.map-from4g.ensures best in
    record { value = rw (← same) c.identify.ensures.value; buffer_after = rw (← same) c.identify.ensures.buffer_after }
