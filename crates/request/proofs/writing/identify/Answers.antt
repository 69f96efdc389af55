-- What is picked is what the contract says, and has room. Assumes nothing.
use Rattle.std.proofs.Common.{◌≡◌, cond, not, ltb, eqb, refl, arith}
use Rattle.std.proofs.lemmas.Bool.Decides.{nat_tests}
use Rattle.record.specs.Tests.{both}
use Rattle.request.specs.Steps.{identified_of}
use Rattle.request.specs.Writing.{saying_of, last_of, uplink_of, sessions_of}
use Rattle.request.proofs.Picked.{area-picked, uplink-picked, sessions-picked}
use Rattle.request.proofs.writing.identify.Goals.{then-mapped, else-mapped, then-update, else-update}
use Rattle.request.proofs.writing.identify.Goals as goal

pub returns : goal.returns
unfolding identified_of saying_of
returns c =
    let a = c.args in
    let i : c.if-mapped.said.now ≡ cond a.mapped a.from4g.now a.best.now =
    elim c.if-mapped.branch [
      | then-mapped w ↦ rw (w.said-is, w.if-mapped.true)
      | else-mapped w ↦ rw (w.said-is, w.if-mapped.false)
    ] in
    let b : c.if-update.given ≡ both (ltb 1 a.own.regtype) (not (eqb a.own.uplink 0)) =
    elim c.if-update.branch [
      | then-update w ↦ grind (arith, nat_tests)
      | else-update w ↦ grind (arith, nat_tests)
    ] in
    let l : c.given.result.now ≡ last_of a.own = area-picked a.own _ _ refl (rw c.area-area.ensures at c.given.ensures) in
    let u : c.given-2.result.now ≡ uplink_of a.own = uplink-picked a.own _ _ b (rw c.to_le_bytes-uplink.ensures at c.given-2.ensures) in
    let v : c.given-3.result.now ≡ sessions_of a.own = sessions-picked a.own _ (rw c.to_le_bytes-sessions.ensures at c.given-3.ensures) in
    record {
      value = rw (i, c.from.ensures, c.from-2.ensures, l, u, v, c.given-4.ensures, c.given-5.ensures, c.given-6.ensures) at c.send.ensures.value;
      buffer_after = rw (i, c.from.ensures, c.from-2.ensures, l, u, v, c.given-4.ensures, c.given-5.ensures, c.given-6.ensures) at c.send.ensures.buffer_after;
    }
