-- One place more: an unused one is passed over, a network is tested. Assumes nothing.
use Prim.Native.Nat.{◌+◌, ◌*◌}
use mathlib.Core.Path.{◌≡◌, sym, ◌∙◌}
use native.Mathlib.Omega.{arith}
use Rattle.record.specs.Network.{is_network}
use Rattle.checks.proofs.Files.{right-next, right-ends, right-over}
use Rattle.checks.proofs.codes.Goals as goal

pub returns-then-not-is_code : goal.returns-then-not-is_code
returns-then-not-is_code c = right-ends is_network _ _ _ c.loop-i.invariant (omega arith) _ c.network_at.ensures (sym c.is_code.ensures ∙ c.if-not-is_code.true)

pub loop-i-preserved : goal.loop-i-preserved
loop-i-preserved c =
    let next : 3 * (c.loop-i.i + 1) ≡ 3 * c.loop-i.i + 3 = omega arith in
    rw next (right-next is_network _ _ _ c.loop-i.invariant (omega arith) _ c.network_at.ensures (sym c.is_code.ensures ∙ c.if-not-is_code.false))

pub returns : goal.returns
returns c = right-over is_network _ _ (3 * c.loop-i.i) c.loop-i.invariant (omega arith)
