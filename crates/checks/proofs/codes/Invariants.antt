-- The loop's invariant: the test of all is that of the networks from place i on. Assumes nothing.
use Prim.Native.Nat.{◌*◌}
use mathlib.Core.Path.{◌≡◌}
use lib.ListN.{drop}
use Rattle.laws.specs.Upto.{every}
use Rattle.networks.specs.Networks.{networks_in}
use Rattle.record.specs.Network.{is_network}
use Rattle.checks.proofs.codes.Given as goal

abbrev pub invariant-loop-i : goal.invariant-loop-i
invariant-loop-i l = every is_network (networks_in l.file) ≡ every is_network (networks_in (drop (3 * l.i) l.file))
