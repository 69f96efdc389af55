-- `find` meets its contract. The loop's invariant: m has the first i elements as its bits, so that in the end its trailing zeros are the place of the first that is the network.
use mathlib.Core.Path.{◌≡◌}
use Rattle.entries.specs.Places.{same_net}
use Rattle.entries.proofs.Mask.{passing}
use Rattle.entries.proofs.find.Given as goal

abbrev pub invariant-loop-i : goal.invariant-loop-i
invariant-loop-i l = l.m ≡ passing (same_net l.net) l.i l.nets
