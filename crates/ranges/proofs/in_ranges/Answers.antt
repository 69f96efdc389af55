-- The counts passed their test before the lists are read to them. Assumes nothing.
use mathlib.Core.Path.{◌≡◌}
use mathlib.Core.Bool.{true}
use Rattle.std.proofs.Common.{arith}
use Rattle.std.proofs.lemmas.Grind.{common_steps}
use Rattle.ranges.specs.Valid.{device_numbers}
use Rattle.ranges.proofs.Bounds.{lists}
use Rattle.ranges.proofs.in_ranges.Goals as goal

pub listed-requires : goal.listed-requires
listed-requires c = let e : device_numbers c.args.r.now.hot.dev ≡ true = grind (arith, common_steps) in lists _ e
