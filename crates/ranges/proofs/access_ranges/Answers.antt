-- The counts passed their test before the columns are read to them. Assumes nothing.
use mathlib.Core.Path.{◌≡◌}
use mathlib.Core.Bool.{true}
use Rattle.std.proofs.Common.{arith}
use Rattle.std.proofs.lemmas.Grind.{common_steps}
use Rattle.ranges.specs.Valid.{identity_ranges}
use Rattle.ranges.proofs.Bounds.{counts}
use Rattle.ranges.proofs.access_ranges.Goals as goal

pub held_ranges-requires : goal.held_ranges-requires
held_ranges-requires c = let e : identity_ranges c.args.a ≡ true = grind (arith, common_steps) in counts _ e
