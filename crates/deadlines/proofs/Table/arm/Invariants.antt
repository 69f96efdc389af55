-- What is left to be heeded, from slot i on, makes of the table what all ten make of the first. Assumes nothing.
use Rattle.std.proofs.Common.{◌≡◌, drop}
use Rattle.deadlines.specs.Arming.{armed_from}
use Rattle.deadlines.proofs.Table.arm.Given as goal

abbrev pub invariant-loop-i : goal.invariant-loop-i
invariant-loop-i l = armed_from l.time l.i (drop l.i l.tolds) l.self ≡ armed_from l.time 0 l.tolds l.initial.self
