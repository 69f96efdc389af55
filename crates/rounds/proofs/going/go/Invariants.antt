-- What is left of the round, from where it stands, gives what the whole gives from its start. Assumes nothing.
use Rattle.std.proofs.Common.{◌≡◌, ◌-◌, length}
use Rattle.rounds.specs.Going.{gone_of}
use Rattle.rounds.proofs.going.go.Given as goal

abbrev pub invariant-loop-count : goal.invariant-loop-count
invariant-loop-count l = record {
  same_length : length l.words ≡ length l.initial.words;
  rest : gone_of (l.most - l.count) l.time l.r l.t l.count l.words ≡ gone_of l.most l.time l.initial.r l.initial.t 0 l.initial.words;
}
