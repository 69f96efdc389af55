-- What is printed is what is answered: the replay tests no record, and each line that it prints is that of the step, which tests it. From a new record every record is valid, so the test passes. Assumes nothing.
use Prim.Native.Nat.{ℕ, ◌+◌}
use mathlib.Core.Path.{◌≡◌, refl, ap}
use mathlib.Core.Bool.{true}
use mathlib.Core.List.{List, ◌++◌}
use Rattle.record.specs.declared.Record.{Record}
use Rattle.ranges.specs.Valid.{valid_of}
use Rattle.events.specs.Step.{advance_of}
use Rattle.eventlog.specs.Log.{Log, over, bad, entry, log_of}
use Rattle.eventlog.specs.Replay.{line_after, text_of, text_by_steps}
use Rattle.validity.specs.Run.{Heard, Octets, AllOctets}
use Rattle.validity.specs.Sized.{Sized}
use Rattle.validity.proofs.Kept.{step-advances, valid-kept}
use Rattle.validity.proofs.Runs.{ran, ran-valid, run-sized}
use Rattle.validity.proofs.Sizes.{advance-sized, made-sized}
use Rattle.history.specs.Replayed.{heard_in}
use Rattle.history.proofs.Replayed.{log-small}

pub answered : (n : ℕ) (r : Record) (l : Log) → AllOctets (heard_in l) → Sized r → valid_of r ≡ true → text_of n r l ≡ text_by_steps n r l
unfolding text_of text_by_steps heard_in
answered n r over o z v = refl
answered n r (bad at) o z v = refl
answered n r (entry e octets l) o z v =
    rw (step-advances r e octets v)
    (ap (λ (t : List ℕ). line_after (n + 1) (advance_of r e octets) ++ t)
    (answered (n + 1) (advance_of r e octets).next l o.1 (advance-sized r e octets z) (valid-kept r e octets z o.0 v)))

-- Over any log of octets, from any record that is reached from a new one: the text that is printed is the text of what the step answers.
pub answered-reached : (cardlimit banlimit n1limit : ℕ) (capability security : List ℕ) (xs : List Heard) → AllOctets xs → (n : ℕ) (s : List ℕ) → Octets s
    → text_of n (ran cardlimit banlimit n1limit capability security xs) (log_of 0 0 s) ≡ text_by_steps n (ran cardlimit banlimit n1limit capability security xs) (log_of 0 0 s)
answered-reached x y z c d xs a n s o =
    answered n _ (log_of 0 0 s) (log-small 0 0 s o) (run-sized _ xs (made-sized x y z c d)) (ran-valid x y z c d xs a)
