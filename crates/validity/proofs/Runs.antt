-- A record run from a new one is valid, whatever the events: a new one is, and each step keeps it so. Assumes nothing.
use Prim.Native.Nat.{ℕ}
use mathlib.Core.Path.{◌≡◌}
use mathlib.Core.Bool.{true}
use mathlib.Core.List.{List, [], ◌∷◌}
use Rattle.record.specs.declared.Record.{Record}
use Rattle.ranges.proofs.MadeValid.{made-valid}
use Rattle.record.specs.New.{made_of}
use Rattle.ranges.specs.Valid.{valid_of}
use Rattle.rules.specs.declared.Event.{Event}
use Rattle.events.specs.Step.{advance_of, step_of}
use Rattle.validity.specs.Sized.{Sized}
use Rattle.validity.specs.Run.{Heard, AllOctets, run_of}
use Rattle.validity.proofs.Sizes.{step-sized, made-sized}
use Rattle.validity.proofs.Kept.{step-advances, step-valid}

-- a run keeps what a step keeps
pub run-sized : (r : Record) (xs : List Heard) → Sized r → Sized (run_of r xs)
unfolding run_of
run-sized r [] z = z
run-sized r (x ∷ xs) z = run-sized (step_of r x.event x.octets).next xs (step-sized r x.event x.octets z)

pub run-valid : (r : Record) (xs : List Heard) → AllOctets xs → Sized r → valid_of r ≡ true → valid_of (run_of r xs) ≡ true
unfolding run_of
run-valid r [] o z v = v
run-valid r (x ∷ xs) o z v =
    run-valid (step_of r x.event x.octets).next xs o.1 (step-sized r x.event x.octets z) (step-valid r x.event x.octets z o.0 v)

module _ (cardlimit banlimit n1limit : ℕ) (capability security : List ℕ) (xs : List Heard) where
  -- the record that a run from a new one leaves
  abbrev pub ran : Record
  ran = run_of (made_of cardlimit banlimit n1limit capability security).made xs

  pub ran-valid : AllOctets xs → valid_of ran ≡ true
  ran-valid o =
      run-valid (made_of cardlimit banlimit n1limit capability security).made xs o (made-sized cardlimit banlimit n1limit capability security) (made-valid cardlimit banlimit n1limit capability security)

  -- the record is never the reason of answer 1
  pub ran-step : AllOctets xs → (e : Event) (octets : List ℕ) → step_of ran e octets ≡ advance_of ran e octets
  ran-step o e octets = step-advances ran e octets (ran-valid o)
