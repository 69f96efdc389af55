-- A run: events with their octets, the first one first, each on the record that the one before left. Assumes nothing.
use Rattle.std.specs.Prelude.{ℕ, ◌<◌, List, [], ◌∷◌, get_or}
use Rattle.record.specs.declared.Record.{Record}
use Rattle.rules.specs.declared.Event.{Event}
use Rattle.events.specs.Step.{step_of}

-- an event, and the octets that came beside it
pub record Heard : Type 0 where
  pub event : Event
  pub octets : List ℕ

-- numbers below 256, as the type u8 has them
abbrev pub Octets : List ℕ → Type 0
Octets s = (k : ℕ) → get_or s k 0 < 256

abbrev pub AllOctets : List Heard → Type 0
AllOctets [] = Unit {0}
AllOctets (x ∷ xs) = Octets x.octets × AllOctets xs

unfoldable pub run_of : Record → List Heard → Record
run_of r [] = r
run_of r (x ∷ xs) = run_of (step_of r x.event x.octets).next xs
