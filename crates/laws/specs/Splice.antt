-- Octets put into a buffer, one piece behind the other. Assumes nothing.
use Rattle.std.specs.Prelude.{ℕ, ◌+◌, ◌≡◌, List, ◌++◌, length, take, drop}

-- octets put over those of a buffer from a place on
unfoldable pub spliced : List ℕ → ℕ → List ℕ → List ℕ
spliced buffer at octets = (take at buffer ++ octets) ++ drop (at + length octets) buffer

-- a buffer after octets are put at a place of it, and the place behind them
pub record Put (buffer : List ℕ) (at : ℕ) (octets after : List ℕ) (next : ℕ) : Type 0 where
  pub holds : after ≡ spliced buffer at octets
  pub goes : next ≡ at + length octets
