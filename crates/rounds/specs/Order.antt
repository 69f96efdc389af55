-- In which order rounds name the timers: by true time, the earliest deadline first, of equals the first slot. Assumes nothing.
use Rattle.std.specs.Prelude.{ℕ, ◌<◌, ◌≤◌, ◌≡◌, List, [], ◌∷◌}
use Rattle.rounds.specs.Words.{Ran}
use Rattle.rounds.specs.Acts.{World, Act, happens, asks, round_at, after, Moment, ran_moments, moments, Life, runs, life_after}

unfoldable pub life_in : Life → List Moment → Life
life_in l [] = l
life_in l (m ∷ ms) = life_in (life_after l m) ms

-- of the timers that run, by their slots, none has an earlier deadline than j's, and none of a slot before it the same
pub record Earliest (ls : ℕ → Life) (j : ℕ) : Type 0 where
  pub deadline : ℕ
  pub own : ls j ≡ runs deadline
  pub least : (i d : ℕ) → i < 10 → ls i ≡ runs d → deadline ≤ d
  pub first : (i d : ℕ) → i < j → ls i ≡ runs d → deadline < d

-- so each that a round names, among those that run then
abbrev pub InOrder : (ℕ → Life) → ℕ → List Ran → Type 0
InOrder ls τ [] = Unit {0}
InOrder ls τ (x ∷ xs) = Earliest ls x.at × InOrder (λ i. life_in (ls i) (ran_moments i τ (x ∷ []))) τ xs

abbrev pub Ordered : (ℕ → Life) → World → List Act → Type 0
Ordered ls w [] = Unit {0}
Ordered ls w (happens τ e octets ∷ more) = Ordered (λ i. life_in (ls i) (moments i w (happens τ e octets))) (after w (happens τ e octets)) more
Ordered ls w (asks τ ∷ more) = InOrder ls τ (round_at w τ).ran × Ordered (λ i. life_in (ls i) (moments i w (asks τ))) (after w (asks τ)) more
