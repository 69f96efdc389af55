-- Whether one of them is the network. Assumes nothing.
use Prim.Native.Nat.{ℕ}
use mathlib.Core.Path.{◌≡◌, refl, ◌∙◌, ap}
use mathlib.Core.Bool.{◌||◌}
use mathlib.Core.List.{List, [], ◌∷◌}
use lib.Dec.{eqb}
use Rattle.std.specs.List.{list_any}
use Rattle.history.specs.Tale.{is_one_of}
use Rattle.chronicle.proofs.Places.has.Goals as goal

any_of : (n : ℕ) (ms : List ℕ) → list_any (λ m. eqb m n) ms ≡ is_one_of n ms
unfolding is_one_of
any_of n [] = refl
any_of n (m ∷ ms) = ap (λ b. eqb m n || b) (any_of n ms)

pub returns : goal.returns
returns c = c.contains.ensures.value ∙ (any_of c.args.net _ ∙ ap (is_one_of c.args.net) c.held.ensures)
