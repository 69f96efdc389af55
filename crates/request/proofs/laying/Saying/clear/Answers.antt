use mathlib.Core.Path.{refl}
use Rattle.request.specs.Layout.{clear}
use Rattle.request.proofs.laying.Saying.clear.Goals as goal

pub returns : goal.returns
unfolding clear
returns c = refl
