-- The octets copied are the piece. Assumes nothing.
use mathlib.Core.Path.{refl}
use mathlib.Core.List.{append_assoc}
use native.Mathlib.Nat.{add-sub_cancel_left}
use lib.Seq.{drop-drop}
use Rattle.laws.specs.Splice.{spliced}
use Rattle.request.proofs.laying.put.Goals as goal

pub returns : goal.returns
unfolding spliced
returns c = record { holds = rw (c.copy_from_slice.ensures.after, add-sub_cancel_left, drop-drop, append_assoc); goes = refl }
