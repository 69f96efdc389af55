-- `octets::plain` meets its contract: what each of the four ensures. Assumes nothing.
use Rattle.octets.specs.Element.{end_of, gather_of}
use Rattle.octets.proofs.plain.Goals.{then-low, else-low, then-low-2, else-low-2}
use Rattle.octets.proofs.plain.Goals as goal

pub returns-then-low-3 : goal.returns-then-low-3
unfolding gather_of end_of
returns-then-low-3 c t i b n l h = elim c.if-low-2.branch [
  | then-low-2 w ↦ elim c.if-low.branch [
    | then-low v ↦ rw (c.low.ensures v.if-low.true i b n l h, v.low-then-low.ensures (cc) i b n l h, w.low-then-low-2.ensures (cc) i b n l h, c.low-then-low-3.ensures t i b n l h)
    | else-low v ↦ cc
  ]
  | else-low-2 w ↦ cc
]
