-- What is kept picks the clause, and the event's own access its arm. Assumes nothing.
use Rattle.events.specs.Parts.{equivalents_after}
use Rattle.events.proofs.Front.{at-most}
use Rattle.events.proofs.held.equivalents.Goals as goal

pub returns-in-Nothing : goal.returns-in-Nothing
unfolding equivalents_after
returns-in-Nothing c = rw c.in-Nothing.is

pub returns-then-own : goal.returns-then-own
unfolding equivalents_after
returns-then-own c = rw (c.in-Gift.is, c.if-own.true, ← at-most 15 c.in-Gift.g.count, ← c.min-n.ensures, ← c.tail.ensures) c.copy_equivalents.ensures

pub returns-else-own : goal.returns-else-own
unfolding equivalents_after
returns-else-own c = rw (c.in-Gift.is, c.if-own.false)

pub returns-in-Card : goal.returns-in-Card
unfolding equivalents_after
returns-in-Card c = rw c.in-Card.is
