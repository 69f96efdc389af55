-- `octets::element_at` meets its contract: one law says what the element is, and each return is its case. Assumes nothing.
use mathlib.Core.Path.{sym}
use borrow.Author.Tests.{le-ltb, lt-ltb}
use Rattle.octets.proofs.Codes.{read-known}
use Rattle.octets.proofs.Elements.{found}
use Rattle.octets.specs.Element.{element_at, read_as}
use Rattle.octets.proofs.element_at.Goals as goal

pub returns-then-msg-at : goal.returns-then-msg-at
unfolding element_at
returns-then-msg-at c = simp (le-ltb _ _ c.if-msg-at.true)

pub returns-then-msg-at-2 : goal.returns-then-msg-at-2
returns-then-msg-at-2 c = rw (found _ _ _ _ _ _ c.if-msg-at.false c.format_of-layout.ensures c.lead-lead.ensures.0 c.contents-len.ensures.0, lt-ltb _ _ c.if-msg-at-2.true)

pub returns-in-MustBeKnown : goal.returns-in-MustBeKnown
unfolding read_as
returns-in-MustBeKnown c = rw (found _ _ _ _ _ _ c.if-msg-at.false c.format_of-layout.ensures c.lead-lead.ensures.0 c.contents-len.ensures.0, le-ltb _ _ c.if-msg-at-2.false, c.in-MustBeKnown.is)

pub returns-in_default : goal.returns-in_default
returns-in_default c = rw (found _ _ _ _ _ _ c.if-msg-at.false c.format_of-layout.ensures c.lead-lead.ensures.0 c.contents-len.ensures.0, le-ltb _ _ c.if-msg-at-2.false) (sym (read-known _ _ c.in_default.not-MustBeKnown))
