-- Where three octets are left the network is theirs, elsewhere there is none. Assumes nothing.
use mathlib.Core.Path.{◌∙◌}
use borrow.Author.Rules.{rules}
use native.Mathlib.Omega.{arith}
use Rattle.networks.proofs.Reading.{at-left, none_left, at_none}
use Rattle.networks.proofs.network_at.Goals as goal

pub returns-in-Some-len3-up : goal.returns-in-Some-len3-up
returns-in-Some-len3-up c = c.triple.ensures ∙ at-left _ _ _ c.in-Some-len3-up.ensures.lookup.0.2 c.in-Some-len3-up.len_at_least

pub returns-in_default : goal.returns-in_default
returns-in_default c = none_left _ _ _ (rw c.in_default.is at c.get.ensures.lookup).0.2 (search rules)

pub returns-in_default-2 : goal.returns-in_default-2
returns-in_default-2 c = let h = rw c.in_default.is at c.get.ensures.lookup in at_none _ _ (omega (arith, h.0))
