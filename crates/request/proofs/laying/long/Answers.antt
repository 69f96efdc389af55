-- The contents behind their lead. Assumes nothing.
use Rattle.request.specs.Layout.{length_in, item_octets, with_lead}
use borrow.Author.Rules.{rules}
use Rattle.request.proofs.Pieces.{two-octets}
use Rattle.request.proofs.laying.long.Goals as goal

pub returns : goal.returns
unfolding length_in item_octets
returns c = rw (c.to_be_bytes.ensures, two-octets _ c.requires.0) at c.item.ensures

pub item-requires : goal.item-requires
unfolding item_octets with_lead length_in
item-requires c = search rules
