use Rattle.identity.specs.Mapping.{amf_of, amf_octets}
use borrow.Author.Rules.{rules}
use Rattle.identity.proofs.mapping.amf.Goals as goal

pub returns : goal.returns
unfolding amf_of amf_octets
returns c = search rules
