-- Octet by octet, the three of the AMF as its call ensures. Assumes nothing.
use Rattle.identity.specs.Mapping.{amf_octets, amf_of, mapped_guti}
use Rattle.identity.proofs.mapping.map.Goals as goal

pub returns : goal.returns
unfolding mapped_guti amf_of amf_octets
returns c = rw c.amf-amf.ensures
