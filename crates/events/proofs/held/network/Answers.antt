-- `network` meets its contract: the octets of what lies behind a place are those behind it.
use lib.Seq.{get_or-drop}
use Rattle.events.proofs.held.network.Goals as goal

pub returns : goal.returns
returns c =
    let s = c.args.s.now in
    let at = c.args.at in
    rw (c.triple.ensures, c.octet.ensures, c.octet-2.ensures, c.octet-3.ensures, c.tail-rest.ensures, get_or-drop at s 1 0, get_or-drop at s 2 0)
