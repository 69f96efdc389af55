-- Where one is free its place is that; else it is that of the entry that gives up its own. Assumes nothing.
use Rattle.entries.proofs.Seeing.{seen-room}
use Rattle.events.proofs.Left.{seen-behind}
use Rattle.events.proofs.seeing.sight.Goals as goal

pub returns-then-s-lt16 : goal.returns-then-s-lt16
returns-then-s-lt16 c = let a = c.args.e.now in
    rw c.look-s.ensures (seen-room c.args.count c.args.net a.nets a.forbidden a.barred a.ranks (rw c.look-s.ensures at c.if-s-lt16.true))

pub returns : goal.returns
returns c = let a = c.args.e.now in
    rw (c.leaver.ensures, c.look-s.ensures) (seen-behind c.args.count c.args.net a.nets a.forbidden a.barred a.ranks (rw c.look-s.ensures at c.if-s-lt16.false))
