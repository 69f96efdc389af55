-- What is asked picks the clause; nothing and a file have no marks. Assumes nothing.
use Rattle.std.proofs.Common.{refl, sym, ◌∙◌, eq-eqb, ne_eqb}
use Rattle.entries.specs.Entries.{seen_in}
use Rattle.events.specs.Parts.{sight_of, file_seen, seen_by, seen_of}
use Rattle.events.proofs.seeing.marks.Goals as goal

pub returns-in-Nothing : goal.returns-in-Nothing
unfolding seen_of seen_by
returns-in-Nothing c octets = rw (c.in-Nothing.is, c.unseen.ensures) (refl, refl)

pub returns-in-Network-eq0-default : goal.returns-in-Network-eq0-default
unfolding seen_of seen_by sight_of seen_in
returns-in-Network-eq0-default c octets = let n = c.in-Network-eq0-default in
    rw (n.is, eq-eqb n.access 0 (sym n.access-is ∙ n.access-test), c.look.ensures) (refl, refl)

pub returns-in-Network : goal.returns-in-Network
unfolding seen_of seen_by sight_of seen_in
returns-in-Network c octets = let n = c.in-Network in
    rw (n.is, ne_eqb n.access 0 (λ e. n.access-test.1 (n.access-is ∙ e)), c.look-in-Network.ensures) (refl, refl)

pub returns-in-File : goal.returns-in-File
unfolding seen_of seen_by file_seen
returns-in-File c octets = rw (c.in-File.is, c.unseen-in-File.ensures) (refl, refl)
