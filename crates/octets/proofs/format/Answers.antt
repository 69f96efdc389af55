-- `octets::format` meets its contract: antt computes the rule by ranges at each of the 256 entries, and one law turns that into the rule at the identifier given. Assumes nothing.
use borrow.Author.Rules.{rules}
use mathlib.Core.Bool.{Bool}
use mathlib.Core.List.{List, ◌∷◌, ◌++◌}
use Prim.Native.Nat.{ℕ}
use lib.Dec.{eqb, eqb→eq}
use lib.ListN.{get_or, replicate}
use Rattle.octets.proofs.Table.{at}
use Rattle.octets.specs.Element.{format_of, code_of}
use Rattle.octets.proofs.format.Goals as goal

-- the table's entries
codes : List ℕ
codes = replicate 16 3 ++ (replicate 66 1 ++ (4 ∷ (replicate 29 1 ++ (replicate 16 2 ++ replicate 128 0))))

right : ℕ → ℕ → Bool
right k x = eqb x (code_of (format_of k))

pub returns : goal.returns
unfolding codes right format_of code_of
returns c = rw c.from.ensures (eqb→eq (get_or codes c.args.id 0) (code_of (format_of c.args.id)) (at right codes tt c.args.id (search rules)))
