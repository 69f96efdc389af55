-- A request with nothing lent has at most 193 octets. Assumes nothing.
use Prim.Native.Nat.{ℕ, ◌≤◌}
use mathlib.Core.Path.{◌≡◌, refl}
use mathlib.Core.Bool.{Bool, true, false, cond}
use mathlib.Core.List.{[]}
use native.Mathlib.Omega.{arith}
use lib.ListN.{length}
use lib.Dec.{leb, eqb}
use borrow.Author.Tests.{eqb-true}
use Rattle.std.proofs.Common.{Ok, Err}
use Rattle.record.specs.declared.Record.{Record}
use Rattle.record.specs.declared.Answer.{Answer}
use Rattle.record.specs.declared.Answer.TheVariants.{Taken, Range, State, Short}
use Rattle.record.specs.Answers.{is_taken}
use Rattle.record.specs.Sides.{access_of}
use Rattle.request.specs.Writing.{no_s1, request_of, may_request, writing_answer, written_of}
use Rattle.request.proofs.Ranges.{may-facts}
use Rattle.request.proofs.Short.{request-short, nothing-mapped}

-- nothing is written but of a valid record in state 4
chosen : (x y z : Bool) (k count : ℕ) → (x ≡ true → y ≡ true → k ≤ 193) → (let a : Answer = cond x (cond y (cond z Taken Short) State) Range in cond (is_taken a) (Ok k) (Err a) ≡ Ok count) → count ≤ 193
unfolding is_taken
chosen true true true k count h e = let q : k ≡ count = cc in omega (arith, h refl refl)
chosen true true false k count h e = cc
chosen true false z k count h e = cc
chosen false y z k count h e = cc

pub short : (r : Record) (access n count : ℕ) → written_of r access no_s1 [] n ≡ Ok count → count ≤ 193
unfolding written_of writing_answer
short r access n count e =
    chosen (may_request r access 0) (eqb (access_of r.hot access).state 4) (leb (length (request_of r access no_s1 [])) n) (length (request_of r access no_s1 [])) count
    (λ x y. request-short r access no_s1 [] (may-facts r access 0 x).valid (eqb-true _ 4 y) (nothing-mapped r.hot.dev.edition (access_of r.hot access).regtype)) e
