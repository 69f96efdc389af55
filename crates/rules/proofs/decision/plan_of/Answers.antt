-- The answer decides; a card is taken only with a SUCI of at most 64 octets, an import only with at most sixteen entries: both fit an octet. Assumes nothing.
use Prim.Native.Nat.{ℕ}
use native.Mathlib.Omega.{arith}
use mathlib.Core.Path.{◌≡◌, refl}
use mathlib.Core.Bool.{Bool, true, false}
use mathlib.Core.List.{List}
use lib.ListN.{length, get_or}
use lib.Dec.{leb, eqb}
use borrow.Author.Tests.{leb-true}
use Rattle.record.specs.Tests.{both, is_edition}
use Rattle.record.specs.Network.{is_network}
use Rattle.record.specs.Answers.{is_taken}
use Rattle.record.specs.declared.Answer.TheVariants as answer
use Rattle.record.specs.declared.Hot.{Hot}
use Rattle.entries.specs.declared.Seen.{Seen}
use Rattle.checks.specs.Answers.{check, card_answer, import_answer}
use Rattle.rules.specs.declared.Event.{Event}
use Rattle.rules.specs.declared.Event.TheVariants.{Card, Start, Message, Timer, Power, Key, Update, Import, Unknown}
use Rattle.rules.specs.Plan.{Fits, answer_of, plan_of}
use Rattle.rules.proofs.decision.plan_of.Goals as goal

-- what is taken has passed each of its tests
passed : (n a b d e : Bool) → is_taken (check (both n (both a (both (both b d) e))) answer.Range answer.Taken) ≡ true → d ≡ true
unfolding is_taken
passed n a b true e t = refl
passed true true true false e t = t
passed true true false false e t = t
passed true false b false e t = t
passed false a b false e t = t

room : (a b : Bool) → is_taken (check a answer.Range (check b answer.Full answer.Taken)) ≡ true → b ≡ true
unfolding is_taken
room a true t = refl
room true false t = t
room false false t = t

-- the answer, event by event
fits : (h : Hot) (e : Event) (s : Seen) (listed : Bool) (o : List ℕ) → is_taken (answer_of h e s listed o) ≡ true → Fits e s.at o
unfolding answer_of card_answer import_answer
fits h (Card edition home) s listed o t =
    let most : leb (length o) 64 ≡ true = passed (is_edition edition) (is_network home) (leb 9 (length o)) (leb (length o) 64) (eqb (get_or o 0 0) 1) t in
    omega (arith, leb-true (length o) 64 most)
fits h (Start w manual net code) s listed o t = tt
fits h (Message w protected draws) s listed o t = tt
fits h (Timer number w) s listed o t = tt
fits h Power s listed o t = tt
fits h (Key w set) s listed o t = tt
fits h (Update w regtype net code uplink sessions) s listed o t = tt
fits h Import s listed o t = omega (arith, leb-true s.at 16 (room s.found (leb s.at 16) t))
fits h Unknown s listed o t = tt

pub decided_by-requires : goal.decided_by-requires
decided_by-requires c = record { fits = (λ t. fits _ _ _ _ _ (rw c.answer_of-n.ensures at t)); read = c.heard-m.ensures }

pub returns : goal.returns
unfolding plan_of
returns c = rw (c.decided_by.ensures, c.answer_of-n.ensures)
