-- The answer decides; a card is taken only with a SUCI of at most 64 octets, an import only with at most sixteen entries: both fit an octet. Assumes nothing.
use Prim.Native.Nat.{ℕ}
use native.Mathlib.Omega.{arith}
use mathlib.Core.Path.{◌≡◌, refl}
use mathlib.Core.Bool.{Bool, true, false, cond}
use mathlib.Core.List.{List}
use lib.ListN.{length, get_or}
use lib.Dec.{leb, eqb}
use borrow.Author.Tests.{leb-true}
use Rattle.record.specs.Tests.{both, is_edition}
use Rattle.record.specs.Network.{is_network}
use Rattle.record.specs.Answers.{is_taken}
use Rattle.record.specs.declared.Answer.{Answer}
use Rattle.record.specs.declared.Answer.TheVariants as answer
use Rattle.record.specs.declared.Hot.{Hot}
use Rattle.entries.specs.declared.Seen.{Seen}
use Rattle.checks.specs.Answers.{check, card_answer, import_answer}
use Rattle.rules.specs.declared.Event.{Event}
use Rattle.rules.specs.declared.Event.TheVariants.{Card, Start, Message, Timer, Power, Key, Update, Import, Unknown}
use Rattle.rules.specs.declared.Plan.{Plan}
use Rattle.rules.specs.Plan.{Fits, access_in, answer_of, effect_of, refused_plan, decided_by, plan_of}
use Rattle.rules.specs.Sides.{has_work, work_plan}
use Rattle.rules.proofs.work.work_plan.Goals as goal

-- what is taken has passed each of its tests
passed : (n a b d e : Bool) → is_taken (check (both n (both a (both (both b d) e))) answer.Range answer.Taken) ≡ true → d ≡ true
unfolding is_taken
passed n a b true e t = refl
passed true true true false e t = t
passed true true false false e t = t
passed true false b false e t = t
passed false a b false e t = t

room : (a b : Bool) → is_taken (check a answer.Range (check b answer.Full answer.Taken)) ≡ true → b ≡ true
unfolding is_taken
room a true t = refl
room true false t = t
room false false t = t

-- of those with work a card and an import keep a number in an octet
fits : (h : Hot) (e : Event) (s : Seen) (o : List ℕ) (n : Answer) → n ≡ cond (has_work e) (answer_of h e s false o) answer.Range → is_taken n ≡ true → Fits e s.at o
unfolding has_work answer_of card_answer import_answer
fits h (Card edition home) s o n a t =
    let most : leb (length o) 64 ≡ true = passed (is_edition edition) (is_network home) (leb 9 (length o)) (leb (length o) 64) (eqb (get_or o 0 0) 1) (rw a at t) in
    omega (arith, leb-true (length o) 64 most)
fits h (Start w manual net code) s o n a t = tt
fits h (Message w protected draws) s o n a t = tt
fits h (Timer number w) s o n a t = tt
fits h Power s o n a t = tt
fits h (Key w set) s o n a t = tt
fits h (Update w regtype net code uplink sessions) s o n a t = tt
fits h Import s o n a t = omega (arith, leb-true s.at 16 (room s.found (leb s.at 16) (rw a at t)))
fits h Unknown s o n a t = tt

decided : (h : Hot) (e : Event) (s : Seen) (o : List ℕ) (n : Answer) (p : Plan) → n ≡ cond (has_work e) (answer_of h e s false o) answer.Range
    → (has_work e ≡ true → p ≡ decided_by n h (access_in e) (effect_of h e s o)) → (is_taken n ≡ false → p ≡ refused_plan h (access_in e) n) → p ≡ work_plan h e s o
unfolding work_plan plan_of is_taken
decided h e s o n p a d r = go (has_work e) refl
  where
    go : (b : Bool) → has_work e ≡ b → p ≡ cond (has_work e) (plan_of h e s false o) (refused_plan h (access_in e) answer.Range)
    go true q = rw (q, ← rw q at a) (d q)
    go false q = let is : n ≡ answer.Range = rw q at a in rw (q, ← is) (r (rw is))

pub worked_by-requires : goal.worked_by-requires
worked_by-requires c = record { fits = (λ t. fits _ _ _ _ _ c.work_answer-n.ensures t); read = c.heard-m.ensures }

pub returns : goal.returns
returns c = decided _ _ _ _ _ _ c.work_answer-n.ensures c.worked_by.ensures.value c.worked_by.ensures.value_2
