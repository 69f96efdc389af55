-- The writer's returns, one for each answer: the checks in their order, and a refusal leaves the buffer. Assumes nothing.
use Prim.Native.Nat.{ℕ, ◌≤◌}
use mathlib.Core.Path.{◌≡◌, refl, sym, ◌∙◌}
use mathlib.Core.Bool.{Bool, true, false, cond}
use mathlib.Core.List.{List}
use lib.ListN.{length}
use lib.Dec.{leb, eqb}
use borrow.Author.Tests.{eq-eqb, ne_eqb}
use Rattle.laws.specs.Upto.{over}
use Rattle.record.specs.declared.Access.{Access}
use Rattle.record.specs.declared.Record.{Record}
use Rattle.std.proofs.Common.{Result, Ok, Err}
use Rattle.record.specs.declared.Answer.{Answer}
use Rattle.record.specs.declared.Answer.TheVariants.{Taken, Range, State, Short}
use Rattle.record.specs.Answers.{is_taken}
use Rattle.record.specs.Sides.{access_of}
use Rattle.identity.specs.declared.S1.{S1}
use Rattle.request.specs.Layout.{layout}
use Rattle.request.specs.Writing.{says_of, fields_of, request_of, may_request, writing_answer, written_of, buffer_of}
use Rattle.request.specs.Steps.{sent_of, sent_over}
use Rattle.request.proofs.Ranges.{ready, may-facts}

-- an answer and a length picked at once, or each for itself
told : (x : Bool) (k : ℕ) → cond x (Ok k) (Err Short) ≡ cond (is_taken (cond x Taken Short)) (Ok k) (Err (cond x Taken Short))
unfolding is_taken
told true k = refl
told false k = refl

left : (x : Bool) (o b : List ℕ) → cond x o b ≡ cond (is_taken (cond x Taken Short)) o b
unfolding is_taken
left true o b = refl
left false o b = refl

module _ (r : Record) (access : ℕ) (s1 : S1) (attach : List ℕ) (t : Bool) (e : t ≡ may_request r access (length attach)) where
  pub out_of_range : (b : List ℕ) → t ≡ false → (Err Range ≡ written_of r access s1 attach (length b)) × (b ≡ buffer_of r access s1 attach b)
  unfolding written_of buffer_of writing_answer is_taken
  out_of_range b h =
      let fails : may_request r access (length attach) ≡ false = sym e ∙ h in
      (rw fails, rw fails)

  module _ (h : t ≡ true) (own : Access) (same : own ≡ access_of r.hot access) where
    holds : may_request r access (length attach) ≡ true
    holds = sym e ∙ h

    pub out-of-state : (b : List ℕ) → (own.state ≡ 4 → ⊥) → (Err State ≡ written_of r access s1 attach (length b)) × (b ≡ buffer_of r access s1 attach b)
    unfolding written_of buffer_of writing_answer is_taken
    out-of-state b z =
        let fails : eqb (access_of r.hot access).state 4 ≡ false = rw (← same) (ne_eqb own.state 4 z) in
        (rw (holds, fails), rw (holds, fails))

    module _ (s : own.state ≡ 4) where
      four : (access_of r.hot access).state ≡ 4
      four = rw (← same) s

      pub allowed : (r.hot.dev.suci ≤ 64) × ((r.hot.dev.capability ≤ 13) × ((r.hot.dev.security ≤ 8) × ((own.ksi ≤ 7) × ((own.regtype ≤ 3) × (length attach ≤ 65000)))))
      allowed =
          let may = may-facts r access (length attach) holds in
          let all = ready r access may.valid four in
          (all.suci.1, (all.capability.1, (all.security.1, (rw same all.ksi, (rw same all.regtype.1, may.attach)))))

      answered : (n : ℕ) → writing_answer r access s1 attach n ≡ cond (leb (length (request_of r access s1 attach)) n) Taken Short
      unfolding writing_answer
      answered n = rw (holds, eq-eqb _ _ four)

      pub written : (b d : List ℕ) (w : Result ℕ Answer)
          → w ≡ sent_of (layout (says_of r access own (cond (eqb access 0) r.equivalents0 r.equivalents1) s1 attach)) (length b)
          → d ≡ sent_over (layout (says_of r access own (cond (eqb access 0) r.equivalents0 r.equivalents1) s1 attach)) b
          → (w ≡ written_of r access s1 attach (length b)) × (d ≡ buffer_of r access s1 attach b)
      unfolding written_of buffer_of sent_of sent_over request_of fields_of
      written b d w g k = (
        g ∙ rw (answered (length b), same) (told (leb (length (request_of r access s1 attach)) (length b)) (length (request_of r access s1 attach))),
        k ∙ rw (answered (length b), same) (left (leb (length (request_of r access s1 attach)) (length b)) (over (request_of r access s1 attach) b) b),
      )
