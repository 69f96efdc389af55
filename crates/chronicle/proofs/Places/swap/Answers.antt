-- One place more, in which the one stands for the other, or which stays. Assumes nothing.
use Prim.Native.Nat.{ℕ, ◌+◌}
use mathlib.Core.Path.{◌≡◌, ap}
use mathlib.Core.List.{List}
use native.Mathlib.Omega.{arith}
use lib.ListN.{get_or, set}
use borrow.Author.Tests.{eq-eqb, ne_eqb}
use Rattle.laws.specs.Upto.{upto}
use Rattle.laws.proofs.Zip.{zip-none, zip-step}
use Rattle.chronicle.specs.Sheets.{places_of, replacing}
use Rattle.chronicle.proofs.Places.swap.Goals.{then-net-from, else-net-from}
use Rattle.chronicle.proofs.Places.swap.Goals as goal

module _ (from to i : ℕ) (nets now : List ℕ) (e : now ≡ upto (replacing from to) i nets nets) where
  abbrev After : ℕ → List ℕ → Type 0
  After n ns = ns ≡ upto (replacing from to) n nets nets

  step : (v : ℕ) → v ≡ replacing from to (get_or nets i 0) (get_or now i 0) → After (i + 1) (set now i v)
  step v t = zip-step (replacing from to) i nets nets now 0 v e t

  replaced : get_or now i 0 ≡ from → After (i + 1) (set now i to)
  replaced h = step to (rw (eq-eqb (get_or now i 0) from h))

  stayed : (get_or now i 0 ≡ from → ⊥) → After (i + 1) (set now i (get_or now i 0))
  stayed h = step (get_or now i 0) (rw (ne_eqb (get_or now i 0) from h))

pub loop-net-init : goal.loop-net-init
loop-net-init c = zip-none (replacing c.args.from c.args.to) c.args.self.now.nets c.args.self.now.nets

pub loop-net-preserved : goal.loop-net-preserved
loop-net-preserved c =
    elim c.if-net-from.branch [
      | then-net-from w ↦ rw w.net-items-is (replaced _ _ _ _ c.loop-net.net-items c.loop-net.invariant w.if-net-from.true)
      | else-net-from w ↦ rw w.net-items-is (stayed _ _ _ _ c.loop-net.net-items c.loop-net.invariant w.if-net-from.false)
    ]

pub returns : goal.returns
returns c =
    let i : c.loop-net.net-index ≡ 16 = omega arith in
    rw i at (ap (λ (ns : List ℕ). places_of ns c.args.self.now.count) c.loop-net.invariant)
