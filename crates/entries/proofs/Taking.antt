-- Taking in a file's networks, one more at a time; and a deed on the marks, whatever the order. Assumes nothing.
use Prim.Native.Nat.{ℕ, ◌<◌}
use mathlib.Core.Path.{◌≡◌, refl, ◌∙◌, ap, sym}
use mathlib.Core.Bool.{Bool, true, false}
use mathlib.Core.List.{List, [], ◌++◌}
use lib.Dec.{eqb}
use lib.ListN.{length}
use Rattle.networks.specs.Networks.{unused, network_at, used_by, networks_in}
use Rattle.entries.specs.declared.Entries.{Entries}
use Rattle.entries.specs.declared.Deed.{Deed}
use Rattle.entries.specs.declared.Deed.TheVariants as deed
use Rattle.entries.specs.Places.{entries_held, has_entry}
use Rattle.entries.specs.Order.{last_to}
use Rattle.entries.specs.Entries.{with_ranks, banned, barred_by, unforbidden, n1_to_limit, swept, powered, grown, imported, imported_all, none, marks_after}
use Rattle.entries.proofs.Chunks.{chunk-next, chunk-over}

-- what is left, taken into these entries, gives the result
module _ (named : ℕ → Bool) (all : Entries) (s : List ℕ) (n : ℕ) (t : Entries) (c : all ≡ imported_all named (networks_in s) n t) where
  module _ (x rest : List ℕ) (split : s ≡ x ++ rest) (three : length x ≡ 3) (net : ℕ) (q : net ≡ network_at x 0) where
    still : all ≡ imported_all named (used_by net (networks_in rest)) n t
    still = c ∙ ap (λ (xs : List ℕ). imported_all named xs n t) (chunk-next s x rest split three ∙ ap (λ (m : ℕ). used_by m (networks_in rest)) (sym q))

    pub take_none : eqb net unused ≡ true → all ≡ imported_all named (networks_in rest) n t
    take_none u = rw u at still

    pub take-one : eqb net unused ≡ false → (next : ℕ) → next ≡ grown (has_entry n net t.nets) n → (t' : Entries) → t' ≡ imported net n t → all ≡ imported_all named (networks_in rest) next t'
    unfolding imported_all
    take-one u next e t' f = rw (e, f) (rw u at still)

  -- nothing is left: the order is made
  pub take-over : length s < 3 → (ranks : List ℕ) → ranks ≡ last_to named (entries_held n) (entries_held n) t.nets t.ranks → with_ranks ranks t ≡ all
  unfolding imported_all
  take-over h ranks e = ap (λ (rs : List ℕ). with_ranks rs t) e ∙ sym (c ∙ ap (λ (xs : List ℕ). imported_all named xs n t) (chunk-over s h))

-- a deed on the marks leaves the order as it was, and goes by it nowhere
pub marks-apart : (k : Deed) (count banlimit n1limit : ℕ) (ranks : List ℕ) (t : Entries)
    → marks_after k count banlimit n1limit (with_ranks ranks t) ≡ with_ranks ranks (marks_after k count banlimit n1limit t)
unfolding marks_after banned barred_by unforbidden n1_to_limit swept powered none
marks-apart deed.Nothing count banlimit n1limit ranks t = refl
marks-apart (deed.Ban s) count banlimit n1limit ranks t = refl
marks-apart (deed.Bar s) count banlimit n1limit ranks t = refl
marks-apart (deed.Accept s) count banlimit n1limit ranks t = refl
marks-apart (deed.ToLimit net) count banlimit n1limit ranks t = refl
marks-apart deed.Import count banlimit n1limit ranks t = refl
marks-apart deed.Sweep count banlimit n1limit ranks t = refl
marks-apart deed.Power count banlimit n1limit ranks t = refl
marks-apart deed.Fresh count banlimit n1limit ranks t = refl

-- so the marks and the order can be made apart from each other
pub marks-with : (k : Deed) (count banlimit n1limit : ℕ) (t x : Entries) → with_ranks [] x ≡ marks_after k count banlimit n1limit (with_ranks [] t) → (ranks : List ℕ)
    → with_ranks ranks x ≡ with_ranks ranks (marks_after k count banlimit n1limit t)
marks-with k count banlimit n1limit t x e ranks = ap (with_ranks ranks) (e ∙ marks-apart k count banlimit n1limit [] t)
