-- Pieces put one behind the other are one piece. Assumes nothing.
use Prim.Native.Nat.{ℕ, ◌+◌, ◌≤◌}
use mathlib.Core.Path.{◌≡◌, refl, sym, ◌∙◌, ap}
use mathlib.Core.List.{List, [], ◌++◌, append_assoc}
use native.Mathlib.Omega.{arith}
use native.Mathlib.Nat.{add-zero}
use lib.ListN.{length, take, drop, length-append}
use lib.Seq.{take_at, drop-append-add, drop-drop, length-take-le, paste, paste-zero, take-length}
use Rattle.laws.specs.Splice.{spliced, Put}

module _ (b : List ℕ) (at : ℕ) (s t : List ℕ) (h : at ≤ length b) where
  abbrev p : List ℕ
  p = take at b ++ s

  front : length p ≡ at + length s
  front = length-append (take at b) s ∙ ap (λ (k : ℕ). k + length s) (length-take-le at b h)

  behind : drop (at + length s + length t) (p ++ drop (at + length s) b) ≡ drop (at + length (s ++ t)) b
  behind =
      let e : at + length s + length t ≡ at + length (s ++ t) = omega (arith, length-append s t) in
      rw (← front, drop-append-add, front, drop-drop, e)

  joins : spliced (spliced b at s) (at + length s) t ≡ spliced b at (s ++ t)
  unfolding spliced
  joins = rw (behind, take_at p (drop (at + length s) b) (at + length s) front, append_assoc (take at b) s t)

-- two pieces next to each other are one
pub join : {b c d s t : List ℕ} {at p q : ℕ} → at ≤ length b → Put b at s c p → Put c p t d q → Put b at (s ++ t) d q
join {b} {c} {d} {s} {t} {at} h x y = record {
  holds = y.holds ∙ rw (x.holds, x.goes) (joins b at s t h);
  goes = omega (arith, x.goes, y.goes, length-append s t);
}

-- no piece changes nothing
pub none : (b : List ℕ) (at : ℕ) → Put b at [] b at
unfolding spliced
none b at = record { holds = paste-zero b at []; goes = sym (add-zero at) }

-- a piece copied to its end
pub copied : (b c s : List ℕ) (at : ℕ) → c ≡ paste b at s (length s) → Put b at s c (at + length s)
unfolding spliced
copied b c s at e = record { holds = rw take-length at e; goes = refl }
