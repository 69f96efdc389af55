-- A file read from a place on: the network there and what is read three octets further; nothing where fewer than three are left. Assumes nothing.
use Prim.Native.Nat.{ℕ, zero, suc, ◌+◌, ◌-◌, ◌≤◌, ◌<◌}
use mathlib.Core.Path.{◌≡◌, refl, ◌∙◌, ap}
use mathlib.Core.List.{List, [], ◌∷◌}
use native.Mathlib.Nat.{add-zero, suc-add}
use native.Mathlib.Omega.{arith}
use lib.ListN.{length, get_or, take, drop, length-drop}
use Rattle.std.proofs.lemmas.List.{get_or-drop, take_all}
use borrow.Author.Tests.{lt-ltb, le-ltb}
use Rattle.networks.specs.Networks.{network_of, unused, network_at, used_by, networks_in}

pub at-is : (i : ℕ) (s : List ℕ) → i + 2 < length s → network_of (get_or s i 0) (get_or s (i + 1) 0) (get_or s (i + 2) 0) ≡ network_at s i
unfolding network_at
at-is i s h = rw (lt-ltb (i + 2) (length s) h)

pub at_none : (i : ℕ) (s : List ℕ) → length s ≤ i + 2 → unused ≡ network_at s i
unfolding network_at
at_none i s h = rw (le-ltb (i + 2) (length s) h)

-- what is left of a file from a place on
left : (i : ℕ) (s r : List ℕ) → r ≡ take (length s - i) (drop i s) → r ≡ drop i s
left i s r e = e ∙ take_all (length s - i) (drop i s) (omega (arith, length-drop i s))

pub at-left : (i : ℕ) (s r : List ℕ) → r ≡ take (length s - i) (drop i s) → 3 ≤ length r → network_of (get_or r 0 0) (get_or r 1 0) (get_or r 2 0) ≡ network_at s i
at-left i s r e h =
    let n : length r ≡ length s - i = ap length (left i s r e) ∙ length-drop i s in
    rw (left i s r e, get_or-drop i s 0 0, get_or-drop i s 1 0, get_or-drop i s 2 0, add-zero) (at-is i s (omega arith))

pub none_left : (i : ℕ) (s r : List ℕ) → r ≡ take (length s - i) (drop i s) → length r < 3 → unused ≡ network_at s i
none_left i s r e h =
    let n : length r ≡ length s - i = ap length (left i s r e) ∙ length-drop i s in
    at_none i s (omega arith)

next : (i : ℕ) (s : List ℕ) → i + 2 < length s → networks_in (drop i s) ≡ used_by (network_of (get_or s i 0) (get_or s (i + 1) 0) (get_or s (i + 2) 0)) (networks_in (drop (i + 3) s))
unfolding networks_in
next zero (a ∷ b ∷ c ∷ s) h = refl
next zero (a ∷ b ∷ []) h = absurd (omega arith)
next zero (a ∷ []) h = absurd (omega arith)
next zero [] h = absurd (omega arith)
next (suc i) (a ∷ s) h = rw (suc-add i 1, suc-add i 2, suc-add i 3) (next i s (omega arith))
next (suc i) [] h = absurd (omega arith)

pub file-next : (i : ℕ) (s : List ℕ) → i + 2 < length s → networks_in (drop i s) ≡ used_by (network_at s i) (networks_in (drop (i + 3) s))
file-next i s h = next i s h ∙ ap (λ (n : ℕ). used_by n (networks_in (drop (i + 3) s))) (at-is i s h)

pub file-over : (i : ℕ) (s : List ℕ) → length s ≤ i + 2 → networks_in (drop i s) ≡ []
unfolding networks_in
file-over zero (a ∷ b ∷ c ∷ s) h = absurd (omega arith)
file-over zero (a ∷ b ∷ []) h = refl
file-over zero (a ∷ []) h = refl
file-over zero [] h = refl
file-over (suc i) (a ∷ s) h = file-over i s (omega arith)
file-over (suc i) [] h = refl
