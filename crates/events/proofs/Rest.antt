-- What is left of a list from a place on, as the part of a slice gives it. Assumes nothing.
use Prim.Native.Nat.{ℕ, ◌-◌, ◌≤◌}
use mathlib.Core.Path.{◌≡◌, sym, ◌∙◌}
use mathlib.Core.List.{List}
use native.Mathlib.Omega.{arith}
use lib.ListN.{length, take, drop, length-drop, drop_of_length-le}
use lib.Seq.{take_all}

pub rest : (s : List ℕ) (a : ℕ) → take (length s - a) (drop a s) ≡ drop a s
rest s a = take_all (length s - a) (drop a s) (simp length-drop (omega arith))

pub past : (s : List ℕ) (a : ℕ) → length s ≤ a → take (length s - length s) (drop (length s) s) ≡ drop a s
past s a h = rest s (length s) ∙ (drop_of_length-le s {i = length s} (omega arith) ∙ sym (drop_of_length-le s h))
