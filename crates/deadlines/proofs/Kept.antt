-- A stopped slot stays so, and deadlines stay below 2^32. Assumes nothing.
use Rattle.std.proofs.Common.{◌≡◌, ℕ, ◌^◌, ◌<◌, Bool, true, false, cond, refl, arith}
use mathlib.Core.Path.{subst⁻¹}
use Rattle.deadlines.specs.declared.Slot.{Slot}
use Rattle.deadlines.specs.Clock.{clock}
use Rattle.deadlines.specs.Slots.{started, stopped, ended, roll, rolled, due}

pub still : (now : ℕ) → rolled now stopped ≡ stopped
unfolding rolled roll ended
still now = refl

pub silent : (now : ℕ) → due now stopped ≡ false
unfolding due
silent now = refl

roll-ends : (now : ℕ) (x : Slot) → x.ends < 2 ^ 32 → (roll now x).ends < 2 ^ 32
unfolding roll started
roll-ends now x b = go (ended now x)
  where
    go : (c : Bool) → (cond c (started x.ends x.rests) x).ends < 2 ^ 32
    go true = omega arith
    go false = b

pub rolled-ends : (now : ℕ) (x : Slot) → x.ends < 2 ^ 32 → (rolled now x).ends < 2 ^ 32
unfolding rolled
rolled-ends now x b = roll-ends now (roll now x) (roll-ends now x b)

pub started-ends : (now l : ℕ) → (started now l).ends < 2 ^ 32
unfolding started
started-ends now l = omega arith

pub bound : {x y : Slot} → x ≡ y → y.ends < 2 ^ 32 → x.ends < 2 ^ 32
bound e b = subst⁻¹ (λ (w : Slot). w.ends < 2 ^ 32) e b

pub shown : (t : ℕ) → clock t < 2 ^ 32
unfolding clock
shown t = omega arith
