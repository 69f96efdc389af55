-- How long the times of a message can be: T3502 and T3346 at most 31 times 360 s, T3512 at most 31 times 320 h. Assumes nothing.
use Prim.Native.Nat.{ℕ, ◌≤◌}
use mathlib.Core.Bool.{true, false, cond}
use mathlib.Core.List.{List}
use Rattle.std.specs.Prelude.{Option, Some, None, unwrap_or}
use native.Mathlib.Omega.{arith}
use lib.Dec.{eqb}
use lib.ListN.{get_or}
use Rattle.octets.specs.declared.Part.{Part}
use Rattle.timers.specs.declared.Span.{Span}
use Rattle.timers.specs.declared.Span.TheVariants.{Off, Zero, Seconds}
use Rattle.timers.specs.Timer.{span2_of, span3_of}
use Rattle.timers.proofs.Rows.{Within, span2-fits, span3-fits}
use Rattle.messages.specs.Message.{timer2_in, paced_of, seconds_of}

seconds-fit : (most : ℕ) (s : Span) → Within most s → seconds_of s ≤ most
seconds-fit most Off h = omega arith
seconds-fit most Zero h = omega arith
seconds-fit most (Seconds n) h = h

pub timer2-fits : (s : List ℕ) (p : Option Part) → seconds_of (timer2_in s p) ≤ 11160
unfolding timer2_in
timer2-fits s None = omega arith
timer2-fits s (Some p) = elim (eqb p.len 0) as (λ b. seconds_of (cond b Off (span2_of (get_or s p.start 0))) ≤ 11160) [
  | true ↦ omega arith
  | false ↦ seconds-fit 11160 (span2_of (get_or s p.start 0)) (span2-fits (get_or s p.start 0))
]

-- where T3512 is given; 0 where it is not
pub t3512-fits : (s : List ℕ) (p : Option Part) → unwrap_or (paced_of s p) 0 ≤ 35712000
unfolding paced_of
t3512-fits s None = omega arith
t3512-fits s (Some p) = elim (eqb p.len 0) as (λ b. unwrap_or (cond b None (Some (seconds_of (span3_of (get_or s p.start 0))))) 0 ≤ 35712000) [
  | true ↦ omega arith
  | false ↦ seconds-fit 35712000 (span3_of (get_or s p.start 0)) (span3-fits (get_or s p.start 0))
]
