-- An event that has no work and leaves the other access alone: its plan by its turn is the plan of its effect. Assumes nothing.
use Prim.Native.Nat.{ℕ}
use mathlib.Core.Path.{◌≡◌, refl}
use mathlib.Core.Bool.{Bool, true, false}
use lib.Dec.{eqb}
use Rattle.record.specs.declared.Hot.{Hot}
use Rattle.record.specs.declared.Device.{Device}
use Rattle.record.specs.Sides.{access_of, other_of, hot_of}
use Rattle.turns.specs.declared.Order.{Order}
use Rattle.turns.specs.declared.Order.TheVariants.{Leave}
use Rattle.turns.specs.declared.Turn.{Turn}
use Rattle.turns.specs.Timers.{flag_after, told_of, clocks_of, clocked}
use Rattle.turns.specs.Turns.{still}
use Rattle.effects.specs.Effects.{Effect, idle, ticked}
use Rattle.rules.specs.Plan.{taken_plan, taken_reply, hot_after}
use Rattle.rules.specs.Sides.{turn_reply, turn_plan}

-- such an effect
abbrev pub alone : Hot → ℕ → Device → Turn → Order → Bool → Effect
alone h w d t order restart = record { dev = d; mine = t; theirs = still (other_of h w); t3247 = Leave; t3512 = order; work = idle; restart = restart }

side : (h : Hot) (w : ℕ) (d : Device) (t : Turn) (order : Order) (restart b : Bool) → eqb w 0 ≡ b
    → turn_plan h w t (ticked h.dev.t3247 (flag_after order h.dev.t3512) d) (told_of order h.dev.t3512) restart ≡ taken_plan h w (alone h w d t order restart)
unfolding turn_plan turn_reply taken_plan taken_reply hot_after hot_of access_of other_of clocks_of clocked told_of flag_after ticked
side h w d t order restart true i = rw i
side h w d t order restart false i = rw i

pub turn-plan : (h : Hot) (w : ℕ) (d : Device) (t : Turn) (order : Order) (restart : Bool)
    → turn_plan h w t (ticked h.dev.t3247 (flag_after order h.dev.t3512) d) (told_of order h.dev.t3512) restart ≡ taken_plan h w (alone h w d t order restart)
turn-plan h w d t order restart = side h w d t order restart (eqb w 0) refl
