-- As the code has it: a taken event sorted by access 0 and 1, which event is an import and which has work on the arrays, and what one without comes to. Assumes nothing.
use Rattle.std.specs.Prelude.{ℕ, Bool, true, false, cond, List, [], eqb, None}
use Rattle.record.specs.declared.Device.{Device}
use Rattle.record.specs.declared.Hot.{Hot}
use Rattle.record.specs.Sides.{access_of, other_of, hot_of}
use Rattle.record.specs.declared.Answer.TheVariants as answer
use Rattle.entries.specs.declared.Seen.{Seen}
use Rattle.turns.specs.declared.Orders.{Orders}
use Rattle.turns.specs.declared.Told.{Told}
use Rattle.turns.specs.declared.Told.TheVariants.{Left}
use Rattle.turns.specs.declared.Turn.{Turn}
use Rattle.turns.specs.Timers.{flag_after, told_of, clocks_of, clocked}
use Rattle.effects.specs.declared.Sides.{Sides}
use Rattle.rules.specs.declared.Event.{Event}
use Rattle.rules.specs.declared.Event.TheVariants.{Card, Start, Message, Timer, Power, Key, Update, Import, Unknown}
use Rattle.rules.specs.declared.Reply.{Reply}
use Rattle.rules.specs.declared.Plan.{Plan}
use Rattle.effects.specs.Effects.{ticked, idle}
use Rattle.rules.specs.Plan.{access_in, asked_on, all_left, refused_plan, plan_of}

-- the numbers after it
unfoldable pub hot_by : Hot → Sides → Hot
hot_by h x = record {
  dev = ticked (flag_after x.t3247 h.dev.t3247) (flag_after x.t3512 h.dev.t3512) x.dev;
  a0 = clocked x.t0.orders x.t0.access;
  a1 = clocked x.t1.orders x.t1.access;
}

-- what is told of it
unfoldable pub reply_by : Hot → ℕ → Sides → Reply
reply_by h w x = record {
  answer = answer.Taken;
  c0 = clocks_of x.t0.orders h.a0;
  c1 = clocks_of x.t1.orders h.a1;
  t3247 = told_of x.t3247 h.dev.t3247;
  t3512 = told_of x.t3512 h.dev.t3512;
  restart = asked_on x.restart w;
  leave = None;
  update = None;
}

unfoldable pub plan_by : Hot → ℕ → Sides → Plan
plan_by h w x = record { reply = reply_by h w x; hot = hot_by h x; work = x.work; access = w }

unfoldable pub is_importing : Event → Bool
is_importing (Card edition home) = false
is_importing (Start w manual net code) = false
is_importing (Message w protected draws) = false
is_importing (Timer number w) = false
is_importing Power = false
is_importing (Key w set) = false
is_importing (Update w regtype net code uplink sessions) = false
is_importing Import = true
is_importing Unknown = false

-- whether a taken event may have work on the arrays: of the timers T3247 alone
unfoldable pub has_work : Event → Bool
has_work (Card edition home) = true
has_work (Start w manual net code) = false
has_work (Message w protected draws) = true
has_work (Timer number w) = eqb number 4
has_work Power = true
has_work (Key w set) = false
has_work (Update w regtype net code uplink sessions) = false
has_work Import = true
has_work Unknown = false

-- what is told of an event that has none and leaves the other access alone
unfoldable pub turn_reply : Hot → ℕ → Orders → Told → Bool → Reply
turn_reply h w o t3512 restart = record {
  answer = answer.Taken;
  c0 = cond (eqb w 0) (clocks_of o (access_of h w)) all_left;
  c1 = cond (eqb w 0) all_left (clocks_of o (access_of h w));
  t3247 = Left;
  t3512 = t3512;
  restart = asked_on restart w;
  leave = None;
  update = None;
}

-- what it comes to, by its turn and the device's numbers after it
unfoldable pub turn_plan : Hot → ℕ → Turn → Device → Told → Bool → Plan
turn_plan h w t dev t3512 restart = record {
  reply = turn_reply h w t.orders t3512 restart;
  hot = hot_of dev w (clocked t.orders t.access) (other_of h w);
  work = idle;
  access = w;
}

-- the plan of an event without work, and the refusal of one that has; no octets are looked at
unfoldable pub numbers_plan : Hot → Event → Seen → Bool → Plan
numbers_plan h e s listed = cond (has_work e) (refused_plan h 0 answer.Range) (plan_of h e s listed [])

-- the plan of an event that may have work, and the refusal of one that has none; no area is looked at
unfoldable pub work_plan : Hot → Event → Seen → List ℕ → Plan
work_plan h e s octets = cond (has_work e) (plan_of h e s false octets) (refused_plan h (access_in e) answer.Range)
