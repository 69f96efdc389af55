-- Timers: what an event orders, whether the timer then runs, and what the caller is told. Assumes nothing.
use Rattle.std.specs.Prelude.{ℕ, Bool, cond, eqb}
use Rattle.record.specs.Tests.{either}
use Rattle.record.specs.declared.Access.{Access}
use Rattle.record.specs.declared.Device.{Device}
use Rattle.turns.specs.declared.Order.{Order}
use Rattle.turns.specs.declared.Order.TheVariants.{Leave, Stop, Run}
use Rattle.turns.specs.declared.Orders.{Orders}
use Rattle.turns.specs.declared.Told.{Told}
use Rattle.turns.specs.declared.Told.TheVariants.{Left, Stopped, Started}
use Rattle.turns.specs.declared.Clocks.{Clocks}

-- "1 T3510, 2 T3511, 3 T3502, 4 T3247", "timer 5 is T3512 (access 0)", "timer 6 is T3346": T3247 and T3512 are the device's, the others are an access's
unfoldable pub is_device_timer : ℕ → Bool
is_device_timer number = either (eqb number 4) (eqb number 5)

-- whether a timer of the device runs
unfoldable pub runs_in : ℕ → Device → ℕ
runs_in number d = cond (eqb number 4) d.t3247 d.t3512

-- whether a timer of an access runs
unfoldable pub runs_on : ℕ → Access → ℕ
runs_on number a = cond (eqb number 1) a.t3510 (cond (eqb number 2) a.t3511 (cond (eqb number 3) a.t3502 a.t3346))

unfoldable pub flag_after : Order → ℕ → ℕ
flag_after Leave flag = flag
flag_after Stop flag = 0
flag_after (Run s) flag = 1

-- timers run or not by what was ordered
unfoldable pub clocked : Orders → Access → Access
clocked o a = record {
  state = a.state;
  status = a.status;
  attempts = a.attempts;
  cardcounter = a.cardcounter;
  t3510 = flag_after o.t3510 a.t3510;
  t3511 = flag_after o.t3511 a.t3511;
  t3502 = flag_after o.t3502 a.t3502;
  t3346 = flag_after o.t3346 a.t3346;
  t3502length = a.t3502length;
  net = a.net;
  code = a.code;
  regtype = a.regtype;
  uplink = a.uplink;
  sessions = a.sessions;
  guti = a.guti;
  visited = a.visited;
  lastnet = a.lastnet;
  lastcode = a.lastcode;
  ksi = a.ksi;
  equivalents = a.equivalents;
  entries = a.entries;
}

-- "left, stopped (only if running) or started, with how many seconds"
unfoldable pub told_of : Order → ℕ → Told
told_of Leave flag = Left
told_of Stop flag = cond (eqb flag 0) Left Stopped
told_of (Run s) flag = Started s

-- The sets of orders that events give to an access's timers, by name.

-- no timer is touched
abbrev pub quiet : Orders
quiet = record { t3510 = Leave; t3511 = Leave; t3502 = Leave; t3346 = Leave }

-- start: "T3510 (15 s) runs, T3511 and T3502 stop"; update: "stops its access's T3511 and T3502"
abbrev pub starting : Orders
starting = record { t3510 = Run 15; t3511 = Stop; t3502 = Stop; t3346 = Leave }

-- accept, reject: "T3510 stops"
abbrev pub answered : Orders
answered = record { t3510 = Stop; t3511 = Leave; t3502 = Leave; t3346 = Leave }

-- reject 22 with T3346 (document 02, R-6): "T3346 runs on that access", for so long
abbrev pub waiting : ℕ → Orders
waiting length = record { t3510 = Stop; t3511 = Leave; t3502 = Leave; t3346 = Run length }

-- T3510 out below 5: "stops; .. T3511 (10 s) starts"
abbrev pub retrying : Orders
retrying = record { t3510 = Stop; t3511 = Run 10; t3502 = Leave; t3346 = Leave }

-- T3510 out at 5: "stops; .. T3502 starts", with its stored length
abbrev pub resting : ℕ → Orders
resting length = record { t3510 = Stop; t3511 = Leave; t3502 = Run length; t3346 = Leave }

-- T3511 out, T3502 out: "stops"; T3346 out: "stops it"
abbrev pub t3511_stops : Orders
t3511_stops = record { t3510 = Leave; t3511 = Stop; t3502 = Leave; t3346 = Leave }

abbrev pub t3502_stops : Orders
t3502_stops = record { t3510 = Leave; t3511 = Leave; t3502 = Stop; t3346 = Leave }

abbrev pub t3346_stops : Orders
t3346_stops = record { t3510 = Leave; t3511 = Leave; t3502 = Leave; t3346 = Stop }

-- power cycle: "timers stop"
abbrev pub halted : Orders
halted = record { t3510 = Stop; t3511 = Stop; t3502 = Stop; t3346 = Stop }

-- what is told of an access's four timers, by how they ran before
unfoldable pub clocks_of : Orders → Access → Clocks
clocks_of o a = record {
  t3510 = told_of o.t3510 a.t3510;
  t3511 = told_of o.t3511 a.t3511;
  t3502 = told_of o.t3502 a.t3502;
  t3346 = told_of o.t3346 a.t3346;
}
