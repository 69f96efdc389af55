-- A reply as numbers: "for each timer whether it was left, stopped (only if running) or started, with how many seconds; and requests (restart, leave, update)". Assumes nothing.
use Rattle.std.specs.Prelude.{ℕ, ◌+◌, Option, Some, None}
use Rattle.record.specs.Answers.{fault_offset}
use Rattle.turns.specs.declared.Told.{Told}
use Rattle.turns.specs.declared.Told.TheVariants.{Left, Stopped, Started}
use Rattle.turns.specs.declared.Clocks.{Clocks}
use Rattle.rules.specs.declared.Reply.{Reply}
use Rattle.firmware.specs.declared.Timer.{Timer}
use Rattle.firmware.specs.declared.Timers.{Timers}
use Rattle.firmware.specs.declared.Notice.{Notice}

unfoldable pub timer_notice : Told → Timer
timer_notice Left = record { told = 0; seconds = 0 }
timer_notice Stopped = record { told = 1; seconds = 0 }
timer_notice (Started seconds) = record { told = 2; seconds = seconds }

unfoldable pub timers_of : Clocks → Timers
timers_of c = record {
  t3510 = timer_notice c.t3510;
  t3511 = timer_notice c.t3511;
  t3502 = timer_notice c.t3502;
  t3346 = timer_notice c.t3346;
}

-- none, or 1 plus the access
unfoldable pub asked_number : Option ℕ → ℕ
asked_number None = 0
asked_number (Some access) = 1 + access

-- what an event's reply tells, and whether it changed the record: R-1's refusals tell "the offset from 0 of the octet at fault", counted in the message; it is 0 beside every other answer
unfoldable pub notice_of : ℕ → Reply → Notice
notice_of changed p = record {
  offset = fault_offset p.answer;
  c0 = timers_of p.c0;
  c1 = timers_of p.c1;
  t3247 = timer_notice p.t3247;
  t3512 = timer_notice p.t3512;
  restart = asked_number p.restart;
  leave = asked_number p.leave;
  update = asked_number p.update;
  changed = changed;
}
