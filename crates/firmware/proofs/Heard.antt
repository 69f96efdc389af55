-- A notice tells what its reply told: arming a table by the one is arming it by the other. Assumes nothing.
use Prim.Native.Nat.{ℕ}
use mathlib.Core.Path.{◌≡◌, refl}
use mathlib.Core.Bool.{true}
use Rattle.turns.specs.declared.Told.{Told}
use Rattle.turns.specs.declared.Told.TheVariants.{Left, Stopped, Started}
use Rattle.turns.specs.declared.Clocks.{Clocks}
use Rattle.rules.specs.declared.Reply.{Reply}
use Rattle.deadlines.specs.declared.Table.{Table}
use Rattle.deadlines.specs.Arming.{tolds_of, armed}
use Rattle.firmware.specs.Notice.{timer_notice, timers_of, notice_of}
use Rattle.firmware.specs.Clock.{is_told, are_told, is_notice, told_from, clocks_from, tolds_from, armed_by}

is-told : (t : Told) → is_told (timer_notice t) ≡ true
unfolding is_told timer_notice
is-told Left = refl
is-told Stopped = refl
is-told (Started seconds) = refl

are-told : (c : Clocks) → are_told (timers_of c) ≡ true
unfolding are_told timers_of
are-told c = rw (is-told c.t3510, is-told c.t3511, is-told c.t3502, is-told c.t3346)

-- the notice of a reply is one
pub is-notice : (changed : ℕ) (p : Reply) → is_notice (notice_of changed p) ≡ true
unfolding is_notice notice_of
is-notice changed p = rw (are-told p.c0, are-told p.c1, is-told p.t3512, is-told p.t3247)

told_back : (t : Told) → told_from (timer_notice t) ≡ t
unfolding told_from timer_notice
told_back Left = refl
told_back Stopped = refl
told_back (Started seconds) = refl

clocks-back : (c : Clocks) → clocks_from (timers_of c) ≡ c
unfolding clocks_from timers_of
clocks-back c = rw (told_back c.t3510, told_back c.t3511, told_back c.t3502, told_back c.t3346)

-- and tells of the ten timers what the reply told
pub tolds-back : (changed : ℕ) (p : Reply) → tolds_from (notice_of changed p) ≡ tolds_of p.c0 p.c1 p.t3512 p.t3247
unfolding tolds_from notice_of
tolds-back changed p = rw (clocks-back p.c0, clocks-back p.c1, told_back p.t3512, told_back p.t3247)

pub arms : (changed : ℕ) (p : Reply) (t : Table) (now : ℕ) → armed_by t now (notice_of changed p) ≡ record { answer = 0; next = armed now (tolds_of p.c0 p.c1 p.t3512 p.t3247) t }
unfolding armed_by
arms changed p t now = rw (is-notice changed p, tolds-back changed p)
