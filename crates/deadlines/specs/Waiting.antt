-- For how long nobody has to ask (document 02, R-13): a lap's end is waited for, whatever rests after it, since a lap that is over has to give way to the next. Assumes nothing.
use Rattle.std.specs.Prelude.{ℕ, zero, suc, cond, ◌==◌, nat_lt}
use Rattle.deadlines.specs.Clock.{since, past}
use Rattle.deadlines.specs.Asking.{slot_at}
use Rattle.deadlines.specs.declared.Slot.{Slot}
use Rattle.deadlines.specs.declared.Table.{Table}

unfoldable pub lesser : ℕ → ℕ → ℕ
lesser a b = cond (nat_lt b a) b a

-- the milliseconds until a slot's lap ends, none if that is past
unfoldable pub left_in : ℕ → Slot → ℕ
left_in now s = cond (past now s.ends) 0 (since s.ends now)

-- "rounds start at most 600 s apart": a slot that is not held asks for no more
unfoldable pub spare_in : ℕ → Slot → ℕ
spare_in now s = cond (s.held == 0) 600000 (left_in now s)

-- until the first end among the first n slots, 600 s at most
unfoldable pub wait_to : ℕ → ℕ → Table → ℕ
wait_to now zero t = 600000
wait_to now (suc n) t = lesser (wait_to now n t) (spare_in now (slot_at t n))

abbrev pub wait_of : ℕ → Table → ℕ
wait_of now t = wait_to now 10 t
