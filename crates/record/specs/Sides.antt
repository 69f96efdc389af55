-- The two accesses of the record's numbers. Assumes nothing.
use Rattle.std.specs.Prelude.{ℕ, cond, eqb}
use Rattle.record.specs.declared.Device.{Device}
use Rattle.record.specs.declared.Access.{Access}
use Rattle.record.specs.declared.Hot.{Hot}

unfoldable pub access_of : Hot → ℕ → Access
access_of h w = cond (eqb w 0) h.a0 h.a1

unfoldable pub other_of : Hot → ℕ → Access
other_of h w = cond (eqb w 0) h.a1 h.a0

-- the numbers with access w and the other one
unfoldable pub hot_of : Device → ℕ → Access → Access → Hot
hot_of d w mine theirs = cond (eqb w 0) (record { dev = d; a0 = mine; a1 = theirs }) (record { dev = d; a0 = theirs; a1 = mine })
