-- The part of the slot found, or the SUCI.
use native.Mathlib.Nat.{add-sub_cancel_left}
use Rattle.identity.specs.Choice.{slot_of, part_of, part_at, chosen_of}
use Rattle.identity.proofs.choose.Goals as goal

pub returns-in-Some : goal.returns-in-Some
unfolding chosen_of part_of part_at
returns-in-Some c = record { octets = rw (← c.slot.ensures.value, c.in-Some.is, add-sub_cancel_left); place = rw (← c.slot.ensures.value, c.in-Some.is) }

pub returns-in-None : goal.returns-in-None
unfolding chosen_of part_of part_at
returns-in-None c = record { octets = rw (← c.slot.ensures.value, c.in-None.is); place = rw (← c.slot.ensures.value, c.in-None.is) }
