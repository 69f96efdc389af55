-- The record after a card change, in document 01's words. Assumes nothing.
use Rattle.std.specs.Prelude.{ℕ, List, length}
use Rattle.laws.specs.Bounds.{at_most}
use Rattle.laws.specs.Upto.{copied}
use Rattle.record.specs.declared.Device.{Device}
use Rattle.record.specs.declared.Record.{Record}
use Rattle.record.specs.New.{new_device, new_access, empty_record, zeros}
use Rattle.effects.specs.Effects.{carded}

abbrev same_limits : Device → Device
same_limits d = new_device d.cardlimit d.banlimit d.n1limit d.capability d.security

-- "a new record with the same limits and capabilities, this card, both states 1", and the edition that comes with the card (document 02, R-7)
unfoldable pub card_record : Record → ℕ → ℕ → List ℕ → Record
card_record r edition home suci =
    empty_record
    (record { dev = carded edition home (length suci) (same_limits r.hot.dev); a0 = new_access 1; a1 = new_access 1 })
    (copied (at_most 64 (length suci)) suci (zeros 64))
    r.capability
    r.security
