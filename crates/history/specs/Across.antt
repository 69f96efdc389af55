-- What an event of one access does to the other access: nothing, but for the card counter after a protected 3, 6 or 7, and the N1 counter of one
-- entry after a protected 27. Assumes nothing.
use Rattle.std.specs.Prelude.{Ok, Err, ℕ, Bool, true, false, cond, eqb}
use Rattle.messages.specs.Message.{Reading}
use Rattle.messages.specs.declared.Message.TheVariants as message
use Rattle.entries.specs.Entries.{n1_to_limit}
use Rattle.record.specs.Setters.{counted}
use Rattle.record.specs.Tests.{either, flip}
use Rattle.rules.specs.declared.Event.{Event}
use Rattle.rules.specs.declared.Event.TheVariants.{Card, Start, Message, Timer, Power, Key, Update, Import, Unknown}
use Rattle.history.specs.Apart.{Half}

-- an event of one access: a start or an update, a message, T3510, T3511, T3502 or T3346 out, a key set; and T3512 out and an import, which go as access 0's
unfoldable pub is_own : Event → Bool
is_own (Card edition home) = false
is_own (Start w manual net code) = true
is_own (Message w protected draw) = true
is_own (Timer number w) = flip (eqb number 4)
is_own Power = false
is_own (Key w set) = true
is_own (Update w regtype net code uplink sessions) = true
is_own Import = true
is_own Unknown = false

-- what reaches the other access
pub data Reach : Type 0 where
  untouched card_counter_to_limit n1_counter_to_limit : Reach

-- of a protected reject: "3, 6, 7 protected: .. both accesses' card counters to the limit"; "a protected 27 sets the network's N1 counter to the limit for both accesses" (document 02, R-14)
unfoldable pub reach_of : Reading → Reach
reach_of (Ok (message.Accept g)) = untouched
reach_of (Ok (message.Reject k)) =
    cond (either (eqb k.cause 3) (either (eqb k.cause 6) (eqb k.cause 7))) card_counter_to_limit
    (cond (eqb k.cause 27) n1_counter_to_limit untouched)
reach_of (Err m) = untouched

unfoldable pub crosses : Event → Reading → Reach
crosses (Card edition home) m = untouched
crosses (Start w manual net code) m = untouched
crosses (Message w protected draw) m = cond (eqb protected 0) untouched (reach_of m)
crosses (Timer number w) m = untouched
crosses Power m = untouched
crosses (Key w set) m = untouched
crosses (Update w regtype net code uplink sessions) m = untouched
crosses Import m = untouched
crosses Unknown m = untouched

-- an access's record after what reached it: the limits are those of the card and N1 counters, net is the network that the other access registers with
unfoldable pub half_after : Reach → ℕ → ℕ → ℕ → Half → Half
half_after untouched cardlimit n1limit net x = x
half_after card_counter_to_limit cardlimit n1limit net x = record { numbers = counted cardlimit x.numbers; entries = x.entries; guti = x.guti; equivalents = x.equivalents }
half_after n1_counter_to_limit cardlimit n1limit net x = record { numbers = x.numbers; entries = n1_to_limit net x.numbers.entries n1limit x.entries; guti = x.guti; equivalents = x.equivalents }
