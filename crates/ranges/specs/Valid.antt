-- A record handed in is answer 1 if it breaks one of these: document 01's list, in its order. Assumes nothing.
use Rattle.std.specs.Prelude.{ℕ, ◌/◌, ◌≤◌, Bool, List, [], get_or, ltb, eqb}
use Rattle.laws.specs.Upto.{all_to, distinct_to}
use Rattle.entries.specs.declared.Entries.{Entries}
use Rattle.record.specs.Tests.{both, either, within, up_to, is_flag, is_short, is_clear0, is_edition}
use Rattle.record.specs.Network.{is_network}
use Rattle.record.specs.declared.Device.{Device}
use Rattle.record.specs.declared.Access.{Access}
use Rattle.record.specs.declared.Hot.{Hot}
use Rattle.record.specs.declared.Record.{Record}

-- "a number is outside these ranges": the device's; a card's SUCI has 9 to 64 octets
unfoldable pub device_ranges : Device → Bool
device_ranges d =
    both (is_flag d.card)
    (both (either (eqb d.card 0) (within 9 64 d.suci))
    (both (within 1 10 d.cardlimit)
    (both (within 1 10 d.banlimit)
    (both (within 1 10 d.n1limit)
    (both (within 1 13 d.capability)
    (both (within 2 8 d.security)
    (both (is_flag d.t3247)
    (both (up_to 40 d.roaming) (up_to 40 d.regional)))))))))

-- T3512, its kept time, at most 31 times 320 h, and whether a periodic update is due (document 02, R-5)
unfoldable pub periodic_ranges : Device → Bool
periodic_ranges d = both (is_flag d.t3512) (both (up_to 35712000 d.t3512length) (is_flag d.due))

-- both, in this order, and the edition of the identity order (document 02, R-7)
unfoldable pub device_numbers : Device → Bool
device_numbers d = both (device_ranges d) (both (periodic_ranges d) (is_edition d.edition))

-- an access's state, status, counters and timers; T3346 is document 02's (R-6)
unfoldable pub mode_ranges : Access → Bool
mode_ranges a =
    both (up_to 6 a.state)
    (both (within 1 3 a.status)
    (both (up_to 5 a.attempts)
    (both (is_flag a.t3510)
    (both (is_flag a.t3511)
    (both (is_flag a.t3502)
    (both (up_to 11160 a.t3502length) (is_flag a.t3346)))))))

-- its pending registration: type 1 to 3, session 0 clear in 40 and 50 (document 02, R-5)
unfoldable pub pending_ranges : Access → Bool
pending_ranges a = both (within 1 3 a.regtype) (both (is_clear0 a.uplink) (is_clear0 a.sessions))

-- its areas, identity and counts; an area's numbers are of three octets, a last area's where one is held
unfoldable pub identity_ranges : Access → Bool
identity_ranges a =
    both (is_short a.code)
    (both (is_flag a.guti)
    (both (is_flag a.visited)
    (both (either (eqb a.visited 0) (both (is_short a.lastnet) (is_short a.lastcode)))
    (both (up_to 7 a.ksi)
    (both (up_to 15 a.equivalents) (up_to 16 a.entries))))))

-- its equivalent networks, of three octets each, and its entries' marks
unfoldable pub held_ranges : Access → List ℕ → Entries → Bool
held_ranges a equivalents t =
    both (all_to is_short a.equivalents equivalents)
    (both (all_to is_flag a.entries t.forbidden) (all_to is_flag a.entries t.barred))

unfoldable pub access_ranges : Access → List ℕ → Entries → Bool
access_ranges a equivalents t = both (mode_ranges a) (both (pending_ranges a) (both (identity_ranges a) (held_ranges a equivalents t)))

-- a listed area is of six octets with its mark
abbrev pub is_item : ℕ → Bool
is_item x = ltb x 562949953421312

unfoldable pub ranges_of : Record → Bool
ranges_of r =
    both (device_numbers r.hot.dev)
    (both (access_ranges r.hot.a0 r.equivalents0 r.e0)
    (both (access_ranges r.hot.a1 r.equivalents1 r.e1)
    (both (all_to is_item r.hot.dev.roaming r.roaming) (all_to is_item r.hot.dev.regional r.regional))))

-- what numbers in these ranges bound: the counts of both accesses' entries and of both lists, which arrays have room for
pub record Bounded (h : Hot) : Type 0 where
  pub first : h.a0.entries ≤ 16
  pub second : h.a1.entries ≤ 16
  pub roaming : h.dev.roaming ≤ 40
  pub regional : h.dev.regional ≤ 40

-- "a counter above its limit"
unfoldable pub counters_of : Device → Access → Entries → Bool
counters_of d a t =
    both (up_to d.cardlimit a.cardcounter)
    (both (all_to (up_to d.banlimit) a.entries t.bans) (all_to (up_to d.n1limit) a.entries t.n1s))

-- "a state above 0 with no card"
unfoldable pub card_of : Hot → Bool
card_of h = either (eqb h.dev.card 1) (both (eqb h.a0.state 0) (eqb h.a1.state 0))

-- "a card's SUCI not opening with 01"
unfoldable pub suci_of : Device → List ℕ → Bool
suci_of d suci = either (eqb d.card 0) (eqb (get_or suci 0 0) 1)

-- "a home, pending or entry network no network code"
unfoldable pub codes_of : Record → Bool
codes_of r =
    both (is_network r.hot.dev.home)
    (both (is_network r.hot.a0.net)
    (both (is_network r.hot.a1.net)
    (both (all_to is_network r.hot.a0.entries r.e0.nets) (all_to is_network r.hot.a1.entries r.e1.nets))))

-- "T3510 running outside state 4"
unfoldable pub clock_of : Access → Bool
clock_of a = either (eqb a.t3510 0) (eqb a.state 4)

abbrev pub itself : ℕ → ℕ
itself n = n

abbrev pub halved : ℕ → ℕ
halved x = x / 2

-- "one network in two entries of an access, or one area twice in a list"
unfoldable pub once_of : Record → Bool
once_of r =
    both (distinct_to itself r.hot.a0.entries r.e0.nets)
    (both (distinct_to itself r.hot.a1.entries r.e1.nets)
    (both (distinct_to halved r.hot.dev.roaming r.roaming) (distinct_to halved r.hot.dev.regional r.regional)))

-- the order of an access's entries by their last marking (document 02, R-9): each rank below their number, and none twice
abbrev pub is_below : ℕ → ℕ → Bool
is_below n k = ltb k n

unfoldable pub ranks_of : Access → Entries → Bool
ranks_of a t = both (all_to (is_below a.entries) a.entries t.ranks) (distinct_to itself a.entries t.ranks)

-- what is asked beside the ranges, in the list's order
abbrev pub rules_of : Record → Bool
rules_of r =
    both (both (counters_of r.hot.dev r.hot.a0 r.e0) (counters_of r.hot.dev r.hot.a1 r.e1))
    (both (card_of r.hot)
    (both (suci_of r.hot.dev r.suci)
    (both (codes_of r)
    (both (both (clock_of r.hot.a0) (clock_of r.hot.a1))
    (both (once_of r) (both (ranks_of r.hot.a0 r.e0) (ranks_of r.hot.a1 r.e1)))))))

unfoldable pub valid_of : Record → Bool
valid_of r = both (ranges_of r) (rules_of r)

-- the record of the parts that the list reads, and nothing for the others: its GUTIs and capabilities
unfoldable pub parts_record : Hot → Entries → Entries → List ℕ → List ℕ → List ℕ → List ℕ → List ℕ → Record
parts_record h e0 e1 roaming regional equivalents0 equivalents1 suci = record {
  hot = h;
  e0 = e0;
  e1 = e1;
  roaming = roaming;
  regional = regional;
  guti0 = [];
  guti1 = [];
  equivalents0 = equivalents0;
  equivalents1 = equivalents1;
  suci = suci;
  capability = [];
  security = [];
}
