-- What makes a record valid, taken apart: the device, each access with its entries and equivalents, each area list. Assumes nothing.
use Prim.Native.Nat.{ℕ}
use mathlib.Core.Path.{◌≡◌}
use mathlib.Core.Bool.{true}
use mathlib.Core.List.{List}
use lib.Dec.{eqb}
use Rattle.entries.specs.declared.Entries.{Entries}
use Rattle.entries.proofs.Ranks.{Order}
use Rattle.record.specs.declared.Device.{Device}
use Rattle.record.specs.declared.Access.{Access}
use Rattle.record.specs.declared.Record.{Record}
use Rattle.record.specs.Tests.{both, either, within, up_to, is_flag, is_short, is_clear0, is_edition}
use Rattle.record.specs.Network.{is_network}
use Rattle.ranges.specs.Valid.{is_item, suci_of, itself, halved}
use Rattle.validity.proofs.Arrays.{All, Once}

-- the device's numbers but for the area lists' counts
pub record Fair (d : Device) : Type 0 where
  pub card : is_flag d.card ≡ true
  pub suci : either (eqb d.card 0) (within 9 64 d.suci) ≡ true
  pub cardlimit : within 1 10 d.cardlimit ≡ true
  pub banlimit : within 1 10 d.banlimit ≡ true
  pub n1limit : within 1 10 d.n1limit ≡ true
  pub capability : within 1 13 d.capability ≡ true
  pub security : within 2 8 d.security ≡ true
  pub t3247 : is_flag d.t3247 ≡ true
  pub t3512 : is_flag d.t3512 ≡ true
  pub t3512length : up_to 35712000 d.t3512length ≡ true
  pub due : is_flag d.due ≡ true
  pub home : is_network d.home ≡ true
  pub edition : is_edition d.edition ≡ true

-- an access's numbers, in the groups that the setters change
abbrev Mode : Access → Type 0
Mode a = (up_to 6 a.state ≡ true) × (within 1 3 a.status ≡ true) × (up_to 5 a.attempts ≡ true)

abbrev Flags : Access → Type 0
Flags a = (is_flag a.t3510 ≡ true) × (is_flag a.t3511 ≡ true) × (is_flag a.t3502 ≡ true) × (is_flag a.t3346 ≡ true)

abbrev Pending : Access → Type 0
Pending a =
    (is_network a.net ≡ true)
    × (is_short a.code ≡ true)
    × (within 1 3 a.regtype ≡ true)
    × (is_clear0 a.uplink ≡ true)
    × (is_clear0 a.sessions ≡ true)

abbrev Known : Access → Type 0
Known a =
    (is_flag a.guti ≡ true)
    × (is_flag a.visited ≡ true)
    × (either (eqb a.visited 0) (both (is_short a.lastnet) (is_short a.lastcode)) ≡ true)
    × (up_to 7 a.ksi ≡ true)

pub record Fit (limit : ℕ) (a : Access) : Type 0 where
  pub mode : Mode a
  pub flags : Flags a
  pub t3502length : up_to 11160 a.t3502length ≡ true
  pub pending : Pending a
  pub known : Known a
  pub cardcounter : up_to limit a.cardcounter ≡ true
  pub equivalents : up_to 15 a.equivalents ≡ true
  pub entries : up_to 16 a.entries ≡ true

-- T3510 runs in state 4 only; a state above 0 has a card
abbrev pub Timely : Access → Type 0
Timely a = either (eqb a.t3510 0) (eqb a.state 4) ≡ true

abbrev pub Carded : ℕ → Access → Type 0
Carded card a = either (eqb card 1) (eqb a.state 0) ≡ true

-- n entries
pub record Held (banlimit n1limit n : ℕ) (t : Entries) : Type 0 where
  pub nets : All is_network n t.nets
  pub bans : All (up_to banlimit) n t.bans
  pub n1s : All (up_to n1limit) n t.n1s
  pub forbidden : All is_flag n t.forbidden
  pub barred : All is_flag n t.barred
  pub once : Once itself n t.nets
  pub order : Order n t.ranks

-- an area list of n
pub record Listing (n : ℕ) (xs : List ℕ) : Type 0 where
  pub count : up_to 40 n ≡ true
  pub items : All is_item n xs
  pub once : Once halved n xs

-- an access with its arrays, beside the device's card and limits
pub record Half (d : Device) (a : Access) (equivalents : List ℕ) (t : Entries) : Type 0 where
  pub fit : Fit d.cardlimit a
  pub timely : Timely a
  pub carded : Carded d.card a
  pub equals : All is_short a.equivalents equivalents
  pub held : Held d.banlimit d.n1limit a.entries t

pub record Good (r : Record) : Type 0 where
  pub fair : Fair r.hot.dev
  pub half0 : Half r.hot.dev r.hot.a0 r.equivalents0 r.e0
  pub half1 : Half r.hot.dev r.hot.a1 r.equivalents1 r.e1
  pub roaming : Listing r.hot.dev.roaming r.roaming
  pub regional : Listing r.hot.dev.regional r.regional
  pub suci : suci_of r.hot.dev r.suci ≡ true
