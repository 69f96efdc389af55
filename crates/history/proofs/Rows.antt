-- The step's rows and the history's own cause words say the same of a network, row by row. Assumes nothing.
use Prim.Native.Nat.{ℕ}
use mathlib.Core.Path.{◌≡◌, refl, sym, ◌∙◌, ap}
use mathlib.Core.Bool.{Bool, true, false, cond, not, ◌&&◌}
use mathlib.Core.List.{List}
use lib.Dec.{leb, eqb}
use borrow.Author.Tests.{eqb-true}
use Rattle.record.specs.Tests.{both, flip}
use Rattle.entries.specs.declared.Entries.{Entries}
use Rattle.entries.specs.declared.Seat.{Seat}
use Rattle.entries.specs.declared.Deed.{Deed}
use Rattle.entries.specs.declared.Deed.TheVariants as deed
use Rattle.turns.specs.declared.Row.{Row}
use Rattle.turns.specs.declared.Row.TheVariants.{CardBelow, CardLimit, CardProtected, Away, Home, Area, N1, Congested, Protocol, Other}
use Rattle.turns.specs.Words.{Mark, no_mark, forbidden_and_counted, n1_not_allowed_and_counted, is_mark, mark_in, holds, is_n1_across, across_of}
use Rattle.turns.specs.Rejects.{is_card, is_network_no, is_area_no, is_n1_no, is_congested, is_protocol, row_of, row_text, needs_entry, across_n1}
use Rattle.effects.specs.Effects.{mark_deed, row_deed}
use Rattle.history.specs.Tale.{Limits, struck, to_limit, nothing, News, news, is_put, puts, Tale, told, turned_away}
use Rattle.history.specs.History.{cause_news}
use Rattle.history.proofs.Said.{banned, barred, quiet}
use Rattle.history.proofs.Deeds.{Seated, Fits, deed_news, deed_tale}

-- what a row is for the network
abbrev pub row_news : Row → Bool → News
row_news CardBelow p = quiet
row_news CardLimit p = quiet
row_news CardProtected p = quiet
row_news Away p = banned p
row_news Home p = quiet
row_news Area p = quiet
row_news N1 p = barred p
row_news Congested p = quiet
row_news Protocol p = quiet
row_news Other p = quiet

-- 11, 73: the row's condition on home and protection
network-row : (bare at_home p : Bool) → row_news (cond at_home (cond bare Home Other) Away) p ≡ news (cond at_home nothing (struck p)) nothing
network-row true true p = refl
network-row false true p = refl
network-row bare false p = refl

-- 72: over access 1
n1-row : (b d c p : Bool) → row_news (cond b N1 (cond d Congested (cond c Protocol Other))) p ≡ cond b (barred p) quiet
n1-row true d c p = refl
n1-row false true c p = refl
n1-row false false true p = refl
n1-row false false false p = refl

-- no other row concerns a network
other_row : (a b d c bare below p : Bool) → row_news (cond a (cond bare (cond below CardBelow CardLimit) CardProtected) (cond b Area (cond d Congested (cond c Protocol Other)))) p ≡ quiet
other_row true b d c true true p = refl
other_row true b d c true false p = refl
other_row true b d c false below p = refl
other_row false true d c bare below p = refl
other_row false false true c bare below p = refl
other_row false false false true bare below p = refl
other_row false false false false bare below p = refl

module _ (w : ℕ) (bare at_home below timed p : Bool) where
  pub row-news : (c : ℕ) → row_news (row_of w bare at_home below timed c) p ≡ cause_news at_home w p c
  unfolding row_of cause_news is_card is_network_no is_area_no is_n1_no is_protocol
  row-news c = by-11 (eqb c 11) refl
    where
      rest : eqb c 11 ≡ false → eqb c 73 ≡ false → eqb c 27 ≡ false → eqb c 72 ≡ false → row_news (row_of w bare at_home below timed c) p ≡ cause_news at_home w p c
      rest q11 q73 q27 q72 = rw (q11, q73, q27, q72) (other_row (is_card c) (both (is_area_no c) (eqb w 0)) (is_congested c timed) (is_protocol c) bare below p)

      by-72 : (b : Bool) → eqb c 72 ≡ b → eqb c 11 ≡ false → eqb c 73 ≡ false → eqb c 27 ≡ false → row_news (row_of w bare at_home below timed c) p ≡ cause_news at_home w p c
      by-72 true q q11 q73 q27 = rw (eqb-true c 72 q) (n1-row (eqb w 1) (is_congested 72 timed) false p)
      by-72 false q q11 q73 q27 = rest q11 q73 q27 q

      by-27 : (b : Bool) → eqb c 27 ≡ b → eqb c 11 ≡ false → eqb c 73 ≡ false → row_news (row_of w bare at_home below timed c) p ≡ cause_news at_home w p c
      by-27 true q q11 q73 = rw (eqb-true c 27 q)
      by-27 false q q11 q73 = by-72 (eqb c 72) refl q11 q73 q

      by-73 : (b : Bool) → eqb c 73 ≡ b → eqb c 11 ≡ false → row_news (row_of w bare at_home below timed c) p ≡ cause_news at_home w p c
      by-73 true q q11 = rw (eqb-true c 73 q) (network-row bare at_home p)
      by-73 false q q11 = by-27 (eqb c 27) refl q11 q

      by-11 : (b : Bool) → eqb c 11 ≡ b → row_news (row_of w bare at_home below timed c) p ≡ cause_news at_home w p c
      by-11 true q = rw (eqb-true c 11 q) (network-row bare at_home p)
      by-11 false q = by-73 (eqb c 73) refl q

-- the deed of a row is the row's word for its network, and nothing for another
pub still-quiet : (b : Bool) → quiet ≡ cond b quiet quiet
still-quiet true = refl
still-quiet false = refl

pub row-deed : (row : Row) (s : Seat) (octets : List ℕ) (held : Bool) (n : ℕ) → deed_news (row_deed row s) octets held n ≡ cond (eqb s.net n) (row_news row (not (eqb s.protected 0))) quiet
unfolding row_deed mark_deed row_text mark_in
row-deed CardBelow s octets held n = still-quiet (eqb s.net n)
row-deed CardLimit s octets held n = still-quiet (eqb s.net n)
row-deed CardProtected s octets held n = still-quiet (eqb s.net n)
row-deed Away s octets held n = refl
row-deed Home s octets held n = still-quiet (eqb s.net n)
row-deed Area s octets held n = still-quiet (eqb s.net n)
row-deed N1 s octets held n = refl
row-deed Congested s octets held n = still-quiet (eqb s.net n)
row-deed Protocol s octets held n = still-quiet (eqb s.net n)
row-deed Other s octets held n = still-quiet (eqb s.net n)

-- no row but that of 27 reaches the other access's entries, and it only protected
other-untouched : (w protected c : ℕ) → eqb c 27 ≡ false → (row : Row) → across_n1 w protected c row ≡ false
unfolding across_n1 row_text across_of is_n1_across holds
other-untouched w protected c q CardBelow = refl
other-untouched w protected c q CardLimit = refl
other-untouched w protected c q CardProtected = refl
other-untouched w protected c q Away = refl
other-untouched w protected c q Home = refl
other-untouched w protected c q Area = refl
other-untouched w protected c q N1 = rw q
other-untouched w protected c q Congested = refl
other-untouched w protected c q Protocol = refl
other-untouched w protected c q Other = refl

pub row-across : (w protected : ℕ) (bare at_home below timed : Bool) (c : ℕ) → across_n1 w protected c (row_of w bare at_home below timed c) ≡ (eqb c 27 && not (eqb protected 0))
unfolding row_of is_card is_network_no is_area_no is_n1_no across_n1 row_text across_of is_n1_across holds
row-across w protected bare at_home below timed c = go (eqb c 27) refl
  where
    flipped : (b : Bool) → flip b ≡ not b
    flipped true = refl
    flipped false = refl

    go : (b : Bool) → eqb c 27 ≡ b → across_n1 w protected c (row_of w bare at_home below timed c) ≡ (eqb c 27 && not (eqb protected 0))
    go true q = rw (eqb-true c 27 q) (flipped (eqb protected 0))
    go false q = other-untouched w protected c q (row_of w bare at_home below timed c) ∙ ap (λ (s : Bool). s && not (eqb protected 0)) (sym q)

-- the deed on the other access is the history's word for it
pub across-deed : (s : Bool) (net : ℕ) (octets : List ℕ) (held : Bool) (n : ℕ)
    → deed_news (cond {A = Deed} s (deed.ToLimit net) deed.Nothing) octets held n ≡ cond (eqb net n && held) (news nothing (cond s to_limit nothing)) quiet
across-deed true net octets held n = refl
across-deed false net octets held n = still-quiet (eqb net n && held)

-- the entry that a row needs has a place
mark-fits : (m : Mark) (s : Seat) (many : ℕ) (octets : List ℕ) (count : ℕ) (t : Entries) → Seated s count t → (is_mark m ≡ true → leb 16 s.at ≡ false) → Fits (mark_deed m s) many octets count t
unfolding mark_deed is_mark
mark-fits no_mark s many octets count t i f = tt
mark-fits forbidden_and_counted s many octets count t i f = (i, f refl)
mark-fits n1_not_allowed_and_counted s many octets count t i f = (i, f refl)

pub row_fits : (row : Row) (s : Seat) (many : ℕ) (octets : List ℕ) (count : ℕ) (t : Entries) → Seated s count t → (needs_entry row ≡ true → leb 16 s.at ≡ false) → Fits (row_deed row s) many octets count t
unfolding row_deed needs_entry
row_fits row s many octets count t i f = mark-fits (mark_in (row_text row)) s many octets count t i f

-- a reject marks exactly if its row has a word for the network
pub row-tale : (l : Limits) (row : Row) (s : Seat) (octets : List ℕ) (p : Bool) (d : ℕ → News) (k : Tale)
    → deed_tale l (row_deed row s) octets d k ≡ cond (puts (row_news row p)) (turned_away l s.net d k) (told d k)
unfolding row_deed mark_deed row_text mark_in puts is_put
row-tale l CardBelow s octets p d k = refl
row-tale l CardLimit s octets p d k = refl
row-tale l CardProtected s octets p d k = refl
row-tale l Away s octets p d k = refl
row-tale l Home s octets p d k = refl
row-tale l Area s octets p d k = refl
row-tale l N1 s octets p d k = refl
row-tale l Congested s octets p d k = refl
row-tale l Protocol s octets p d k = refl
row-tale l Other s octets p d k = refl
