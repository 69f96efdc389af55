-- A taken event makes of an access's side what its concerns for that access make of it: its own event by its deed; one of the other access's by what crosses,
-- which is nothing to the side but a protected 27. Assumes nothing.
use Prim.Native.Nat.{ℕ, ◌<◌}
use mathlib.Core.Path.{◌≡◌, refl, sym, ◌∙◌, ap}
use mathlib.Core.Bool.{Bool, true, false, cond, not, false≢true, true≢false, ◌&&◌, ◌||◌}
use mathlib.Core.List.{List, [], ◌∷◌}
use lib.Dec.{eqb}
use borrow.Author.Tests.{eqb-true}
use Rattle.std.specs.Prelude.{Ok, Err}
use Rattle.record.specs.Tests.{either, flip}
use Rattle.record.specs.Answers.{is_taken}
use Rattle.record.specs.Setters.{counted}
use Rattle.record.specs.Sides.{access_of}
use Rattle.record.specs.declared.Record.{Record}
use Rattle.entries.specs.declared.Deed.{Deed}
use Rattle.entries.specs.Places.{has_entry}
use Rattle.entries.specs.Entries.{n1_to_limit, held_with, entries_after}
use Rattle.messages.specs.declared.Message.TheVariants as message
use Rattle.messages.specs.Message.{Reading, reading_of}
use Rattle.rules.specs.declared.Event.{Event}
use Rattle.rules.specs.declared.Event.TheVariants.{Card, Start, Message, Timer, Power, Key, Update, Import, Unknown}
use Rattle.rules.specs.Plan.{access_in, answer_of}
use Rattle.ranges.specs.Valid.{valid_of}
use Rattle.validity.specs.Answered.{answered_by}
use Rattle.validity.specs.Run.{Heard}
use Rattle.history.specs.Cell.{entries_in}
use Rattle.history.specs.Apart.{Half, half_of}
use Rattle.history.specs.Across.{is_own, Reach, untouched, card_counter_to_limit, n1_counter_to_limit, reach_of, crosses, half_after}
use Rattle.history.specs.Tale.{Limits}
use Rattle.history.specs.History.{home_after, by_type}
use Rattle.history.specs.Own.{Concern, whole, protected27, concerns, across_in, concern_in}
use Rattle.history.proofs.Octets.{read_by, by-octets}
use Rattle.history.proofs.Deeds.{count_by, count_fits}
use Rattle.history.proofs.Next.{next, deed_in, limits_of}
use Rattle.history.proofs.Stays.{filed_in}
use Rattle.history.proofs.Table.{event-table}
use Rattle.history.proofs.Steps.{home-step, net-step}
use Rattle.history.proofs.News.{is_read_lem, event-fits}
use Rattle.history.proofs.Apart.{taken-half}
use Rattle.history.proofs.Sides.{Side, sides, side_with, side_in, own_deed, side_by, side_after, own-deed}

-- it is one of an access's, and of the other's
module _ (r : Record) (octets : List ℕ) where
  others : (e : Event) (w : ℕ) → concerns w e ≡ false → is_taken (answered_by r e octets) ≡ true → (is_own e ≡ true) × (eqb (access_in e) w ≡ false)
  unfolding concerns is_own access_in answered_by answer_of is_taken
  others (Card edition home) w q t = absurd (true≢false q)
  others (Start b manual net code) w q t = (refl, q)
  others (Message b protected draws) w q t = (refl, q)
  others (Timer number b) w q t = go (eqb number 4) q
    where
      go : (s : Bool) → (s || eqb b w) ≡ false → (flip s ≡ true) × (eqb b w ≡ false)
      go true q = absurd (true≢false q)
      go false q = (refl, q)
  others Power w q t = absurd (true≢false q)
  others (Key b set) w q t = (refl, q)
  others (Update b regtype net code uplink sessions) w q t = (refl, q)
  others Import w q t = (refl, q)
  others Unknown w q t = absurd (false≢true t)

-- home stays
home_stays : (e : Event) (home : ℕ) → is_own e ≡ true → home_after e home ≡ home
unfolding is_own home_after
home_stays (Card edition new) home o = absurd (false≢true o)
home_stays (Start b manual net code) home o = refl
home_stays (Message b protected draws) home o = refl
home_stays (Timer number b) home o = refl
home_stays Power home o = refl
home_stays (Key b set) home o = refl
home_stays (Update b regtype net code uplink sessions) home o = refl
home_stays Import home o = refl
home_stays Unknown home o = refl

-- what reaches this access, as concerns
abbrev reaching : Reach → ℕ → List Concern
reaching untouched net = []
reaching card_counter_to_limit net = []
reaching n1_counter_to_limit net = protected27 net ∷ []

module _ (l : Limits) (w : ℕ) where
  reach-side : (c : Reach) (cardlimit net home : ℕ) (x : Half) → side_with home (half_after c cardlimit l.n1 net x) ≡ side_after l w (reaching c net) (side_with home x)
  unfolding half_after counted side_after side_by
  reach-side untouched cardlimit net home x = refl
  reach-side card_counter_to_limit cardlimit net home x = refl
  reach-side n1_counter_to_limit cardlimit net home x = refl

  -- a network without an entry is skipped
  skipped : (n : ℕ) (s : Side) → has_entry s.count n s.table.nets ≡ false → s ≡ side_after l w (protected27 n ∷ []) s
  unfolding side_after side_by n1_to_limit
  skipped n s q = rw q

  module _ (n : ℕ) (s : Side) (counts : Bool) (skip : counts ≡ false → has_entry s.count n s.table.nets ≡ false) where
    -- by whether it is protected, and a 27 or another cause
    across-by : (bare is27 : Bool) → side_after l w (cond (not bare && is27 && counts) (protected27 n ∷ []) []) s ≡ side_after l w (cond (not bare && is27) (protected27 n ∷ []) []) s
    unfolding side_after
    across-by true is27 = refl
    across-by false false = refl
    across-by false true = go counts refl
      where
        go : (b : Bool) → counts ≡ b → side_after l w (cond counts (protected27 n ∷ []) []) s ≡ side_after l w (protected27 n ∷ []) s
        go true q = rw q
        go false q = rw q (skipped n s (skip q))

-- a protected 27 reaches, and it alone
reads-across : (bare : Bool) (n : ℕ) (m : Reading) → cond (not bare && read_by false false (λ cause. eqb cause 27) m) (protected27 n ∷ []) [] ≡ reaching (cond bare untouched (reach_of m)) n
unfolding read_by reach_of
reads-across true n m = refl
reads-across false n (Ok (message.Accept g)) = refl
reads-across false n (Ok (message.Reject k)) = go (eqb k.cause 27) refl
  where
    none : (b : Bool) → [] ≡ reaching (cond b card_counter_to_limit untouched) n
    none true = refl
    none false = refl

    go : (b : Bool) → eqb k.cause 27 ≡ b
        → cond (eqb k.cause 27) (protected27 n ∷ []) []
        ≡ reaching (cond (either (eqb k.cause 3) (either (eqb k.cause 6) (eqb k.cause 7))) card_counter_to_limit (cond (eqb k.cause 27) n1_counter_to_limit untouched)) n
    go true q = rw (eqb-true k.cause 27 q)
    go false q = rw q (none (either (eqb k.cause 3) (either (eqb k.cause 6) (eqb k.cause 7))))
reads-across false n (Err m) = refl

-- A taken event.
module _ (r : Record) (x : Heard) (v : valid_of r ≡ true) (t : is_taken (answered_by r x.event x.octets) ≡ true) (w : ℕ) (hw : w < 2) where
  abbrev e : Event
  e = x.event

  abbrev octets : List ℕ
  octets = x.octets

  abbrev after : Record
  after = next r e octets

  abbrev l : Limits
  l = limits_of r

  abbrev here : Side
  here = side_in r w

  own-side : concerns w e ≡ true → side_in after w ≡ side_by l w (whole x) here
  unfolding side_by
  own-side q = sides (home-step r e octets t) (net-step r e octets t w hw) count table
    where
      is : deed_in r e octets w ≡ own_deed w e octets here
      is = own-deed r octets e t w q

      count : (access_of after.hot w).entries ≡ count_by (own_deed w e octets here) (held_with here.count octets here.table.nets) here.count
      count =
          (event-table r e octets t w hw).0 ∙ count_fits (deed_in r e octets w) (filed_in r octets) octets here.count here.table (event-fits r v e octets t w)
          ∙ ap (λ (d : Deed). count_by d (held_with here.count octets here.table.nets) here.count) is

      table : entries_in after w ≡ entries_after (own_deed w e octets here) octets here.count l.ban l.n1 here.table
      table = (event-table r e octets t w hw).1 ∙ ap (λ (d : Deed). entries_after d octets here.count l.ban l.n1 here.table) is

  -- the network that the event's access registers with
  abbrev theirs : ℕ
  theirs = (access_of r.hot (access_in e)).net

  others-side : concerns w e ≡ false → side_in after w ≡ side_after l w (reaching (crosses e (reading_of octets)) theirs) here
  unfolding half_of
  others-side q =
      let o = others r octets e w q t in
      ap (λ (home : ℕ). side_with home (half_of after w)) (home-step r e octets t ∙ home_stays e r.hot.dev.home o.0)
      ∙ ap (side_with r.hot.dev.home) (taken-half r e octets w hw o.1 o.0 t) ∙ reach-side l w (crosses e (reading_of octets)) r.hot.dev.cardlimit theirs r.hot.dev.home (half_of r w)

  module _ (pending : ℕ → ℕ) (ours : pending (access_in e) ≡ theirs) (counts : ℕ → Bool) (skip : (n : ℕ) → counts n ≡ false → has_entry here.count n here.table.nets ≡ false) where
    across : (f : Event) → f ≡ e → side_after l w (across_in pending counts f octets) here ≡ side_after l w (reaching (crosses f (reading_of octets)) (pending (access_in f))) here
    unfolding across_in crosses access_in
    across (Card edition home) p = refl
    across (Start b manual net code) p = refl
    across (Message b protected draws) p =
        across-by l w (pending b) here (counts (pending b)) (skip (pending b)) (eqb protected 0) (by_type false (λ cause. eqb cause 27) octets)
        ∙ ap (λ (is27 : Bool). side_after l w (cond (not (eqb protected 0) && is27) (protected27 (pending b) ∷ []) []) here) (by-octets false false (λ cause. eqb cause 27) octets (is_read_lem r octets b protected draws (rw (← p) at t)))
        ∙ ap (λ (cs : List Concern). side_after l w cs here) (reads-across (eqb protected 0) (pending b) (reading_of octets))
    across (Timer number b) p = refl
    across Power p = refl
    across (Key b set) p = refl
    across (Update b regtype net code uplink sessions) p = refl
    across Import p = refl
    across Unknown p = refl

    pub taken-side : side_in after w ≡ side_after l w (concern_in w pending counts x) here
    unfolding concern_in side_after
    taken-side = go (concerns w e) refl
      where
        go : (b : Bool) → concerns w e ≡ b → side_in after w ≡ side_after l w (cond (concerns w e) (whole x ∷ []) (across_in pending counts e octets)) here
        go true q = rw q (own-side q)
        go false q = rw q (others-side q ∙ sym (rw ours at (across e refl)))
