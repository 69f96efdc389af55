-- A taken event of one access keeps the record good: one that touches no array, an accept, a reject by its row. Assumes nothing.
use Prim.Native.Nat.{ℕ, zero, suc}
use mathlib.Core.Path.{◌≡◌, refl}
use mathlib.Core.Bool.{Bool, true, false, cond}
use mathlib.Core.List.{List}
use native.Mathlib.Omega.{arith}
use lib.Dec.{leb, eqb}
use lib.ListN.{drop}
use borrow.Author.Tests.{leb-true}
use Rattle.std.specs.Prelude.{Option, Some, None, is_some, unwrap_or}
use Rattle.laws.specs.Bounds.{at_most}
use Rattle.laws.specs.Upto.{copied}
use Rattle.entries.specs.declared.Entries.{Entries}
use Rattle.entries.specs.declared.Seen.{Seen}
use Rattle.entries.specs.declared.Seat.{Seat}
use Rattle.entries.specs.declared.Deed.{Deed}
use Rattle.entries.specs.declared.Deed.TheVariants as deed
use Rattle.entries.specs.Places.{has_entry}
use Rattle.entries.specs.Entries.{found_in, place_for, seen_in, seat_of, unforbidden, n1_to_limit, grown, marks_after, ranks_after, is_import, with_file, entries_after}
use Rattle.areas.specs.declared.Task.{Task}
use Rattle.areas.specs.declared.Task.TheVariants as task
use Rattle.messages.specs.declared.Accept.{Accept}
use Rattle.messages.specs.declared.Reject.{Reject}
use Rattle.record.specs.declared.Access.{Access}
use Rattle.record.specs.declared.Record.{Record}
use Rattle.record.specs.Tests.{up_to, is_flag}
use Rattle.record.specs.Network.{is_network}
use Rattle.turns.specs.declared.Order.{Order}
use Rattle.turns.specs.declared.Order.TheVariants.{Leave, Run}
use Rattle.turns.specs.declared.Turn.{Turn}
use Rattle.turns.specs.declared.Row.{Row}
use Rattle.turns.specs.declared.Draws.{Draws}
use Rattle.turns.specs.Words.{Mark, no_mark, forbidden_and_counted, n1_not_allowed_and_counted, is_mark, mark_in}
use Rattle.turns.specs.Rejects.{reject_t3247, t3346_time, row_text, needs_entry, to_roaming, to_regional, across_n1}
use Rattle.turns.specs.Turns.{still, accepted, row_turn, other_turn}
use Rattle.rules.specs.declared.Ask.TheVariants as ask
use Rattle.rules.specs.declared.Plan.{Plan}
use Rattle.record.specs.Sides.{access_of, other_of}
use Rattle.effects.specs.declared.Keep.TheVariants as keep
use Rattle.effects.specs.Effects.{Effect, scheduled, idle, plain, t3512_time, accept_t3512, accept_device, accept_effect, mark_deed, row_deed, row_work, reject_effect}
use Rattle.rules.specs.Plan.{taken_plan, deed_on, deed_of}
use Rattle.events.specs.Parts.{sight_of, seen_by, seen_of, table_after, networks_of, equivalents_after}
use Rattle.validity.specs.Sized.{Columns, Sized}
use Rattle.validity.specs.Run.{Octets}
use Rattle.validity.proofs.Good.{Fit, Timely, Carded, Held, Good}
use Rattle.validity.proofs.Setters.{network-short}
use Rattle.validity.proofs.Areas.{Short}
use Rattle.validity.proofs.Turns.{after, Turned, still-turned, accepted-turned, row-turned, other-turned}
use Rattle.validity.proofs.Entries.{sought-for, banned-held, barred-held, accepted-held, limit-held}
use Rattle.validity.proofs.Messages.{copied-short}
use Rattle.validity.proofs.Refusal.{carry, table-idle}
use Rattle.validity.proofs.Next.{half-turned, own_first, own-second}

-- no access but 0 and 1
pub no_third : (w : ℕ) → is_flag (suc (suc w)) ≡ true → ⊥
no_third w e = absurd (omega (arith, leb-true (suc (suc w)) 1 e))

module _ (r : Record) (g : Good r) where
  -- the access of the event
  pub access-fit : (w : ℕ) → Fit r.hot.dev.cardlimit (access_of r.hot w)
  unfolding access_of
  access-fit w = elim (eqb w 0) as (λ b. Fit r.hot.dev.cardlimit (cond b r.hot.a0 r.hot.a1)) [ true ↦ g.half0.fit | false ↦ g.half1.fit ]

  pub access-timely : (w : ℕ) → Timely (access_of r.hot w)
  unfolding access_of
  access-timely w = elim (eqb w 0) as (λ b. Timely (cond b r.hot.a0 r.hot.a1)) [ true ↦ g.half0.timely | false ↦ g.half1.timely ]

  pub access-carded : (w : ℕ) → Carded r.hot.dev.card (access_of r.hot w)
  unfolding access_of
  access-carded w = elim (eqb w 0) as (λ b. Carded r.hot.dev.card (cond b r.hot.a0 r.hot.a1)) [ true ↦ g.half0.carded | false ↦ g.half1.carded ]

  -- an access that the event leaves alone
  first-still : Turned r.hot.dev.card r.hot.dev.cardlimit r.hot.a0.equivalents r.hot.a0.entries (after (still r.hot.a0))
  first-still = still-turned r.hot.dev.card r.hot.dev.cardlimit r.hot.a0 g.half0.fit g.half0.timely g.half0.carded

  second-still : Turned r.hot.dev.card r.hot.dev.cardlimit r.hot.a1.equivalents r.hot.a1.entries (after (still r.hot.a1))
  second-still = still-turned r.hot.dev.card r.hot.dev.cardlimit r.hot.a1 g.half1.fit g.half1.timely g.half1.carded

  module _ (z : Sized r) (octets : List ℕ) where
    -- an event that touches no array: T3512's time and whether an update is due are those that it leaves
    abbrev pub bare : ℕ → ℕ → ℕ → Turn → Order → Bool → Effect
    bare w time due t p restart = record { dev = scheduled time due r.hot.dev; mine = t; theirs = still (other_of r.hot w); t3247 = Leave; t3512 = p; work = idle; restart = restart }

    pub bare-good : (w : ℕ) → is_flag w ≡ true → (time due : ℕ) → up_to 35712000 time ≡ true → is_flag due ≡ true → (t : Turn) (p : Order) (restart : Bool)
        → Turned r.hot.dev.card r.hot.dev.cardlimit (access_of r.hot w).equivalents (access_of r.hot w).entries (after t)
        → Good (carry r octets (taken_plan r.hot w (bare w time due t p restart))).next
    unfolding access_of other_of taken_plan entries_after with_file is_import ranks_after marks_after deed_of deed_on equivalents_after
    bare-good zero h time due l f t p restart u =
        own_first r g z octets time due l f t (still r.hot.a1) Leave p deed.Nothing deed.Nothing task.Nothing task.Nothing keep.Nothing restart tt tt tt
        (rw (table-idle (taken_plan r.hot 0 (bare 0 time due t p restart)) octets 0 r.hot.a0.entries r.hot r.e0 refl)
        (half-turned r.hot.dev r.hot.a0.equivalents r.hot.a0.entries (after t) r.equivalents0 r.e0 u g.half0.equals g.half0.held))
        second-still g.half1.held
    bare-good (suc zero) h time due l f t p restart u =
        own-second r g z octets time due l f t (still r.hot.a0) Leave p deed.Nothing deed.Nothing task.Nothing task.Nothing keep.Nothing restart tt tt tt
        (rw (table-idle (taken_plan r.hot 1 (bare 1 time due t p restart)) octets 1 r.hot.a1.entries r.hot r.e1 refl)
        (half-turned r.hot.dev r.hot.a1.equivalents r.hot.a1.entries (after t) r.equivalents1 r.e1 u g.half1.equals g.half1.held))
        first-still g.half0.held
    bare-good (suc (suc w)) h time due l f t p restart u = absurd (no_third w h)

    -- the same with both as they were
    pub same_good : (w : ℕ) → is_flag w ≡ true → (t : Turn) (p : Order) (restart : Bool)
        → Turned r.hot.dev.card r.hot.dev.cardlimit (access_of r.hot w).equivalents (access_of r.hot w).entries (after t)
        → Good (carry r octets (taken_plan r.hot w (record { dev = r.hot.dev; mine = t; theirs = still (other_of r.hot w); t3247 = Leave; t3512 = p; work = idle; restart = restart }))).next
    unfolding scheduled
    same_good w h t p restart u = bare-good w h r.hot.dev.t3512length r.hot.dev.due g.fair.t3512length g.fair.due t p restart u

    pub plain-good : (w : ℕ) → is_flag w ≡ true → (t : Turn) (restart : Bool)
        → Turned r.hot.dev.card r.hot.dev.cardlimit (access_of r.hot w).equivalents (access_of r.hot w).entries (after t)
        → Good (carry r octets (taken_plan r.hot w (plain r.hot w t restart))).next
    plain-good w h t restart u = same_good w h t Leave restart u

    -- T3502's length that an accept leaves
    abbrev length_of : Accept → ℕ
    length_of a = unwrap_or a.t3502length 720

    -- a time that is given fits, and so does the other
    or-fits : (most other : ℕ) (given : Option ℕ) → up_to most (unwrap_or given 0) ≡ true → up_to most other ≡ true → up_to most (unwrap_or given other) ≡ true
    or-fits most other None q e = e
    or-fits most other (Some n) q e = q

    length-fits : (a : Accept) → up_to 11160 (unwrap_or a.t3502length 0) ≡ true → up_to 11160 (length_of a) ≡ true
    length-fits a q = or-fits 11160 720 a.t3502length q refl

    -- T3512's time that an accept on access 0 leaves
    time-fits : (a : Accept) → up_to 35712000 (unwrap_or a.t3512length 0) ≡ true → up_to 35712000 (t3512_time a r.hot.dev) ≡ true
    unfolding t3512_time
    time-fits a q = or-fits 35712000 r.hot.dev.t3512length a.t3512length q g.fair.t3512length

    -- an accept: its equivalents are the message's, and its mark clears
    pub accept-good : (w : ℕ) → is_flag w ≡ true → (a : Accept) (s : Seen) → up_to 15 a.count ≡ true → up_to 11160 (unwrap_or a.t3502length 0) ≡ true → up_to 35712000 (unwrap_or a.t3512length 0) ≡ true → Octets octets → eqb r.hot.dev.card 1 ≡ true
        → Good (carry r octets (taken_plan r.hot w (accept_effect r.hot w a s))).next
    unfolding access_of other_of taken_plan accept_effect accept_device accept_t3512 scheduled table_after unforbidden entries_after with_file is_import ranks_after marks_after deed_of deed_on equivalents_after
    accept-good zero h a s p q l o c =
        own_first r g z octets (t3512_time a r.hot.dev) 0 (time-fits a l) refl (accepted (is_some a.guti) a.count (length_of a) r.hot.a0) (still r.hot.a1) Leave (cond (eqb (t3512_time a r.hot.dev) 0) Leave (Run (t3512_time a r.hot.dev))) (deed.Accept (seat_of s r.hot.a0.net 1)) deed.Nothing task.Nothing task.Nothing (keep.Gift a) false tt tt tt
        (half-turned r.hot.dev a.count r.hot.a0.entries (after (accepted (is_some a.guti) a.count (length_of a) r.hot.a0))
        (copied (at_most 15 a.count) (networks_of (at_most 15 a.count) (drop a.triplets octets)) r.equivalents0) (unforbidden (seat_of s r.hot.a0.net 1) r.e0)
        (accepted-turned r.hot.dev.card r.hot.dev.cardlimit r.hot.a0 g.half0.fit c (is_some a.guti) a.count (length_of a) p (length-fits a q))
        (copied-short a.count a.triplets octets r.equivalents0 p o)
        (accepted-held r.hot.dev.banlimit r.hot.dev.n1limit r.hot.a0.entries r.e0 z.e0 g.half0.held (seat_of s r.hot.a0.net 1)))
        second-still g.half1.held
    accept-good (suc zero) h a s p q l o c =
        own-second r g z octets r.hot.dev.t3512length r.hot.dev.due g.fair.t3512length g.fair.due (accepted (is_some a.guti) a.count (length_of a) r.hot.a1) (still r.hot.a0) Leave Leave (deed.Accept (seat_of s r.hot.a1.net 1)) deed.Nothing task.Nothing task.Nothing (keep.Gift a) false tt tt tt
        (half-turned r.hot.dev a.count r.hot.a1.entries (after (accepted (is_some a.guti) a.count (length_of a) r.hot.a1))
        (copied (at_most 15 a.count) (networks_of (at_most 15 a.count) (drop a.triplets octets)) r.equivalents1) (unforbidden (seat_of s r.hot.a1.net 1) r.e1)
        (accepted-turned r.hot.dev.card r.hot.dev.cardlimit r.hot.a1 g.half1.fit c (is_some a.guti) a.count (length_of a) p (length-fits a q))
        (copied-short a.count a.triplets octets r.equivalents1 p o)
        (accepted-held r.hot.dev.banlimit r.hot.dev.n1limit r.hot.a1.entries r.e1 z.e1 g.half1.held (seat_of s r.hot.a1.net 1)))
        first-still g.half0.held
    accept-good (suc (suc w)) h a s p q l o c = absurd (no_third w h)

-- the seat of a network in these entries
abbrev pub seat_in : ℕ → ℕ → ℕ → Entries → Seat
seat_in n net protected t = record { at = place_for n net t.nets t.forbidden t.barred t.ranks; found = has_entry n net t.nets; net = net; protected = protected }

-- the entries by the row's mark: a ban, a bar, or nothing
row-held : (octets : List ℕ) (banlimit n1limit n : ℕ) (t : Entries) → Columns t → Held banlimit n1limit n t → up_to 16 n ≡ true → (m : Mark) (net protected : ℕ)
    → (is_mark m ≡ true → leb 16 (place_for n net t.nets t.forbidden t.barred t.ranks) ≡ false) → is_network net ≡ true
    → Held banlimit n1limit (cond (is_mark m) (grown (has_entry n net t.nets) n) n) (entries_after (mark_deed m (seat_in n net protected t)) octets n banlimit n1limit t)
unfolding entries_after with_file is_import ranks_after marks_after mark_deed is_mark
row-held octets banlimit n1limit n t w g e no_mark net protected f i = g
row-held octets banlimit n1limit n t w g e forbidden_and_counted net protected f i = banned-held banlimit n1limit n t w g (seat_in n net protected t) (sought-for n net t.nets e t.forbidden t.barred t.ranks (f refl)) i e
row-held octets banlimit n1limit n t w g e n1_not_allowed_and_counted net protected f i = barred-held banlimit n1limit n t w g (seat_in n net protected t) (sought-for n net t.nets e t.forbidden t.barred t.ranks (f refl)) i e

-- the other access's entries: the network's N1 counter at its limit, or nothing
across-held : (octets : List ℕ) (banlimit n1limit n : ℕ) (t : Entries) → Columns t → Held banlimit n1limit n t → (b : Bool) (net : ℕ)
    → Held banlimit n1limit n (entries_after (cond {A = Deed} b (deed.ToLimit net) deed.Nothing) octets n banlimit n1limit t)
unfolding n1_to_limit entries_after with_file is_import ranks_after marks_after
across-held octets banlimit n1limit n t w g true net = limit-held banlimit n1limit n t w g net
across-held octets banlimit n1limit n t w g false net = g

-- a reject asks about the pending network
abbrev pub pending_seen : Record → List ℕ → ℕ → Seen
pending_seen r octets w = seen_of (ask.Network w (access_of r.hot w).net) octets r.hot r.e0 r.e1

module _ (r : Record) (g : Good r) (z : Sized r) (octets : List ℕ) (protected : ℕ) (draws : Draws) (k : Reject) (row : Row) (c : eqb r.hot.dev.card 1 ≡ true) where
  abbrev reject_plan : ℕ → Plan
  reject_plan w = taken_plan r.hot w (reject_effect r.hot w protected draws (pending_seen r octets w) k row)

  abbrev time : ℕ
  time = t3346_time protected k.t3346length draws.t3346

  abbrev task-if : Bool → Access → Task
  task-if b a = cond b (task.Put a.net a.code protected) task.Nothing

  abbrev across-if : ℕ → Access → Deed
  across-if w a = cond (across_n1 w protected k.cause row) (deed.ToLimit a.net) deed.Nothing

  put-short : (b : Bool) (a : Access) → Fit r.hot.dev.cardlimit a → Short (task-if b a)
  put-short true a f = (network-short a.net f.pending.0, f.pending.1)
  put-short false a f = tt

  -- a reject, by its row, where an entry that it needs has a place
  pub reject-good : (w : ℕ) → is_flag w ≡ true → (needs_entry row ≡ true → leb 16 (pending_seen r octets w).at ≡ false) → Good (carry r octets (reject_plan w)).next
  unfolding access_of other_of taken_plan reject_effect scheduled row_work row_deed needs_entry table_after deed_of deed_on seen_of seen_by sight_of seen_in found_in equivalents_after
  reject-good zero h f =
      own_first r g z octets r.hot.dev.t3512length r.hot.dev.due g.fair.t3512length g.fair.due (row_turn row 0 r.hot.dev.cardlimit k.cause (pending_seen r octets 0).found time r.hot.a0) (other_turn row r.hot.dev.cardlimit r.hot.a1)
      (reject_t3247 r.hot.dev.t3247 protected k.cause draws.t3247) Leave (row_deed row (seat_of (pending_seen r octets 0) r.hot.a0.net protected)) (across-if 0 r.hot.a0) (task-if (to_roaming 0 k.cause row) r.hot.a0) (task-if (to_regional 0 k.cause row) r.hot.a0) keep.Nothing false tt
      (put-short (to_roaming 0 k.cause row) r.hot.a0 g.half0.fit) (put-short (to_regional 0 k.cause row) r.hot.a0 g.half0.fit)
      (half-turned r.hot.dev r.hot.a0.equivalents (cond (needs_entry row) (grown (pending_seen r octets 0).found r.hot.a0.entries) r.hot.a0.entries)
      (after (row_turn row 0 r.hot.dev.cardlimit k.cause (pending_seen r octets 0).found time r.hot.a0)) r.equivalents0 (table_after (reject_plan 0) octets 0 r.hot.a0.entries r.hot r.e0)
      (row-turned r.hot.dev.card r.hot.dev.cardlimit r.hot.a0 g.half0.fit c row 0 k.cause (pending_seen r octets 0).found time)
      g.half0.equals
      (row-held octets r.hot.dev.banlimit r.hot.dev.n1limit r.hot.a0.entries r.e0 z.e0 g.half0.held g.half0.fit.entries (mark_in (row_text row)) r.hot.a0.net protected f g.half0.fit.pending.0))
      (other-turned r.hot.dev.card r.hot.dev.cardlimit r.hot.a1 g.half1.fit g.half1.timely g.half1.carded row)
      (across-held octets r.hot.dev.banlimit r.hot.dev.n1limit r.hot.a1.entries r.e1 z.e1 g.half1.held (across_n1 0 protected k.cause row) r.hot.a0.net)
  reject-good (suc zero) h f =
      own-second r g z octets r.hot.dev.t3512length r.hot.dev.due g.fair.t3512length g.fair.due (row_turn row 1 r.hot.dev.cardlimit k.cause (pending_seen r octets 1).found time r.hot.a1) (other_turn row r.hot.dev.cardlimit r.hot.a0)
      (reject_t3247 r.hot.dev.t3247 protected k.cause draws.t3247) Leave (row_deed row (seat_of (pending_seen r octets 1) r.hot.a1.net protected)) (across-if 1 r.hot.a1) (task-if (to_roaming 1 k.cause row) r.hot.a1) (task-if (to_regional 1 k.cause row) r.hot.a1) keep.Nothing false tt
      (put-short (to_roaming 1 k.cause row) r.hot.a1 g.half1.fit) (put-short (to_regional 1 k.cause row) r.hot.a1 g.half1.fit)
      (half-turned r.hot.dev r.hot.a1.equivalents (cond (needs_entry row) (grown (pending_seen r octets 1).found r.hot.a1.entries) r.hot.a1.entries)
      (after (row_turn row 1 r.hot.dev.cardlimit k.cause (pending_seen r octets 1).found time r.hot.a1)) r.equivalents1 (table_after (reject_plan 1) octets 1 r.hot.a1.entries r.hot r.e1)
      (row-turned r.hot.dev.card r.hot.dev.cardlimit r.hot.a1 g.half1.fit c row 1 k.cause (pending_seen r octets 1).found time)
      g.half1.equals
      (row-held octets r.hot.dev.banlimit r.hot.dev.n1limit r.hot.a1.entries r.e1 z.e1 g.half1.held g.half1.fit.entries (mark_in (row_text row)) r.hot.a1.net protected f g.half1.fit.pending.0))
      (other-turned r.hot.dev.card r.hot.dev.cardlimit r.hot.a0 g.half0.fit g.half0.timely g.half0.carded row)
      (across-held octets r.hot.dev.banlimit r.hot.dev.n1limit r.hot.a0.entries r.e0 z.e0 g.half0.held (across_n1 1 protected k.cause row) r.hot.a1.net)
  reject-good (suc (suc w)) h f = absurd (no_third w h)
