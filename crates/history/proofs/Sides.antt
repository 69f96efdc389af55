-- What an access's entries go by: the home network, the network that the access registers with, how many entries there are, and the entries. What its own
-- events and a protected 27 over the other access make of these looks at nothing else in the record. Assumes nothing.
use Prim.Native.Nat.{ℕ, ◌<◌}
use mathlib.Core.Path.{◌≡◌, refl, ◌∙◌, ap}
use mathlib.Core.Bool.{Bool, true, false, cond, not, false≢true}
use mathlib.Core.List.{List, [], ◌∷◌, ◌++◌}
use lib.Dec.{ltb, eqb}
use borrow.Author.Tests.{eqb-true}
use Rattle.std.specs.Prelude.{Ok, Err}
use Rattle.record.specs.Answers.{is_taken}
use Rattle.record.specs.Sides.{access_of}
use Rattle.record.specs.declared.Record.{Record}
use Rattle.entries.specs.declared.Entries.{Entries}
use Rattle.entries.specs.declared.Seat.{Seat}
use Rattle.entries.specs.declared.Seen.{Seen}
use Rattle.entries.specs.declared.Deed.{Deed}
use Rattle.entries.specs.declared.Deed.TheVariants as deed
use Rattle.entries.specs.Entries.{seat_of, n1_to_limit, held_with, entries_after}
use Rattle.messages.specs.declared.Message.TheVariants as message
use Rattle.messages.specs.Message.{Reading, reading_of}
use Rattle.turns.specs.declared.Row.{Row}
use Rattle.turns.specs.declared.Row.TheVariants.{CardBelow, CardLimit, CardProtected, Away, Home, Area, N1, Congested, Protocol, Other}
use Rattle.turns.specs.declared.Draws.{Draws}
use Rattle.turns.specs.Words.{mark_in}
use Rattle.turns.specs.Rejects.{row_text}
use Rattle.checks.specs.Answers.{row_now}
use Rattle.effects.specs.Effects.{card_effect, start_effect, update_effect, key_effect, accept_effect, power_effect, mark_deed, row_deed, row_work, reject_effect, import_effect}
use Rattle.rules.specs.declared.Event.{Event}
use Rattle.rules.specs.declared.Event.TheVariants.{Card, Start, Message, Timer, Power, Key, Update, Import, Unknown}
use Rattle.rules.specs.Plan.{access_in, message_effect, effect_of}
use Rattle.validity.specs.Answered.{seen_at, answered_by}
use Rattle.validity.proofs.Own.{seat_in}
use Rattle.history.specs.Cell.{entries_in}
use Rattle.history.specs.Apart.{Half}
use Rattle.history.specs.Tale.{Limits, News, is_put}
use Rattle.history.specs.History.{home_after, pending_after, cause_news}
use Rattle.history.specs.Own.{Concern, whole, protected27, concerns}
use Rattle.history.proofs.Deeds.{count_by}
use Rattle.history.proofs.Next.{deed_in}
use Rattle.history.proofs.Rows.{row_news, row-news}
use Rattle.history.proofs.Stays.{small, seen-seat}
use Rattle.history.proofs.News.{timer-deeds}

pub record Side : Type 0 where
  pub home : ℕ
  pub net : ℕ
  pub count : ℕ
  pub table : Entries

pub sides : {home home' net net' count count' : ℕ} {t t' : Entries} → home ≡ home' → net ≡ net' → count ≡ count' → t ≡ t'
    → ◌≡◌ {A = Side} (record { home = home; net = net; count = count; table = t }) (record { home = home'; net = net'; count = count'; table = t' })
sides p q s u = cc

abbrev pub side_with : ℕ → Half → Side
side_with home x = record { home = home; net = x.numbers.net; count = x.numbers.entries; table = x.entries }

abbrev pub side_in : Record → ℕ → Side
side_in r w = record { home = r.hot.dev.home; net = (access_of r.hot w).net; count = (access_of r.hot w).entries; table = entries_in r w }

-- What is done on the entries.

-- of a reject, by its word for the network
abbrev news_deed : News → Seat → Deed
news_deed d s = cond (is_put d.ban) (deed.Ban s) (cond (is_put d.bar) (deed.Bar s) deed.Nothing)

-- the seat of the network that the access registers with
abbrev seat_for : ℕ → Side → Seat
seat_for protected s = seat_in s.count s.net protected s.table

abbrev read_deed : ℕ → ℕ → Reading → Side → Deed
read_deed w protected (Ok (message.Accept g)) s = deed.Accept (seat_for 1 s)
read_deed w protected (Ok (message.Reject k)) s = news_deed (cause_news (eqb s.net s.home) w (not (eqb protected 0)) k.cause) (seat_for protected s)
read_deed w protected (Err m) s = deed.Nothing

abbrev pub own_deed : ℕ → Event → List ℕ → Side → Deed
own_deed w (Card edition home) octets s = deed.Fresh
own_deed w (Start b manual net code) octets s = deed.Nothing
own_deed w (Message b protected draw) octets s = read_deed w protected (reading_of octets) s
own_deed w (Timer number b) octets s = cond (eqb number 4) deed.Sweep deed.Nothing
own_deed w Power octets s = deed.Power
own_deed w (Key b set) octets s = deed.Nothing
own_deed w (Update b regtype net code uplink sessions) octets s = deed.Nothing
own_deed w Import octets s = deed.Import
own_deed w Unknown octets s = deed.Nothing

-- what a concern makes of a side
unfoldable pub side_by : Limits → ℕ → Concern → Side → Side
side_by l w (whole x) s = record {
  home = home_after x.event s.home;
  net = pending_after w x.event s.net;
  count = count_by (own_deed w x.event x.octets s) (held_with s.count x.octets s.table.nets) s.count;
  table = entries_after (own_deed w x.event x.octets s) x.octets s.count l.ban l.n1 s.table;
}
side_by l w (protected27 n) s = record { home = s.home; net = s.net; count = s.count; table = n1_to_limit n s.count l.n1 s.table }

-- and concerns, the latest first
unfoldable pub side_after : Limits → ℕ → List Concern → Side → Side
side_after l w [] s = s
side_after l w (c ∷ before) s = side_by l w c (side_after l w before s)

pub after_both : (l : Limits) (w : ℕ) (cs before : List Concern) (s : Side) → side_after l w (cs ++ before) s ≡ side_after l w cs (side_after l w before s)
unfolding side_after
after_both l w [] before s = refl
after_both l w (c ∷ cs) before s = ap (side_by l w c) (after_both l w cs before s)

-- An event of the access's own.

row_is : (row : Row) (p : Bool) (s : Seat) → row_deed row s ≡ news_deed (row_news row p) s
unfolding row_deed mark_deed row_text mark_in is_put
row_is CardBelow p s = refl
row_is CardLimit p s = refl
row_is CardProtected p s = refl
row_is Away p s = refl
row_is Home p s = refl
row_is Area p s = refl
row_is N1 p s = refl
row_is Congested p s = refl
row_is Protocol p s = refl
row_is Other p s = refl

both_is : {A : Type 0} (b : Bool) (x y z : A) → x ≡ z → y ≡ z → cond b x y ≡ z
both_is true x y z p q = p
both_is false x y z p q = q

module _ (r : Record) (octets : List ℕ) where
  module _ (b protected : ℕ) (draws : Draws) (hb : b < 2) where
    abbrev sight : Seen
    sight = seen_at r (Message b protected draws) octets

    abbrev pending : ℕ
    pending = (access_of r.hot b).net

    read_is : (m : Reading) → (message_effect r.hot b protected draws m sight).work.mine ≡ read_deed b protected m (side_in r b)
    unfolding message_effect accept_effect reject_effect row_work row_now
    read_is (Ok (message.Accept g)) = ap deed.Accept (seen-seat r octets b protected draws hb 1)
    read_is (Ok (message.Reject k)) =
        row_is (row_now r.hot b protected k) (not (eqb protected 0)) (seat_of sight pending protected)
        ∙ ap (λ (d : News). news_deed d (seat_of sight pending protected))
        (row-news b (eqb protected 0) (eqb pending r.hot.dev.home) (ltb (access_of r.hot b).cardcounter r.hot.dev.cardlimit) (ltb 0 k.t3346length) (not (eqb protected 0)) k.cause)
        ∙ ap (news_deed (cause_news (eqb pending r.hot.dev.home) b (not (eqb protected 0)) k.cause)) (seen-seat r octets b protected draws hb protected)
    read_is (Err m) = refl

  pub own-deed : (e : Event) → is_taken (answered_by r e octets) ≡ true → (w : ℕ) → concerns w e ≡ true → deed_in r e octets w ≡ own_deed w e octets (side_in r w)
  unfolding concerns access_in effect_of card_effect start_effect update_effect key_effect power_effect import_effect
  own-deed (Card edition home) t w q = both_is (eqb 0 w) deed.Fresh deed.Fresh _ refl refl
  own-deed (Start b manual net code) t w q = both_is (eqb b w) deed.Nothing deed.Nothing _ refl refl
  own-deed (Message b protected draws) t w q = rw (q, ← eqb-true b w q) (read_is b protected draws (small r (Message b protected draws) octets t) (reading_of octets))
  own-deed (Timer number b) t w q = both_is (eqb b w) _ _ _ (timer-deeds r number b).0 (timer-deeds r number b).1
  own-deed Power t w q = both_is (eqb 0 w) deed.Power deed.Power _ refl refl
  own-deed (Key b set) t w q = both_is (eqb b w) deed.Nothing deed.Nothing _ refl refl
  own-deed (Update b regtype net code uplink sessions) t w q = both_is (eqb b w) deed.Nothing deed.Nothing _ refl refl
  own-deed Import t w q = rw q
  own-deed Unknown t w q = absurd (false≢true q)
