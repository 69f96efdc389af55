-- A bar is a ban with the columns changed about, a new entry is one that was not found, and which deeds leave the order. Assumes nothing.
use Prim.Native.Nat.{ℕ}
use mathlib.Core.Path.{◌≡◌, refl, ap}
use mathlib.Core.Bool.{Bool, true, false, cond, not}
use mathlib.Core.List.{List}
use Rattle.entries.specs.declared.Entries.{Entries}
use Rattle.entries.specs.declared.Seat.{Seat}
use Rattle.entries.specs.declared.Deed.{Deed}
use Rattle.entries.specs.declared.Deed.TheVariants as deed
use Rattle.entries.specs.Places.{put_at}
use Rattle.entries.specs.Entries.{clear_unless, entries_of, banned, barred_by, ranks_after, is_import}

pub fresh : (found : Bool) (xs : List ℕ) (at : ℕ) → cond (not found) (put_at xs at 0) xs ≡ clear_unless found xs at
unfolding clear_unless
fresh true xs at = refl
fresh false xs at = refl

pub otherwise : (b : Bool) (xs ys : List ℕ) → cond (not b) xs ys ≡ cond b ys xs
otherwise true xs ys = refl
otherwise false xs ys = refl

-- bans and N1 counters, forbidden and barred marks in each other's place
abbrev turned : Entries → Entries
turned t = entries_of t.nets t.n1s t.bans t.barred t.forbidden t.ranks

pub turn : (seat : Seat) (limit : ℕ) (s t : Entries) → s ≡ banned seat limit (turned t) → turned s ≡ barred_by seat limit t
unfolding banned barred_by
turn seat limit s t e = ap turned e

-- neither a reject nor a card change
pub order-stays : (k : Deed) → ((s : Seat) → k ≡ deed.Ban s → ⊥) → ((s : Seat) → k ≡ deed.Bar s → ⊥) → (k ≡ deed.Fresh → ⊥) → (count : ℕ) (ranks : List ℕ) → ranks_after k count ranks ≡ ranks
unfolding ranks_after
order-stays deed.Nothing a b f count ranks = refl
order-stays (deed.Ban s) a b f count ranks = absurd (a s refl)
order-stays (deed.Bar s) a b f count ranks = absurd (b s refl)
order-stays (deed.Accept s) a b f count ranks = refl
order-stays (deed.ToLimit net) a b f count ranks = refl
order-stays deed.Import a b f count ranks = refl
order-stays deed.Sweep a b f count ranks = refl
order-stays deed.Power a b f count ranks = refl
order-stays deed.Fresh a b f count ranks = absurd (f refl)

pub no-import : (k : Deed) → (k ≡ deed.Import → ⊥) → is_import k ≡ false
unfolding is_import
no-import deed.Nothing f = refl
no-import (deed.Ban s) f = refl
no-import (deed.Bar s) f = refl
no-import (deed.Accept s) f = refl
no-import (deed.ToLimit net) f = refl
no-import deed.Import f = absurd (f refl)
no-import deed.Sweep f = refl
no-import deed.Power f = refl
no-import deed.Fresh f = refl
