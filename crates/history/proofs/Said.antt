-- One piece of news more is one change of the cell: for each list by cases of its word. Assumes nothing.
use Prim.Native.Nat.{ℕ, zero, suc, ◌+◌, min}
use mathlib.Core.Path.{◌≡◌, refl}
use mathlib.Core.Bool.{Bool, true, false, cond, not, ◌&&◌}
use mathlib.Core.List.{List, [], ◌∷◌}
use native.Mathlib.Omega.{arith}
use lib.Dec.{ltb}
use borrow.Author.Tests.{ltb-true, ltb-false, lt-ltb, le-ltb, ne_eqb}
use Rattle.entries.specs.Entries.{lift_mark}
use Rattle.history.specs.Tale.{Cell, Limits, Word, struck, put, to_limit, cleared, tested, nothing, News, news, is_counted, any, many, counter_of, is_begun, stands, mark_of, bans_in, bars_in, said_by}

-- the news of each event
abbrev pub banned : Bool → News
banned p = news (struck p) nothing

abbrev pub barred : Bool → News
barred p = news nothing (struck p)

abbrev pub imported : News
imported = news put nothing

abbrev pub accepted : News
accepted = news cleared nothing

abbrev pub reached : News
reached = news nothing to_limit

abbrev pub ended : News
ended = news tested tested

abbrev pub cycled : News
cycled = news tested cleared

abbrev pub quiet : News
quiet = news nothing nothing

-- a counter after a reject, protected or not
abbrev pub raise : ℕ → Bool → ℕ → ℕ
raise limit true n = limit
raise limit false n = cond (ltb n limit) (n + 1) n

abbrev pub cell : ℕ → ℕ → ℕ → ℕ → Cell
cell a b f g = record { ban = a; n1 = b; forbidden = f; barred = g }

abbrev pub blank : Cell
blank = cell 0 0 0 0

-- what a word makes of a list's counter, and of its mark
unfoldable pub count_after : ℕ → Word → ℕ → ℕ
count_after limit (struck p) n = raise limit p n
count_after limit put n = n
count_after limit to_limit n = limit
count_after limit cleared n = n
count_after limit tested n = n
count_after limit nothing n = n

unfoldable pub mark_after : ℕ → Word → ℕ → ℕ → ℕ
mark_after limit (struck p) n mark = 1
mark_after limit put n mark = 1
mark_after limit to_limit n mark = mark
mark_after limit cleared n mark = 0
mark_after limit tested n mark = lift_mark limit n mark
mark_after limit nothing n mark = mark

-- what a piece of news makes of the cell of its network
unfoldable pub cell_after : Limits → News → Cell → Cell
cell_after l d c =
    cell (count_after l.ban d.ban c.ban) (count_after l.n1 d.bar c.n1)
    (mark_after l.ban d.ban c.ban c.forbidden) (mark_after l.n1 d.bar c.n1 c.barred)

-- one unprotected reject more
one_more : (b : Bool) (limit k : ℕ) → cond b limit (min (suc k) limit) ≡ raise limit false (cond b limit (min k limit))
one_more true limit k = rw (le-ltb limit limit (omega arith))
one_more false limit k = go (ltb (min k limit) limit) refl
  where
    go : (b : Bool) → ltb (min k limit) limit ≡ b → min (suc k) limit ≡ cond (ltb (min k limit) limit) (min k limit + 1) (min k limit)
    go true q = rw q (omega (arith, ltb-true (min k limit) limit q))
    go false q = rw q (omega (arith, ltb-false (min k limit) limit q))

-- a mark is lifted by its counter's test
lift : (limit n : ℕ) (s : Bool) → mark_of (not (is_begun limit n) && s) ≡ lift_mark limit n (mark_of s)
unfolding is_begun lift_mark
lift limit zero s = refl
lift limit (suc n) s = rw (lt-ltb 0 (suc n) (omega arith), ne_eqb (suc n) 0 (λ e. omega arith)) (go (ltb (suc n) limit) s)
  where
    go : (b s : Bool) → mark_of (not b && s) ≡ cond b 0 (mark_of s)
    go true s = refl
    go false s = refl

counted : (limit : ℕ) (d : Word) (ds : List Word) → counter_of limit (d ∷ ds) ≡ count_after limit d (counter_of limit ds)
unfolding counter_of count_after any many is_counted
counted limit (struck true) ds = refl
counted limit (struck false) ds = one_more (any (is_counted true) ds) limit (many (is_counted false) ds)
counted limit put ds = refl
counted limit to_limit ds = refl
counted limit cleared ds = refl
counted limit tested ds = refl
counted limit nothing ds = refl

marked : (limit : ℕ) (d : Word) (ds : List Word) → mark_of (stands limit (d ∷ ds)) ≡ mark_after limit d (counter_of limit ds) (mark_of (stands limit ds))
unfolding stands mark_after
marked limit (struck p) ds = refl
marked limit put ds = refl
marked limit to_limit ds = refl
marked limit cleared ds = refl
marked limit tested ds = lift limit (counter_of limit ds) (stands limit ds)
marked limit nothing ds = refl

none : (limit : ℕ) → min 0 limit ≡ 0
none limit = omega arith

pub said-none : (l : Limits) → said_by l [] ≡ blank
unfolding said_by counter_of any many stands
said-none l = cc (none l.ban, none l.n1)

pub said-step : (l : Limits) (d : News) (ds : List News) → said_by l (d ∷ ds) ≡ cell_after l d (said_by l ds)
unfolding said_by cell_after
said-step l d ds =
    cc (counted l.ban d.ban (bans_in ds), counted l.n1 d.bar (bars_in ds), marked l.ban d.ban (bans_in ds), marked l.n1 d.bar (bars_in ds))
