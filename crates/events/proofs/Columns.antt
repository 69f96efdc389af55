-- The core and the step put together from what their calls ensure, over plain variables. Assumes nothing.
use Prim.Native.Nat.{ℕ}
use mathlib.Core.Path.{◌≡◌, ◌∙◌, ap}
use mathlib.Core.Bool.{Bool, false}
use mathlib.Core.List.{List, []}
use Rattle.std.specs.Prelude.{Option}
use Rattle.entries.specs.declared.Entries.{Entries}
use Rattle.entries.specs.declared.Seen.{Seen}
use Rattle.entries.specs.declared.Deed.{Deed}
use Rattle.entries.specs.Entries.{with_ranks, marks_after, ranks_after, is_import, with_file, entries_after}
use Rattle.entries.proofs.Taking.{marks-with}
use Rattle.areas.specs.Areas.{list_after, count_after}
use Rattle.record.specs.declared.Hot.{Hot}
use Rattle.rules.specs.declared.Event.{Event}
use Rattle.rules.specs.declared.Ask.{Ask}
use Rattle.rules.specs.declared.Area.{Area}
use Rattle.rules.specs.declared.Plan.{Plan}
use Rattle.rules.specs.Plan.{ask_of, site_of, plan_of, deed_on, deed_of}
use Rattle.events.specs.declared.Done.{Done}
use Rattle.events.specs.Parts.{seen_by, seen_of, listed_of, planned_of, table_after, order_on, with_counts, done_of, parts_of, carried_out, parts_after}
use Rattle.events.proofs.Second.{never-second}
use Rattle.events.proofs.Orders.{order_is}

-- the marks and the order made apart, and an import's file behind them
table : (k : Deed) (octets : List ℕ) (count banlimit n1limit : ℕ) (t x : Entries) → with_ranks [] x ≡ marks_after k count banlimit n1limit (with_ranks [] t) → x.ranks ≡ ranks_after k count t.ranks
    → with_file k octets count x ≡ entries_after k octets count banlimit n1limit t
unfolding entries_after
table k octets count banlimit n1limit t x e f = ap (with_file k octets count) (marks-with k count banlimit n1limit t x e x.ranks ∙ ap (λ (ranks : List ℕ). with_ranks ranks (marks_after k count banlimit n1limit t)) f)

pub core-law : (h : Hot) (e : Event) (octets : List ℕ) (q : Ask) (i : Option Area) (s : Seen) (l : Bool) (p : Plan) (d d' : Deed) (x y x'' x' y' : Entries) (a b a' b' : List ℕ) (m n : ℕ) (g : Hot)
    → q ≡ ask_of h e
    → s ≡ seen_by q octets h x.nets x.forbidden x.barred x.ranks y.nets y.forbidden y.barred y.ranks
    → i ≡ site_of e
    → l ≡ listed_of i h a b
    → p ≡ plan_of h e s l octets
    → d ≡ deed_on p.access p.work.mine p.work.theirs 0
    → d' ≡ deed_on p.access p.work.mine p.work.theirs 1
    → x''.ranks ≡ order_on p.access p.work.mine 0 h.a0.entries x.ranks
    → y'.ranks ≡ order_on p.access p.work.mine 1 h.a1.entries y.ranks
    → with_ranks [] x'' ≡ marks_after d h.a0.entries h.dev.banlimit h.dev.n1limit (with_ranks [] x)
    → with_ranks [] y' ≡ marks_after d' h.a1.entries h.dev.banlimit h.dev.n1limit (with_ranks [] y)
    → x' ≡ with_file d octets h.a0.entries x''
    → a' ≡ list_after p.work.roaming h.dev.roaming a
    → m ≡ count_after p.work.roaming h.dev.roaming a
    → b' ≡ list_after p.work.regional h.dev.regional b
    → n ≡ count_after p.work.regional h.dev.regional b
    → g ≡ with_counts m n p.hot
    → parts_of (record { plan = p; hot = g }) x' y' a' b' ≡ parts_after h e octets x y a b
unfolding parts_after carried_out done_of planned_of seen_of table_after deed_of with_file
core-law h e octets q i s l p d d' x y x'' x' y' a b a' b' m n g iq is ii il ip id id' ox oy ix iy iz ia im ib in' ig =
    rw (iz ∙ first, second, ← iq, ← is, ← ii, ← il, ← ip, id, id', ia, ib, ig, im, in')
  where
    first : with_file d octets h.a0.entries x'' ≡ entries_after d octets h.a0.entries h.dev.banlimit h.dev.n1limit x
    first = table d octets h.a0.entries h.dev.banlimit h.dev.n1limit x x'' ix (rw id (ox ∙ rw ip (order_is h e s l octets 0 h.a0.entries x.ranks)))

    -- access 1 has no import, so that its entries are done
    second : y' ≡ entries_after d' octets h.a1.entries h.dev.banlimit h.dev.n1limit y
    second = rw none at (table d' octets h.a1.entries h.dev.banlimit h.dev.n1limit y y' iy (rw id' (oy ∙ rw ip (order_is h e s l octets 1 h.a1.entries y.ranks))))
      where
        none : is_import d' ≡ false
        none = rw (id', ip) (never-second h e s l octets)
