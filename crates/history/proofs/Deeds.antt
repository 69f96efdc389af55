-- Every deed on an access's entries keeps them what is told of the access: by the cells that it makes, and by who it marks. Assumes nothing.
use Prim.Native.Nat.{ℕ, ◌+◌, ◌≤◌, ◌<◌}
use mathlib.Core.Path.{◌≡◌, refl, sym, ◌∙◌, ap}
use mathlib.Core.Bool.{Bool, true, false, cond, not, ◌&&◌}
use mathlib.Core.List.{List}
use native.Mathlib.Omega.{arith}
use lib.Dec.{leb, ltb, eqb}
use borrow.Author.Tests.{leb-false, leb-true, ltb-true, ltb-false, lt-ltb, le-ltb, eq-eqb}
use Rattle.networks.specs.Networks.{networks_in}
use Rattle.entries.specs.declared.Entries.{Entries}
use Rattle.entries.specs.declared.Seat.{Seat}
use Rattle.entries.specs.declared.Deed.{Deed}
use Rattle.entries.specs.declared.Deed.TheVariants as deed
use Rattle.laws.proofs.Seek.{seek-le}
use Rattle.entries.specs.Places.{same_net, entries_held, place_in, has_entry, put_at}
use Rattle.entries.specs.Order.{last_at, leaver_to}
use Rattle.entries.specs.Entries.{place_for, with_ranks, unforbidden, n1_to_limit, swept, powered, none, grown, is_filed, held_with, marks_after, ranks_after, is_import, with_file, entries_after}
use Rattle.entries.specs.Entries as entries
use Rattle.entries.proofs.Joining.{held_fits}
use Rattle.validity.proofs.Own.{seat_in}
use Rattle.validity.proofs.Imports.{held-is}
use Rattle.history.specs.Cell.{cell_in}
use Rattle.history.specs.Tale.{Limits, News, is_put, puts, is_one_of, Tale, begun, told, filed, turned_away}
use Rattle.history.proofs.Said.{blank, count_after, mark_after, cell_after, said-none, banned, barred, accepted, reached, imported, ended, cycled, quiet}
use Rattle.history.proofs.Cells.{cell-none, cell-limited, cell-swept, cell-cycled, cell-banned, cell-barred, cell-accepted}
use Rattle.history.proofs.Giving.{Placed, own, given, is_left}
use Rattle.history.proofs.Lined.{held_whole, lined-has, lined-none}
use Rattle.history.proofs.Fit.{Fit, Sound, fit-told, apart}
use Rattle.history.proofs.Rejects.{fit-struck}
use Rattle.history.proofs.Files.{fit-filed}

-- how many entries there are after a deed; filed is how many with an import's
abbrev pub count_by : Deed → ℕ → ℕ → ℕ
count_by deed.Nothing many count = count
count_by (deed.Ban s) many count = grown s.found count
count_by (deed.Bar s) many count = grown s.found count
count_by (deed.Accept s) many count = count
count_by (deed.ToLimit net) many count = count
count_by deed.Import many count = many
count_by deed.Sweep many count = count
count_by deed.Power many count = count
count_by deed.Fresh many count = 0

-- a seat is its network's in these entries
abbrev pub Seated : Seat → ℕ → Entries → Type 0
Seated s count t = s ≡ seat_in count s.net s.protected t

-- a deed with its network's seat, and where it marks there is one; an import's networks have room
abbrev pub Fits : Deed → ℕ → List ℕ → ℕ → Entries → Type 0
Fits deed.Nothing many octets count t = Unit {0}
Fits (deed.Ban s) many octets count t = Seated s count t × (leb 16 s.at ≡ false)
Fits (deed.Bar s) many octets count t = Seated s count t × (leb 16 s.at ≡ false)
Fits (deed.Accept s) many octets count t = Seated s count t
Fits (deed.ToLimit net) many octets count t = Unit {0}
Fits deed.Import many octets count t = (many ≡ held_with count octets t.nets) × (leb count 16 ≡ true) × (leb many 16 ≡ true)
Fits deed.Sweep many octets count t = Unit {0}
Fits deed.Power many octets count t = Unit {0}
Fits deed.Fresh many octets count t = Unit {0}

-- what a deed is for network n, which has an entry or not
abbrev pub deed_news : Deed → List ℕ → Bool → ℕ → News
deed_news deed.Nothing octets held n = quiet
deed_news (deed.Ban s) octets held n = cond (eqb s.net n) (banned (not (eqb s.protected 0))) quiet
deed_news (deed.Bar s) octets held n = cond (eqb s.net n) (barred (not (eqb s.protected 0))) quiet
deed_news (deed.Accept s) octets held n = cond (eqb s.net n) accepted quiet
deed_news (deed.ToLimit net) octets held n = cond (eqb net n && held) reached quiet
deed_news deed.Import octets held n = cond (is_filed n (networks_in octets)) imported quiet
deed_news deed.Sweep octets held n = ended
deed_news deed.Power octets held n = cycled
deed_news deed.Fresh octets held n = quiet

-- what it makes of the tale, with its news d
abbrev pub deed_tale : Limits → Deed → List ℕ → (ℕ → News) → Tale → Tale
deed_tale l deed.Nothing octets d k = told d k
deed_tale l (deed.Ban s) octets d k = turned_away l s.net d k
deed_tale l (deed.Bar s) octets d k = turned_away l s.net d k
deed_tale l (deed.Accept s) octets d k = told d k
deed_tale l (deed.ToLimit net) octets d k = told d k
deed_tale l deed.Import octets d k = filed (networks_in octets) d k
deed_tale l deed.Sweep octets d k = told d k
deed_tale l deed.Power octets d k = told d k
deed_tale l deed.Fresh octets d k = begun

-- an import's many are those with its networks
pub count_fits : (e : Deed) (many : ℕ) (octets : List ℕ) (count : ℕ) (t : Entries) → Fits e many octets count t → count_by e many count ≡ count_by e (held_with count octets t.nets) count
count_fits deed.Nothing many octets count t f = refl
count_fits (deed.Ban s) many octets count t f = refl
count_fits (deed.Bar s) many octets count t f = refl
count_fits (deed.Accept s) many octets count t f = refl
count_fits (deed.ToLimit net) many octets count t f = refl
count_fits deed.Import many octets count t f = f.0
count_fits deed.Sweep many octets count t f = refl
count_fits deed.Power many octets count t f = refl
count_fits deed.Fresh many octets count t f = refl

-- no more than sixteen
grown-few : (b : Bool) (n : ℕ) → n ≤ 16 → grown b n ≤ 16
grown-few true n h = h
grown-few false n h = elim (ltb n 16) as (λ b. ltb n 16 ≡ b → cond b (n + 1) n ≤ 16) [ true ↦ λ q. omega (arith, ltb-true n 16 q) | false ↦ λ q. h ] refl

pub deed-few : (e : Deed) (many : ℕ) (octets : List ℕ) (count : ℕ) (t : Entries) → Fits e many octets count t → count ≤ 16 → count_by e many count ≤ 16
deed-few deed.Nothing many octets count t f h = h
deed-few (deed.Ban s) many octets count t f h = grown-few s.found count h
deed-few (deed.Bar s) many octets count t f h = grown-few s.found count h
deed-few (deed.Accept s) many octets count t f h = h
deed-few (deed.ToLimit net) many octets count t f h = h
deed-few deed.Import many octets count t f h = leb-true many 16 f.2
deed-few deed.Sweep many octets count t f h = h
deed-few deed.Power many octets count t f h = h
deed-few deed.Fresh many octets count t f h = omega arith

-- whom news of one network mark
puts-if : (b : Bool) (d : News) → puts d ≡ false → puts (cond b d quiet) ≡ false
unfolding puts is_put
puts-if true d e = e
puts-if false d e = refl

module _ (l : Limits) (many : ℕ) (octets : List ℕ) (count : ℕ) (t : Entries) (k : Tale) (s : Sound count t) (g : Fit l count t k) where
  -- the place of a seat that there is
  module _ (net : ℕ) where
    abbrev at : ℕ
    at = place_for count net t.nets t.forbidden t.barred t.ranks

    first : place_in count net t.nets < 16 → at ≡ place_in count net t.nets
    unfolding place_for
    first h = rw (lt-ltb (place_in count net t.nets) 16 h)

    last : 16 ≤ place_in count net t.nets → at ≡ leaver_to 16 t.forbidden t.barred t.ranks
    unfolding place_for
    last h = rw (le-ltb (place_in count net t.nets) 16 h)

    found_first : has_entry count net t.nets ≡ true → at ≡ place_in count net t.nets
    unfolding has_entry
    found_first q = first (omega (arith, ltb-true (place_in count net t.nets) (entries_held count) q, held_fits count))

    full : 16 ≤ place_in count net t.nets → count ≡ 16
    unfolding place_in
    full h = omega (arith, held_whole count s.few, seek-le (same_net net) (entries_held count) t.nets, s.few)

    placed : leb 16 at ≡ false → Placed count net t.nets at
    placed q = go (ltb (place_in count net t.nets) 16) refl
      where
        h : at < 16
        h = leb-false 16 at q

        go : (b : Bool) → ltb (place_in count net t.nets) 16 ≡ b → Placed count net t.nets at
        go true p = own (first (ltb-true (place_in count net t.nets) 16 p)) h
        go false p =
            let f : 16 ≤ place_in count net t.nets = ltb-false (place_in count net t.nets) 16 p in
            given f h (λ i hi d. apart l count t k s g at (omega (arith, full f, h)) i (omega (arith, full f)) d)

  -- a reject's news: of its network they mark, of others they are none
  module _ (net : ℕ) (x : News) (m : puts x ≡ true) (d : ℕ → News) (is : (n : ℕ) → d n ≡ cond (eqb net n) x quiet) where
    marks : puts (d net) ≡ true
    marks = ap puts (is net) ∙ rw (eq-eqb net net refl) m

    quiets : (n : ℕ) → eqb net n ≡ false → puts (d n) ≡ false
    unfolding puts is_put
    quiets n q = ap puts (is n) ∙ rw q

  abbrev is-protected : Seat → Bool
  is-protected x = not (eqb x.protected 0)

  there : (x : Seat) → Seated x count t × (leb 16 x.at ≡ false) → leb 16 (at x.net) ≡ false
  there x f = ap (λ (y : Seat). leb 16 y.at) (sym f.0) ∙ f.1

  module _ (d : ℕ → News) where
    -- news that mark nobody
    silent : (t' : Entries) → t'.nets ≡ t.nets → t'.ranks ≡ t.ranks → (x : ℕ → News) → ((n : ℕ) → d n ≡ x n) → ((n : ℕ) → cell_in count t' n ≡ cell_after l (x n) (cell_in count t n)) → ((n : ℕ) → puts (x n) ≡ false)
        → Fit l count t' (told d k)
    silent t' en er x is h q = fit-told l count t k s g t' en er d (λ n. h n ∙ ap (λ (y : News). cell_after l y (cell_in count t n)) (sym (is n))) (λ n. ap puts (is n) ∙ q n)

    -- news that mark one
    struck : (x : Seat) → Seated x count t × (leb 16 x.at ≡ false) → (y : News) → puts y ≡ true → ((n : ℕ) → d n ≡ cond (eqb x.net n) y quiet) → (t' : Entries)
        → t'.nets ≡ put_at t.nets (at x.net) x.net → t'.ranks ≡ last_at (at x.net) (entries_held count) t.ranks
        → ((n : ℕ) → cell_in (grown (has_entry count x.net t.nets) count) t' n
        ≡ cond (is_left count x.net t.nets (at x.net) n) blank (cell_after l (cond (eqb x.net n) y quiet) (cell_in count t n)))
        → Fit l (grown (has_entry count x.net t.nets) count) t' (turned_away l x.net d k)
    struck x f y m is t' en er ec =
        fit-struck l count t k s g x.net (at x.net) (placed x.net (there x f)) d (marks x.net y m d is) (quiets x.net y m d is) t' en er
        (λ n. ec n ∙ ap (λ (z : News). cond (is_left count x.net t.nets (at x.net) n) blank (cell_after l z (cell_in count t n))) (sym (is n))) (last x.net)

    pub deed-fit : (e : Deed) → Fits e many octets count t → ((n : ℕ) → d n ≡ deed_news e octets (is_one_of n k.held) n)
        → Fit l (count_by e many count) (entries_after e octets count l.ban l.n1 t) (deed_tale l e octets d k)
    unfolding entries_after with_file is_import ranks_after marks_after entries.banned entries.barred_by unforbidden n1_to_limit swept powered none cell_in cell_after count_after mark_after puts is_put begun
    deed-fit deed.Nothing f is = silent t refl refl (λ n. quiet) is (λ n. refl) (λ n. refl)
    deed-fit (deed.Ban x) f is =
        rw f.0 (struck x f (banned (is-protected x)) refl is (with_ranks (last_at (at x.net) (entries_held count) t.ranks) (entries.banned (seat_in count x.net x.protected t) l.ban t)) refl refl
        (cell-banned l count x.net x.protected t s.columns (at x.net) (placed x.net (there x f))))
    deed-fit (deed.Bar x) f is =
        rw f.0 (struck x f (barred (is-protected x)) refl is (with_ranks (last_at (at x.net) (entries_held count) t.ranks) (entries.barred_by (seat_in count x.net x.protected t) l.n1 t)) refl refl
        (cell-barred l count x.net x.protected t s.columns (at x.net) (placed x.net (there x f))))
    deed-fit (deed.Accept x) f is =
        silent (unforbidden x t) refl refl (λ n. cond (eqb x.net n) accepted quiet) is
        (cell-accepted l count x t s.columns (ap (λ (y : Seat). y.found) f) (λ q. ap (λ (y : Seat). y.at) f ∙ found_first x.net q)) (λ n. puts-if (eqb x.net n) accepted refl)
    deed-fit (deed.ToLimit net) f is =
        silent (n1_to_limit net count l.n1 t) refl refl (λ n. cond (eqb net n && is_one_of n k.held) reached quiet) is
        (λ n. cell-limited l count net t s.columns n ∙ ap (λ (b : Bool). cell_after l (cond (eqb net n && b) reached quiet) (cell_in count t n)) (lined-has s.few g.lined n)) (λ n. puts-if (eqb net n && is_one_of n k.held) reached refl)
    deed-fit deed.Import f is =
        let h = held-is count octets t f.1 (rw f.0 at f.2) in
        rw (f.0, h.0) (fit-filed l count t k s g (networks_in octets) h.1 d is)
    deed-fit deed.Sweep f is = silent (swept count l.ban l.n1 t) refl refl (λ n. ended) is (λ n. cell-swept l count t s.columns n) (λ n. refl)
    deed-fit deed.Power f is = silent (powered count l.ban t) refl refl (λ n. cycled) is (λ n. cell-cycled l count t s.columns n) (λ n. refl)
    deed-fit deed.Fresh f is = record { cells = λ n. cell-none 0 n ∙ sym (said-none l); lined = lined-none none.nets; order = λ i j h p. absurd (omega arith) }
