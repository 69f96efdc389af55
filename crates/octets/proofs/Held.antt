-- What a pass holds at each turn: with what the elements that are left give, it is what all of them give. Assumes nothing.
use Prim.Native.Nat.{ℕ}
use mathlib.Core.Path.{◌≡◌, refl, sym}
use mathlib.Core.Bool.{Bool, true, false, cond}
use lib.Dec.{eqb}
use Rattle.std.specs.Prelude.{Option, Some, None, Ok, Err}
use Rattle.std.specs.Option.{option_or}
use Rattle.octets.specs.Element.{Elements, first_of, wanted_of, end_of, gather_of}
use Rattle.octets.specs.Element.Elements.{over, broken, element}
use Rattle.octets.specs.declared.Fault.{Fault}
use Rattle.octets.specs.declared.Part.{Part}
use Rattle.octets.specs.declared.Gathered.{Gathered}

pub or-None : (p : Option Part) → option_or p None ≡ p
or-None None = refl
or-None (Some x) = refl

or-or : (p q r : Option Part) → option_or (option_or p q) r ≡ option_or p (option_or q r)
or-or None q r = refl
or-or (Some x) q r = refl

-- an element gives what it gives alone, else what those behind it give
picked : (t : Bool) (x : Part) (q : Option Part) → cond t (Some x) q ≡ option_or (cond t (Some x) None) q
picked true x q = refl
picked false x q = refl

ahead : (w : Option ℕ) (i b n : ℕ) (l : Elements) → wanted_of w (element i b n l) ≡ option_or (wanted_of w (element i b n over)) (wanted_of w l)
unfolding wanted_of first_of
ahead None i b n l = refl
ahead (Some x) i b n l = picked (eqb i x) (record { start = b; len = n }) (first_of x l)

held_next : (w : Option ℕ) (p : Option Part) (i b n : ℕ) (l : Elements) → option_or p (wanted_of w (element i b n l)) ≡ option_or (option_or p (wanted_of w (element i b n over))) (wanted_of w l)
held_next w p i b n l = rw (ahead w i b n l) (sym (or-or p (wanted_of w (element i b n over)) (wanted_of w l)))

-- nothing is behind the end, nor behind a fault
none-over : (w : Option ℕ) (p : Option Part) → option_or p (wanted_of w over) ≡ p
unfolding wanted_of first_of
none-over None p = or-None p
none-over (Some x) p = or-None p

none-broken : (f : Fault) (at : ℕ) (w : Option ℕ) (p : Option Part) → option_or p (wanted_of w (broken f at)) ≡ p
unfolding wanted_of first_of
none-broken f at None p = or-None p
none-broken f at (Some x) p = or-None p

-- what is held, else what is gathered besides; the end is that of what is gathered
abbrev pub else_of : Gathered → Gathered → Gathered
else_of g h = record { end = h.end; first = option_or g.first h.first; second = option_or g.second h.second; third = option_or g.third h.third; fourth = option_or g.fourth h.fourth }

-- what is held, with the elements that are left
pub record Holds (x y z u : Option ℕ) (g : Gathered) (left l : Elements) : Type 0 where
  pub ends : g.end ≡ Ok tt
  pub gives : else_of g (gather_of x y z u left) ≡ gather_of x y z u l

module _ (x y z u : Option ℕ) (g : Gathered) (l : Elements) where
  pub ended : Holds x y z u g over l → g ≡ gather_of x y z u l
  unfolding gather_of end_of
  ended h = rw (← h.gives, none-over x g.first, none-over y g.second, none-over z g.third, none-over u g.fourth, ← h.ends)

  pub broke : (f : Fault) (at : ℕ) → Holds x y z u g (broken f at) l → record { end = Err (record { fault = f; at = at }); first = g.first; second = g.second; third = g.third; fourth = g.fourth } ≡ gather_of x y z u l
  unfolding gather_of end_of
  broke f at h = rw (← h.gives, none-broken f at x g.first, none-broken f at y g.second, none-broken f at z g.third, none-broken f at u g.fourth)

  -- others that give the same may stand for those left
  pub same : (left others : Elements) → gather_of x y z u others ≡ gather_of x y z u left → Holds x y z u g left l → Holds x y z u g others l
  same left others e h = record { ends = h.ends; gives = rw e h.gives }

  pub next : (i b n : ℕ) (left : Elements) → Holds x y z u g (element i b n left) l
      → Holds x y z u (record {
        end = g.end;
        first = option_or g.first (wanted_of x (element i b n over));
        second = option_or g.second (wanted_of y (element i b n over));
        third = option_or g.third (wanted_of z (element i b n over));
        fourth = option_or g.fourth (wanted_of u (element i b n over));
      }) left l
  unfolding gather_of end_of
  next i b n left h = record {
    ends = h.ends;
    gives = rw (← held_next x g.first i b n left, ← held_next y g.second i b n left, ← held_next z g.third i b n left, ← held_next u g.fourth i b n left) h.gives;
  }
