-- Each access is picked by the same test. Assumes nothing.
use mathlib.Core.Path.{◌≡◌, refl}
use mathlib.Core.Bool.{Bool, true, false, cond}
use lib.Dec.{eqb}
use Rattle.record.specs.declared.Access.{Access}
use Rattle.record.specs.declared.Device.{Device}
use Rattle.record.specs.declared.Hot.{Hot}
use Rattle.record.specs.Sides.{other_of, hot_of}
use Rattle.record.proofs.sides.hot_with.Goals as goal

abbrev numbers : Device → Access → Access → Hot
numbers d a0 a1 = record { dev = d; a0 = a0; a1 = a1 }

together : (b : Bool) (d : Device) (a x y : Access) → numbers d (cond b a x) (cond b y a) ≡ cond b (numbers d a (cond b y x)) (numbers d (cond b y x) a)
together true d a x y = refl
together false d a x y = refl

pub returns : goal.returns
unfolding other_of hot_of
returns c = let start = c.args in
    rw (c.one_of.ensures, c.one_of-2.ensures) (together (eqb start.w 0) start.dev start.a start.h.a0 start.h.a1)
