-- What the reading of an element is by the table's codes: one test of the format. By cases.
-- Assumes nothing.
use mathlib.Core.Path.{◌≡◌, refl}
use mathlib.Core.Bool.{cond}
use mathlib.Core.Logic.{◌≢◌}
use lib.Dec.{eqb}
use Rattle.octets.specs.Element.{code_of, read_as}
use Rattle.octets.specs.declared.Fault.TheVariants.{Strange}
use Rattle.octets.specs.declared.Layout.{Layout}
use Rattle.octets.specs.declared.Layout.TheVariants.{Whole, LongLength, ShortLength, SevenInRequest, MustBeKnown}
use Rattle.octets.specs.declared.Element.{Element}
use Rattle.octets.specs.declared.Element.TheVariants.{Bad}

pub read-coded : (f : Layout) (e : Element) → read_as f e ≡ cond (eqb (code_of f) 3) (Bad Strange) e
unfolding read_as code_of
read-coded Whole e = refl
read-coded LongLength e = refl
read-coded ShortLength e = refl
read-coded SevenInRequest e = refl
read-coded MustBeKnown e = refl

pub read-known : (f : Layout) (e : Element) → f ≢ MustBeKnown → read_as f e ≡ e
unfolding read_as
read-known Whole e h = refl
read-known LongLength e h = refl
read-known ShortLength e h = refl
read-known SevenInRequest e h = refl
read-known MustBeKnown e h = absurd (h refl)
