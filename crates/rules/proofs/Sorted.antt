-- Sorted by access or by whose event it is: the same plan. Each side of the event's access is one case. And an import is what it adds to an event that
-- changes nothing. Assumes nothing.
use Prim.Native.Nat.{ℕ, ◌<◌}
use mathlib.Core.Path.{◌≡◌, refl}
use mathlib.Core.Bool.{Bool, true, false, cond, false≢true}
use mathlib.Core.List.{List}
use Rattle.std.proofs.Common.{Some, None, option_map, unwrap_or}
use lib.Dec.{eqb}
use Rattle.record.specs.declared.Hot.{Hot}
use Rattle.record.specs.Sides.{access_of, other_of, hot_of}
use Rattle.entries.specs.declared.Seen.{Seen}
use Rattle.effects.specs.declared.Sides.{Sides}
use Rattle.effects.specs.Effects.{Effect, import_effect, sides_of, imported_sides}
use Rattle.rules.specs.declared.Event.{Event}
use Rattle.rules.specs.declared.Event.TheVariants.{Card, Start, Message, Timer, Power, Key, Update, Import, Unknown}
use Rattle.rules.specs.Plan.{Fits, access_in, effect_of, hot_after, taken_reply, taken_plan}
use Rattle.rules.specs.Sides.{hot_by, reply_by, plan_by, is_importing}

side : (h : Hot) (w : ℕ) (e : Effect) (b : Bool) → eqb w 0 ≡ b → plan_by h w (sides_of w e) ≡ taken_plan h w e
unfolding plan_by hot_by reply_by sides_of taken_plan taken_reply hot_after hot_of
side h w e true i = rw i
side h w e false i = rw i

pub sorted : (h : Hot) (w : ℕ) (e : Effect) → plan_by h w (sides_of w e) ≡ taken_plan h w e
sorted h w e = side h w e (eqb w 0) refl

module _ (h : Hot) (s : Seen) (octets : List ℕ) where
  -- what the code makes of an event before an import's own share
  abbrev pub before : Event → Sides
  before e = sides_of (access_in e) (cond (is_importing e) (effect_of h Unknown s octets) (effect_of h e s octets))

  pub with-import : (e : Event) → unwrap_or (option_map (λ (n : ℕ). imported_sides n (before e)) (cond (is_importing e) (Some s.at) None)) (before e) ≡ sides_of (access_in e) (effect_of h e s octets)
  unfolding is_importing access_in effect_of import_effect imported_sides sides_of access_of other_of
  with-import (Card edition home) = refl
  with-import (Start w manual net code) = refl
  with-import (Message w protected draws) = refl
  with-import (Timer number w) = refl
  with-import Power = refl
  with-import (Key w set) = refl
  with-import (Update w regtype net code uplink sessions) = refl
  with-import Import = refl
  with-import Unknown = refl

-- an import's entries fit an octet
pub import-fits : (e : Event) (at : ℕ) (octets : List ℕ) → is_importing e ≡ true → Fits e at octets → at < 256
unfolding is_importing
import-fits (Card edition home) at octets i f = absurd (false≢true i)
import-fits (Start w manual net code) at octets i f = absurd (false≢true i)
import-fits (Message w protected draws) at octets i f = absurd (false≢true i)
import-fits (Timer number w) at octets i f = absurd (false≢true i)
import-fits Power at octets i f = absurd (false≢true i)
import-fits (Key w set) at octets i f = absurd (false≢true i)
import-fits (Update w regtype net code uplink sessions) at octets i f = absurd (false≢true i)
import-fits Import at octets i f = f
import-fits Unknown at octets i f = absurd (false≢true i)
