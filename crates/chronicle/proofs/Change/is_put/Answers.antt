-- A reject or an import sets the mark, and no other change does. Assumes nothing.
use mathlib.Core.Path.{◌≡◌, refl}
use mathlib.Core.Bool.{Bool, false}
use mathlib.Core.Logic.{inl, inr}
use Rattle.history.specs.Tale.{is_put}
use Rattle.chronicle.specs.declared.Change.{Change}
use Rattle.chronicle.specs.declared.Change.TheVariants as change
use Rattle.chronicle.specs.Words.{word_of}
use Rattle.chronicle.proofs.Change.is_put.Goals as goal

others : (x : Change) → ((p : Bool) → x ≡ change.Struck p → ⊥) → (x ≡ change.Put → ⊥) → false ≡ is_put (word_of x)
unfolding word_of is_put
others (change.Struck p) f g = absurd (f p refl)
others change.Put f g = absurd (g refl)
others change.ToLimit f g = refl
others change.Cleared f g = refl
others change.Tested f g = refl
others change.Nothing f g = refl

pub returns-in-Struck : goal.returns-in-Struck
unfolding word_of is_put
returns-in-Struck c = elim c.in-Struck.is [ inl w ↦ rw w.1 | inr e ↦ rw e ]

pub returns-in_default : goal.returns-in_default
returns-in_default c = others _ c.in_default.not-Struck c.in_default.not-Put
