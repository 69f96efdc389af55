-- One answer only: every public contract says that a result, or what stands in a lent place, equals a definition of what came in.
-- So two results that a contract allows are equal, and so are two contents of a lent place. Assumes nothing.
use mathlib.Core.Path.{◌≡◌, sym, ◌∙◌}

pub one : {A : Type 0} {meaning x y : A} → x ≡ meaning → y ≡ meaning → x ≡ y
one p q = p ∙ sym q

-- a result and a lent place together
pub one_each : {A B : Type 0} {meaning x y : A} {content s t : B} → (x ≡ meaning) × (s ≡ content) → (y ≡ meaning) × (t ≡ content) → (x ≡ y) × (s ≡ t)
one_each p q = (one p.0 q.0, one p.1 q.1)
