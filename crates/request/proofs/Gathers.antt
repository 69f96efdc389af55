-- What a request's passes over its elements gather, each by its identifier, and what is made of it. Assumes nothing.
use Prim.Native.Nat.{ℕ, ◌+◌}
use mathlib.Core.Path.{◌≡◌, refl, ◌∙◌, ap}
use mathlib.Core.Bool.{Bool, true}
use mathlib.Core.List.{List}
use Rattle.request.specs.declared.Request.{Request}
use Rattle.std.specs.Prelude.{Result, Ok, Err}
use Rattle.octets.specs.Element.{Elements, elements_from, first_of, wanted_of, gather_of}
use Rattle.octets.specs.declared.Gathered.{Gathered}
use Rattle.octets.specs.declared.Malformed.{Malformed}
use Rattle.messages.specs.Message.{ended_by}
use Rattle.request.specs.Reading.{identity_in, is_request, judged_of}
use Rattle.request.specs.Levels.{around_of}
use Rattle.request.specs.Reader.{elements_in, parts_of, statuses_of, attaches_of, Common, Statuses, alone_of, enclosed_of}
use Rattle.request.specs.declared.Unread.{Unread}
use Rattle.request.specs.declared.Unread.TheVariants as unread

module _ (s : List ℕ) (g : Gathered) where
  pub gathered : g ≡ parts_of s → Common g (elements_in s)
  unfolding parts_of gather_of wanted_of
  gathered e = rw e (record { end = refl; first = refl; second = refl; third = refl; fourth = refl })

  statuses : (h : Gathered) → h ≡ statuses_of s → Statuses h (elements_in s)
  unfolding statuses_of gather_of wanted_of
  statuses h e = rw e (record { first = refl; second = refl; third = refl; fourth = refl })

  attaches : (k : Gathered) → k ≡ attaches_of s → k.first ≡ first_of 0x70 (elements_in s)
  unfolding attaches_of gather_of wanted_of
  attaches k e = rw e

  -- by how the elements end
  pub alone-broken : (m : Malformed) → g.end ≡ Err m → g ≡ parts_of s → Err (unread.Malformed m) ≡ alone_of s
  unfolding alone_of ended_by
  alone-broken m e eg = rw (← (gathered eg).end, e)

  pub alone-whole : (h k : Gathered) (n : ℕ) (r : Result Request Unread) → g.end ≡ Ok tt → n ≡ identity_in s → h ≡ statuses_of s → k ≡ attaches_of s
      → ((l : Elements) → Common g l → Statuses h l → k.first ≡ first_of 0x70 l → r ≡ judged_of s n l)
      → g ≡ parts_of s → r ≡ alone_of s
  unfolding alone_of ended_by
  alone-whole h k n r e en eh ek j eg =
      rw (← (gathered eg).end, e) (j (elements_in s) (gathered eg) (statuses h eh) (attaches k ek) ∙ ap (λ (m : ℕ). judged_of s m (elements_in s)) en)

  pub around-so : (n : ℕ) (fits : Bool) (inner r : Result Request Unread) → n ≡ identity_in s → ((l : Elements) → g.first ≡ first_of 0x10 l → g.second ≡ first_of 0x2E l → fits ≡ is_request s n l)
      → r ≡ around_of g.end fits inner → g ≡ parts_of s → r ≡ enclosed_of s inner
  unfolding enclosed_of
  around-so n fits inner r en j er eg =
      let p = gathered eg in
      let o : fits ≡ is_request s (identity_in s) (elements_in s) = rw (← en) (j (elements_from true s (6 + n)) (rw en p.first) (rw en p.second)) in
      er ∙ rw (p.end, o)
