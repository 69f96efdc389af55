-- What is read in the octets of a 71 says the same by its offsets in the message around it, and is what that message reads as. Assumes nothing.
use Prim.Native.Nat.{ℕ, zero, suc, ◌+◌, ◌≤◌}
use mathlib.Core.Path.{◌≡◌, refl}
use mathlib.Core.Bool.{true}
use mathlib.Core.List.{List, [], ◌∷◌}
use native.Mathlib.Omega.{arith}
use lib.ListN.{take, drop}
use lib.Seq.{take-take, drop-drop}
use Rattle.request.specs.declared.Request.{Request}
use Rattle.std.specs.Prelude.{Option, Some, None, Result, Ok, Err}
use Rattle.octets.specs.declared.Part.{Part}
use Rattle.std.specs.Option.{option_map}
use Rattle.messages.specs.Message.{ended_by}
use Rattle.request.specs.Reading.{part_of, cut_of, told_by}
use Rattle.request.specs.Levels.{shifted_part, shifted_request, shifted, around_of}
use Rattle.request.specs.Reader.{PartBelow, Below}
use Rattle.request.specs.declared.Unread.{Unread}
use Rattle.request.specs.declared.Unread.TheVariants as unread

-- octets of a front are those of the whole
within : (n st m : ℕ) (t : List ℕ) → st + n ≤ m → take n (drop st (take m t)) ≡ take n (drop st t)
within n zero m t h = take-take n m t (omega arith)
within n (suc st) zero t h = absurd (omega arith)
within n (suc st) (suc m) [] h = refl
within n (suc st) (suc m) (x ∷ t) h = within n st m t (omega arith)

module _ (s : List ℕ) (c : Part) where
  pub cut-shifted : (o : Option Part) → PartBelow c.len o → cut_of s (option_map (shifted_part c.start) o) ≡ cut_of (part_of s c) o
  unfolding cut_of shifted_part
  cut-shifted None below = refl
  cut-shifted (Some p) below = rw (within p.len p.start c.len (drop c.start s) below, drop-drop)

  pub told-shifted : (a : Result Request Unread) → Below c.len a → told_by s (shifted c.start a) ≡ told_by (part_of s c) a
  unfolding shifted shifted_request told_by Below cut_of
  told-shifted (Ok q) x =
      rw (
        cut-shifted (Some q.identity) x.identity,
        cut-shifted q.capability x.capability,
        cut-shifted q.security x.security,
        cut-shifted q.last x.last,
        cut-shifted q.uplink x.uplink,
        cut-shifted q.sessions x.sessions,
        cut-shifted q.additional x.additional,
        cut-shifted q.status x.status,
        cut-shifted q.attach x.attach,
      )
  told-shifted (Err u) x = refused-told u
    where
      refused-told : (u : Unread) → told_by s (shifted c.start (Err u)) ≡ told_by (part_of s c) (Err u)
      refused-told (unread.Malformed m) = refl
      refused-told (unread.Deep at) = refl
      refused-told unread.Unfit = refl

-- a request that is whole and keeps the layout reads as that one
pub kept-around : (a : Result Request Unread) → around_of (Ok tt) true a ≡ a
unfolding around_of ended_by
kept-around (Ok q) = refl
kept-around (Err (unread.Malformed m)) = refl
kept-around (Err (unread.Deep at)) = refl
kept-around (Err unread.Unfit) = refl
