-- What holds of a fault told inside a message, and of what is read behind it, holds of the reading: said once, for every kind of reading; and the octets
-- that all messages begin with, read apart from the rest. Assumes nothing.
use Prim.Native.Nat.{ℕ, ◌≤◌, ◌<◌}
use mathlib.Core.Path.{◌≡◌, refl, ◌∙◌, ap}
use mathlib.Core.Bool.{Bool, true, false, cond}
use mathlib.Core.List.{List}
use Rattle.std.specs.Prelude.{Result, Ok, ⊤}
use lib.ListN.{length, get_or}
use lib.Dec.{ltb, eqb}
use borrow.Author.Tests.{ltb-true, eqb-true}
use Rattle.octets.specs.declared.Fault.{Fault}
use Rattle.octets.specs.declared.Fault.TheVariants.{Cut, First, Second}
use Rattle.octets.specs.declared.Malformed.{Malformed}
use Rattle.octets.specs.Element.{Elements, malformed, end_of}
use Rattle.octets.specs.Element.Elements.{over, broken, element}
use Rattle.octets.proofs.Inside.{Sound}
use Rattle.messages.specs.Message.{opened_by, begun_by, ended_by, opening_of}

-- a choice by a test, each side with what the test says
pub choice : {A : Type 0} (P : A → Type 0) (x y : A) (b : Bool) → (b ≡ true → P x) → (b ≡ false → P y) → P (cond b x y)
choice P x y true f g = f refl
choice P x y false f g = g refl

module _ {A : Type 0} (P : A → Type 0) (bad : Fault → ℕ → A) (s : List ℕ) (told : (f : Fault) (at : ℕ) → at ≤ length s → P (bad f at)) where
  pub opened-so : (at octet : ℕ) (f : Fault) (rest : A) → at ≤ length s → (at < length s → get_or s at 0 ≡ octet → P rest) → P (opened_by bad s at octet f rest)
  unfolding opened_by
  opened-so at octet f rest h g =
      choice P _ _ (ltb at (length s))
      (λ e. choice P _ _ (eqb (get_or s at 0) octet) (λ t. g (ltb-true at (length s) e) (eqb-true (get_or s at 0) octet t)) (λ t. told f at h))
      (λ e. told Cut at h)

  pub ended_so : (request : Bool) (l : Elements) (rest : A) → Sound request (length s) l → P rest → P (ended_by bad (end_of l) rest)
  unfolding ended_by end_of Sound
  ended_so request over rest h g = g
  ended_so request (broken f at) rest h g = told f at h
  ended_so request (element i start k l) rest h g = ended_so request l rest h.1 g

module _ {A : Type 0} (bad : Fault → ℕ → A) (s : List ℕ) where
  -- an octet read apart from what follows it
  apart : (at octet : ℕ) (f : Fault) (e : Result ⊤ Malformed) (rest : A) → opened_by bad s at octet f (ended_by bad e rest) ≡ ended_by bad (opened_by malformed s at octet f e) rest
  unfolding opened_by ended_by
  apart at octet f e rest = sides (ltb at (length s)) (eqb (get_or s at 0) octet)
    where
      sides : (a b : Bool) → cond a (cond b (ended_by bad e rest) (bad f at)) (bad Cut at) ≡ ended_by bad (cond a (cond b e (malformed f at)) (malformed Cut at)) rest
      sides true true = refl
      sides true false = refl
      sides false b = refl

  pub alone : (at octet : ℕ) (f : Fault) (rest : A) → opened_by bad s at octet f rest ≡ ended_by bad (opened_by malformed s at octet f (Ok tt)) rest
  unfolding ended_by
  alone at octet f rest = apart at octet f (Ok tt) rest

  pub opening : (rest : A) → begun_by bad s rest ≡ ended_by bad (opening_of s) rest
  unfolding opening_of ended_by
  opening rest = ap (opened_by bad s 0 0x7E First) (apart 1 0x00 Second (Ok tt) rest) ∙ apart 0 0x7E First (opened_by malformed s 1 0x00 Second (Ok tt)) rest
