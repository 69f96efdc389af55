-- The round trip, once over the depth: fields that fit, laid out so many levels in, read back as they are if the reader goes that deep, and are a level too many if
-- not. By induction on the levels; each is the clear part and a 71. Assumes nothing.
use Prim.Native.Nat.{ℕ, zero, suc, ◌+◌, ◌≤◌, ◌<◌}
use mathlib.Core.Path.{◌≡◌, refl, sym, ◌∙◌, ap, subst}
use mathlib.Core.Bool.{Bool, true, false, cond}
use mathlib.Core.Logic.{inl, inr}
use mathlib.Core.List.{List, [], ◌∷◌, ◌++◌, append_assoc, append-nil}
use native.Mathlib.Omega.{arith}
use lib.Dec.{eqb}
use Rattle.request.specs.declared.Request.{Request}
use Rattle.std.specs.Prelude.{Result, Err}
use Rattle.octets.specs.Element.{format_of}
use Rattle.request.specs.Layout.{Fields, Fit, Item, laid, item_octets, opening_head, opening, items_of, octets_of, clear, nested, shown, levels_of, layout}
use Rattle.request.specs.Layout.Item.{item}
use Rattle.request.specs.Layout.Form.{long_form}
use Rattle.request.specs.Reading.{told_by}
use Rattle.request.specs.Reading.Said.{says}
use Rattle.request.specs.Levels.{shifted, read_to, asking_of}
use Rattle.request.specs.declared.Unread.{Unread}
use Rattle.request.specs.declared.Unread.TheVariants as unread
use Rattle.request.proofs.Back.{AllRead, short-reads, long-reads, or_else, says_in}
use Rattle.request.proofs.RoundTrip.{rear-read, all_read, alone, Tells, any_order, inner, inner-told, too-deep}

-- a list of elements and one more
laid-behind : (i : List Item) (x : Item) → laid (i ++ (x ∷ [])) ≡ laid i ++ laid (x ∷ [])
unfolding laid
laid-behind [] x = refl
laid-behind (item f id c ∷ i) x = ap (λ (t : List ℕ). item_octets f id c ++ t) (laid-behind i x) ∙ sym (append_assoc (item_octets f id c) (laid i) (laid (x ∷ [])))

clear-fit : (f : Fields) → Fit f → Fit (clear f)
unfolding clear
clear-fit f fit = record {
  regtype = fit.regtype;
  ksi = fit.ksi;
  identity = fit.identity;
  capability = omega arith;
  security = fit.security;
  last = inl refl;
  uplink = inl refl;
  sessions = inl refl;
  additional = fit.additional;
  status = fit.status;
}

-- a level too many, wherever its 71 stands
abbrev pub TooDeep : Result Request Unread → Type 0
TooDeep a = (at : ℕ) × (a ≡ Err (unread.Deep at))

moved-deep : (k : ℕ) (a : Result Request Unread) → TooDeep a → TooDeep (shifted k a)
unfolding shifted
moved-deep k a (at, e) = (k + at, rw e)

module _ (f : Fields) (fit : Fit f) where
  flat : Tells (items_of f) f
  unfolding says_in items_of
  flat = record {
    read = all_read f fit;
    capability = alone f.capability;
    security = alone f.security;
    last = alone f.last;
    uplink = alone f.uplink;
    sessions = alone f.sessions;
    additional = alone f.additional;
    status = alone f.status;
    attach = alone f.attach;
  }

  unheld : says_in 0x71 (items_of f) ≡ []
  unfolding says_in items_of
  unheld = refl

  -- the clear part, then 71
  abbrev enclosing : List ℕ → List Item
  enclosing c = items_of (clear f) ++ (item long_form 0x71 c ∷ [])

  clear-tells : (c : List ℕ) → Tells (enclosing c) (clear f)
  unfolding says_in items_of clear AllRead or_else format_of
  clear-tells c = record {
    read =
        let r = rear-read f in
        (inl refl, (inr (short-reads 0x2E f.security refl), (inl refl, (inl refl, (inl refl, (r.0, (r.1.0, (r.1.1.0, (inr (long-reads 0x71 c refl), tt)))))))));
    capability = refl;
    security = alone f.security;
    last = refl;
    uplink = refl;
    sessions = refl;
    additional = alone f.additional;
    status = alone f.status;
    attach = alone f.attach;
  }

  clear-holds : (c : List ℕ) → says_in 0x71 (enclosing c) ≡ c
  unfolding says_in items_of clear
  clear-holds c = alone c

  clear-laid : (k : ℕ) → nested (suc k) f ≡ opening (clear f) ++ laid (enclosing (nested k f))
  unfolding nested octets_of laid
  clear-laid k =
      append_assoc (opening (clear f)) (laid (items_of (clear f))) (item_octets long_form 0x71 (nested k f))
      ∙ ap (λ (t : List ℕ). opening (clear f) ++ t) (sym (laid-behind (items_of (clear f)) (item long_form 0x71 (nested k f)) ∙ ap (λ (t : List ℕ). laid (items_of (clear f)) ++ t) last))
    where
      last : laid (item long_form 0x71 (nested k f) ∷ []) ≡ item_octets long_form 0x71 (nested k f)
      last = append-nil (item_octets long_form 0x71 (nested k f))

  begun : (k : ℕ) → (c : List ℕ) × (nested k f ≡ 0x7E ∷ c)
  unfolding nested octets_of opening opening_head
  begun zero = (_, refl)
  begun (suc k) = (_, refl)

  -- "The round trip of demand 2 covers both shapes, stated once over the depth"
  pub round : (d k : ℕ) → k ≤ d → told_by (nested k f) (read_to d (nested k f)) ≡ says f
  unfolding nested octets_of
  round d zero h = any_order f fit (items_of f) flat d unheld
  round zero (suc k) h = absurd (omega arith)
  round (suc d) (suc k) h =
      let b = begun k in
      rw (clear-laid k)
      (inner-told (clear f) (clear-fit f fit) (enclosing (nested k f)) (clear-tells (nested k f)) 0x7E b.0 (clear-holds (nested k f) ∙ b.1) d ∙ rw (← b.1) (round d k (omega arith)))

  -- "19 for a third level": each level further in than the reader goes
  pub deeper : (d k : ℕ) → d < k → TooDeep (read_to d (nested k f))
  deeper d zero h = absurd (omega arith)
  deeper zero (suc k) h =
      let b = begun k in
      rw (clear-laid k) (_, too-deep (clear f) (clear-fit f fit) (enclosing (nested k f)) (clear-tells (nested k f)) 0x7E b.0 (clear-holds (nested k f) ∙ b.1))
  deeper (suc d) (suc k) h =
      let b = begun k in
      let i = inner (clear f) (clear-fit f fit) (enclosing (nested k f)) (clear-tells (nested k f)) 0x7E b.0 (clear-holds (nested k f) ∙ b.1) d in
      let deep = subst (λ (t : List ℕ). TooDeep (read_to d t)) b.1 (deeper d k (omega arith)) in
      rw (clear-laid k) (subst TooDeep (sym i) (moved-deep _ (read_to d (0x7E ∷ b.0)) deep))

-- what ngKSI 7 leaves out fits too
shown-fit : (f : Fields) → Fit f → Fit (shown f)
unfolding shown
shown-fit f fit = either (eqb f.ksi 7)
  where
    either : (b : Bool) → Fit (cond b (clear f) f)
    either true = clear-fit f fit
    either false = fit

pub round-layout : (f : Fields) → Fit f → told_by (layout f) (asking_of (layout f)) ≡ says (shown f)
unfolding layout asking_of levels_of
round-layout f fit = round (shown f) (shown-fit f fit) 1 (cond (eqb f.ksi 7) 0 1) (most (eqb f.ksi 7))
  where
    most : (b : Bool) → cond b 0 1 ≤ 1
    most true = omega arith
    most false = omega arith
