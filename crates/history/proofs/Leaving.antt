-- The history and the entries name the same one: ranks follow ages, so the one of lowest rank with neither mark is the eldest, and none stands twice. Assumes nothing.
use Prim.Native.Nat.{ℕ, ◌≤◌, ◌<◌}
use mathlib.Core.Path.{◌≡◌, refl, sym, ◌∙◌, ap}
use mathlib.Core.Bool.{Bool, true, false, not, true≢false}
use mathlib.Core.List.{List}
use mathlib.Core.Option.{Option, none, some}
use native.Mathlib.Omega.{arith}
use lib.Dec.{ltb}
use lib.ListN.{get_or}
use borrow.Author.Tests.{ltb-true, ltb-false, lt-ltb, le-ltb}
use Rattle.entries.specs.Order.{has_neither, leaver_to}
use Rattle.entries.proofs.Ranks.{Order, Follows, Leaver, nobody, oldest, leaver}
use Rattle.history.specs.Cell.{Lined}
use Rattle.history.specs.Tale.{Limits, News, age, is_listed, eldest}
use Rattle.history.proofs.Eldest.{Eldest, Found, eldest-is}

-- the place, and the network that gives it up
pub data Left (at : ℕ) (nets : List ℕ) : Option ℕ → Type 0 where
  all-marked : at ≡ 16 → Left at nets none
  gives : at < 16 → Left at nets (some (get_or nets at 0))

module _ (l : Limits) (news : ℕ → List News) (nets held forbidden barred ranks : List ℕ) (li : Lined 16 nets held) (o : Order 16 ranks)
    (f : Follows 16 (λ i. age (news (get_or nets i 0))) ranks) (m : (i : ℕ) → i < 16 → has_neither forbidden barred i ≡ not (is_listed l (news (get_or nets i 0)))) where
  abbrev key : ℕ → ℕ
  key i = age (news (get_or nets i 0))

  abbrev rank : ℕ → ℕ
  rank i = get_or ranks i 0

  abbrev listed : ℕ → Bool
  listed i = is_listed l (news (get_or nets i 0))

  -- it has neither exactly if the history says so
  neither : (i : ℕ) → i < 16 → listed i ≡ false → has_neither forbidden barred i ≡ true
  neither i h q = m i h ∙ ap not q

  unlisted : (i : ℕ) → i < 16 → has_neither forbidden barred i ≡ true → listed i ≡ false
  unlisted i h q = go (listed i) (sym q ∙ m i h)
    where
      go : (b : Bool) → true ≡ not b → b ≡ false
      go true e = absurd (true≢false e)
      go false e = refl

  -- the same place
  module _ (p : ℕ) (hp : p < 16) (free : has_neither forbidden barred p ≡ true) (least : (i : ℕ) → i < 16 → has_neither forbidden barred i ≡ true → rank p ≤ rank i)
      (v : ℕ) (e : Eldest l news held v) where
    abbrev a : ℕ
    a = e.at

    inside : a < 16
    inside = omega (arith, e.inside, li.many)

    is : get_or nets a 0 ≡ v
    is = li.same a inside ∙ e.is

    below : rank p ≤ rank a
    below = least a inside (neither a inside (rw is e.neither))

    same_key : key a ≡ age (news v)
    same_key = ap (λ (n : ℕ). age (news n)) is

    at_p : get_or nets p 0 ≡ get_or held p 0
    at_p = li.same p hp

    not-before : p < a → ⊥
    not-before h =
        let k : key p < key a = rw (at_p, same_key) (e.before p h (rw (← at_p) (unlisted p hp free))) in
        let r : rank a < rank p = ltb-true (rank a) (rank p) (f p a h inside ∙ lt-ltb (key p) (key a) k) in
        omega (arith, below)

    not_behind : a < p → ⊥
    not_behind h =
        let k : key p ≤ key a = rw (at_p, same_key) (e.behind p (omega arith) (omega (arith, li.many)) (rw (← at_p) (unlisted p hp free))) in
        let r : rank a ≤ rank p = ltb-false (rank p) (rank a) (f a p h hp ∙ le-ltb (key a) (key p) k) in
        o.apart a p h hp (omega (arith, below))

    same_place : p ≡ a
    same_place = go (ltb p a) refl (ltb a p) refl
      where
        go : (b : Bool) → ltb p a ≡ b → (c : Bool) → ltb a p ≡ c → p ≡ a
        go true q c q' = absurd (not-before (ltb-true p a q))
        go false q true q' = absurd (not_behind (ltb-true a p q'))
        go false q false q' = omega (arith, ltb-false p a q, ltb-false a p q')

    found : get_or nets p 0 ≡ v
    found = ap (λ (i : ℕ). get_or nets i 0) same_place ∙ is

  pub leaving : Left (leaver_to 16 forbidden barred ranks) nets (eldest l news held)
  leaving = go (eldest l news held) (eldest-is l news held) (leaver forbidden barred ranks o)
    where
      go : (w : Option ℕ) → Found l news held w → Leaver 16 (leaver_to 16 forbidden barred ranks) forbidden barred ranks → Left (leaver_to 16 forbidden barred ranks) nets w
      go none all (nobody e g) = all-marked e
      go none all (oldest hp free least) =
          absurd (true≢false (sym (rw (← (li.same (leaver_to 16 forbidden barred ranks) hp)) at (all (leaver_to 16 forbidden barred ranks) (omega (arith, li.many)))) ∙ unlisted (leaver_to 16 forbidden barred ranks) hp free))
      go (some v) e (nobody z g) =
          let h : e.at < 16 = omega (arith, e.inside, li.many) in
          absurd (true≢false (sym (neither e.at h (rw (li.same e.at h, e.is) e.neither)) ∙ g e.at h))
      go (some v) e (oldest hp free least) =
          rw (← found (leaver_to 16 forbidden barred ranks) hp free least v e) (gives hp)
