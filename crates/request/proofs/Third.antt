-- "19 for a third level, after 13 to 18, before 3": it is told exactly where the levels that are read have no fault and a container lies further in, with its
-- offset; and 3 only where neither is so. By induction on the levels. Assumes nothing.
use Prim.Native.Nat.{ℕ, zero, suc, ◌+◌, ◌-◌}
use mathlib.Core.Path.{◌≡◌, refl, sym, ◌∙◌, ap, subst}
use mathlib.Core.Bool.{Bool, true, false, cond}
use mathlib.Core.Logic.{inl, inr}
use mathlib.Core.List.{List}
use native.Mathlib.Omega.{arith}
use Rattle.std.specs.Prelude.{Option, Some, None, Result, Ok, Err, ⊤}
use Rattle.octets.specs.declared.Fault.{Fault}
use Rattle.octets.specs.declared.Malformed.{Malformed}
use Rattle.std.specs.Option.{option_map_or}
use Rattle.octets.specs.declared.Part.{Part}
use Rattle.octets.specs.Element.{end_of, malformed}
use Rattle.messages.specs.Message.{ended_by}
use Rattle.messages.specs.Faults.{Faulty, Lowest}
use Rattle.messages.proofs.Lowest.{least}
use Rattle.request.specs.Reading.{identity_in, head_of, is_request, judged_of, part_of, asking_number, asking_told, is_asking, refused}
use Rattle.request.specs.Levels.{shifted, around_of, asked_by, read_to, asking_of}
use Rattle.request.specs.Faults.{Contains, contents_at, FaultyTo, DeeperAt}
use Rattle.request.specs.Reader.{elements_in, container_in, inside_of, elements_reading}
use Rattle.request.specs.declared.Request.{Request}
use Rattle.request.specs.declared.Unread.{Unread}
use Rattle.request.specs.declared.Unread.TheVariants as unread
use Rattle.request.proofs.Below.{Headed, headed}
use Rattle.request.proofs.Holds.{part71, holds, held-there, only}
use Rattle.request.proofs.Lowest.{lowest-to}
use Rattle.request.proofs.Own.{own-lowest, up}
use Rattle.request.proofs.Ways.{by-head}

-- no fault at any level that is read
abbrev pub Clean : ℕ → List ℕ → Type 0
Clean d s = (g : Fault) (b : ℕ) → FaultyTo d s g b → ⊥

-- what a level too many comes from, choice by choice

ended-deep : (e : Result ⊤ Malformed) (a : Result Request Unread) (at : ℕ) → ended_by refused e a ≡ Err (unread.Deep at) → (e ≡ (Ok tt)) × (a ≡ Err (unread.Deep at))
unfolding ended_by
ended-deep (Ok _) a at h = (refl, h)
ended-deep (Err m) a at h = let z : ◌≡◌ {A = ℕ} 0 1 = cc in absurd (omega arith)

around-deep : (e : Result ⊤ Malformed) (b : Bool) (a : Result Request Unread) (at : ℕ) → around_of e b a ≡ Err (unread.Deep at) → a ≡ Err (unread.Deep at)
unfolding around_of
around-deep e b (Err (unread.Deep i)) at h = (ended-deep e _ at h).1
around-deep e b (Err (unread.Malformed m)) at h = let z : ◌≡◌ {A = ℕ} 0 1 = cc in absurd (omega arith)
around-deep e b (Err unread.Unfit) at h = (ended-deep e _ at h).1
around-deep e b (Ok q) at h = kept b (ended-deep e _ at h).1
  where
    kept : (b : Bool) → cond b (Ok q) (Err unread.Unfit) ≡ Err (unread.Deep at) → Ok q ≡ Err (unread.Deep at)
    kept true k = k
    kept false k = let z : ◌≡◌ {A = ℕ} 0 1 = cc in absurd (omega arith)

shifted-deep : (k : ℕ) (a : Result Request Unread) (at : ℕ) → shifted k a ≡ Err (unread.Deep at) → (b : ℕ) × ((a ≡ Err (unread.Deep b)) × (at ≡ k + b))
unfolding shifted
shifted-deep k (Err (unread.Deep b)) at h = (b, (refl, cc))
shifted-deep k (Ok q) at h = let z : ◌≡◌ {A = ℕ} 0 1 = cc in absurd (omega arith)
shifted-deep k (Err (unread.Malformed m)) at h = let z : ◌≡◌ {A = ℕ} 0 1 = cc in absurd (omega arith)
shifted-deep k (Err unread.Unfit) at h = let z : ◌≡◌ {A = ℕ} 0 1 = cc in absurd (omega arith)

module _ (s : List ℕ) where
  abbrev k : Bool
  k = is_request s (identity_in s) (elements_in s)

  -- it lies in a container
  asked-deep : (f : Part → Result Request Unread) (at : ℕ) → asked_by f s (identity_in s) (elements_in s) ≡ Err (unread.Deep at) → (c : Part) × ((container_in s ≡ Some c) × (f c ≡ Err (unread.Deep at)))
  unfolding asked_by judged_of
  asked-deep f at h = go (container_in s) refl h
    where
      judged : (b : Bool) (q : Request) → cond b (Ok q) (Err unread.Unfit) ≡ Err (unread.Deep at) → ⊥
      judged true q x = let z : ◌≡◌ {A = ℕ} 0 1 = cc in omega arith
      judged false q x = let z : ◌≡◌ {A = ℕ} 0 1 = cc in omega arith

      go : (o : Option Part) → container_in s ≡ o
          → option_map_or (λ c. around_of (end_of (elements_in s)) k (f c)) o (ended_by refused (end_of (elements_in s)) (judged_of s (identity_in s) (elements_in s))) ≡ Err (unread.Deep at)
          → (c : Part) × ((container_in s ≡ Some c) × (f c ≡ Err (unread.Deep at)))
      go (Some c) e x = (c, (e, around-deep (end_of (elements_in s)) k (f c) at x))
      go None e x = absurd (judged k _ (ended-deep (end_of (elements_in s)) _ at x).1)

  -- a level with no fault ends with the message
  ends-whole : ((g : Fault) (b : ℕ) → Faulty is_asking s g b → ⊥) → (head_of s ≡ (Ok tt)) × (end_of (elements_in s) ≡ (Ok tt))
  unfolding Lowest ended_by
  ends-whole none = go (head_of s) (end_of (elements_in s)) refl refl (own-lowest s)
    where
      go : (h e : Result ⊤ Malformed) → head_of s ≡ h → end_of (elements_in s) ≡ e → Lowest (Faulty is_asking s) (ended_by malformed h e) → (head_of s ≡ (Ok tt)) × (end_of (elements_in s) ≡ (Ok tt))
      go (Err m) e x y l = absurd (none m.fault m.at l.0)
      go (Ok _) (Err m) x y l = absurd (none m.fault m.at l.0)
      go (Ok _) (Ok _) x y l = (x, y)

-- what is told as too deep is
deep-there : (d : ℕ) (s : List ℕ) (at : ℕ) → read_to d s ≡ Err (unread.Deep at) → DeeperAt d s at
unfolding DeeperAt elements_reading inside_of
deep-there zero s at e =
    let b = ended-deep (head_of s) (elements_reading 0 s) at (sym (by-head 0 s) ∙ e) in
    let x = asked-deep s (inside_of 0 s) at b.1 in
    let h = holds s (headed s b.0) x.0 x.1.0 in
    let same : x.0.start - 3 ≡ at = let e = x.1.1 in cc in
    subst (Contains s) (omega (arith, h.start, same)) h.contains
deep-there (suc d) s at e =
    let b = ended-deep (head_of s) (elements_reading (suc d) s) at (sym (by-head (suc d) s) ∙ e) in
    let x = asked-deep s (inside_of (suc d) s) at b.1 in
    let h = holds s (headed s b.0) x.0 x.1.0 in
    let y = shifted-deep x.0.start (read_to d (part_of s x.0)) at x.1.1 in
    (h.at, (h.contains, (y.0, (omega (arith, h.start, y.1.1), subst (λ (t : List ℕ). DeeperAt d t y.0) h.cut (deep-there d (part_of s x.0) y.0 y.1.0)))))

pub third-level : (d : ℕ) (s : List ℕ) (at : ℕ) → read_to d s ≡ Err (unread.Deep at) → DeeperAt d s at × Clean d s
unfolding Lowest asking_told
third-level d s at e = (deep-there d s at e, rw e at (lowest-to d s))

-- and what is too deep is told so
module _ (d : ℕ) (s : List ℕ) (none : (g : Fault) (b : ℕ) → Faulty is_asking s g b → ⊥) (c : ℕ) (x : Contains s c) where
  ends : (head_of s ≡ (Ok tt)) × (end_of (elements_in s) ≡ (Ok tt))
  ends = ends-whole s none

  head : Headed s
  head = headed s ends.0

  abbrev p : Part
  p = part71 s c

  held : container_in s ≡ Some p
  held = held-there s head c x (λ g b y. absurd (none g b (up s head g b y)))

  -- where its container is, and what is in it
  stands : (p.start ≡ c + 3) × (part_of s p ≡ contents_at s c)
  stands = let h = holds s head p held in let e = only s head h.at c h.contains x in (h.start ∙ ap (λ (n : ℕ). n + 3) e, h.cut ∙ ap (contents_at s) e)

  told-so : (at : ℕ) → inside_of d s p ≡ Err (unread.Deep at) → read_to d s ≡ Err (unread.Deep at)
  unfolding elements_reading asked_by around_of ended_by
  told-so at e = by-head d s ∙ rw (ends.0, held, e, ends.1)

pub third-told : (d : ℕ) (s : List ℕ) (at : ℕ) → DeeperAt d s at → Clean d s → read_to d s ≡ Err (unread.Deep at)
unfolding DeeperAt FaultyTo inside_of shifted
third-told zero s at x clean = told-so 0 s clean at x at (ap (λ (n : ℕ). Err (unread.Deep n)) (omega (arith, (stands 0 s clean at x).0)))
third-told (suc d) s at (c, (x, (b, (e, y)))) clean =
    let none : (g : Fault) (i : ℕ) → Faulty is_asking s g i → ⊥ = λ g i h. clean g i (inl h) in
    let z = stands d s none c x in
    let inner : read_to d (contents_at s c) ≡ Err (unread.Deep b) = third-told d (contents_at s c) b y (λ g i h. clean g (c + 3 + i) (inr (c, (x, (i, (refl, h)))))) in
    told-so (suc d) s none c x at (rw (z.1, inner) (ap (λ (n : ℕ). Err (unread.Deep n)) (omega (arith, z.0, e))))

-- "Number 3 stays for a well-formed request that breaks document 01's request layout"
pub three-well-formed : (s : List ℕ) → asking_number (asking_of s) ≡ 3 → Clean 1 s × ((at : ℕ) → DeeperAt 1 s at → ⊥)
unfolding asking_of Lowest asking_told
three-well-formed s e = go (read_to 1 s) refl e (lowest-to 1 s)
  where
    go : (a : Result Request Unread) → read_to 1 s ≡ a → asking_number a ≡ 3 → Lowest (FaultyTo 1 s) (asking_told a) → Clean 1 s × ((at : ℕ) → DeeperAt 1 s at → ⊥)
    go (Ok q) x n l = absurd (omega arith)
    go (Err (unread.Malformed m)) x n l = absurd (omega (arith, least m.fault))
    go (Err (unread.Deep at)) x n l = absurd (omega arith)
    go (Err unread.Unfit) x n l = (l, λ at y. (let w : (Err unread.Unfit) ≡ Err (unread.Deep at) = sym x ∙ third-told 1 s at y l in let z : ◌≡◌ {A = ℕ} 0 1 = cc in omega arith))
