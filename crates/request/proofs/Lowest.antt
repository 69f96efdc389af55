-- The reader of requests tells the lowest fault of a message and of those inside it, or none where there is none: what is read in a container lies before every
-- fault behind it, and a container that is not found lies behind a fault. By induction on the levels. Assumes nothing.
use Prim.Native.Nat.{ℕ, zero, suc, ◌+◌, ◌-◌, ◌<◌, ◌≤◌}
use mathlib.Core.Path.{◌≡◌, refl, sym, ◌∙◌, ap, subst}
use mathlib.Core.Bool.{Bool, true, false, cond}
use mathlib.Core.Logic.{◌⊎◌, inl, inr, ⊎_elim}
use mathlib.Core.List.{List}
use native.Mathlib.Omega.{arith}
use lib.ListN.{length, drop}
use lib.Dec.{ltb}
use borrow.Author.Tests.{ltb-true, ltb-false}
use Rattle.request.specs.declared.Request.{Request}
use Rattle.std.specs.Prelude.{Option, Some, None, Result, Ok, Err, ⊤}
use Rattle.octets.specs.declared.Fault.{Fault}
use Rattle.octets.specs.declared.Fault.TheVariants.{Cut, First, Second, Kind, Past, Strange}
use Rattle.octets.specs.declared.Malformed.{Malformed}
use Rattle.std.specs.Option.{option_map_or}
use Rattle.std.proofs.lemmas.Option.{none-some}
use Rattle.octets.specs.declared.Part.{Part}
use Rattle.octets.specs.Element.{end_of, malformed}
use Rattle.messages.specs.Message.{ended_by, fault_number}
use Rattle.messages.specs.Faults.{fixed_of, in_request, size_at, Faulty, Lowest}
use Rattle.messages.proofs.Lowest.{least}
use Rattle.messages.proofs.Walk.{order, onward, behind}
use Rattle.request.specs.Reading.{identity_in, head_of, is_request, request_in, judged_of, part_of, asking_told, is_asking, refused}
use Rattle.request.specs.Levels.{shifted, around_of, asked_by, read_to, asking_of}
use Rattle.request.specs.Faults.{Contains, contents_at, Inside, FaultyTo}
use Rattle.request.specs.Reader.{elements_in, container_in, inside_of, elements_reading}
use Rattle.request.specs.declared.Unread.{Unread}
use Rattle.request.specs.declared.Unread.TheVariants as unread
use Rattle.request.proofs.Below.{Headed, headed}
use Rattle.request.proofs.Holds.{Holds, holds, held-there, only}
use Rattle.request.proofs.Own.{whole-end, own-lowest, up, down, before}
use Rattle.request.proofs.Pieces.{take_short}
use Rattle.request.proofs.Ways.{by-head}

-- What is told of faults, choice by choice

pub told-ended : (h : Result ⊤ Malformed) (a : Result Request Unread) → asking_told (ended_by refused h a) ≡ ended_by malformed h (asking_told a)
unfolding ended_by asking_told
told-ended (Err m) a = refl
told-ended (Ok _) a = refl

told-around : (e : Result ⊤ Malformed) (b : Bool) (a : Result Request Unread) → asking_told (around_of e b a) ≡ ended_by malformed (asking_told a) e
unfolding around_of ended_by asking_told
told-around e b (Err (unread.Malformed m)) = refl
told-around (Err m) b (Err (unread.Deep at)) = refl
told-around (Ok _) b (Err (unread.Deep at)) = refl
told-around (Err m) b (Err unread.Unfit) = refl
told-around (Ok _) b (Err unread.Unfit) = refl
told-around (Err m) b (Ok q) = refl
told-around (Ok _) true (Ok q) = refl
told-around (Ok _) false (Ok q) = refl

unfoldable moved_to : ℕ → Result ⊤ Malformed → Result ⊤ Malformed
moved_to k (Err m) = malformed m.fault (k + m.at)
moved_to k (Ok _) = (Ok tt)

told_moved : (k : ℕ) (a : Result Request Unread) → asking_told (shifted k a) ≡ moved_to k (asking_told a)
unfolding shifted asking_told moved_to
told_moved k (Ok q) = refl
told_moved k (Err (unread.Malformed m)) = refl
told_moved k (Err (unread.Deep at)) = refl
told_moved k (Err unread.Unfit) = refl

module _ (s : List ℕ) where
  abbrev end : Result ⊤ Malformed
  end = end_of (elements_in s)

  told-judged : asking_told (judged_of s (identity_in s) (elements_in s)) ≡ (Ok tt)
  unfolding judged_of asking_told
  told-judged = go (is_request s (identity_in s) (elements_in s))
    where
      go : (b : Bool) → asking_told (cond b (Ok (request_in s (identity_in s) (elements_in s))) (Err unread.Unfit)) ≡ (Ok tt)
      go true = refl
      go false = refl

  -- how the elements end, by what lies in a container
  abbrev pub told_with : (Part → Result Request Unread) → Option Part → Result ⊤ Malformed
  told_with f o = option_map_or (λ c. ended_by malformed (asking_told (f c)) end) o end

  level-told : (f : Part → Result Request Unread) → asking_told (asked_by f s (identity_in s) (elements_in s)) ≡ told_with f (container_in s)
  unfolding asked_by
  level-told f = go (container_in s)
    where
      go : (o : Option Part) → asking_told (option_map_or (λ c. around_of end (is_request s (identity_in s) (elements_in s)) (f c)) o (ended_by refused end (judged_of s (identity_in s) (elements_in s)))) ≡ told_with f o
      go (Some c) = told-around end (is_request s (identity_in s) (elements_in s)) (f c)
      go None = told-ended end (judged_of s (identity_in s) (elements_in s)) ∙ rw told-judged (whole-end end)

  pub read_told : (d : ℕ) → asking_told (read_to d s) ≡ ended_by malformed (head_of s) (told_with (inside_of d s) (container_in s))
  unfolding elements_reading
  read_told d = ap asking_told (by-head d s) ∙ told-ended (head_of s) (elements_reading d s) ∙ ap (ended_by malformed (head_of s)) (level-told (inside_of d s))

-- A fault lies in its message, at the end only a cut
own-end : (s : List ℕ) (f : Fault) (b : ℕ) → Faulty is_asking s f b → (b < length s) ⊎ ((b ≡ length s) × (fault_number f ≡ 13))
unfolding Faulty
own-end s Cut b (inl x) = inr (x.1, refl)
own-end s Cut b (inr x) = inl (omega (arith, x.1.0, x.1.1.1))
own-end s First b x = inl (omega (arith, x.0, x.1.1))
own-end s Second b x = inl (omega (arith, x.0, x.1.1))
own-end s Kind b x = inl (omega (arith, x.0, x.1.1))
own-end s Past b x = inl (behind (in_request s) s (fixed_of s) Past b x).1
own-end s Strange b x = inl (behind (in_request s) s (fixed_of s) Strange b x).1

-- a container's octets lie in its message
contents-long : (s : List ℕ) (c : ℕ) → Contains s c → c + 3 + length (contents_at s c) ≤ length s
contents-long s c x = omega (arith, take_short (size_at (in_request s) s c - 3) (drop (c + 3) s), x.first.whole, x.some)

in_end : (d : ℕ) (s : List ℕ) (f : Fault) (b : ℕ) → FaultyTo d s f b → (b < length s) ⊎ ((b ≡ length s) × (fault_number f ≡ 13))
unfolding FaultyTo
in_end zero s f b x = own-end s f b x
in_end (suc d) s f b (inl x) = own-end s f b x
in_end (suc d) s f b (inr (c, (x, (i, (e, y))))) =
    let n = contents-long s c x in
    ⊎_elim (λ l. inl (omega (arith, n, e, l))) (λ l. ⊎_elim inl (λ z. inr (z, l.1)) (order b (length s) (omega (arith, n, e, l.0)))) (in_end d (contents_at s c) f i y)

-- A level and those inside it
module _ (d : ℕ) (s : List ℕ) where
  abbrev Has : Fault → ℕ → Type 0
  Has = Faulty is_asking s

  abbrev Deeper : Fault → ℕ → Type 0
  Deeper f b = Inside (λ t. FaultyTo d t f) s b

  -- the level's own lowest fault, if all inside it lie behind; none, if there is none inside either
  broken-first : (f : Fault) (at : ℕ) → Lowest Has (malformed f at) → ((g : Fault) (b : ℕ) → Deeper g b → at < b) → Lowest (FaultyTo (suc d) s) (malformed f at)
  unfolding Lowest FaultyTo
  broken-first f at x lt = (inl x.0, λ g b y. ⊎_elim (λ h. x.1 g b h) (λ i. inl (lt g b i)) y)

  none_first : Lowest Has (Ok tt) → ((g : Fault) (b : ℕ) → Deeper g b → ⊥) → Lowest (FaultyTo (suc d) s) (Ok tt)
  unfolding Lowest FaultyTo
  none_first x none = λ g b y. ⊎_elim (λ h. x g b h) (λ i. none g b i) y

  -- a container stands behind the fixed octets, so behind the fault of a head that is not whole
  headless : (f : Fault) (at : ℕ) → head_of s ≡ malformed f at → Lowest (FaultyTo (suc d) s) (malformed f at)
  unfolding ended_by
  headless f at e = broken-first f at (rw e at (own-lowest s)) (λ g b y. omega (arith, further y.0 y.1.0, y.1.1.1.0))
    where
      further : (c : ℕ) → Contains s c → at < c
      further c x = before s f at c e (omega (arith, onward (in_request s) s x.first.begins.1.0 (fixed_of s), x.first.begins.1.1)) x.first.begins.0

  module _ (head : Headed s) where
    -- a container that is not found lies behind the level's own fault
    unfound : container_in s ≡ None → (e : Result ⊤ Malformed) → Lowest Has e → Lowest (FaultyTo (suc d) s) e
    unfolding Lowest
    unfound h (Err m) x = broken-first m.fault m.at x (λ g b y. omega (arith, near y.0 y.1.0 (ltb m.at y.0) refl, y.1.1.1.0))
      where
        near : (c : ℕ) → Contains s c → (t : Bool) → ltb m.at c ≡ t → m.at < c
        near c z true k = ltb-true m.at c k
        near c z false k =
            let all : (g : Fault) (b : ℕ) → Has g b → m.at ≤ b = λ g b y. ⊎_elim (λ l. omega (arith, l)) (λ l. omega (arith, l.0)) (x.1 g b y) in
            absurd (none-some _ (sym h ∙ held-there s head c z (λ g b y. let l : c ≤ m.at = ltb-false m.at c k in omega (arith, all g b (up s head g b y)))))
    unfound h (Ok _) x = none_first x (λ g b y. none-some _ (sym h ∙ held-there s head y.0 y.1.0 (λ k i z. absurd (x k i (up s head k i z)))))

    -- what is read in one that is found
    module _ (c : Part) (k : Holds s head c) (own : Lowest Has (end_of (elements_in s))) where
      -- the octets in it are those of any container that there is
      same-inside : (g : Fault) (b : ℕ) → Deeper g b → (i : ℕ) × ((b ≡ k.at + 3 + i) × FaultyTo d (contents_at s k.at) g i)
      same-inside g b y = let e = only s head y.0 k.at y.1.0 k.contains in (y.1.1.0, (omega (arith, e, y.1.1.1.0), subst (λ (c : ℕ). FaultyTo d (contents_at s c) g y.1.1.0) e y.1.1.1.1))

      abbrev start : ℕ
      start = c.start

      -- a fault in it lies before each of the level's own, or at the same octet, and then it is a cut
      ahead : (f g : Fault) (i b : ℕ) → FaultyTo d (contents_at s k.at) f i → Has g b → (start + i < b) ⊎ ((start + i ≡ b) × (fault_number f ≤ fault_number g))
      ahead f g i b x h =
          let far : start + c.len ≤ b = k.clear g b (down s head g b h) in
          ⊎_elim (λ l. inl (omega (arith, far, k.long, l)))
          (λ l. ⊎_elim inl (λ z. inr (z, omega (arith, l.1, least g))) (order (start + i) b (omega (arith, far, k.long, l.0))))
          (in_end d (contents_at s k.at) f i x)

      found-broken : (f : Fault) (i : ℕ) → Lowest (FaultyTo d (contents_at s k.at)) (malformed f i) → Lowest (FaultyTo (suc d) s) (malformed f (start + i))
      unfolding Lowest FaultyTo
      found-broken f i x = (inr (k.at, (k.contains, (i, (omega (arith, k.start), x.0)))), λ g b y. ⊎_elim (λ h. ahead f g i b x.0 h) (λ h. inner g b (same-inside g b h)) y)
        where
          inner : (g : Fault) (b : ℕ) → (j : ℕ) × ((b ≡ k.at + 3 + j) × FaultyTo d (contents_at s k.at) g j) → (start + i < b) ⊎ ((start + i ≡ b) × (fault_number f ≤ fault_number g))
          inner g b (j, (e, z)) = ⊎_elim (λ l. inl (omega (arith, l, e, k.start))) (λ l. inr (omega (arith, l.0, e, k.start), l.1)) (x.1 g j z)

      found-whole : Lowest (FaultyTo d (contents_at s k.at)) (Ok tt) → (e : Result ⊤ Malformed) → Lowest Has e → Lowest (FaultyTo (suc d) s) e
      unfolding Lowest
      found-whole x (Err m) o = broken-first m.fault m.at o (λ g b y. let z = same-inside g b y in absurd (x g z.0 z.1.1))
      found-whole x (Ok _) o = none_first o (λ g b y. let z = same-inside g b y in x g z.0 z.1.1)

      found : (e : Result ⊤ Malformed) → Lowest (FaultyTo d (contents_at s k.at)) e → Lowest (FaultyTo (suc d) s) (ended_by malformed (moved_to start e) (end_of (elements_in s)))
      unfolding moved_to ended_by
      found (Err m) x = found-broken m.fault m.at x
      found (Ok _) x = found-whole x (end_of (elements_in s)) own

  -- one level more
  module _ (inner : (t : List ℕ) → Lowest (FaultyTo d t) (asking_told (read_to d t))) where
    by-held : (head : Headed s) → Lowest Has (end_of (elements_in s)) → (o : Option Part) → container_in s ≡ o → Lowest (FaultyTo (suc d) s) (told_with s (inside_of (suc d) s) o)
    unfolding inside_of
    by-held head own None h = unfound head h (end_of (elements_in s)) own
    by-held head own (Some c) h =
        let k = holds s head c h in
        rw (told_moved c.start (read_to d (part_of s c))) (found head c k own _ (subst (λ (t : List ℕ). Lowest (FaultyTo d t) (asking_told (read_to d (part_of s c)))) k.cut (inner (part_of s c))))

    one_more : Lowest (FaultyTo (suc d) s) (asking_told (read_to (suc d) s))
    unfolding ended_by
    one_more = rw (read_told s (suc d)) (go (head_of s) refl (own-lowest s))
      where
        go : (e : Result ⊤ Malformed) → head_of s ≡ e → Lowest Has (ended_by malformed e (end_of (elements_in s))) → Lowest (FaultyTo (suc d) s) (ended_by malformed e (told_with s (inside_of (suc d) s) (container_in s)))
        go (Err m) e x = headless m.fault m.at e
        go (Ok _) e x = by-held (headed s e) x (container_in s) refl

-- "The lowest offset is told, at a tie the lower number", and "offsets count in the outermost message"
pub lowest-to : (d : ℕ) (s : List ℕ) → Lowest (FaultyTo d s) (asking_told (read_to d s))
unfolding FaultyTo inside_of asking_told ended_by
lowest-to zero s = rw (read_told s 0) (go (container_in s))
  where
    go : (o : Option Part) → Lowest (Faulty is_asking s) (ended_by malformed (head_of s) (told_with s (inside_of 0 s) o))
    go (Some c) = own-lowest s
    go None = own-lowest s
lowest-to (suc d) s = one_more d s (lowest-to d)

pub lowest-request : (s : List ℕ) → Lowest (FaultyTo 1 s) (asking_told (asking_of s))
unfolding asking_of
lowest-request s = lowest-to 1 s
