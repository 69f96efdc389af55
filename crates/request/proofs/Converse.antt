-- The converse of the round trip: what reads as a request is one at each level that was read, and what is read laid out again reads as the same. All else is
-- refused, with its fault's number, with 19 or with 3. Assumes nothing.
use Prim.Native.Nat.{ℕ, zero, suc, ◌+◌, ◌≤◌}
use mathlib.Core.Path.{◌≡◌, refl, sym, ◌∙◌, ap, subst}
use mathlib.Core.Bool.{Bool, true, false, cond}
use mathlib.Core.Logic.{◌⊎◌, inl, inr, ◌≢◌, ⊎_elim}
use mathlib.Core.List.{List}
use native.Mathlib.Omega.{arith}
use lib.ListN.{length}
use Rattle.std.specs.Prelude.{Option, Some, None, Result, Ok, Err, ⊤}
use Rattle.octets.specs.declared.Fault.{Fault}
use Rattle.octets.specs.declared.Malformed.{Malformed}
use Rattle.std.specs.Option.{option_map_or}
use Rattle.octets.specs.declared.Part.{Part}
use Rattle.octets.specs.Element.{end_of}
use Rattle.messages.specs.Message.{ended_by, fault_number}
use Rattle.request.specs.Layout.{Fields, Fit, nested}
use Rattle.request.specs.Reading.{identity_in, head_of, is_request, request_in, judged_of, part_of, cut_of, told_by, asking_number, refused}
use Rattle.request.specs.Reading.Said.{says}
use Rattle.request.specs.Levels.{shifted_request, shifted, around_of, asked_by, read_to, asking_of}
use Rattle.request.specs.Reader.{elements_in, container_in, inside_of, elements_reading, RequestBelow, Below}
use Rattle.request.specs.declared.Request.{Request}
use Rattle.request.specs.declared.Unread.{Unread}
use Rattle.request.specs.declared.Unread.TheVariants as unread
use Rattle.request.proofs.Asked.{Asked, fits, told, fit}
use Rattle.request.proofs.Below.{Headed, headed, cut-length, container-below, reads-below}
use Rattle.request.proofs.Depth.{round}
use Rattle.request.proofs.Shifts.{cut-shifted}
use Rattle.request.proofs.Ways.{by-head}

-- What reads as a request at a level: one with no octets in a 71; or one that keeps the layout, and what is read is in its 71, by offsets in the message around

pub record Alone (s : List ℕ) (q : Request) : Type 0 where
  pub asked : Asked s q
  pub none : container_in s ≡ None

pub record Around (Inner : List ℕ → Request → Type 0) (s : List ℕ) (q : Request) : Type 0 where
  pub outer : Request
  pub keeps : Asked s outer
  pub container : Part
  pub held : container_in s ≡ Some container
  pub lies : container.start + container.len ≤ length s
  pub inner : Request
  pub asked : Inner (part_of s container) inner
  pub below : RequestBelow container.len inner
  pub is : q ≡ shifted_request container.start inner

unfoldable pub AskedTo : ℕ → List ℕ → Request → Type 0
AskedTo zero s q = Alone s q
AskedTo (suc d) s q = Alone s q ⊎ Around (AskedTo d) s q

-- what a request comes from, choice by choice

ended-request : (e : Result ⊤ Malformed) (a : Result Request Unread) (q : Request) → ended_by refused e a ≡ Ok q → (e ≡ (Ok tt)) × (a ≡ Ok q)
unfolding ended_by
ended-request (Ok _) a q h = (refl, h)
ended-request (Err m) a q h = let z : ◌≡◌ {A = ℕ} 0 1 = cc in absurd (omega arith)

kept-request : (b : Bool) (p q : Request) → cond b (Ok p) (Err unread.Unfit) ≡ Ok q → (b ≡ true) × (p ≡ q)
kept-request true p q h = (refl, cc)
kept-request false p q h = let z : ◌≡◌ {A = ℕ} 0 1 = cc in absurd (omega arith)

around-request : (e : Result ⊤ Malformed) (b : Bool) (a : Result Request Unread) (q : Request) → around_of e b a ≡ Ok q → (b ≡ true) × (a ≡ Ok q)
unfolding around_of
around-request e b (Ok p) q h = let k = kept-request b p q (ended-request e _ q h).1 in (k.0, ap Ok k.1)
around-request e b (Err (unread.Malformed m)) q h = let z : ◌≡◌ {A = ℕ} 0 1 = cc in absurd (omega arith)
around-request e b (Err (unread.Deep at)) q h = let k = (ended-request e _ q h).1 in let z : ◌≡◌ {A = ℕ} 0 1 = cc in absurd (omega arith)
around-request e b (Err unread.Unfit) q h = let k = (ended-request e _ q h).1 in let z : ◌≡◌ {A = ℕ} 0 1 = cc in absurd (omega arith)

shifted-request : (k : ℕ) (a : Result Request Unread) (q : Request) → shifted k a ≡ Ok q → (p : Request) × ((a ≡ Ok p) × (q ≡ shifted_request k p))
unfolding shifted
shifted-request k (Ok p) q h = (p, (refl, cc))
shifted-request k (Err (unread.Malformed m)) q h = let z : ◌≡◌ {A = ℕ} 0 1 = cc in absurd (omega arith)
shifted-request k (Err (unread.Deep at)) q h = let z : ◌≡◌ {A = ℕ} 0 1 = cc in absurd (omega arith)
shifted-request k (Err unread.Unfit) q h = let z : ◌≡◌ {A = ℕ} 0 1 = cc in absurd (omega arith)

module _ (s : List ℕ) (q : Request) (head : Headed s) where
  abbrev k : Bool
  k = is_request s (identity_in s) (elements_in s)

  -- a request that holds no other, or one that keeps the layout around it
  abbrev Enclosed : (Part → Result Request Unread) → Type 0
  Enclosed f = (c : Part) × ((container_in s ≡ Some c) × (Asked s (request_in s (identity_in s) (elements_in s)) × (f c ≡ Ok q)))

  asked-either : (f : Part → Result Request Unread) → asked_by f s (identity_in s) (elements_in s) ≡ Ok q → Alone s q ⊎ Enclosed f
  unfolding asked_by judged_of
  asked-either f h = go (container_in s) refl h
    where
      go : (o : Option Part) → container_in s ≡ o
          → option_map_or (λ c. around_of (end_of (elements_in s)) k (f c)) o (ended_by refused (end_of (elements_in s)) (cond k (Ok (request_in s (identity_in s) (elements_in s))) (Err unread.Unfit))) ≡ Ok q
          → Alone s q ⊎ Enclosed f
      go (Some c) e x = let y = around-request (end_of (elements_in s)) k (f c) q x in inr (c, (e, (fits s head y.0, y.1)))
      go None e x =
          let y = kept-request k _ q (ended-request (end_of (elements_in s)) _ q x).1 in
          inl (record { asked = subst (Asked s) y.1 (fits s head y.0); none = e })

  -- what is read in it lies in it
  placed : (a : Result Request Unread) (p : Request) (c : Part) → a ≡ Ok p → Below (length (part_of s c)) a → container_in s ≡ Some c → RequestBelow c.len p
  unfolding Below
  placed a p c e x h = rw (cut-length s c (container-below s head.inside c h)) at (rw e at x)

-- however deep it was read
pub asked-to : (d : ℕ) (q : Request) (s : List ℕ) → read_to d s ≡ Ok q → AskedTo d s q
unfolding elements_reading inside_of AskedTo
asked-to zero q s e =
    let b = ended-request (head_of s) (elements_reading 0 s) q (sym (by-head 0 s) ∙ e) in
    ⊎_elim (λ a. a) (λ x. let z : ◌≡◌ {A = ℕ} 0 1 = cc in absurd (omega arith)) (asked-either s q (headed s b.0) (inside_of 0 s) b.1)
asked-to (suc d) q s e =
    let b = ended-request (head_of s) (elements_reading (suc d) s) q (sym (by-head (suc d) s) ∙ e) in
    let head = headed s b.0 in
    ⊎_elim inl
    (λ x. let c = x.0 in
    let p = shifted-request c.start (read_to d (part_of s c)) q x.1.1.1 in
    inr record {
      outer = request_in s (identity_in s) (elements_in s);
      keeps = x.1.1.0;
      container = c;
      held = x.1.0;
      lies = container-below s head.inside c x.1.0;
      inner = p.0;
      asked = asked-to d p.0 (part_of s c) p.1.0;
      below = placed s q head (read_to d (part_of s c)) p.0 c p.1.0 (reads-below d (part_of s c)) x.1.0;
      is = p.1.1;
    })
    (asked-either s q head (inside_of (suc d) s) b.1)

pub asked : (s : List ℕ) (q : Request) → asking_of s ≡ Ok q → AskedTo 1 s q
unfolding asking_of
asked s q e = asked-to 1 q s e

-- "All else is answer 3" where it is well formed and no level is too many; else its number is 19, or its fault's
pub all-else : (a : Result Request Unread) → ((q : Request) → a ≢ Ok q) → (asking_number a ≡ 3) ⊎ (((at : ℕ) × ((a ≡ Err (unread.Deep at)) × (asking_number a ≡ 19))) ⊎ ((f : Fault) × ((at : ℕ) × ((a ≡ refused f at) × (asking_number a ≡ fault_number f)))))
all-else (Ok q) h = absurd (h q refl)
all-else (Err (unread.Malformed m)) h = inr (inr (m.fault, (m.at, (refl, refl))))
all-else (Err (unread.Deep at)) h = inr (inl (at, (refl, refl)))
all-else (Err unread.Unfit) h = inl refl

-- what is read in a 71 says the same in the message around it
moved : {Inner : List ℕ → Request → Type 0} (s : List ℕ) (q : Request) (a : Around Inner s q) → told s q ≡ told (part_of s a.container) a.inner
unfolding shifted_request cut_of
moved s q a =
    let c = a.container in
    let p = a.inner in
    rw (
      a.is,
      cut-shifted s c (Some p.identity) a.below.identity,
      cut-shifted s c p.capability a.below.capability,
      cut-shifted s c p.security a.below.security,
      cut-shifted s c p.last a.below.last,
      cut-shifted s c p.uplink a.below.uplink,
      cut-shifted s c p.sessions a.below.sessions,
      cut-shifted s c p.additional a.below.additional,
      cut-shifted s c p.status a.below.status,
      cut-shifted s c p.attach a.below.attach,
    )

-- so what is read fits
asked-fit : (d : ℕ) (s : List ℕ) (q : Request) → AskedTo d s q → Fit (told s q)
unfolding AskedTo
asked-fit zero s q a = fit s q a.asked
asked-fit (suc d) s q (inl a) = fit s q a.asked
asked-fit (suc d) s q (inr a) = subst Fit (sym (moved s q a)) (asked-fit d (part_of s a.container) a.inner a.asked)

pub told_fit : (s : List ℕ) (f : Fields) → told_by s (asking_of s) ≡ says f → Fit f
unfolding told_by
told_fit s f e = go (asking_of s) refl e
  where
    go : (x : Result Request Unread) → asking_of s ≡ x → told_by s x ≡ says f → Fit f
    go (Ok q) g h = let z : told s q ≡ f = cc in subst Fit z (asked-fit 1 s q (asked s q g))
    go (Err (unread.Malformed m)) g h = let z : ◌≡◌ {A = ℕ} 0 1 = cc in absurd (omega arith)
    go (Err (unread.Deep at)) g h = let z : ◌≡◌ {A = ℕ} 0 1 = cc in absurd (omega arith)
    go (Err unread.Unfit) g h = let z : ◌≡◌ {A = ℕ} 0 1 = cc in absurd (omega arith)

-- and laid out again, flat or in a container, it reads as the same
pub told-again : (s : List ℕ) (f : Fields) → told_by s (asking_of s) ≡ says f → (k : ℕ) → k ≤ 1 → told_by (nested k f) (asking_of (nested k f)) ≡ says f
unfolding asking_of
told-again s f e k h = round f (told_fit s f e) 1 k h
