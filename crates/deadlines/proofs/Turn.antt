-- What one asking round does to one running timer, seen from true time. Assumes nothing.
use Rattle.std.proofs.Common.{◌≡◌, ℕ, ◌+◌, ◌-◌, ◌%◌, ◌^◌, ◌<◌, ◌≤◌, Bool, true, false, cond, not, eqb, ltb, ◌⊎◌, refl, ◌∙◌, inl, inr, ⊎_elim, arith, ltb-false, ltb-true, le-ltb, lt-ltb, ne_eqb, eqb-true}
use borrow.Author.Tests.{eqb-false}
use Rattle.deadlines.specs.declared.Slot.{Slot}
use Rattle.deadlines.specs.Clock.{clock, since, past, lap_of}
use Rattle.deadlines.specs.Slots.{started, ended, roll, rolled, due}
use Rattle.deadlines.proofs.Wrap.{lap-is, lap-le, lap-high}

-- the sign is right while the true difference is within 31 bits
pub past-yes : (q d : ℕ) → d ≤ q → q < d + 2 ^ 31 → past (clock q) (d % 2 ^ 32) ≡ true
unfolding past since clock
past-yes q d a b = lt-ltb ((q % 2 ^ 32 + (2 ^ 32 - d % 2 ^ 32)) % 2 ^ 32) (2 ^ 31) (omega arith)

pub past-no : (q d : ℕ) → q < d → d ≤ q + 2 ^ 31 → past (clock q) (d % 2 ^ 32) ≡ false
unfolding past since clock
past-no q d a b = le-ltb ((q % 2 ^ 32 + (2 ^ 32 - d % 2 ^ 32)) % 2 ^ 32) (2 ^ 31) (omega arith)

-- and then the wrapped difference is the true one
late-true : (q d : ℕ) → d ≤ q → q < d + 2 ^ 31 → since (clock q) (d % 2 ^ 32) ≡ q - d
unfolding since clock
late-true q d a b = omega arith

last : (b : Bool) → cond b false false ≡ false
last true = refl
last false = refl

-- the lap's end in true time
pub record Ends (d : ℕ) (x : Slot) : Type 0 where
  pub on : x.held ≡ 1
  pub at : x.ends ≡ d % 2 ^ 32

module _ (q d : ℕ) (x : Slot) (h : Ends d x) where
  ahead-roll : q < d → d ≤ q + 2 ^ 31 → roll (clock q) x ≡ x
  unfolding roll ended
  ahead-roll a b = rw (h.on, h.at, past-no q d a b, last (not (eqb x.rests 0)))

  ahead-due : q < d → d ≤ q + 2 ^ 31 → due (clock q) x ≡ false
  unfolding due
  ahead-due a b = rw (h.on, h.at, past-no q d a b, last (eqb x.rests 0))

  over-roll : x.rests ≡ 0 → roll (clock q) x ≡ x
  unfolding roll ended
  over-roll z = rw (h.on, z)

  over-due : x.rests ≡ 0 → d ≤ q → q < d + 2 ^ 31 → due (clock q) x ≡ true
  unfolding due
  over-due z a b = rw (h.on, h.at, z, past-yes q d a b)

  next-roll : (x.rests ≡ 0 → ⊥) → d ≤ q → q < d + 2 ^ 31 → roll (clock q) x ≡ started x.ends x.rests
  unfolding roll ended
  next-roll z a b = rw (h.on, h.at, ne_eqb _ _ z, past-yes q d a b)

-- a running timer: its lap's true end d, no further than a longest lap from p, the last time it was looked at, and what rests makes up the whole
pub record Live (p whole : ℕ) (x : Slot) : Type 0 where
  pub d : ℕ
  pub ends : Ends d x
  pub sum : d + x.rests ≡ whole
  pub low : p ≤ d
  pub high : d < p + 2 ^ 31

-- a lap that starts at d, for what rests
begun : (p d l e : ℕ) → e ≡ d % 2 ^ 32 → d ≤ p → p ≤ d + lap_of l → Live p (d + l) (started e l)
unfolding started
begun p d l e g a b = record {
  d = d + lap_of l;
  ends = record { on = refl; at = omega arith };
  sum = omega (arith, lap-le l);
  low = b;
  high = omega (arith, lap-high l);
}

pub live-start : (s l : ℕ) → Live s (s + l) (started (clock s) l)
unfolding clock
live-start s l = begun s s l (s % 2 ^ 32) refl (omega arith) (omega arith)

-- what a round at q finds after its rolling
abbrev pub Found : ℕ → ℕ → Slot → Type 0
Found q whole y = ((whole ≤ q) × (due (clock q) y ≡ true) × (since (clock q) y.ends ≡ q - whole)) ⊎ ((q < whole) × (due (clock q) y ≡ false) × Live q whole y)

-- rolled at most once: then the lap runs on past q, or all is over
settle : (q d whole : ℕ) (y : Slot) → Ends d y → d + y.rests ≡ whole → q < d + 2 ^ 31 → d < q + 2 ^ 31 → (d ≤ q → y.rests ≡ 0) → (roll (clock q) y ≡ y) × Found q whole y
settle q d whole y h sum a b z = go (ltb q d) refl
  where
    go : (t : Bool) → ltb q d ≡ t → (roll (clock q) y ≡ y) × Found q whole y
    go true e =
        let l : q < d = ltb-true q d e in
        (ahead-roll q d y h l (omega arith), inr (omega arith, ahead-due q d y h l (omega arith), record { d = d; ends = h; sum = sum; low = omega arith; high = b }))
    go false e =
        let l : d ≤ q = ltb-false q d e in
        let n : y.rests ≡ 0 = z l in
        (over-roll q d y h n, inl (omega arith, over-due q d y h n l a, rw h.at (late-true q d l a ∙ omega arith)))

-- the next lap, from the old deadline: it runs on past q, or it is the last and over
second : (q d whole : ℕ) (x : Slot) → Ends d x → d + x.rests ≡ whole → d ≤ q → q ≤ d + 600000 → (roll (clock q) (started x.ends x.rests) ≡ started x.ends x.rests) × Found q whole (started x.ends x.rests)
unfolding started
second q d whole x h sum a b =
    settle q (d + lap_of x.rests) whole (started x.ends x.rests)
    (record { on = refl; at = omega (arith, h.at) })
    (omega (arith, lap-le x.rests))
    (omega arith)
    (omega (arith, lap-high x.rests))
    (λ l. ⊎_elim (λ w. omega arith) (λ w. omega arith) (lap-is x.rests))

-- a round at most 600 s after the timer was last looked at
pub turn : (p q whole : ℕ) (x : Slot) → Live p whole x → p ≤ q → q ≤ p + 600000 → Found q whole (rolled (clock q) x)
unfolding rolled
turn p q whole x h a b = go (ltb q h.d) (eqb x.rests 0) refl refl
  where
    stay : (h.d ≤ q → x.rests ≡ 0) → Found q whole (roll (clock q) (roll (clock q) x))
    stay z =
        let w : (roll (clock q) x ≡ x) × Found q whole x = settle q h.d whole x h.ends h.sum (omega arith) (omega arith) z in
        rw (w.0, w.0) w.1

    next : h.d ≤ q → (x.rests ≡ 0 → ⊥) → Found q whole (roll (clock q) (roll (clock q) x))
    next l n =
        let y : Slot = started x.ends x.rests in
        let w : (roll (clock q) y ≡ y) × Found q whole y = second q h.d whole x h.ends h.sum l (omega arith) in
        rw (next-roll q h.d x h.ends n l (omega arith), w.0) w.1

    go : (t u : Bool) → ltb q h.d ≡ t → eqb x.rests 0 ≡ u → Found q whole (roll (clock q) (roll (clock q) x))
    go true u e f = stay (λ l. omega (arith, ltb-true q h.d e))
    go false true e f = stay (λ l. eqb-true x.rests 0 f)
    go false false e f = next (ltb-false q h.d e) (eqb-false x.rests 0 f)
