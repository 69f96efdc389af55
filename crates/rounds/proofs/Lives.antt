-- One slot and its timer's life by true time: what a told, an ask and a round's end make of both. Assumes nothing.
use Prim.Native.Nat.{ℕ, zero, suc, ◌+◌, ◌*◌, ◌^◌, ◌<◌, ◌≤◌}
use mathlib.Core.Path.{◌≡◌, refl, sym, ◌∙◌}
use mathlib.Core.Bool.{Bool, true, false, cond, true≢false}
use mathlib.Core.List.{List, [], ◌∷◌}
use mathlib.Core.Logic.{⊎_elim}
use native.Mathlib.Omega.{arith}
use Rattle.turns.specs.declared.Told.{Told}
use Rattle.turns.specs.declared.Told.TheVariants.{Left, Stopped, Started}
use Rattle.deadlines.specs.declared.Slot.{Slot}
use Rattle.deadlines.specs.Clock.{clock}
use Rattle.deadlines.specs.Slots.{started, rolled, due}
use Rattle.deadlines.proofs.Kept.{shown}
use Rattle.deadlines.proofs.Settled.{again}
use Rattle.deadlines.proofs.Turn.{Live, live-start, Found, turn}
use Rattle.rounds.specs.Acts.{told_at, told, named, over, Life, still, runs, life_after, Right, Watch, idle, since, is_start, any_start, watch_after, Soon}
use Rattle.rounds.proofs.Fit.{slot_by}
use Rattle.rounds.proofs.Matched.{unheld-rolled, unheld-due}

-- Between acts, at the time p: a timer that runs was looked at, at some q, since the watch's time.
abbrev pub Lives : ℕ → Watch → Life → Slot → Type 0
Lives p b still x = x.held ≡ 0
Lives p idle (runs d) x = ⊥
Lives p (since s) (runs d) x = (q : ℕ) × (s ≤ q) × (q ≤ p) × Live q d x

-- the watch's time is no later
abbrev pub Begun : ℕ → Watch → Type 0
Begun p idle = Unit {0}
Begun p (since s) = s ≤ p

start-any : (xs : List Told) (i : ℕ) → is_start (told_at xs i) ≡ true → any_start xs ≡ true
unfolding told_at is_start any_start
start-any [] i e = absurd (true≢false (sym e))
start-any (x ∷ xs) zero e = rw e
start-any (x ∷ xs) (suc i) e = go (is_start x) (start-any xs i e)
  where
    go : (b : Bool) → any_start xs ≡ true → cond b true (any_start xs) ≡ true
    go true q = refl
    go false q = q

pub begun-on : (p τ : ℕ) (xs : List Told) (b : Watch) → p ≤ τ → Begun p b → Begun τ (watch_after τ xs b)
unfolding watch_after
begun-on p τ xs idle a g = go (any_start xs)
  where
    go : (c : Bool) → Begun τ (cond c (since τ) idle)
    go true = omega arith
    go false = tt
begun-on p τ xs (since s) a g = omega arith

-- what an event tells of the timer
pub told-lives : (p τ : ℕ) (xs : List Told) (i : ℕ) (b : Watch) (l : Life) (y : Slot) → p ≤ τ → Begun p b → Lives p b l y → Lives τ (watch_after τ xs b) (life_after l (told τ (told_at xs i))) (slot_by (clock τ) (told_at xs i) y)
unfolding life_after watch_after is_start
told-lives p τ xs i b l y a g w = go (told_at xs i) (start-any xs i) b l g w
  where
    left : (b : Watch) (l : Life) → Lives p b l y → Lives τ (watch_after τ xs b) l y
    left b still w = w
    left idle (runs d) w = absurd w
    left (since s) (runs d) w = (w.0, w.1, omega (arith, w.2), w.3)

    go : (x : Told) → (is_start x ≡ true → any_start xs ≡ true) → (b : Watch) (l : Life) → Begun p b → Lives p b l y → Lives τ (watch_after τ xs b) (life_after l (told τ x)) (slot_by (clock τ) x y)
    go Left f b l g w = left b l w
    go Stopped f b l g w = refl
    go (Started seconds) f idle l g w = rw (f refl) (τ, omega arith, omega arith, live-start τ (seconds * 1000))
    go (Started seconds) f (since s) l g w = (τ, omega arith, omega arith, live-start τ (seconds * 1000))

-- In a round at τ: before an ask, and after one, when what is not yet due was looked at.
abbrev pub Going : ℕ → Life → Slot → Type 0
Going τ still y = y.held ≡ 0
Going τ (runs d) y = Found τ d (rolled (clock τ) y)

abbrev pub Looked : ℕ → Life → Slot → Type 0
Looked τ still y = y.held ≡ 0
Looked τ (runs d) y = Found τ d (rolled (clock τ) y) × (τ < d → Live τ d y)

pub looked-going : (τ : ℕ) (l : Life) (y : Slot) → Looked τ l y → Going τ l y
looked-going τ still y w = w
looked-going τ (runs d) y w = w.0

-- "rounds start at most 600 s apart"
pub entered : (p τ : ℕ) (b : Watch) (l : Life) (y : Slot) → p ≤ τ → Soon b τ → Lives p b l y → Going τ l y
entered p τ b still y a g w = w
entered p τ idle (runs d) y a g w = absurd w
entered p τ (since s) (runs d) y a g w = turn w.0 τ d y w.3 (omega (arith, w.2)) (omega (arith, w.1))

pub asked-looked : (τ : ℕ) (l : Life) (y : Slot) → y.ends < 2 ^ 32 → Going τ l y → Looked τ l (rolled (clock τ) y)
asked-looked τ still y m w = rw (unheld-rolled (clock τ) y w) w
asked-looked τ (runs d) y m w =
    (rw (again (clock τ) y (shown τ) m) w, λ a. ⊎_elim (λ f. absurd (omega (arith, f.0))) (λ f. f.2) w)

pub told-looked : (τ : ℕ) (x : Told) (l : Life) (y : Slot) → Looked τ l y → Looked τ (life_after l (told τ x)) (slot_by (clock τ) x y)
unfolding life_after
told-looked τ Left l y w = w
told-looked τ Stopped l y w = refl
told-looked τ (Started seconds) l y w =
    let n : Live τ (τ + seconds * 1000) (started (clock τ) (seconds * 1000)) = live-start τ (seconds * 1000) in
    (turn τ τ (τ + seconds * 1000) (started (clock τ) (seconds * 1000)) n (omega arith) (omega arith), λ a. n)

-- whom a round names runs, and its deadline is not to come
pub due-right : (τ : ℕ) (l : Life) (y : Slot) → Going τ l y → due (clock τ) (rolled (clock τ) y) ≡ true → Right l (named τ)
due-right τ still y w e = absurd (true≢false (sym e ∙ rw (unheld-rolled (clock τ) y w) (unheld-due (clock τ) y w)))
due-right τ (runs d) y w e = ⊎_elim (λ f. f.0) (λ f. absurd (true≢false (sym e ∙ f.1))) w

-- whom it leaves is still, or its deadline is to come
pub over-right : (τ : ℕ) (l : Life) (y : Slot) → Looked τ l y → due (clock τ) (rolled (clock τ) y) ≡ false → Right l (over τ) × Lives τ (since τ) l y
over-right τ still y w e = (tt, w)
over-right τ (runs d) y w e =
    let a : τ < d = ⊎_elim (λ f. absurd (true≢false (sym f.1 ∙ e))) (λ f. f.0) w.0 in
    (a, (τ, omega arith, omega arith, w.1 a))
