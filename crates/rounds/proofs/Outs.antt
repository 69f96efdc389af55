-- What a timer that runs out tells of the ten: it is stopped, and only T3510 starts another, T3511 for 10 s or, at the fifth attempt, T3502 for its stored length,
-- which alone may be 0. T3502 out sets the attempts to 0, and no other but T3510 touches them. Assumes nothing.
use Prim.Native.Nat.{ℕ, zero, suc, ◌+◌, ◌<◌, ◌≤◌}
use mathlib.Core.Path.{◌≡◌, refl, ap, ◌∙◌}
use mathlib.Core.Bool.{Bool, true, false, cond, true≢false}
use mathlib.Core.List.{List, [], ◌∷◌}
use mathlib.Core.Logic.{◌⊎◌, inl, inr, ⊎_elim}
use native.Mathlib.Nat.{zero-add, add-zero}
use native.Mathlib.Omega.{arith}
use lib.Dec.{ltb, eqb}
use lib.ListN.{get_or}
use Rattle.laws.specs.Bounds.{one_more}
use Rattle.record.specs.declared.Access.{Access}
use Rattle.record.specs.declared.Hot.{Hot}
use Rattle.record.specs.declared.Record.{Record}
use Rattle.record.specs.Answers.{is_taken}
use Rattle.record.specs.Setters.{with_attempts}
use Rattle.record.specs.Sides.{access_of, other_of, hot_of}
use Rattle.turns.specs.declared.Told.{Told}
use Rattle.turns.specs.declared.Told.TheVariants.{Left, Stopped, Started}
use Rattle.turns.specs.Timers.{is_device_timer, runs_in, runs_on, retrying, resting, clocked, told_of, clocks_of}
use Rattle.turns.specs.Words.{is_updating}
use Rattle.turns.specs.Turns.{start_failed, update_failed, failed, t3510_out, t3511_out, t3502_out, t3346_out, clock_turn}
use Rattle.checks.specs.Answers.{timer_range, runs, timer_answer}
use Rattle.effects.specs.Effects.{clock_effect, t3247_effect, t3512_effect, device_effect, timer_effect}
use Rattle.rules.specs.Plan.{access_in, answer_of, effect_of, hot_after, taken_reply, taken_plan}
use Rattle.events.specs.declared.Outcome.{Outcome}
use Rattle.events.specs.Parts.{with_counts, done_of, carried_out}
use Rattle.events.specs.Step.{together, joined_of}
use Rattle.validity.specs.Answered.{answered_by}
use Rattle.validity.proofs.Refusal.{taken-plan}
use Rattle.deadlines.specs.Arming.{numbers, accesses, tolds_of, flags_of}
use Rattle.rounds.specs.Round.{tolds_in, timer_out, out_of}
use Rattle.rounds.specs.Acts.{told_at}

-- the ten slots one by one
pub of-ten : (P : ℕ → Type 0) → P 0 → P 1 → P 2 → P 3 → P 4 → P 5 → P 6 → P 7 → P 8 → P 9 → (i : ℕ) → i < 10 → P i
of-ten P p0 p1 p2 p3 p4 p5 p6 p7 p8 p9 zero l = p0
of-ten P p0 p1 p2 p3 p4 p5 p6 p7 p8 p9 (suc zero) l = p1
of-ten P p0 p1 p2 p3 p4 p5 p6 p7 p8 p9 (suc (suc zero)) l = p2
of-ten P p0 p1 p2 p3 p4 p5 p6 p7 p8 p9 (suc (suc (suc zero))) l = p3
of-ten P p0 p1 p2 p3 p4 p5 p6 p7 p8 p9 (suc (suc (suc (suc zero)))) l = p4
of-ten P p0 p1 p2 p3 p4 p5 p6 p7 p8 p9 (suc (suc (suc (suc (suc zero))))) l = p5
of-ten P p0 p1 p2 p3 p4 p5 p6 p7 p8 p9 (suc (suc (suc (suc (suc (suc zero)))))) l = p6
of-ten P p0 p1 p2 p3 p4 p5 p6 p7 p8 p9 (suc (suc (suc (suc (suc (suc (suc zero))))))) l = p7
of-ten P p0 p1 p2 p3 p4 p5 p6 p7 p8 p9 (suc (suc (suc (suc (suc (suc (suc (suc zero)))))))) l = p8
of-ten P p0 p1 p2 p3 p4 p5 p6 p7 p8 p9 (suc (suc (suc (suc (suc (suc (suc (suc (suc zero))))))))) l = p9
of-ten P p0 p1 p2 p3 p4 p5 p6 p7 p8 p9 (suc (suc (suc (suc (suc (suc (suc (suc (suc (suc n)))))))))) l = absurd (omega arith)

-- 1 if an attempt that fails now is the fifth, so that T3510 out starts T3502, else 0
unfoldable pub last : Access → ℕ
last a = cond (ltb (one_more 5 a.attempts) 5) 0 1

pub last-most : (a : Access) → last a ≤ 1
unfolding last
last-most a = elim (ltb (one_more 5 a.attempts) 5) as (λ b. cond b 0 1 ≤ 1) [ true ↦ omega arith | false ↦ omega arith ]

-- a start of 0 s is one of T3502 by T3510 of its access, at the last attempt
abbrev pub Mild : ℕ → ℕ → ℕ → Told → Type 0
Mild c at i Left = Unit {0}
Mild c at i Stopped = Unit {0}
Mild c at i (Started s) = s ≡ 0 → (at < 2) × (i ≡ at + 4) × (c ≡ 1)

abbrev Milds : ℕ → ℕ → ℕ → List Told → Type 0
Milds c at k [] = Unit {0}
Milds c at k (x ∷ xs) = Mild c at k x × Milds c at (suc k) xs

mild-at : (c at k : ℕ) (xs : List Told) → Milds c at k xs → (i : ℕ) → Mild c at (k + i) (told_at xs i)
unfolding told_at
mild-at c at k [] m i = omega arith
mild-at c at k (x ∷ xs) m zero = rw add-zero m.0
mild-at c at k (x ∷ xs) m (suc i) =
    let e : k + suc i ≡ suc k + i = omega arith in
    rw e (mild-at c at (suc k) xs m.1 i)

-- what the timer of slot `at` tells
pub record Out (c at : ℕ) (xs : List Told) : Type 0 where
  pub stops : told_at xs at ≡ Stopped
  pub starts : (i : ℕ) → Mild c at i (told_at xs i)

made : {c at : ℕ} {xs : List Told} → told_at xs at ≡ Stopped → Milds c at 0 xs → Out c at xs
made {c} {at} {xs} e m = record { stops = e; starts = λ i. rw zero-add at (mild-at c at 0 xs m i) }

-- T3510 out: a retry or, at the last attempt, a rest
abbrev Fails : Access → Type 0
Fails a = ((t3510_out a).orders ≡ retrying) ⊎ (((t3510_out a).orders ≡ resting a.t3502length) × (last a ≡ 1))

fails : (a : Access) → Fails a
unfolding t3510_out failed start_failed update_failed last
fails a = go (is_updating a) refl (ltb (one_more 5 a.attempts) 5) refl
  where
    go : (u : Bool) → is_updating a ≡ u → (b : Bool) → ltb (one_more 5 a.attempts) 5 ≡ b → Fails a
    go true p true q = inl (rw (p, q))
    go true p false q = inr (rw (p, q), rw q)
    go false p true q = inl (rw (p, q))
    go false p false q = inr (rw (p, q), rw q)

-- the timer of a slot that runs is taken
taken : (r : Record) (i : ℕ) → i < 10 → eqb (get_or (flags_of r.hot) i 0) 0 ≡ false → is_taken (answered_by r (timer_out i) []) ≡ true
unfolding timer_out answered_by answer_of timer_answer timer_range runs runs_in runs_on is_device_timer access_of flags_of is_taken
taken r =
    of-ten (λ i. eqb (get_or (flags_of r.hot) i 0) 0 ≡ false → is_taken (answered_by r (timer_out i) []) ≡ true)
    (λ f. rw f)
    (λ f. rw f)
    (λ f. rw f)
    (λ f. rw f)
    (λ f. rw f)
    (λ f. rw f)
    (λ f. rw f)
    (λ f. rw f)
    (λ f. rw f)
    (λ f. rw f)

pub out-reply : (r : Record) (at : ℕ) → at < 10 → eqb (get_or (flags_of r.hot) at 0) 0 ≡ false → (out_of r at).reply ≡ taken_reply r.hot (get_or accesses at 0) (timer_effect r.hot (get_or numbers at 0) (get_or accesses at 0))
unfolding out_of joined_of together carried_out done_of taken_plan timer_out access_in effect_of
out-reply r at l f = ap (λ (o : Outcome). o.reply) (taken-plan r (timer_out at) [] (taken r at l f))

-- what the taken timer of slot `at` tells
abbrev told_by : Hot → ℕ → List Told
told_by h at = tolds_in (taken_reply h (get_or accesses at 0) (timer_effect h (get_or numbers at 0) (get_or accesses at 0)))

tells : (h : Hot) (at : ℕ) → at < 10 → eqb (get_or (flags_of h) at 0) 0 ≡ false → Out (last (access_of h at)) at (told_by h at)
unfolding tolds_of told_at taken_reply timer_effect is_device_timer device_effect t3247_effect t3512_effect clock_effect clock_turn t3511_out t3502_out t3346_out clocks_of told_of access_of other_of flags_of
tells h =
    of-ten (λ at. eqb (get_or (flags_of h) at 0) 0 ≡ false → Out (last (access_of h at)) at (told_by h at))
    (λ f. ⊎_elim (λ e. rw e (rw f (made refl (omega arith)))) (λ e. rw e.0 (rw f (made refl (omega (arith, e.1))))) (fails h.a0))
    (λ f. ⊎_elim (λ e. rw e (rw f (made refl (omega arith)))) (λ e. rw e.0 (rw f (made refl (omega (arith, e.1))))) (fails h.a1))
    (λ f. rw f (made refl (omega arith)))
    (λ f. rw f (made refl (omega arith)))
    (λ f. rw f (made refl (omega arith)))
    (λ f. rw f (made refl (omega arith)))
    (λ f. rw f (made refl (omega arith)))
    (λ f. rw f (made refl (omega arith)))
    (λ f. rw f (made refl (omega arith)))
    (λ f. rw f (made refl (omega arith)))

pub out-tells : (r : Record) (at : ℕ) → at < 10 → eqb (get_or (flags_of r.hot) at 0) 0 ≡ false → Out (last (access_of r.hot at)) at (tolds_in (out_of r at).reply)
out-tells r at l f = rw (out-reply r at l f) (tells r.hot at l f)

pub out-stops : (r : Record) (at : ℕ) → at < 10 → eqb (get_or (flags_of r.hot) at 0) 0 ≡ false → told_at (tolds_in (out_of r at).reply) at ≡ Stopped
out-stops r at l f = (out-tells r at l f).stops

-- the numbers behind the taken timer of slot `at`
abbrev hot_by : Hot → ℕ → Hot
hot_by h at = hot_after h (get_or accesses at 0) (timer_effect h (get_or numbers at 0) (get_or accesses at 0))

out-access : (r : Record) (at w : ℕ) → at < 10 → eqb (get_or (flags_of r.hot) at 0) 0 ≡ false → access_of (out_of r at).next.hot w ≡ access_of (hot_by r.hot at) w
unfolding out_of joined_of together carried_out done_of with_counts taken_plan timer_out access_in effect_of access_of
out-access r at w l f = ap (λ (o : Outcome). access_of o.next.hot w) (taken-plan r (timer_out at) [] (taken r at l f))

-- another timer than T3510 leaves the attempts, and T3502 sets them to 0
lasts : (h : Hot) (at : ℕ) → at < 10 → (eqb at 0 ≡ false → last (hot_by h at).a0 ≡ cond (eqb at 4) 0 (last h.a0)) × (eqb at 1 ≡ false → last (hot_by h at).a1 ≡ cond (eqb at 5) 0 (last h.a1))
unfolding last hot_after hot_of clocked timer_effect is_device_timer device_effect t3247_effect t3512_effect clock_effect clock_turn t3511_out t3502_out t3346_out with_attempts access_of other_of
lasts h =
    of-ten (λ at. (eqb at 0 ≡ false → last (hot_by h at).a0 ≡ cond (eqb at 4) 0 (last h.a0)) × (eqb at 1 ≡ false → last (hot_by h at).a1 ≡ cond (eqb at 5) 0 (last h.a1)))
    (λ q. absurd (true≢false q), λ q. refl)
    (λ q. refl, λ q. absurd (true≢false q))
    (λ q. refl, λ q. refl)
    (λ q. refl, λ q. refl)
    (λ q. refl, λ q. refl)
    (λ q. refl, λ q. refl)
    (λ q. refl, λ q. refl)
    (λ q. refl, λ q. refl)
    (λ q. refl, λ q. refl)
    (λ q. refl, λ q. refl)

-- the last attempts of both accesses
abbrev pub last_in : Record → ℕ → ℕ
last_in r w = last (access_of r.hot w)

pub out-last : (r : Record) (at w : ℕ) → at < 10 → w < 2 → eqb (get_or (flags_of r.hot) at 0) 0 ≡ false → eqb at w ≡ false → last_in (out_of r at).next w ≡ cond (eqb at (w + 4)) 0 (last_in r w)
unfolding access_of
out-last r at zero l m f q = ap last (out-access r at 0 l f) ∙ (lasts r.hot at l).0 q
out-last r at (suc zero) l m f q = ap last (out-access r at 1 l f) ∙ (lasts r.hot at l).1 q
out-last r at (suc (suc w)) l m f q = absurd (omega arith)
