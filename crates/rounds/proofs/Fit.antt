-- The table beside the record: each slot is armed by what is told of its timer, and since what is told is so, a table that fits stays fit. Assumes nothing.
use Prim.Native.Nat.{ℕ, zero, suc, ◌+◌, ◌*◌, ◌<◌}
use mathlib.Core.Path.{◌≡◌, refl, sym, ap, ◌∙◌}
use mathlib.Core.Bool.{Bool, true, false, cond, true≢false}
use mathlib.Core.List.{List, [], ◌∷◌}
use native.Mathlib.Omega.{arith}
use lib.Dec.{eqb}
use lib.ListN.{get_or}
use borrow.Author.Tests.{eqb-true, eqb-false, eq-eqb}
use Rattle.record.specs.declared.Hot.{Hot}
use Rattle.record.specs.declared.Record.{Record}
use Rattle.ranges.specs.Valid.{valid_of}
use Rattle.turns.specs.declared.Told.{Told}
use Rattle.turns.specs.declared.Told.TheVariants.{Left, Stopped, Started}
use Rattle.rules.specs.declared.Event.{Event}
use Rattle.rules.specs.declared.Reply.{Reply}
use Rattle.events.specs.Step.{step_of}
use Rattle.validity.specs.Reply.{Tells, TellsTrue}
use Rattle.validity.proofs.Kept.{step-advances}
use Rattle.validity.proofs.Told.{timers-told}
use Rattle.deadlines.specs.declared.Slot.{Slot}
use Rattle.deadlines.specs.declared.Table.{Table}
use Rattle.deadlines.specs.Slots.{started, stopped}
use Rattle.deadlines.specs.Asking.{slot_at, Ten}
use Rattle.deadlines.specs.Arming.{tolds_of, flags_of, heeded, armed_from, armed, same_to, fits_to}
use Rattle.deadlines.proofs.Choice.{ten-put, put_same, put_other}
use Rattle.rounds.specs.Round.{tolds_in, timer_out, out_of}
use Rattle.rounds.specs.Acts.{told_at}

-- a slot, by what is told of its timer
abbrev pub slot_by : ℕ → Told → Slot → Slot
slot_by now Left x = x
slot_by now Stopped x = stopped
slot_by now (Started seconds) x = started now (seconds * 1000)

ten-heeded : (now at : ℕ) (x : Told) (t : Table) → Ten t → Ten (heeded now at x t)
unfolding heeded
ten-heeded now at Left t h = h
ten-heeded now at Stopped t h = ten-put t at stopped h
ten-heeded now at (Started seconds) t h = ten-put t at (started now (seconds * 1000)) h

heeded-same : (now at : ℕ) (x : Told) (t : Table) → Ten t → at < 10 → slot_at (heeded now at x t) at ≡ slot_by now x (slot_at t at)
unfolding heeded
heeded-same now at Left t h l = refl
heeded-same now at Stopped t h l = put_same t at stopped h l
heeded-same now at (Started seconds) t h l = put_same t at (started now (seconds * 1000)) h l

heeded-other : (now at : ℕ) (x : Told) (t : Table) (i : ℕ) → (i ≡ at → ⊥) → slot_at (heeded now at x t) i ≡ slot_at t i
unfolding heeded
heeded-other now at Left t i n = refl
heeded-other now at Stopped t i n = put_other t at i stopped n
heeded-other now at (Started seconds) t i n = put_other t at i (started now (seconds * 1000)) n

ten-from : (now at : ℕ) (xs : List Told) (t : Table) → Ten t → Ten (armed_from now at xs t)
unfolding armed_from
ten-from now at [] t h = h
ten-from now at (x ∷ xs) t h = ten-from now (suc at) xs (heeded now at x t) (ten-heeded now at x t h)

below-from : (now at : ℕ) (xs : List Told) (t : Table) (i : ℕ) → i < at → slot_at (armed_from now at xs t) i ≡ slot_at t i
unfolding armed_from
below-from now at [] t i l = refl
below-from now at (x ∷ xs) t i l = below-from now (suc at) xs (heeded now at x t) i (omega arith) ∙ heeded-other now at x t i (λ e. omega arith)

-- the k-th that is told is of the slot k behind the first
slot-from : (now at : ℕ) (xs : List Told) (t : Table) (k i : ℕ) → Ten t → i < 10 → i ≡ k + at → slot_at (armed_from now at xs t) i ≡ slot_by now (told_at xs k) (slot_at t i)
unfolding armed_from told_at
slot-from now at [] t k i h l e = refl
slot-from now at (x ∷ xs) t zero i h l e =
    let q : i ≡ at = omega arith in
    below-from now (suc at) xs (heeded now at x t) i (omega arith) ∙ rw q (heeded-same now at x t h (omega arith))
slot-from now at (x ∷ xs) t (suc k) i h l e =
    slot-from now (suc at) xs (heeded now at x t) k i (ten-heeded now at x t h) l (omega arith)
    ∙ ap (slot_by now (told_at xs k)) (heeded-other now at x t i (λ q. omega arith))

pub ten-armed : (now : ℕ) (p : Reply) (t : Table) → Ten t → Ten (armed now (tolds_in p) t)
ten-armed now p t h = ten-from now 0 (tolds_in p) t h

pub slot-armed : (now : ℕ) (p : Reply) (t : Table) (i : ℕ) → Ten t → i < 10 → slot_at (armed now (tolds_in p) t) i ≡ slot_by now (told_at (tolds_in p) i) (slot_at t i)
slot-armed now p t i h l = slot-from now 0 (tolds_in p) t i i h l (omega arith)

same_at : (n : ℕ) (xs ys : List ℕ) (i : ℕ) → same_to n xs ys ≡ true → i < n → get_or xs i 0 ≡ get_or ys i 0
unfolding same_to
same_at zero xs ys i e l = absurd (omega arith)
same_at (suc n) xs ys i e l = go (same_to n xs ys) refl e (λ q w. same_at n xs ys i q w)
  where
    last : (b : Bool) → eqb i n ≡ b → eqb (get_or xs n 0) (get_or ys n 0) ≡ true → (i < n → get_or xs i 0 ≡ get_or ys i 0) → get_or xs i 0 ≡ get_or ys i 0
    last true q f g = rw (eqb-true i n q) (eqb-true (get_or xs n 0) (get_or ys n 0) f)
    last false q f g = g (omega (arith, eqb-false i n q))

    go : (b : Bool) → same_to n xs ys ≡ b → cond b (eqb (get_or xs n 0) (get_or ys n 0)) false ≡ true → (same_to n xs ys ≡ true → i < n → get_or xs i 0 ≡ get_or ys i 0) → get_or xs i 0 ≡ get_or ys i 0
    go true q f g = last (eqb i n) refl f (g q)
    go false q f g = absurd (true≢false (sym f))

pub same-all : (n : ℕ) (xs ys : List ℕ) → ((i : ℕ) → i < n → get_or xs i 0 ≡ get_or ys i 0) → same_to n xs ys ≡ true
unfolding same_to
same-all zero xs ys f = refl
same-all (suc n) xs ys f = rw (same-all n xs ys (λ i l. f i (omega arith))) (eq-eqb (get_or xs n 0) (get_or ys n 0) (f n (omega arith)))

pub fit_at : (h : Hot) (held : List ℕ) (i : ℕ) → fits_to h held ≡ true → i < 10 → get_or held i 0 ≡ get_or (flags_of h) i 0
unfolding fits_to
fit_at h held i e l = same_at 10 held (flags_of h) i e l

pub out_step : (r : Record) (at : ℕ) → valid_of r ≡ true → out_of r at ≡ step_of r (timer_out at) []
unfolding out_of
out_step r at v = sym (step-advances r (timer_out at) [] v)

-- what is told of timers in a row, whether they ran before, and whether they run after
data Row : List Told → List ℕ → List ℕ → Type 0 where
  none : Row [] [] []
  more : {x : Told} {b a : ℕ} {xs : List Told} {bs ds : List ℕ} → Tells x b a → Row xs bs ds → Row (x ∷ xs) (b ∷ bs) (a ∷ ds)

row_at : {xs : List Told} {bs ds : List ℕ} → Row xs bs ds → (i : ℕ) → Tells (told_at xs i) (get_or bs i 0) (get_or ds i 0)
unfolding told_at
row_at none i = refl
row_at (more w m) zero = w
row_at (more w m) (suc i) = row_at m i

row : (p : Reply) (r q : Record) → TellsTrue p r q → Row (tolds_in p) (flags_of r.hot) (flags_of q.hot)
unfolding tolds_of flags_of
row p r q w = more w.a0.t3510 (more w.a1.t3510 (more w.a0.t3511 (more w.a1.t3511 (more w.a0.t3502 (more w.a1.t3502 (more w.a0.t3346 (more w.a1.t3346 (more w.t3512 (more w.t3247 none)))))))))

held_by : (now : ℕ) (x : Told) (s : Slot) (b a : ℕ) → Tells x b a → s.held ≡ b → (slot_by now x s).held ≡ a
unfolding started
held_by now Left s b a w e = e ∙ sym w
held_by now Stopped s b a w e = sym w.1
held_by now (Started seconds) s b a w e = sym w

pub step_fits : (r : Record) (e : Event) (octets : List ℕ) (now : ℕ) (t : Table) → Ten t → fits_to r.hot t.held ≡ true → fits_to (step_of r e octets).next.hot (armed now (tolds_in (step_of r e octets).reply) t).held ≡ true
unfolding fits_to
step_fits r e octets now t h f = same-all 10 (armed now (tolds_in p) t).held (flags_of q.hot) one
  where
    p : Reply
    p = (step_of r e octets).reply

    q : Record
    q = (step_of r e octets).next

    one : (i : ℕ) → i < 10 → get_or (armed now (tolds_in p) t).held i 0 ≡ get_or (flags_of q.hot) i 0
    one i l =
        ap (λ (x : Slot). x.held) (slot-armed now p t i h l)
        ∙ held_by now (told_at (tolds_in p) i) (slot_at t i) (get_or (flags_of r.hot) i 0) (get_or (flags_of q.hot) i 0) (row_at (row p r q (timers-told r octets e)) i) (fit_at r.hot t.held i f l)
