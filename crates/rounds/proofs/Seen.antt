-- A round seen from one slot: whom it names was due by true time and is stopped by its own event, and whom it leaves has its deadline to come. Assumes nothing.
use Prim.Native.Nat.{ℕ, zero, suc, ◌<◌}
use mathlib.Core.Path.{◌≡◌, refl, ap, ◌∙◌}
use mathlib.Core.Bool.{Bool, true, false, cond}
use mathlib.Core.List.{List, [], ◌∷◌, ◌++◌}
use lib.Dec.{eqb}
use lib.ListN.{get_or}
use borrow.Author.Tests.{eqb-true, ne_eqb}
use Rattle.record.specs.declared.Record.{Record}
use Rattle.turns.specs.declared.Told.TheVariants.{Stopped}
use Rattle.rules.specs.declared.Reply.{Reply}
use Rattle.deadlines.specs.declared.Table.{Table}
use Rattle.std.proofs.Common.{Option, Some, None}
use Rattle.deadlines.specs.Clock.{clock}
use Rattle.deadlines.specs.Slots.{rolled, due}
use Rattle.deadlines.specs.Asking.{slot_at, asked, after_ask, Ten}
use Rattle.deadlines.specs.Arming.{flags_of, armed}
use Rattle.deadlines.proofs.Choice.{slot-ask, nothing-due, furthest-named}
use Rattle.rounds.specs.Round.{tolds_in, out_of, Round, behind, round_by, round_to}
use Rattle.rounds.specs.Round as round
use Rattle.rounds.specs.Words.{Ran}
use Rattle.rounds.specs.Order.{life_in}
use Rattle.rounds.specs.Acts.{Moment, told, named, over, told_at, ran_moments, Life, still, life_after, Right, Kept, since}
use Rattle.rounds.proofs.Fit.{slot-armed, fit_at}
use Rattle.rounds.proofs.Matched.{Matched, due-held, rolled-held, ask-matched, out-matched}
use Rattle.rounds.proofs.Outs.{out-stops}
use Rattle.rounds.proofs.Lives.{Lives, Going, Looked, looked-going, asked-looked, told-looked, due-right, over-right}

-- moments in two parts
pub kept-both : (l : Life) (ms more : List Moment) → Kept l ms → Kept (life_in l ms) more → Kept l (ms ++ more)
unfolding life_in
kept-both l [] more k n = n
kept-both l (m ∷ ms) more k n = (k.0, kept-both (life_after l m) ms more k.1 n)

pub life-both : (l : Life) (ms more : List Moment) → life_in l (ms ++ more) ≡ life_in (life_in l ms) more
unfolding life_in
life-both l [] more = refl
life-both l (m ∷ ms) more = life-both (life_after l m) ms more

one_more : (i τ : ℕ) (x : Ran) (xs : List Ran) (ms : List Moment) → ran_moments i τ (x ∷ xs) ++ ms ≡ ran_moments i τ (x ∷ []) ++ (ran_moments i τ xs ++ ms)
unfolding ran_moments
one_more i τ x xs ms = go (eqb x.at i)
  where
    go : (b : Bool) → (cond b (named τ ∷ []) [] ++ (told τ (told_at (tolds_in x.reply) i) ∷ ran_moments i τ xs)) ++ ms ≡ (cond b (named τ ∷ []) [] ++ (told τ (told_at (tolds_in x.reply) i) ∷ [])) ++ (ran_moments i τ xs ++ ms)
    go true = refl
    go false = refl

-- a round at τ seen from slot i
module _ (i τ : ℕ) where
  abbrev pub seen : Round → List Moment
  seen g = ran_moments i τ g.ran ++ (over τ ∷ [])

  -- it went right, and leaves slot and life as they are between acts
  pub record Went (l : Life) (g : Round) : Type 0 where
    pub kept : Kept l (seen g)
    pub matched : Matched g.next g.table
    pub lives : Lives τ (since τ) (life_in l (seen g)) (slot_at g.table i)

module _ (i τ : ℕ) (small : i < 10) where
  -- none is due
  ended : (l : Life) (r : Record) (t : Table) → Matched r t → Looked τ l (slot_at t i) → asked (clock τ) t ≡ None → Went i τ l (round.over r t)
  unfolding life_in life_after ran_moments
  ended l r t h w e =
      let n : due (clock τ) (rolled (clock τ) (slot_at t i)) ≡ false = rw (slot-ask (clock τ) t i h.ten small) at (nothing-due (clock τ) t e i small) in
      let o : Right l (over τ) × Lives τ (since τ) l (slot_at t i) = over-right τ l (slot_at t i) w n in
      record { kept = (o.0, tt); matched = h; lives = o.1 }

  -- slot i itself was named: it was due, and its event stops it
  own : (l : Life) (r : Record) (t : Table) (j : ℕ) → Matched r t → Going τ l (slot_at t i) → asked (clock τ) t ≡ Some j → j ≡ i → Right l (named τ) × (told_at (tolds_in (out_of r j).reply) i ≡ Stopped)
  own l r t j h w e q =
      let f : asked (clock τ) t ≡ Some i = e ∙ ap Some q in
      let d : due (clock τ) (rolled (clock τ) (slot_at t i)) ≡ true = rw (slot-ask (clock τ) t i h.ten small) at (furthest-named (clock τ) t i f).ripe in
      let n : (slot_at t i).held ≡ 0 → ⊥ = λ z. due-held (clock τ) (rolled (clock τ) (slot_at t i)) d (rolled-held (clock τ) (slot_at t i) (h.tidy i small).bit ∙ z) in
      let o : told_at (tolds_in (out_of r i).reply) i ≡ Stopped = out-stops r i small (ne_eqb (get_or (flags_of r.hot) i 0) 0 (λ z. n (fit_at r.hot t.held i h.fits small ∙ z))) in
      (due-right τ l (slot_at t i) w d, rw q o)

  armed-looked : (l : Life) (p : Reply) (t : Table) → Ten t → Looked τ l (slot_at t i) → Looked τ (life_after l (told τ (told_at (tolds_in p) i))) (slot_at (armed (clock τ) (tolds_in p) t) i)
  armed-looked l p t h w = rw (slot-armed (clock τ) p t i h small) (told-looked τ (told_at (tolds_in p) i) l (slot_at t i) w)

  armed-stopped : (p : Reply) (t : Table) → Ten t → told_at (tolds_in p) i ≡ Stopped → Looked τ (life_after still (told τ (told_at (tolds_in p) i))) (slot_at (armed (clock τ) (tolds_in p) t) i)
  unfolding life_after
  armed-stopped p t h e = rw (slot-armed (clock τ) p t i h small, e) refl

  ask-looked : (l : Life) (r : Record) (t : Table) → Matched r t → Going τ l (slot_at t i) → Looked τ l (slot_at (after_ask (clock τ) t) i)
  ask-looked l r t h w = rw (slot-ask (clock τ) t i h.ten small) (asked-looked τ l (slot_at t i) (h.tidy i small).ends w)

  -- one timer of a round, its own or another's
  pub next : (j : ℕ) (l : Life) (r : Record) (t : Table) → Matched r t → Going τ l (slot_at t i) → asked (clock τ) t ≡ Some j → Kept l (ran_moments i τ (record { at = j; reply = (out_of r j).reply } ∷ [])) × Looked τ (life_in l (ran_moments i τ (record { at = j; reply = (out_of r j).reply } ∷ []))) (slot_at (armed (clock τ) (tolds_in (out_of r j).reply) (after_ask (clock τ) t)) i)
  unfolding life_in life_after ran_moments
  next j l r t h w e = go (eqb j i) refl
    where
      u : Table
      u = after_ask (clock τ) t

      p : Reply
      p = (out_of r j).reply

      m : Matched r u
      m = ask-matched (clock τ) r t h

      go : (b : Bool) → eqb j i ≡ b → Kept l (ran_moments i τ (record { at = j; reply = p } ∷ [])) × Looked τ (life_in l (ran_moments i τ (record { at = j; reply = p } ∷ []))) (slot_at (armed (clock τ) (tolds_in p) u) i)
      go true q =
          let o : Right l (named τ) × (told_at (tolds_in p) i ≡ Stopped) = own l r t j h w e (eqb-true j i q) in
          rw q ((o.0, (tt, tt)), armed-stopped p u m.ten o.1)
      go false q = rw q ((tt, tt), armed-looked l p u m.ten (ask-looked l r t h w))

  abbrev Goes : (Record → Table → Round) → Type 0
  Goes on = (l : Life) (r : Record) (t : Table) → Matched r t → Looked τ l (slot_at t i) → asked (clock τ) (on r t).table ≡ None → Went i τ l (on r t)

  -- one more, if the round goes right from there on
  more : (on : Record → Table → Round) → Goes on → (k : Option ℕ) (l : Life) (r : Record) (t : Table) → asked (clock τ) t ≡ k → Matched r t → Going τ l (slot_at t i) → asked (clock τ) (round_by on (clock τ) k r (after_ask (clock τ) t)).table ≡ None → Went i τ l (round_by on (clock τ) k r (after_ask (clock τ) t))
  unfolding round_by behind
  more on f None l r t e h w z = ended l r (after_ask (clock τ) t) (ask-matched (clock τ) r t h) (ask-looked l r t h w) z
  more on f (Some j) l r t e h w z =
      record {
        kept = rw (one_more i τ x g.ran (over τ ∷ [])) (kept-both l (ran_moments i τ (x ∷ [])) (seen i τ g) o.0 n.kept);
        matched = n.matched;
        lives = rw (one_more i τ x g.ran (over τ ∷ []), life-both l (ran_moments i τ (x ∷ [])) (seen i τ g)) n.lives;
      }
    where
      x : Ran
      x = record { at = j; reply = (out_of r j).reply }

      v : Table
      v = armed (clock τ) (tolds_in (out_of r j).reply) (after_ask (clock τ) t)

      g : Round
      g = on (out_of r j).next v

      o : Kept l (ran_moments i τ (x ∷ [])) × Looked τ (life_in l (ran_moments i τ (x ∷ []))) (slot_at v i)
      o = next j l r t h w e

      n : Went i τ (life_in l (ran_moments i τ (x ∷ []))) g
      n = f (life_in l (ran_moments i τ (x ∷ []))) (out_of r j).next v (out-matched (clock τ) j r (after_ask (clock τ) t) (ask-matched (clock τ) r t h)) o.1 z

  goes : (n : ℕ) → Goes (round_to n (clock τ))
  unfolding round_to
  goes zero l r t h w z = ended l r t h w z
  goes (suc n) l r t h w z = more (round_to n (clock τ)) (goes n) (asked (clock τ) t) l r t refl h (looked-going τ l (slot_at t i) w) z

  pub first : (n : ℕ) (l : Life) (r : Record) (t : Table) → Matched r t → Going τ l (slot_at t i) → asked (clock τ) (round_to (suc n) (clock τ) r t).table ≡ None → Went i τ l (round_to (suc n) (clock τ) r t)
  unfolding round_to
  first n l r t h w z = more (round_to n (clock τ)) (goes n) (asked (clock τ) t) l r t refl h w z
