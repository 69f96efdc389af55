-- Nobody oversleeps: whoever sleeps no longer than the wait says, from a time on at which a round would be timely, sleeps over no deadline that is to come. Slot by slot: a
-- timer that runs was looked at no more than 600 s before, so the wait is right by true time. Assumes nothing.
use Prim.Native.Nat.{ℕ, ◌+◌, ◌<◌, ◌≤◌}
use mathlib.Core.Path.{◌≡◌, sym, ◌∙◌}
use mathlib.Core.List.{List, [], ◌∷◌, ◌++◌}
use mathlib.Core.Logic.{◌⊎◌, ⊎_elim}
use native.Mathlib.Omega.{arith}
use lib.ListN.{get_or-replicate}
use Rattle.turns.specs.declared.Told.{Told}
use Rattle.deadlines.specs.declared.Table.{Table}
use Rattle.deadlines.specs.Clock.{clock}
use Rattle.deadlines.specs.Asking.{slot_at}
use Rattle.deadlines.specs.Waiting.{wait_of}
use Rattle.deadlines.proofs.Wake.{wait-live}
use Rattle.rounds.specs.Round.{tolds_in, Round}
use Rattle.rounds.specs.Order.{life_in}
use Rattle.rounds.specs.Acts.{World, Act, happens, asks, AllOctets, event_at, round_at, after, after_all, Moment, told, over, told_at, ran_moments, moments, story, Life, still, runs, life_after, Right, Kept, Watch, idle, since, watch_after, Soon, Timely}
use Rattle.rounds.proofs.Matched.{Matched}
use Rattle.rounds.proofs.Seen.{life-both, seen, Went}
use Rattle.rounds.proofs.Lives.{Lives, Begun, begun-on, entered}
use Rattle.rounds.proofs.Truth.{new_world, made-matched, round-went, event-lives, event-after}

-- between acts
lives-wakes : (i : ℕ) → i < 10 → (p τ : ℕ) (b : Watch) (l : Life) (t : Table) → p ≤ τ → Soon b τ → Lives p b l (slot_at t i) → (d : ℕ) → l ≡ runs d → (τ + wait_of (clock τ) t ≤ d) ⊎ (d ≤ τ)
lives-wakes i small p τ b still t a g v d e = let z : ◌≡◌ {A = ℕ} 0 1 = cc in absurd (omega arith)
lives-wakes i small p τ idle (runs c) t a g v d e = absurd v
lives-wakes i small p τ (since s) (runs c) t a g v d e =
    let f : c ≡ d = cc in
    rw f at (wait-live v.0 τ c t i small v.3 (omega (arith, v.2)) (omega (arith, v.1)))

-- a round leaves only deadlines that are to come
last-over : (τ : ℕ) (l : Life) (ms : List Moment) → Kept l (ms ++ (over τ ∷ [])) → Right (life_in l ms) (over τ)
unfolding life_in
last-over τ l [] k = k.0
last-over τ l (m ∷ ms) k = last-over τ (life_after l m) ms k.1

life-over : (τ : ℕ) (l : Life) (ms : List Moment) → life_in l (ms ++ (over τ ∷ [])) ≡ life_in l ms
unfolding life_in life_after
life-over τ l ms = life-both l ms (over τ ∷ [])

went-wakes : (i : ℕ) → i < 10 → (τ : ℕ) (l : Life) (g : Round) → Went i τ l g → (d : ℕ) → life_in l (seen i τ g) ≡ runs d → τ + wait_of (clock τ) g.table ≤ d
went-wakes i small τ l g n d e =
    let a : τ < d = rw (sym (life-over τ l (ran_moments i τ g.ran)) ∙ e) at (last-over τ l (ran_moments i τ g.ran) n.kept) in
    ⊎_elim (λ w. w) (λ w. absurd (omega arith)) (lives-wakes i small τ τ (since τ) (life_in l (seen i τ g)) g.table (omega arith) (omega arith) n.lives d e)

-- where slot i stands, at τ, when a round would be timely
record Stands (i τ : ℕ) (w : World) (l : Life) : Type 0 where
  p : ℕ
  b : Watch
  low : p ≤ τ
  soon : Soon b τ
  matched : Matched w.record' w.table
  lives : Lives p b l (slot_at w.table i)

stands : (i : ℕ) → i < 10 → (τ : ℕ) (acts : List Act) (w : World) (p : ℕ) (b : Watch) (l : Life) → AllOctets acts → Timely w p b (acts ++ (asks τ ∷ [])) → Matched w.record' w.table → Begun p b → Lives p b l (slot_at w.table i) → Stands i τ (after_all w acts) (life_in l (story i w acts))
unfolding story moments life_in after after_all
stands i small τ [] w p b l o y h g v = record { p = p; b = b; low = y.0; soon = y.1.0; matched = h; lives = v }
stands i small τ (happens σ e octets ∷ acts) w p b l o y h g v =
    let xs : List Told = tolds_in (event_at w e octets).reply in
    stands i small τ acts (after w (happens σ e octets)) σ (watch_after σ xs b) (life_after l (told σ (told_at xs i))) o.1 y.1 (event-after σ w e octets o.0 h) (begun-on p σ xs b y.0 g) (event-lives i σ p small b l w e octets y.0 g h.ten v)
stands i small τ (asks σ ∷ acts) w p b l o y h g v =
    let n : Went i σ l (round_at w σ) = round-went i σ small l w h (entered p σ b l (slot_at w.table i) y.0 y.1.0 v) in
    rw (life-both l (seen i σ (round_at w σ)) (story i (after w (asks σ)) acts))
    (stands i small τ acts (after w (asks σ)) σ (since σ) (life_in l (seen i σ (round_at w σ))) o y.1.1 n.matched (omega arith) n.lives)

-- from a new record and an empty table on
module _ (cardlimit banlimit n1limit : ℕ) (capability security : List ℕ) (acts : List Act) (τ : ℕ) (o : AllOctets acts) (y : Timely (new_world cardlimit banlimit n1limit capability security) 0 idle (acts ++ (asks τ ∷ []))) (i d : ℕ) (small : i < 10) where
  abbrev new : World
  new = new_world cardlimit banlimit n1limit capability security

  stood : Stands i τ (after_all new acts) (life_in still (story i new acts))
  stood = stands i small τ acts new 0 idle still o y (made-matched cardlimit banlimit n1limit capability security) tt (get_or-replicate {A = ℕ} 10 i 0 0 small)

  -- at a time τ between acts
  pub wait-kept : life_in still (story i (new_world cardlimit banlimit n1limit capability security) acts) ≡ runs d → (τ + wait_of (clock τ) (after_all (new_world cardlimit banlimit n1limit capability security) acts).table ≤ d) ⊎ (d ≤ τ)
  wait-kept e = lives-wakes i small stood.p τ stood.b (life_in still (story i new acts)) (after_all new acts).table stood.low stood.soon stood.lives d e

  -- and right after a round at τ no deadline is before the sleep's end
  pub round-wait-kept : life_in (life_in still (story i (new_world cardlimit banlimit n1limit capability security) acts)) (moments i (after_all (new_world cardlimit banlimit n1limit capability security) acts) (asks τ)) ≡ runs d → τ + wait_of (clock τ) (after (after_all (new_world cardlimit banlimit n1limit capability security) acts) (asks τ)).table ≤ d
  unfolding moments after
  round-wait-kept e = went-wakes i small τ l (round_at w τ) (round-went i τ small l w stood.matched (entered stood.p τ stood.b l (slot_at w.table i) stood.low stood.soon stood.lives)) d e
    where
      w : World
      w = after_all new acts

      l : Life
      l = life_in still (story i new acts)
