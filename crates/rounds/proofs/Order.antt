-- The order of rounds by true time: of those due the wrapped difference is the true one, so the furthest past its deadline has the earliest. Assumes nothing.
use Prim.Native.Nat.{ℕ, zero, suc, ◌-◌, ◌<◌, ◌≤◌}
use mathlib.Core.Path.{◌≡◌, refl, sym, ap, ◌∙◌}
use mathlib.Core.Bool.{true, true≢false}
use mathlib.Core.List.{List, [], ◌∷◌}
use mathlib.Core.Logic.{⊎_elim}
use native.Mathlib.Omega.{arith}
use lib.ListN.{get_or-replicate}
use Rattle.record.specs.declared.Record.{Record}
use Rattle.turns.specs.declared.Told.{Told}
use Rattle.deadlines.specs.declared.Slot.{Slot}
use Rattle.deadlines.specs.declared.Table.{Table}
use Rattle.std.proofs.Common.{Option, Some, None}
use Rattle.deadlines.specs.Clock.{clock}
use Rattle.deadlines.specs.Clock as clocks
use Rattle.deadlines.specs.Slots.{rolled, due}
use Rattle.deadlines.specs.Asking.{slot_at, asked, after_ask, Ten, Furthest}
use Rattle.deadlines.specs.Arming.{armed}
use Rattle.deadlines.proofs.Turn.{Found}
use Rattle.deadlines.proofs.Choice.{slot-ask, furthest-named}
use Rattle.rounds.specs.Round.{tolds_in, out_of, Round, behind, round_by, round_to}
use Rattle.rounds.specs.Acts.{World, Act, happens, asks, AllOctets, event_at, round_at, after, ran_moments, moments, Life, still, runs, Watch, idle, since, watch_after, Timely}
use Rattle.rounds.specs.Order.{life_in, Earliest, InOrder, Ordered}
use Rattle.rounds.proofs.Matched.{Matched, ask-matched, out-matched}
use Rattle.rounds.proofs.Lives.{Lives, Begun, begun-on, Going, looked-going, entered, due-right}
use Rattle.rounds.proofs.Seen.{Went, next}
use Rattle.rounds.proofs.Truth.{new_world, made-matched, round-full, round-went, event-lives, event-after}

-- how far past its deadline a timer is that is due
late : (τ : ℕ) (l : Life) (y : Slot) → Going τ l y → due (clock τ) (rolled (clock τ) y) ≡ true → (d : ℕ) × (l ≡ runs d) × (d ≤ τ) × (clocks.since (clock τ) (rolled (clock τ) y).ends ≡ τ - d)
late τ still y w e = absurd (due-right τ still y w e)
late τ (runs d) y w e = ⊎_elim (λ f. (d, refl, f.0, f.2)) (λ f. absurd (true≢false (sym e ∙ f.1))) w

pub named-earliest : (τ : ℕ) (ls : ℕ → Life) (t : Table) → Ten t → ((i : ℕ) → i < 10 → Going τ (ls i) (slot_at t i)) → (j : ℕ) → asked (clock τ) t ≡ Some j → Earliest ls j
named-earliest τ ls t h w j e = record {
  deadline = own.0;
  own = own.1;
  least = λ i d l q. ⊎_elim (λ g. omega (arith, g.0, g.2, own.2, own.3, at i l, at j f.below, f.most i l (ripe i l g.1))) (λ g. omega (arith, g.0, own.2)) (found i d l q);
  first = λ i d l q.
      let m : i < 10 = omega (arith, f.below) in
      ⊎_elim (λ g. omega (arith, g.0, g.2, own.2, own.3, at i m, at j f.below, f.first i l (ripe i m g.1))) (λ g. omega (arith, g.0, own.2)) (found i d m q);
}
  where
    u : Table
    u = after_ask (clock τ) t

    f : Furthest (clock τ) u j
    f = furthest-named (clock τ) t j e

    at : (i : ℕ) → i < 10 → clocks.since (clock τ) (slot_at u i).ends ≡ clocks.since (clock τ) (rolled (clock τ) (slot_at t i)).ends
    at i l = ap (λ (x : Slot). clocks.since (clock τ) x.ends) (slot-ask (clock τ) t i h l)

    ripe : (i : ℕ) → i < 10 → due (clock τ) (rolled (clock τ) (slot_at t i)) ≡ true → due (clock τ) (slot_at u i) ≡ true
    ripe i l d = rw (slot-ask (clock τ) t i h l) d

    own : (d : ℕ) × (ls j ≡ runs d) × (d ≤ τ) × (clocks.since (clock τ) (rolled (clock τ) (slot_at t j)).ends ≡ τ - d)
    own = late τ (ls j) (slot_at t j) (w j f.below) (rw (slot-ask (clock τ) t j h f.below) at f.ripe)

    found : (i d : ℕ) → i < 10 → ls i ≡ runs d → Found τ d (rolled (clock τ) (slot_at t i))
    found i d l q = rw q at (w i l)

-- the timers of a round
module _ (τ : ℕ) where
  abbrev Goes : (Record → Table → Round) → Type 0
  Goes on = (ls : ℕ → Life) (r : Record) (t : Table) → Matched r t → ((i : ℕ) → i < 10 → Going τ (ls i) (slot_at t i)) → InOrder ls τ (on r t).ran

  more : (on : Record → Table → Round) → Goes on → (k : Option ℕ) (ls : ℕ → Life) (r : Record) (t : Table) → asked (clock τ) t ≡ k → Matched r t → ((i : ℕ) → i < 10 → Going τ (ls i) (slot_at t i)) → InOrder ls τ (round_by on (clock τ) k r (after_ask (clock τ) t)).ran
  unfolding round_by behind
  more on f None ls r t e h w = tt
  more on f (Some j) ls r t e h w = (named-earliest τ ls t h.ten w j e, f on-lives (out_of r j).next v (out-matched (clock τ) j r (after_ask (clock τ) t) (ask-matched (clock τ) r t h)) (λ i l. looked-going τ (on-lives i) (slot_at v i) (next i τ l j (ls i) r t h (w i l) e).1))
    where
      v : Table
      v = armed (clock τ) (tolds_in (out_of r j).reply) (after_ask (clock τ) t)

      on-lives : ℕ → Life
      on-lives i = life_in (ls i) (ran_moments i τ (record { at = j; reply = (out_of r j).reply } ∷ []))

  goes : (n : ℕ) → Goes (round_to n (clock τ))
  unfolding round_to
  goes zero ls r t h w = tt
  goes (suc n) ls r t h w = more (round_to n (clock τ)) (goes n) (asked (clock τ) t) ls r t refl h w

ordered : (acts : List Act) (w : World) (p : ℕ) (b : Watch) (ls : ℕ → Life) → AllOctets acts → Timely w p b acts → Matched w.record' w.table → Begun p b → ((i : ℕ) → i < 10 → Lives p b (ls i) (slot_at w.table i)) → Ordered ls w acts
unfolding moments after life_in
ordered [] w p b ls o y h g v = tt
ordered (happens τ e octets ∷ acts) w p b ls o y h g v =
    let xs : List Told = tolds_in (event_at w e octets).reply in
    ordered acts (after w (happens τ e octets)) τ (watch_after τ xs b) (λ i. life_in (ls i) (moments i w (happens τ e octets))) o.1 y.1 (event-after τ w e octets o.0 h) (begun-on p τ xs b y.0 g) (λ i l. event-lives i τ p l b (ls i) w e octets y.0 g h.ten (v i l))
ordered (asks τ ∷ acts) w p b ls o y h g v = (rw (round-full τ w h) (goes τ 10 ls w.record' w.table h go), ordered acts (after w (asks τ)) τ (since τ) (λ i. life_in (ls i) (moments i w (asks τ))) o y.1.1 (went 0 (omega arith)).matched (omega arith) (λ i l. (went i l).lives))
  where
    go : (i : ℕ) → i < 10 → Going τ (ls i) (slot_at w.table i)
    go i l = entered p τ b (ls i) (slot_at w.table i) y.0 y.1.0 (v i l)

    went : (i : ℕ) → i < 10 → Went i τ (ls i) (round_at w τ)
    went i l = round-went i τ l (ls i) w h (go i l)

-- from a new record and an empty table on
pub rounds-ordered : (cardlimit banlimit n1limit : ℕ) (capability security : List ℕ) (acts : List Act) → AllOctets acts → Timely (new_world cardlimit banlimit n1limit capability security) 0 idle acts → Ordered (λ i. still) (new_world cardlimit banlimit n1limit capability security) acts
rounds-ordered cardlimit banlimit n1limit capability security acts o y =
    ordered acts (new_world cardlimit banlimit n1limit capability security) 0 idle (λ i. still) o y (made-matched cardlimit banlimit n1limit capability security) tt (λ i l. get_or-replicate {A = ℕ} 10 i 0 0 l)
