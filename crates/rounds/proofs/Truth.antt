-- The theorem of rounds: whatever happens between rounds at most 600 s apart, each start of each of the ten timers that is not stopped is named once, in the
-- first round at or after its deadline. Slot by slot: before a round each timer that runs was looked at no more than 600 s ago, so the round's laps are right by
-- true time; whom it names was due and is stopped by its own event, and whom it leaves has its deadline to come. Assumes nothing.
use Prim.Native.Nat.{ℕ, ◌<◌, ◌≤◌}
use mathlib.Core.Path.{◌≡◌, refl}
use mathlib.Core.Bool.{true, false, cond}
use mathlib.Core.List.{List, [], ◌∷◌}
use native.Mathlib.Omega.{arith}
use lib.ListN.{length, get_or-replicate}
use Rattle.record.specs.Answers.{is_taken}
use Rattle.record.specs.declared.Answer.TheVariants.{Taken, Range}
use Rattle.record.specs.declared.Made.{Made}
use Rattle.record.specs.New.{new_device, new_access, empty_record, new_record, may_make, made_of}
use Rattle.ranges.proofs.MadeValid.{made-valid}
use Rattle.turns.specs.declared.Told.{Told}
use Rattle.rules.specs.declared.Event.{Event}
use Rattle.validity.specs.Run.{Octets}
use Rattle.validity.proofs.Sizes.{made-sized}
use Rattle.deadlines.specs.Clock.{clock}
use Rattle.deadlines.specs.Asking.{empty_table, slot_at, Ten}
use Rattle.deadlines.specs.Arming.{flags_of, same_to, fits_to}
use Rattle.deadlines.proofs.Kept.{shown}
use Rattle.rounds.specs.Round.{tolds_in, round_to, round_answer, most_of, round_for}
use Rattle.rounds.specs.Order.{life_in}
use Rattle.rounds.specs.Acts.{World, Act, happens, asks, AllOctets, event_at, round_at, after, told, told_at, moments, story, Life, still, life_after, Kept, Watch, idle, since, watch_after, Timely}
use Rattle.rounds.proofs.Fit.{slot-armed}
use Rattle.rounds.proofs.Matched.{Matched, event-matched}
use Rattle.rounds.proofs.Bound.{round-quiet}
use Rattle.rounds.proofs.Seen.{kept-both, seen, Went, first}
use Rattle.rounds.proofs.Lives.{Lives, Begun, begun-on, told-lives, Going, entered}

-- a new record, and beside it an empty table
abbrev pub new_world : ℕ → ℕ → ℕ → List ℕ → List ℕ → World
new_world cardlimit banlimit n1limit capability security = record { record' = (made_of cardlimit banlimit n1limit capability security).made; table = empty_table }

new-fits : (cardlimit banlimit n1limit : ℕ) (capability security : List ℕ) → fits_to (new_record cardlimit banlimit n1limit capability security).hot empty_table.held ≡ true
unfolding new_record empty_record new_device new_access fits_to same_to flags_of
new-fits cardlimit banlimit n1limit capability security = refl

made-fits : (cardlimit banlimit n1limit : ℕ) (capability security : List ℕ) → fits_to (made_of cardlimit banlimit n1limit capability security).made.hot empty_table.held ≡ true
unfolding made_of
made-fits cardlimit banlimit n1limit capability security =
    elim (may_make cardlimit banlimit n1limit (length capability) (length security)) as (λ b. fits_to (cond {A = Made} b (record { answer = Taken; made = new_record cardlimit banlimit n1limit capability security }) (record { answer = Range; made = new_record 1 1 1 (0 ∷ []) (0 ∷ 0 ∷ []) })).made.hot empty_table.held ≡ true) [
      | true ↦ new-fits cardlimit banlimit n1limit capability security
      | false ↦ new-fits 1 1 1 (0 ∷ []) (0 ∷ 0 ∷ [])
    ]

pub made-matched : (cardlimit banlimit n1limit : ℕ) (capability security : List ℕ) → Matched (made_of cardlimit banlimit n1limit capability security).made empty_table
made-matched cardlimit banlimit n1limit capability security = record {
  valid = made-valid cardlimit banlimit n1limit capability security;
  sized = made-sized cardlimit banlimit n1limit capability security;
  ten = record { held = refl; ends = refl; rests = refl };
  tidy = λ i l. record { bit = omega (arith, get_or-replicate {A = ℕ} 10 i 0 0 l); ends = omega (arith, get_or-replicate {A = ℕ} 10 i 0 0 l) };
  fits = made-fits cardlimit banlimit n1limit capability security;
}

-- room for all that a round can hand out
pub round-full : (τ : ℕ) (w : World) → Matched w.record' w.table → round_at w τ ≡ round_to 10 (clock τ) w.record' w.table
unfolding round_at round_for most_of round_answer is_taken
round-full τ w h = rw (h.valid, h.fits)

pub round-went : (i τ : ℕ) → i < 10 → (l : Life) (w : World) → Matched w.record' w.table → Going τ l (slot_at w.table i) → Went i τ l (round_at w τ)
round-went i τ small l w h g =
    rw (round-full τ w h)
    (first i τ small 9 l w.record' w.table h g (round-quiet w.record' w.table (clock τ) (shown τ) h.sized h.valid h.fits h.ten (λ j m. (h.tidy j m).ends)))

pub event-lives : (i τ p : ℕ) → i < 10 → (b : Watch) (l : Life) (w : World) (e : Event) (octets : List ℕ) → p ≤ τ → Begun p b → Ten w.table → Lives p b l (slot_at w.table i) → Lives τ (watch_after τ (tolds_in (event_at w e octets).reply) b) (life_after l (told τ (told_at (tolds_in (event_at w e octets).reply) i))) (slot_at (after w (happens τ e octets)).table i)
unfolding after
event-lives i τ p small b l w e octets m g h v =
    rw (slot-armed (clock τ) (event_at w e octets).reply w.table i h small)
    (told-lives p τ (tolds_in (event_at w e octets).reply) i b l (slot_at w.table i) m g v)

pub event-after : (τ : ℕ) (w : World) (e : Event) (octets : List ℕ) → Octets octets → Matched w.record' w.table → Matched (after w (happens τ e octets)).record' (after w (happens τ e octets)).table
unfolding after event_at
event-after τ w e octets o h = event-matched (clock τ) w.record' w.table e octets o h

lived : (i : ℕ) → i < 10 → (acts : List Act) (w : World) (p : ℕ) (b : Watch) (l : Life) → AllOctets acts → Timely w p b acts → Matched w.record' w.table → Begun p b → Lives p b l (slot_at w.table i) → Kept l (story i w acts)
unfolding story moments after
lived i small [] w p b l o y h g v = tt
lived i small (happens τ e octets ∷ acts) w p b l o y h g v =
    let xs : List Told = tolds_in (event_at w e octets).reply in
    (tt, lived i small acts (after w (happens τ e octets)) τ (watch_after τ xs b) (life_after l (told τ (told_at xs i))) o.1 y.1 (event-after τ w e octets o.0 h) (begun-on p τ xs b y.0 g) (event-lives i τ p small b l w e octets y.0 g h.ten v))
lived i small (asks τ ∷ acts) w p b l o y h g v =
    let n : Went i τ l (round_at w τ) = round-went i τ small l w h (entered p τ b l (slot_at w.table i) y.0 y.1.0 v) in
    kept-both l (seen i τ (round_at w τ)) (story i (after w (asks τ)) acts) n.kept (lived i small acts (after w (asks τ)) τ (since τ) (life_in l (seen i τ (round_at w τ))) o y.1.1 n.matched (omega arith) n.lives)

-- from a new record and an empty table on
pub rounds-kept : (cardlimit banlimit n1limit : ℕ) (capability security : List ℕ) (acts : List Act) → AllOctets acts → Timely (new_world cardlimit banlimit n1limit capability security) 0 idle acts → (i : ℕ) → i < 10 → Kept still (story i (new_world cardlimit banlimit n1limit capability security) acts)
rounds-kept cardlimit banlimit n1limit capability security acts o y i small =
    lived i small acts (new_world cardlimit banlimit n1limit capability security) 0 idle still o y (made-matched cardlimit banlimit n1limit capability security) tt (get_or-replicate {A = ℕ} 10 i 0 0 small)
