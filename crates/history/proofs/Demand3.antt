-- Demand 3: what the record holds of a network is what the history says, and so are the networks that have an entry, and their order. By induction on the
-- events: a refused one changes neither, a taken one changes both alike. Assumes nothing.
use Prim.Native.Nat.{ℕ, ◌≤◌, ◌<◌}
use mathlib.Core.Path.{◌≡◌, refl, sym, ◌∙◌, ap}
use mathlib.Core.Bool.{Bool, true, false, cond}
use mathlib.Core.List.{List, [], ◌∷◌, reverse_aux}
use native.Mathlib.Omega.{arith}
use lib.Dec.{eqb}
use lib.ListN.{length}
use Rattle.entries.specs.declared.Entries.{Entries}
use Rattle.entries.specs.Entries.{none}
use Rattle.record.specs.Answers.{is_taken}
use Rattle.record.specs.New.{new_device, new_access, empty_record, new_record, may_make, made_of}
use Rattle.ranges.specs.Valid.{valid_of}
use Rattle.record.specs.declared.Record.{Record}
use Rattle.rules.specs.declared.Event.{Event}
use Rattle.rules.specs.declared.Event.TheVariants.{Card, Start, Message, Timer, Power, Key, Update, Import, Unknown}
use Rattle.record.specs.Sides.{access_of}
use Rattle.rules.specs.Plan.{access_in}
use Rattle.validity.specs.Answered.{answered_by}
use Rattle.validity.specs.Run.{Heard, run_of}
use Rattle.validity.specs.Sized.{Sized}
use Rattle.validity.proofs.Sizes.{advance-sized, new-sized}
use Rattle.history.specs.Run.{answers_of}
use Rattle.history.specs.Cell.{Lined, entries_in, cell_of, held_in}
use Rattle.history.specs.Tale.{Limits, News, is_one_of, Tale, begun}
use Rattle.history.specs.History.{taken_of, home_after, home_of, pending_after, pending_of, event_news, tale_by, tale_after, tale_of, said_of, held_of}
use Rattle.history.proofs.Said.{said-none}
use Rattle.history.proofs.Cells.{cell-none}
use Rattle.history.proofs.Lined.{lined-has, lined-none}
use Rattle.history.proofs.Fit.{Fit}
use Rattle.history.proofs.Next.{next, limits_of}
use Rattle.history.proofs.Steps.{home-step, ban-step, n1-step, net-step}
use Rattle.history.proofs.Stays.{small}
use Rattle.history.proofs.Runs.{run-keeps}
use Rattle.history.proofs.News.{news_in, event-fit, event-few}

-- the record agrees with the taken events, the latest first
pub record Agrees (l : Limits) (r : Record) (t : List Heard) : Type 0 where
  pub sized : Sized r
  pub ban : r.hot.dev.banlimit ≡ l.ban
  pub n1 : r.hot.dev.n1limit ≡ l.n1
  pub home : r.hot.dev.home ≡ home_of t
  pub pending : (w : ℕ) → w < 2 → (access_of r.hot w).net ≡ pending_of t w
  pub few : (w : ℕ) → w < 2 → (access_of r.hot w).entries ≤ 16
  pub tale : (w : ℕ) → w < 2 → Fit l (access_of r.hot w).entries (entries_in r w) (tale_of l t w)

-- what an event is called goes by home, and the pending network of its access and of this one
alike : {home home' : ℕ} → home ≡ home' → (held : Bool) (f f' : ℕ → ℕ) (w n : ℕ) → f w ≡ f' w → (e : Event) (octets : List ℕ) → f (access_in e) ≡ f' (access_in e)
    → event_news home f held w n e octets ≡ event_news home' f' held w n e octets
unfolding event_news access_in
alike p held f f' w n s (Card edition home) octets s' = refl
alike p held f f' w n s (Start b manual net code) octets s' = refl
alike p held f f' w n s (Message b protected draw) octets s' = rw (p, s, s')
alike p held f f' w n s (Timer number b) octets s' = refl
alike p held f f' w n s Power octets s' = refl
alike p held f f' w n s (Key b set) octets s' = refl
alike p held f f' w n s (Update b regtype net code uplink sessions) octets s' = refl
alike p held f f' w n s Import octets s' = refl
alike p held f f' w n s Unknown octets s' = refl

-- and what becomes of the tale by the pending network of this one
by_alike : (l : Limits) (f f' : ℕ → ℕ) (w : ℕ) → f w ≡ f' w → (d : ℕ → News) (e : Event) (octets : List ℕ) (k : Tale) → tale_by l f w d e octets k ≡ tale_by l f' w d e octets k
unfolding tale_by
by_alike l f f' w s d (Card edition home) octets k = refl
by_alike l f f' w s d (Start b manual net code) octets k = refl
by_alike l f f' w s d (Message b protected draw) octets k = rw s
by_alike l f f' w s d (Timer number b) octets k = refl
by_alike l f f' w s d Power octets k = refl
by_alike l f f' w s d (Key b set) octets k = refl
by_alike l f f' w s d (Update b regtype net code uplink sessions) octets k = refl
by_alike l f f' w s d Import octets k = refl
by_alike l f f' w s d Unknown octets k = refl

by-limits : {l l' : Limits} {count : ℕ} {t : Entries} {k : Tale} → l ≡ l' → Fit l count t k → Fit l' count t k
by-limits e f = rw e at f

module _ (l : Limits) (r : Record) (t : List Heard) (g : Agrees l r t) (x : Heard) where
  abbrev e : Event
  e = x.event

  limits-are : limits_of r ≡ l
  limits-are = rw (g.ban, g.n1)

  module _ (v : valid_of r ≡ true) (k : is_taken (answered_by r e x.octets) ≡ true) (w : ℕ) (hw : w < 2) where
    abbrev nets : ℕ → ℕ
    nets b = (access_of r.hot b).net

    abbrev before : Tale
    before = tale_of l t w

    -- its news
    abbrev said : ℕ → News
    said n = event_news (home_of t) (pending_of t) (is_one_of n before.held) w n e x.octets

    said_same : (n : ℕ) → said n ≡ news_in r (λ m. is_one_of m before.held) e x.octets w n
    said_same n = sym (alike g.home (is_one_of n before.held) nets (pending_of t) w n (g.pending w hw) e x.octets (g.pending (access_in e) (small r e x.octets k)))

    taken-told : Fit l (access_of (next r e x.octets).hot w).entries (entries_in (next r e x.octets) w) (tale_of l (x ∷ t) w)
    unfolding tale_of tale_after
    taken-told =
        rw (← by_alike l nets (pending_of t) w (g.pending w hw) said e x.octets before)
        (rw limits-are at (event-fit r v g.sized.e0 g.sized.e1 e x.octets k w hw before (by-limits (sym limits-are) (g.tale w hw)) said said_same))

  pub agrees-taken : valid_of r ≡ true → is_taken (answered_by r e x.octets) ≡ true → Agrees l (next r e x.octets) (x ∷ t)
  unfolding home_of pending_of
  agrees-taken v k = record {
    sized = advance-sized r e x.octets g.sized;
    ban = ban-step r e x.octets k ∙ g.ban;
    n1 = n1-step r e x.octets k ∙ g.n1;
    home = home-step r e x.octets k ∙ ap (home_after e) g.home;
    pending = λ w hw. net-step r e x.octets k w hw ∙ ap (pending_after w e) (g.pending w hw);
    few = λ w hw. event-few r v e x.octets k w hw (g.few w hw);
    tale = λ w hw. taken-told v k w hw;
  }

module _ (cardlimit banlimit n1limit : ℕ) (capability security : List ℕ) where
  abbrev made : Record
  made = new_record cardlimit banlimit n1limit capability security

  abbrev limits : Limits
  limits = record { ban = banlimit; n1 = n1limit }

  pub agrees-new : Agrees limits made []
  unfolding new_record empty_record new_device new_access home_of pending_of tale_of begun access_of entries_in
  agrees-new = record {
    sized = new-sized cardlimit banlimit n1limit capability security;
    ban = refl;
    n1 = refl;
    home = refl;
    pending = λ w hw. elim (eqb w 0) as (λ b. (cond b (new_access 0) (new_access 0)).net ≡ 0) [ true ↦ refl | false ↦ refl ];
    few = λ w hw. elim (eqb w 0) as (λ b. (cond b (new_access 0) (new_access 0)).entries ≤ 16) [ true ↦ omega arith | false ↦ omega arith ];
    tale = λ w hw. elim (eqb w 0) as (λ b. Fit limits (cond b (new_access 0) (new_access 0)).entries (cond b none none) begun) [ true ↦ nothing-told | false ↦ nothing-told ];
  }
    where
      nothing-told : Fit limits 0 none begun
      nothing-told = record { cells = λ n. cell-none 0 n ∙ sym (said-none limits); lined = lined-none none.nets; order = λ i j h p. absurd (omega arith) }

  run : (xs : List Heard) → Agrees limits (run_of made xs) (reverse_aux (taken_of xs (answers_of made xs)) [])
  run xs = run-keeps (Agrees limits) (agrees-taken limits) xs made [] agrees-new

  -- From a new record, whatever its limits, after any events: each network's counters and marks on each access are what the history says.
  pub demand3 : (xs : List Heard) (w n : ℕ) → w < 2 → cell_of (run_of made xs) w n ≡ said_of limits xs (answers_of made xs) w n
  unfolding said_of cell_of
  demand3 xs w n hw = ((run xs).tale w hw).cells n

  -- And the entries are those of the networks that the history names, in its order: whether a reject over the other access was skipped, and who gave up its
  -- place, is read off the events and answers.
  pub demand3-entries : (xs : List Heard) (w : ℕ) → w < 2 → Lined (access_of (run_of made xs).hot w).entries (entries_in (run_of made xs) w).nets (held_of limits xs (answers_of made xs) w)
  unfolding held_of
  demand3-entries xs w hw = ((run xs).tale w hw).lined

  pub demand3-held : (xs : List Heard) (w n : ℕ) → w < 2 → held_in (run_of made xs) w n ≡ is_one_of n (held_of limits xs (answers_of made xs) w)
  unfolding held_in
  demand3-held xs w n hw = lined-has ((run xs).few w hw) (demand3-entries xs w hw) n

  -- the first of what the public call makes, with limits each 1 to 10
  pub demand3-made : may_make cardlimit banlimit n1limit (length capability) (length security) ≡ true → (xs : List Heard) (w n : ℕ) → w < 2
      → cell_of (run_of (made_of cardlimit banlimit n1limit capability security).made xs) w n
      ≡ said_of limits xs (answers_of (made_of cardlimit banlimit n1limit capability security).made xs) w n
  unfolding made_of
  demand3-made ok xs w n hw = rw ok (demand3 xs w n hw)
