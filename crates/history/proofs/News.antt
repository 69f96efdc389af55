-- The deed of a taken event on an access is, for each network, what the history calls that event; it makes of the tale what the history makes of it; and its
-- network has a place. So what a taken event makes of an access's entries is what the history tells. Assumes nothing.
use Prim.Native.Nat.{ℕ, ◌≤◌, ◌<◌}
use mathlib.Core.Path.{◌≡◌, refl, sym, ◌∙◌, ap}
use mathlib.Core.Bool.{Bool, true, false, cond, not, false≢true, ◌&&◌}
use mathlib.Core.List.{List}
use lib.Dec.{ltb, eqb}
use native.Mathlib.Omega.{arith}
use borrow.Author.Tests.{leb-true, eqb-true, eq-eqb}
use Rattle.std.specs.Prelude.{Ok, Err}
use Rattle.record.specs.Tests.{up_to}
use Rattle.record.specs.Answers.{is_taken}
use Rattle.record.specs.Sides.{access_of}
use Rattle.record.specs.declared.Record.{Record}
use Rattle.networks.specs.Networks.{networks_in}
use Rattle.entries.specs.declared.Entries.{Entries}
use Rattle.entries.specs.declared.Deed.{Deed}
use Rattle.entries.specs.declared.Deed.TheVariants as deed
use Rattle.entries.specs.declared.Seen.{Seen}
use Rattle.entries.specs.Entries.{seat_of, is_filed, marks_after, ranks_after, is_import, with_file, entries_after}
use Rattle.messages.specs.declared.Reject.{Reject}
use Rattle.messages.specs.declared.Message.TheVariants as message
use Rattle.messages.specs.Message.{Reading, reading_of}
use Rattle.turns.specs.Timers.{is_device_timer}
use Rattle.turns.specs.declared.Row.{Row}
use Rattle.turns.specs.declared.Draws.{Draws}
use Rattle.turns.specs.Rejects.{across_n1}
use Rattle.checks.specs.Answers.{row_now, read_answer}
use Rattle.effects.specs.Effects.{card_effect, start_effect, update_effect, key_effect, accept_effect, clock_effect, t3247_effect, t3512_effect, device_effect, timer_effect, power_effect, row_deed, row_work, reject_effect, import_effect}
use Rattle.rules.specs.declared.Event.{Event}
use Rattle.rules.specs.declared.Event.TheVariants.{Card, Start, Message, Timer, Power, Key, Update, Import, Unknown}
use Rattle.rules.specs.Plan.{ask_of, access_in, answer_of, message_effect, effect_of}
use Rattle.events.specs.Parts.{file_seen, seen_by, seen_of}
use Rattle.ranges.specs.Valid.{valid_of}
use Rattle.validity.specs.Answered.{seen_at, answered_by}
use Rattle.validity.specs.Sized.{Columns}
use Rattle.validity.proofs.Taken.{message-passed, reject-passed, import-passed}
use Rattle.validity.proofs.Good.{Held, Good}
use Rattle.validity.proofs.Imports.{held-is}
use Rattle.validity.proofs.Valid.{valid-good}
use Rattle.history.specs.Cell.{entries_in, cell_of}
use Rattle.history.specs.Tale.{Limits, News, is_put, puts, is_one_of, Tale, begun, told, turned_away}
use Rattle.history.specs.History.{cause_news, across_news, by_type, event_news, tale_by}
use Rattle.history.proofs.Said.{cell_after, accepted, imported, ended, quiet}
use Rattle.history.proofs.Octets.{read_by, is_read, by-octets}
use Rattle.history.proofs.Fit.{Fit, Sound}
use Rattle.history.proofs.Deeds.{Fits, deed_news, deed_tale, deed-few, deed-fit}
use Rattle.history.proofs.Next.{next, deed_in, limits_of}
use Rattle.history.proofs.Rows.{row_news, row-news, row-deed, still-quiet, row-across, across-deed, row_fits, row-tale}
use Rattle.history.proofs.Stays.{filed_in, small, seen-seat}
use Rattle.history.proofs.Files.{all-cells}
use Rattle.history.proofs.Names.{names-are, named-is}
use Rattle.history.proofs.Table.{event-table}

-- a deed on one access and one on the other
either-news : (s : Bool) (k k' : Deed) (octets : List ℕ) (held : Bool) (n : ℕ) (d : News) → (s ≡ true → deed_news k octets held n ≡ d) → (s ≡ false → deed_news k' octets held n ≡ d)
    → deed_news (cond s k k') octets held n ≡ d
either-news true k k' octets held n d f f' = f refl
either-news false k k' octets held n d f f' = f' refl

either-fits : (s : Bool) (k k' : Deed) (filed : ℕ) (octets : List ℕ) (count : ℕ) (t : Entries) → (s ≡ true → Fits k filed octets count t) → (s ≡ false → Fits k' filed octets count t)
    → Fits (cond s k k') filed octets count t
either-fits true k k' filed octets count t f f' = f refl
either-fits false k k' filed octets count t f f' = f' refl

either-tale : (l : Limits) (s : Bool) (k k' : Deed) (octets : List ℕ) (d : ℕ → News) (x y : Tale) → (s ≡ true → deed_tale l k octets d x ≡ y) → (s ≡ false → deed_tale l k' octets d x ≡ y)
    → deed_tale l (cond s k k') octets d x ≡ y
either-tale l true k k' octets d x y f f' = f refl
either-tale l false k k' octets d x y f f' = f' refl

module _ (r : Record) (octets : List ℕ) (b protected : ℕ) (draws : Draws) where
  abbrev sight : Seen
  sight = seen_at r (Message b protected draws) octets

  abbrev net : ℕ
  net = (access_of r.hot b).net

  abbrev is-protected : Bool
  is-protected = not (eqb protected 0)

  abbrev here : Reject → Row
  here k = row_now r.hot b protected k

  -- the row's word for the network is the history's
  said_same : (k : Reject) (n : ℕ) → cond (eqb net n) (row_news (here k) is-protected) quiet ≡ cond (eqb net n) (cause_news (eqb n r.hot.dev.home) b is-protected k.cause) quiet
  unfolding row_now
  said_same k n = go (eqb net n) refl
    where
      go : (s : Bool) → eqb net n ≡ s
          → cond (eqb net n) (row_news (here k) is-protected) quiet ≡ cond (eqb net n) (cause_news (eqb n r.hot.dev.home) b is-protected k.cause) quiet
      go true q =
          rw q (row-news b (eqb protected 0) (eqb net r.hot.dev.home) (ltb (access_of r.hot b).cardcounter r.hot.dev.cardlimit) (ltb 0 k.t3346length) is-protected k.cause
          ∙ ap (λ (x : ℕ). cause_news (eqb x r.hot.dev.home) b is-protected k.cause) (eqb-true net n q))
      go false q = rw q

  -- the message's own access: by what was read
  own-news : (m : Reading) → is_read m ≡ true → (held : Bool) (n : ℕ)
      → deed_news (message_effect r.hot b protected draws m sight).work.mine octets held n ≡ cond (eqb net n) (read_by quiet accepted (cause_news (eqb n r.hot.dev.home) b is-protected) m) quiet
  unfolding message_effect accept_effect reject_effect row_work read_by is_read
  own-news (Ok (message.Accept g)) t held n = refl
  own-news (Ok (message.Reject k)) t held n = row-deed (here k) (seat_of sight net protected) octets held n ∙ said_same k n
  own-news (Err m) t held n = absurd (false≢true t)

  own-fits : (filed : ℕ) → b < 2 → (m : Reading) → is_taken (read_answer r.hot b protected m sight) ≡ true
      → Fits (message_effect r.hot b protected draws m sight).work.mine filed octets (access_of r.hot b).entries (entries_in r b)
  unfolding message_effect accept_effect reject_effect row_work read_answer is_taken
  own-fits filed hb (Ok (message.Accept g)) t = seen-seat r octets b protected draws hb 1
  own-fits filed hb (Ok (message.Reject k)) t =
      row_fits (here k) (seat_of sight net protected) filed octets (access_of r.hot b).entries (entries_in r b) (seen-seat r octets b protected draws hb protected)
      (reject-passed r.hot b protected k sight t)
  own-fits filed hb (Err m) t = absurd (false≢true t)

  own-word : (x : Reject) (held : Bool) → deed_news (row_deed (here x) (seat_of sight net protected)) octets held net ≡ row_news (here x) is-protected
  own-word x held = row-deed (here x) (seat_of sight net protected) octets held net ∙ ap (λ (b : Bool). cond b (row_news (here x) is-protected) quiet) (eq-eqb net net refl)

  -- it marks exactly if its news do
  own-tale : (l : Limits) (m : Reading) (held : Bool) (d : ℕ → News) (k : Tale)
      → deed_tale l (message_effect r.hot b protected draws m sight).work.mine octets d k
      ≡ cond (puts (deed_news (message_effect r.hot b protected draws m sight).work.mine octets held net)) (turned_away l net d k) (told d k)
  unfolding message_effect accept_effect reject_effect row_work puts is_put
  own-tale l (Ok (message.Accept g)) held d k = rw (eq-eqb net net refl)
  own-tale l (Ok (message.Reject x)) held d k =
      row-tale l (here x) (seat_of sight net protected) octets is-protected d k ∙ ap (λ (y : News). cond (puts y) (turned_away l net d k) (told d k)) (sym (own-word x held))
  own-tale l (Err m) held d k = refl

  -- the other one: no message reaches its entries but a protected 27
  others-news : (m : Reading) → is_read m ≡ true → (held : Bool) (n : ℕ)
      → deed_news (message_effect r.hot b protected draws m sight).work.theirs octets held n ≡ cond (eqb net n && held) (read_by quiet quiet (across_news is-protected) m) quiet
  unfolding message_effect accept_effect reject_effect row_work row_now read_by is_read across_news
  others-news (Ok (message.Accept g)) t held n = still-quiet (eqb net n && held)
  others-news (Ok (message.Reject k)) t held n =
      rw (row-across b protected (eqb protected 0) (eqb net r.hot.dev.home) (ltb (access_of r.hot b).cardcounter r.hot.dev.cardlimit) (ltb 0 k.t3346length) k.cause)
      (across-deed (eqb k.cause 27 && is-protected) net octets held n)
  others-news (Err m) t held n = absurd (false≢true t)

  -- which fits everywhere
  across-fits : (s : Bool) (filed count : ℕ) (t : Entries) → Fits (cond {A = Deed} s (deed.ToLimit net) deed.Nothing) filed octets count t
  across-fits true filed count t = tt
  across-fits false filed count t = tt

  others-fit : (m : Reading) (filed count : ℕ) (t : Entries) → Fits (message_effect r.hot b protected draws m sight).work.theirs filed octets count t
  unfolding message_effect accept_effect reject_effect row_work
  others-fit (Ok (message.Accept g)) filed count t = tt
  others-fit (Ok (message.Reject k)) filed count t = across-fits (across_n1 b protected k.cause (here k)) filed count t
  others-fit (Err m) filed count t = tt

  -- and marks nobody
  across-tale : (l : Limits) (s : Bool) (d : ℕ → News) (k : Tale) → deed_tale l (cond {A = Deed} s (deed.ToLimit net) deed.Nothing) octets d k ≡ told d k
  across-tale l true d k = refl
  across-tale l false d k = refl

  others-tale : (l : Limits) (m : Reading) (d : ℕ → News) (k : Tale) → deed_tale l (message_effect r.hot b protected draws m sight).work.theirs octets d k ≡ told d k
  unfolding message_effect accept_effect reject_effect row_work
  others-tale l (Ok (message.Accept g)) d k = refl
  others-tale l (Ok (message.Reject x)) d k = across-tale l (across_n1 b protected x.cause (here x)) d k
  others-tale l (Err m) d k = refl

  read_of : (m : Reading) → is_taken (read_answer r.hot b protected m sight) ≡ true → is_read m ≡ true
  unfolding read_answer is_read is_taken
  read_of (Ok (message.Accept g)) t = refl
  read_of (Ok (message.Reject k)) t = refl
  read_of (Err m) t = t

  module _ (t : is_taken (answered_by r (Message b protected draws) octets) ≡ true) where
    read_taken : is_taken (read_answer r.hot b protected (reading_of octets) sight) ≡ true
    unfolding answered_by answer_of
    read_taken = (message-passed r.hot b protected draws (reading_of octets) sight t).2

    pub is_read_lem : is_read (reading_of octets) ≡ true
    is_read_lem = read_of (reading_of octets) read_taken

    message-news : (held : Bool) (w n : ℕ)
        → deed_news (deed_in r (Message b protected draws) octets w) octets held n
        ≡ event_news r.hot.dev.home (λ (v : ℕ). (access_of r.hot v).net) held w n (Message b protected draws) octets
    unfolding access_in effect_of event_news
    message-news held w n = either-news (eqb b w) _ _ octets held n _ own other
      where
        own : eqb b w ≡ true → deed_news (message_effect r.hot b protected draws (reading_of octets) sight).work.mine octets held n
            ≡ event_news r.hot.dev.home (λ (v : ℕ). (access_of r.hot v).net) held w n (Message b protected draws) octets
        own q =
            own-news (reading_of octets) is_read_lem held n
            ∙ ap (λ (d : News). cond (eqb net n) d quiet) (sym (by-octets quiet accepted (cause_news (eqb n r.hot.dev.home) b is-protected) octets is_read_lem))
            ∙ ap (λ (v : ℕ). cond (eqb (access_of r.hot v).net n) (by_type accepted (cause_news (eqb n r.hot.dev.home) v is-protected) octets) quiet) (eqb-true b w q) ∙ rw q

        other : eqb b w ≡ false → deed_news (message_effect r.hot b protected draws (reading_of octets) sight).work.theirs octets held n
            ≡ event_news r.hot.dev.home (λ (v : ℕ). (access_of r.hot v).net) held w n (Message b protected draws) octets
        other q =
            rw q (others-news (reading_of octets) is_read_lem held n
            ∙ ap (λ (d : News). cond (eqb net n && held) d quiet) (sym (by-octets quiet quiet (across_news is-protected) octets is_read_lem)))

    message-fits : (filed w : ℕ) → Fits (deed_in r (Message b protected draws) octets w) filed octets (access_of r.hot w).entries (entries_in r w)
    unfolding access_in effect_of
    message-fits filed w =
        either-fits (eqb b w) _ _ filed octets (access_of r.hot w).entries (entries_in r w)
        (λ q. rw (sym (eqb-true b w q)) (own-fits filed (small r (Message b protected draws) octets t) (reading_of octets) read_taken))
        (λ q. others-fit (reading_of octets) filed (access_of r.hot w).entries (entries_in r w))

  -- what it makes of the tale
  message-tale : (l : Limits) (w : ℕ) (held : ℕ → Bool) (d : ℕ → News) (k : Tale) → ((n : ℕ) → d n ≡ deed_news (deed_in r (Message b protected draws) octets w) octets (held n) n)
      → deed_tale l (deed_in r (Message b protected draws) octets w) octets d k ≡ cond (eqb b w && puts (d (access_of r.hot w).net)) (turned_away l (access_of r.hot w).net d k) (told d k)
  unfolding access_in effect_of
  message-tale l w held d k is = go (eqb b w) refl
    where
      mine : Deed
      mine = (message_effect r.hot b protected draws (reading_of octets) sight).work.mine

      theirs : Deed
      theirs = (message_effect r.hot b protected draws (reading_of octets) sight).work.theirs

      go : (s : Bool) → eqb b w ≡ s
          → deed_tale l (cond (eqb b w) mine theirs) octets d k ≡ cond (eqb b w && puts (d (access_of r.hot w).net)) (turned_away l (access_of r.hot w).net d k) (told d k)
      go true q =
          let e : b ≡ w = eqb-true b w q in
          let x : d net ≡ deed_news mine octets (held net) net = rw q at (is net) in
          rw (q, ← e, x) (own-tale l (reading_of octets) (held net) d k)
      go false q = rw q (others-tale l (reading_of octets) d k)

module _ (r : Record) where
  -- T3247 sweeps both accesses, T3512 and the timers of an access do nothing
  pub timer-deeds : (number b : ℕ) → ((timer_effect r.hot number b).work.mine ≡ cond (eqb number 4) deed.Sweep deed.Nothing)
      × ((timer_effect r.hot number b).work.theirs ≡ cond (eqb number 4) deed.Sweep deed.Nothing)
  unfolding timer_effect is_device_timer device_effect t3247_effect t3512_effect clock_effect
  timer-deeds number b = go (eqb number 4) refl (eqb number 5) refl
    where
      go : (s : Bool) → eqb number 4 ≡ s → (s' : Bool) → eqb number 5 ≡ s'
          → ((timer_effect r.hot number b).work.mine ≡ cond (eqb number 4) deed.Sweep deed.Nothing)
          × ((timer_effect r.hot number b).work.theirs ≡ cond (eqb number 4) deed.Sweep deed.Nothing)
      go true q s' q' = rw q (refl, refl)
      go false q true q' = rw (q, q') (refl, refl)
      go false q false q' = rw (q, q') (refl, refl)

  timer-news : (s : Bool) (octets : List ℕ) (held : Bool) (n : ℕ) → deed_news (cond s deed.Sweep deed.Nothing) octets held n ≡ cond s ended quiet
  timer-news true octets held n = refl
  timer-news false octets held n = refl

  timer-fits : (s : Bool) (filed : ℕ) (octets : List ℕ) (count : ℕ) (t : Entries) → Fits (cond s deed.Sweep deed.Nothing) filed octets count t
  timer-fits true filed octets count t = tt
  timer-fits false filed octets count t = tt

  timer-tale : (l : Limits) (s : Bool) (octets : List ℕ) (d : ℕ → News) (k : Tale) → deed_tale l (cond s deed.Sweep deed.Nothing) octets d k ≡ told d k
  timer-tale l true octets d k = refl
  timer-tale l false octets d k = refl

  -- an import's networks have room on access 0
  import-fits : valid_of r ≡ true → (octets : List ℕ) → is_taken (answered_by r Import octets) ≡ true → (w : ℕ) → eqb 0 w ≡ true
      → Fits deed.Import (filed_in r octets) octets (access_of r.hot w).entries (entries_in r w)
  unfolding answered_by answer_of ask_of seen_of seen_by file_seen access_of entries_in
  import-fits v octets t w q =
      let p = import-passed (seen_at r Import octets) t in
      rw (← eqb-true 0 w q) (refl, (valid-good r v).half0.fit.entries, rw p.0 at p.1)

  -- a card change's tale has no news; every other event's are the history's
  event-news : (e : Event) (octets : List ℕ) → is_taken (answered_by r e octets) ≡ true → (held : Bool) (w n : ℕ)
      → deed_news (deed_in r e octets w) octets held n ≡ event_news r.hot.dev.home (λ (v : ℕ). (access_of r.hot v).net) held w n e octets
  unfolding access_in effect_of card_effect start_effect update_effect key_effect power_effect import_effect event_news
  event-news (Card edition home) octets t held w n = either-news (eqb 0 w) deed.Fresh deed.Fresh octets held n quiet (λ q. refl) (λ q. refl)
  event-news (Start b manual net code) octets t held w n = either-news (eqb b w) deed.Nothing deed.Nothing octets held n quiet (λ q. refl) (λ q. refl)
  event-news (Message b protected draws) octets t held w n = message-news r octets b protected draws t held w n
  event-news (Timer number b) octets t held w n =
      either-news (eqb b w) _ _ octets held n _ (λ q. rw (timer-deeds number b).0 (timer-news (eqb number 4) octets held n)) (λ q. rw (timer-deeds number b).1 (timer-news (eqb number 4) octets held n))
  event-news Power octets t held w n = either-news (eqb 0 w) deed.Power deed.Power octets held n _ (λ q. refl) (λ q. refl)
  event-news (Key b set) octets t held w n = either-news (eqb b w) deed.Nothing deed.Nothing octets held n quiet (λ q. refl) (λ q. refl)
  event-news (Update b regtype net code uplink sessions) octets t held w n = either-news (eqb b w) deed.Nothing deed.Nothing octets held n quiet (λ q. refl) (λ q. refl)
  event-news Import octets t held w n = either-news (eqb 0 w) deed.Import deed.Nothing octets held n _ (λ q. rw (q, named-is n octets)) (λ q. rw q)
  event-news Unknown octets t held w n = either-news (eqb 0 w) deed.Nothing deed.Nothing octets held n quiet (λ q. refl) (λ q. refl)

  pub event-fits : valid_of r ≡ true → (e : Event) (octets : List ℕ) → is_taken (answered_by r e octets) ≡ true → (w : ℕ)
      → Fits (deed_in r e octets w) (filed_in r octets) octets (access_of r.hot w).entries (entries_in r w)
  unfolding access_in effect_of card_effect start_effect update_effect key_effect power_effect import_effect
  event-fits v (Card edition home) octets t w = either-fits (eqb 0 w) deed.Fresh deed.Fresh _ octets _ _ (λ q. tt) (λ q. tt)
  event-fits v (Start b manual net code) octets t w = either-fits (eqb b w) deed.Nothing deed.Nothing _ octets _ _ (λ q. tt) (λ q. tt)
  event-fits v (Message b protected draws) octets t w = message-fits r octets b protected draws t (filed_in r octets) w
  event-fits v (Timer number b) octets t w =
      either-fits (eqb b w) _ _ _ octets _ _ (λ q. rw (timer-deeds number b).0 (timer-fits (eqb number 4) _ octets _ _)) (λ q. rw (timer-deeds number b).1 (timer-fits (eqb number 4) _ octets _ _))
  event-fits v Power octets t w = either-fits (eqb 0 w) deed.Power deed.Power _ octets _ _ (λ q. tt) (λ q. tt)
  event-fits v (Key b set) octets t w = either-fits (eqb b w) deed.Nothing deed.Nothing _ octets _ _ (λ q. tt) (λ q. tt)
  event-fits v (Update b regtype net code uplink sessions) octets t w = either-fits (eqb b w) deed.Nothing deed.Nothing _ octets _ _ (λ q. tt) (λ q. tt)
  event-fits v Import octets t w = either-fits (eqb 0 w) deed.Import deed.Nothing _ octets _ _ (λ q. import-fits v octets t w q) (λ q. tt)
  event-fits v Unknown octets t w = either-fits (eqb 0 w) deed.Nothing deed.Nothing _ octets _ _ (λ q. tt) (λ q. tt)

  event-tale : (l : Limits) (e : Event) (octets : List ℕ) (w : ℕ) (held : ℕ → Bool) (d : ℕ → News) (k : Tale) → ((n : ℕ) → d n ≡ deed_news (deed_in r e octets w) octets (held n) n)
      → deed_tale l (deed_in r e octets w) octets d k ≡ tale_by l (λ (v : ℕ). (access_of r.hot v).net) w d e octets k
  unfolding access_in effect_of card_effect start_effect update_effect key_effect power_effect import_effect tale_by
  event-tale l (Card edition home) octets w held d k is = either-tale l (eqb 0 w) deed.Fresh deed.Fresh octets d k begun (λ q. refl) (λ q. refl)
  event-tale l (Start b manual net code) octets w held d k is = either-tale l (eqb b w) deed.Nothing deed.Nothing octets d k (told d k) (λ q. refl) (λ q. refl)
  event-tale l (Message b protected draws) octets w held d k is = message-tale r octets b protected draws l w held d k is
  event-tale l (Timer number b) octets w held d k is =
      either-tale l (eqb b w) _ _ octets d k (told d k) (λ q. rw (timer-deeds number b).0 (timer-tale l (eqb number 4) octets d k)) (λ q. rw (timer-deeds number b).1 (timer-tale l (eqb number 4) octets d k))
  event-tale l Power octets w held d k is = either-tale l (eqb 0 w) deed.Power deed.Power octets d k (told d k) (λ q. refl) (λ q. refl)
  event-tale l (Key b set) octets w held d k is = either-tale l (eqb b w) deed.Nothing deed.Nothing octets d k (told d k) (λ q. refl) (λ q. refl)
  event-tale l (Update b regtype net code uplink sessions) octets w held d k is = either-tale l (eqb b w) deed.Nothing deed.Nothing octets d k (told d k) (λ q. refl) (λ q. refl)
  event-tale l Import octets w held d k is =
      either-tale l (eqb 0 w) deed.Import deed.Nothing octets d k _ (λ q. rw (q, names-are octets)) (λ q. rw q)
  event-tale l Unknown octets w held d k is = either-tale l (eqb 0 w) deed.Nothing deed.Nothing octets d k (told d k) (λ q. refl) (λ q. refl)

  -- what the history calls an event, by the record before it
  abbrev pub news_in : (ℕ → Bool) → Event → List ℕ → ℕ → ℕ → News
  news_in held e octets w n = event_news r.hot.dev.home (λ (v : ℕ). (access_of r.hot v).net) (held n) w n e octets

  pub sound : valid_of r ≡ true → Columns r.e0 → Columns r.e1 → (w : ℕ) → Sound (access_of r.hot w).entries (entries_in r w)
  unfolding access_of entries_in
  sound v c0 c1 w = elim (eqb w 0) as (λ s. Sound (cond s r.hot.a0 r.hot.a1).entries (cond s r.e0 r.e1)) [
    | true ↦ half r.hot.a0.entries r.e0 c0 good.half0.fit.entries good.half0.held
    | false ↦ half r.hot.a1.entries r.e1 c1 good.half1.fit.entries good.half1.held
  ]
    where
      good : Good r
      good = valid-good r v

      half : (n : ℕ) (t : Entries) → Columns t → up_to 16 n ≡ true → Held r.hot.dev.banlimit r.hot.dev.n1limit n t → Sound n t
      half n t c few h = record { few = leb-true n 16 few; columns = c; once = h.once; ranked = h.order }

  pub event-few : valid_of r ≡ true → (e : Event) (octets : List ℕ) → is_taken (answered_by r e octets) ≡ true → (w : ℕ) → w < 2 → (access_of r.hot w).entries ≤ 16 → (access_of (next r e octets).hot w).entries ≤ 16
  event-few v e octets t w hw h =
      rw (event-table r e octets t w hw).0 (deed-few (deed_in r e octets w) (filed_in r octets) octets (access_of r.hot w).entries (entries_in r w) (event-fits v e octets t w) h)

  -- an access's entries after a taken event; d are its news
  pub event-fit : valid_of r ≡ true → Columns r.e0 → Columns r.e1 → (e : Event) (octets : List ℕ) → is_taken (answered_by r e octets) ≡ true → (w : ℕ) → w < 2
      → (k : Tale) → Fit (limits_of r) (access_of r.hot w).entries (entries_in r w) k → (d : ℕ → News) → ((n : ℕ) → d n ≡ news_in (λ m. is_one_of m k.held) e octets w n)
      → Fit (limits_of r) (access_of (next r e octets).hot w).entries (entries_in (next r e octets) w) (tale_by (limits_of r) (λ (v : ℕ). (access_of r.hot v).net) w d e octets k)
  event-fit v c0 c1 e octets t w hw k g d is =
      rw ((event-table r e octets t w hw).0, (event-table r e octets t w hw).1, ← event-tale (limits_of r) e octets w (λ m. is_one_of m k.held) d k same)
      (deed-fit (limits_of r) (filed_in r octets) octets (access_of r.hot w).entries (entries_in r w) k (sound v c0 c1 w) g d (deed_in r e octets w) (event-fits v e octets t w) same)
    where
      same : (n : ℕ) → d n ≡ deed_news (deed_in r e octets w) octets (is_one_of n k.held) n
      same n = is n ∙ sym (event-news e octets t (is_one_of n k.held) w n)

  -- the cells of access 0 after a taken import
  pub import-cell : valid_of r ≡ true → Columns r.e0 → (octets : List ℕ) → is_taken (answered_by r Import octets) ≡ true → (n : ℕ)
      → cell_of (next r Import octets) 0 n ≡ cell_after (limits_of r) (cond (is_filed n (networks_in octets)) imported quiet) (cell_of r 0 n)
  unfolding cell_of entries_in access_of entries_after with_file is_import ranks_after marks_after access_in effect_of import_effect
  import-cell v c octets t n =
      let f = import-fits v octets t 0 refl in
      let h = held-is (access_of r.hot 0).entries octets (entries_in r 0) f.1 f.2 in
      rw ((event-table r Import octets t 0 (omega arith)).0, (event-table r Import octets t 0 (omega arith)).1, h.0) (all-cells (λ m. is_filed m (networks_in octets)) (limits_of r) (networks_in octets) (access_of r.hot 0).entries (entries_in r 0) c h.1 n)
