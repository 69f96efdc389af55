-- What a taken event makes of the limits, of home, of the edition and of the pending networks: event by event, by its effect. Assumes nothing.
use Prim.Native.Nat.{ℕ, ◌<◌}
use mathlib.Core.Path.{◌≡◌, refl, ◌∙◌, ap}
use mathlib.Core.Bool.{Bool, true, false, cond}
use mathlib.Core.List.{List}
use lib.Dec.{eqb}
use lib.ListN.{length}
use Rattle.record.specs.Answers.{is_taken}
use Rattle.record.specs.New.{new_access}
use Rattle.record.specs.declared.Access.{Access}
use Rattle.record.specs.declared.Device.{Device}
use Rattle.record.specs.declared.Record.{Record}
use Rattle.record.specs.Setters.{in_state, with_attempts, pending, keyed, with_entries}
use Rattle.turns.specs.Turns.{started, updated, key_set, renewed}
use Rattle.turns.specs.Turns as turns
use Rattle.effects.specs.Effects.{ticked, scheduled, carded, card_effect, start_effect, update_effect, key_effect, power_effect, import_effect}
use Rattle.rules.specs.declared.Event.{Event}
use Rattle.rules.specs.declared.Event.TheVariants.{Card, Start, Message, Timer, Power, Key, Update, Import, Unknown}
use Rattle.record.specs.Sides.{access_of, other_of}
use Rattle.rules.specs.Plan.{access_in, answer_of, effect_of}
use Rattle.events.specs.Parts.{with_counts}
use Rattle.validity.specs.Answered.{answered_by}
use Rattle.validity.proofs.Refusal.{effect_in}
use Rattle.history.specs.History.{home_after, edition_after, pending_after}
use Rattle.history.proofs.Next.{other-of, next, taken-device, taken-net}
use Rattle.history.proofs.Stays.{small, both-kept, Untimed, Keeps, timer-keeps, message-keeps}

module _ (r : Record) where
  event-home : (e : Event) (octets : List ℕ) → is_taken (answered_by r e octets) ≡ true → (effect_in r e octets).dev.home ≡ home_after e r.hot.dev.home
  unfolding answered_by answer_of effect_of home_after scheduled card_effect carded start_effect update_effect key_effect power_effect import_effect
  event-home (Card edition home) octets t = refl
  event-home (Start b manual net code) octets t = refl
  event-home (Message b protected draw) octets t = (message-keeps r b protected draw _ _).dev (λ (d : Device). d.home) (λ time due. refl)
  event-home (Timer number b) octets t = (timer-keeps r number b).dev (λ (d : Device). d.home) (λ time due. refl)
  event-home Power octets t = refl
  event-home (Key b set) octets t = refl
  event-home (Update b regtype net code uplink sessions) octets t = refl
  event-home Import octets t = refl
  event-home Unknown octets t = refl

  event-edition : (e : Event) (octets : List ℕ) → is_taken (answered_by r e octets) ≡ true → (effect_in r e octets).dev.edition ≡ edition_after e r.hot.dev.edition
  unfolding answered_by answer_of effect_of edition_after scheduled card_effect carded start_effect update_effect key_effect power_effect import_effect
  event-edition (Card edition home) octets t = refl
  event-edition (Start b manual net code) octets t = refl
  event-edition (Message b protected draw) octets t = (message-keeps r b protected draw _ _).dev (λ (d : Device). d.edition) (λ time due. refl)
  event-edition (Timer number b) octets t = (timer-keeps r number b).dev (λ (d : Device). d.edition) (λ time due. refl)
  event-edition Power octets t = refl
  event-edition (Key b set) octets t = refl
  event-edition (Update b regtype net code uplink sessions) octets t = refl
  event-edition Import octets t = refl
  event-edition Unknown octets t = refl

  -- a number of the device that a card change leaves too, and is not T3512's
  event-device : (f : Device → ℕ) → ((edition home suci : ℕ) → f (carded edition home suci r.hot.dev) ≡ f r.hot.dev) → Untimed r.hot.dev f → (e : Event) (octets : List ℕ)
      → is_taken (answered_by r e octets) ≡ true → f (effect_in r e octets).dev ≡ f r.hot.dev
  unfolding answered_by answer_of effect_of card_effect start_effect update_effect key_effect power_effect import_effect
  event-device f k j (Card edition home) octets t = k edition home (length octets)
  event-device f k j (Start b manual net code) octets t = refl
  event-device f k j (Message b protected draw) octets t = (message-keeps r b protected draw _ _).dev f j
  event-device f k j (Timer number b) octets t = (timer-keeps r number b).dev f j
  event-device f k j Power octets t = refl
  event-device f k j (Key b set) octets t = refl
  event-device f k j (Update b regtype net code uplink sessions) octets t = refl
  event-device f k j Import octets t = refl
  event-device f k j Unknown octets t = refl

  pub home-step : (e : Event) (octets : List ℕ) → is_taken (answered_by r e octets) ≡ true → (next r e octets).hot.dev.home ≡ home_after e r.hot.dev.home
  unfolding ticked with_counts
  home-step e octets t = taken-device r e octets t (λ (d : Device). d.home) (λ m n d. refl) (λ m n h. refl) ∙ event-home e octets t

  pub edition-step : (e : Event) (octets : List ℕ) → is_taken (answered_by r e octets) ≡ true → (next r e octets).hot.dev.edition ≡ edition_after e r.hot.dev.edition
  unfolding ticked with_counts
  edition-step e octets t = taken-device r e octets t (λ (d : Device). d.edition) (λ m n d. refl) (λ m n h. refl) ∙ event-edition e octets t

  pub ban-step : (e : Event) (octets : List ℕ) → is_taken (answered_by r e octets) ≡ true → (next r e octets).hot.dev.banlimit ≡ r.hot.dev.banlimit
  unfolding ticked scheduled with_counts carded
  ban-step e octets t = taken-device r e octets t (λ (d : Device). d.banlimit) (λ m n d. refl) (λ m n h. refl) ∙ event-device (λ (d : Device). d.banlimit) (λ edition home suci. refl) (λ time due. refl) e octets t

  pub n1-step : (e : Event) (octets : List ℕ) → is_taken (answered_by r e octets) ≡ true → (next r e octets).hot.dev.n1limit ≡ r.hot.dev.n1limit
  unfolding ticked scheduled with_counts carded
  n1-step e octets t = taken-device r e octets t (λ (d : Device). d.n1limit) (λ m n d. refl) (λ m n h. refl) ∙ event-device (λ (d : Device). d.n1limit) (λ edition home suci. refl) (λ time due. refl) e octets t

  -- the pending network after an event that keeps it
  net-kept : (e : Event) (octets : List ℕ) (t : is_taken (answered_by r e octets) ≡ true) → Keeps r.hot (access_in e) (effect_in r e octets) → (w : ℕ) → w < 2
      → (access_of (next r e octets).hot w).net ≡ (access_of r.hot w).net
  net-kept e octets t k w hw =
      taken-net r e octets t (small r e octets t) w hw
      ∙ rw (k.net, k.others) (both-kept r.hot (λ (a : Access). a.net) (access_in e) w (small r e octets t) hw)

  -- and after one that sets it on its own access
  net-set : (e : Event) (octets : List ℕ) (t : is_taken (answered_by r e octets) ≡ true) (net : ℕ) → (effect_in r e octets).mine.access.net ≡ net
      → (effect_in r e octets).theirs.access.net ≡ (other_of r.hot (access_in e)).net → (w : ℕ) → w < 2
      → (access_of (next r e octets).hot w).net ≡ cond (eqb (access_in e) w) net (access_of r.hot w).net
  net-set e octets t net mine others w hw = taken-net r e octets t (small r e octets t) w hw ∙ rw (mine, others) (go (eqb (access_in e) w) refl)
    where
      go : (s : Bool) → eqb (access_in e) w ≡ s → cond (eqb (access_in e) w) net (other_of r.hot (access_in e)).net ≡ cond (eqb (access_in e) w) net (access_of r.hot w).net
      go true q = rw q
      go false q = rw q (ap (λ (a : Access). a.net) (other-of r.hot (access_in e) w (small r e octets t) hw q))

  pub net-step : (e : Event) (octets : List ℕ) (t : is_taken (answered_by r e octets) ≡ true) (w : ℕ) → w < 2
      → (access_of (next r e octets).hot w).net ≡ pending_after w e (access_of r.hot w).net
  unfolding access_in answered_by answer_of effect_of pending_after card_effect renewed new_access start_effect started update_effect updated pending key_effect key_set keyed power_effect turns.cycled import_effect with_entries in_state with_attempts access_of other_of
  net-step (Card edition home) octets t w hw =
      taken-net r (Card edition home) octets t (small r (Card edition home) octets t) w hw ∙ elim (eqb 0 w) as (λ s. cond {A = ℕ} s 0 0 ≡ 0) [ true ↦ refl | false ↦ refl ]
  net-step (Start b manual net code) octets t w hw = net-set (Start b manual net code) octets t net refl refl w hw
  net-step (Message b protected draw) octets t w hw = net-kept (Message b protected draw) octets t (message-keeps r b protected draw _ _) w hw
  net-step (Timer number b) octets t w hw = net-kept (Timer number b) octets t (timer-keeps r number b) w hw
  net-step Power octets t w hw = net-kept Power octets t (record { dev = λ f k. refl; net = refl; others = refl }) w hw
  net-step (Key b set) octets t w hw = net-kept (Key b set) octets t (record { dev = λ f k. refl; net = refl; others = refl }) w hw
  net-step (Update b regtype net code uplink sessions) octets t w hw = net-set (Update b regtype net code uplink sessions) octets t net refl refl w hw
  net-step Import octets t w hw = net-kept Import octets t (record { dev = λ f k. refl; net = refl; others = refl }) w hw
  net-step Unknown octets t w hw = net-kept Unknown octets t (record { dev = λ f k. refl; net = refl; others = refl }) w hw
