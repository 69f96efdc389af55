-- An event without work: its plan goes by the marks alone, has no work, and leaves the lists' counts; so nothing but the numbers changes. Assumes nothing.
use Prim.Native.Nat.{ℕ}
use mathlib.Core.Path.{◌≡◌, refl, sym}
use mathlib.Core.Bool.{Bool, true, false, cond, false≢true}
use mathlib.Core.List.{List}
use Rattle.std.specs.Prelude.{None}
use lib.Dec.{eqb}
use Rattle.entries.specs.declared.Deed.{Deed}
use Rattle.entries.specs.declared.Deed.TheVariants as deed
use Rattle.entries.specs.declared.Seen.{Seen}
use Rattle.entries.specs.Entries.{entries_after, marks_after, ranks_after, with_file, is_import}
use Rattle.areas.specs.Areas.{list_after, count_after}
use Rattle.record.specs.declared.Access.{Access}
use Rattle.record.specs.declared.Answer.{Answer}
use Rattle.record.specs.declared.Device.{Device}
use Rattle.record.specs.declared.Hot.{Hot}
use Rattle.record.specs.declared.Record.{Record}
use Rattle.record.specs.Answers.{is_taken}
use Rattle.record.specs.Sides.{hot_of}
use Rattle.turns.specs.Timers.{is_device_timer}
use Rattle.checks.specs.Answers.{start_answer, update_answer, place_answer, is_free}
use Rattle.effects.specs.Effects.{Effect, idle, ticked, scheduled, start_effect, update_effect, key_effect, clock_effect, t3512_effect, device_effect, timer_effect}
use Rattle.rules.specs.declared.Event.{Event}
use Rattle.rules.specs.declared.Event.TheVariants.{Card, Start, Message, Timer, Power, Key, Update, Import, Unknown}
use Rattle.rules.specs.declared.Plan.{Plan}
use Rattle.rules.specs.Plan.{access_in, answer_of, effect_of, hot_after, taken_plan, refused_plan, decided_by, plan_of, site_of, deed_on, deed_of}
use Rattle.rules.specs.Sides.{has_work, numbers_plan, work_plan}
use Rattle.events.specs.Alike.{Alike}
use Rattle.events.specs.Parts.{listed_of, table_after, with_counts, done_of, carried_out, kept_after, guti_after, equivalents_after, suci_after}
use Rattle.events.specs.Step.{with_hot, together, joined_of}

-- only the marks are looked at, and no octets
pub by-marks : (h : Hot) (e : Event) (s t : Seen) (listed : Bool) (octets : List ℕ) → has_work e ≡ false → Alike s t → numbers_plan h e s listed ≡ plan_of h e t listed octets
unfolding numbers_plan has_work plan_of answer_of effect_of start_answer update_answer place_answer is_free
by-marks h (Card edition home) s t listed octets i a = absurd (false≢true (sym i))
by-marks h (Start w manual net code) s t listed octets i a = rw (a.0, a.1)
by-marks h (Message w protected draws) s t listed octets i a = absurd (false≢true (sym i))
by-marks h (Timer number w) s t listed octets i a = rw i
by-marks h Power s t listed octets i a = absurd (false≢true (sym i))
by-marks h (Key w set) s t listed octets i a = refl
by-marks h (Update w regtype net code uplink sessions) s t listed octets i a = rw (a.0, a.1)
by-marks h Import s t listed octets i a = absurd (false≢true (sym i))
by-marks h Unknown s t listed octets i a = refl

-- an event that may have work looks no area up
no-site : (e : Event) → has_work e ≡ true → site_of e ≡ None
unfolding has_work site_of
no-site (Card edition home) i = refl
no-site (Start w manual net code) i = absurd (false≢true i)
no-site (Message w protected draws) i = refl
no-site (Timer number w) i = refl
no-site Power i = refl
no-site (Key w set) i = absurd (false≢true i)
no-site (Update w regtype net code uplink sessions) i = absurd (false≢true i)
no-site Import i = refl
no-site Unknown i = absurd (false≢true i)

-- so with work, the plan is the event's
pub work-plan : (h : Hot) (e : Event) (s : Seen) (octets roaming regional : List ℕ) → has_work e ≡ true → work_plan h e s octets ≡ plan_of h e s (listed_of (site_of e) h roaming regional) octets
unfolding work_plan listed_of
work-plan h e s octets roaming regional i = rw (i, no-site e i)

-- no work, and the lists' counts of these numbers
record Calm (h : Hot) (p : Plan) : Type 0 where
  idles : p.work ≡ idle
  roams : p.hot.dev.roaming ≡ h.dev.roaming
  regions : p.hot.dev.regional ≡ h.dev.regional

dev-of : (d : Device) (w : ℕ) (a o : Access) (b : Bool) → eqb w 0 ≡ b → (hot_of d w a o).dev ≡ d
unfolding hot_of
dev-of d w a o true i = rw i
dev-of d w a o false i = rw i

-- a taken one, whose effect has none of it
taken-calm : (h : Hot) (w : ℕ) (x : Effect) → x.work ≡ idle → x.dev.roaming ≡ h.dev.roaming → x.dev.regional ≡ h.dev.regional → Calm h (taken_plan h w x)
unfolding taken_plan hot_after ticked
taken-calm h w x i r g = record {
  idles = i;
  roams = rw (dev-of _ w _ _ (eqb w 0) refl) r;
  regions = rw (dev-of _ w _ _ (eqb w 0) refl) g;
}

decided : (n : Answer) (h : Hot) (w : ℕ) (x : Effect) → Calm h (taken_plan h w x) → Calm h (decided_by n h w x)
unfolding decided_by refused_plan
decided n h w x t = go (is_taken n) refl
  where
    go : (b : Bool) → is_taken n ≡ b → Calm h (cond (is_taken n) (taken_plan h w x) (refused_plan h w n))
    go true q = rw q t
    go false q = rw q (record { idles = refl; roams = refl; regions = refl })

calm : (h : Hot) (e : Event) (s : Seen) (listed : Bool) (octets : List ℕ) → has_work e ≡ false → Calm h (plan_of h e s listed octets)
unfolding has_work plan_of effect_of access_in start_effect update_effect key_effect timer_effect device_effect clock_effect t3512_effect scheduled
calm h (Card edition home) s listed octets i = absurd (false≢true (sym i))
calm h (Start w manual net code) s listed octets i = decided _ h w (start_effect h w net code) (taken-calm h w (start_effect h w net code) refl refl refl)
calm h (Message w protected draws) s listed octets i = absurd (false≢true (sym i))
calm h (Timer number w) s listed octets i = decided _ h w (timer_effect h number w) (go (is_device_timer number) refl)
  where
    go : (b : Bool) → is_device_timer number ≡ b → Calm h (taken_plan h w (timer_effect h number w))
    go true q = rw (q, i) (taken-calm h w (t3512_effect h w) refl refl refl)
    go false q = rw q (taken-calm h w (clock_effect h number w) refl refl refl)
calm h Power s listed octets i = absurd (false≢true (sym i))
calm h (Key w set) s listed octets i = decided _ h w (key_effect h w set) (taken-calm h w (key_effect h w set) refl refl refl)
calm h (Update w regtype net code uplink sessions) s listed octets i =
    decided _ h w (update_effect h w regtype net code uplink sessions) (taken-calm h w (update_effect h w regtype net code uplink sessions) refl refl refl)
calm h Import s listed octets i = absurd (false≢true (sym i))
calm h Unknown s listed octets i = decided _ h 0 (effect_of h Unknown s octets) (taken-calm h 0 (effect_of h Unknown s octets) refl refl refl)

either : (b : Bool) → cond {A = Deed} b deed.Nothing deed.Nothing ≡ deed.Nothing
either true = refl
either false = refl

-- the numbers alone change
carried : (r : Record) (p : Plan) (octets : List ℕ) → Calm r.hot p → with_hot p.hot r ≡ (joined_of r octets (carried_out p octets r.hot r.e0 r.e1 r.roaming r.regional)).next
unfolding joined_of together carried_out done_of table_after deed_of deed_on entries_after marks_after ranks_after with_file is_import list_after count_after with_counts kept_after guti_after equivalents_after suci_after
carried r p octets k = rw (k.idles, either (eqb p.access 0), either (eqb p.access 1), ← k.roams, ← k.regions)

pub quiet : (r : Record) (e : Event) (octets : List ℕ) (s : Seen) (listed : Bool) → has_work e ≡ false
    → with_hot (plan_of r.hot e s listed octets).hot r ≡ (joined_of r octets (carried_out (plan_of r.hot e s listed octets) octets r.hot r.e0 r.e1 r.roaming r.regional)).next
quiet r e octets s listed i = carried r (plan_of r.hot e s listed octets) octets (calm r.hot e s listed octets i)
