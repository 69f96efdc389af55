-- What an event comes to: its answer; if taken its effect, else nothing changed. Assumes nothing.
use Rattle.std.specs.Prelude.{ℕ, ◌<◌, ◌≡◌, Bool, true, false, cond, List, length, eqb, Option, Some, None, Ok, Err}
use Rattle.record.specs.Answers.{is_taken}
use Rattle.record.specs.declared.Hot.{Hot}
use Rattle.record.specs.declared.Answer.{Answer}
use Rattle.record.specs.declared.Answer.TheVariants as answer
use Rattle.entries.specs.declared.Seen.{Seen}
use Rattle.entries.specs.declared.Deed.{Deed}
use Rattle.messages.specs.declared.Message.TheVariants as message
use Rattle.messages.specs.Message.{Reading, reading_of}
use Rattle.turns.specs.declared.Draws.{Draws}
use Rattle.turns.specs.declared.Told.TheVariants.{Left}
use Rattle.turns.specs.declared.Clocks.{Clocks}
use Rattle.turns.specs.Timers.{flag_after, told_of, clocks_of, clocked}
use Rattle.turns.specs.Turns.{still}
use Rattle.rules.specs.declared.Event.{Event}
use Rattle.rules.specs.declared.Event.TheVariants.{Card, Start, Message, Timer, Power, Key, Update, Import, Unknown}
use Rattle.rules.specs.declared.Reply.{Reply}
use Rattle.rules.specs.declared.Ask.{Ask}
use Rattle.rules.specs.declared.Ask.TheVariants as ask
use Rattle.rules.specs.declared.Area.{Area}
use Rattle.rules.specs.declared.Plan.{Plan}
use Rattle.record.specs.Sides.{access_of, hot_of}
use Rattle.checks.specs.Answers.{start_answer, message_answer, timer_answer, key_answer, update_answer, card_answer, import_answer, row_now}
use Rattle.effects.specs.Effects.{Effect, ticked, idle, plain, card_effect, start_effect, key_effect, update_effect, accept_effect, timer_effect, power_effect, reject_effect, import_effect}

-- a message is read once, for its answer and its effect: m is what was read of its octets; of another event nothing is read
abbrev pub Read : Event → List ℕ → Reading → Type 0
Read (Card edition home) octets m = Unit {0}
Read (Start w manual net code) octets m = Unit {0}
Read (Message w protected draws) octets m = m ≡ reading_of octets
Read (Timer number w) octets m = Unit {0}
Read Power octets m = Unit {0}
Read (Key w set) octets m = Unit {0}
Read (Update w regtype net code uplink sessions) octets m = Unit {0}
Read Import octets m = Unit {0}
Read Unknown octets m = Unit {0}

-- the numbers that a taken event keeps in an octet: a card's SUCI's length, the entries that are held with an import's
abbrev pub Fits : Event → ℕ → List ℕ → Type 0
Fits (Card edition home) at octets = length octets < 256
Fits (Start w manual net code) at octets = Unit {0}
Fits (Message w protected draws) at octets = Unit {0}
Fits (Timer number w) at octets = Unit {0}
Fits Power at octets = Unit {0}
Fits (Key w set) at octets = Unit {0}
Fits (Update w regtype net code uplink sessions) at octets = Unit {0}
Fits Import at octets = at < 256
Fits Unknown at octets = Unit {0}

-- the network that is looked up before an event is decided: a start's or an update's, or the pending one of a message's access; or an import's file
unfoldable pub ask_of : Hot → Event → Ask
ask_of h (Card edition home) = ask.Nothing
ask_of h (Start w manual net code) = ask.Network w net
ask_of h (Message w protected draws) = ask.Network w (access_of h w).net
ask_of h (Timer number w) = ask.Nothing
ask_of h Power = ask.Nothing
ask_of h (Key w set) = ask.Nothing
ask_of h (Update w regtype net code uplink sessions) = ask.Network w net
ask_of h Import = ask.File
ask_of h Unknown = ask.Nothing

-- "area listed (access 0)": the area that is looked up, that of a start or an update over access 0
unfoldable pub site_at : ℕ → ℕ → ℕ → Option Area
site_at w net code = cond (eqb w 0) (Some (record { net = net; code = code })) None

unfoldable pub site_of : Event → Option Area
site_of (Card edition home) = None
site_of (Start w manual net code) = site_at w net code
site_of (Message w protected draws) = None
site_of (Timer number w) = None
site_of Power = None
site_of (Key w set) = None
site_of (Update w regtype net code uplink sessions) = site_at w net code
site_of Import = None
site_of Unknown = None

-- the event's own access; an import's is 0; an event of both does the same on each, and goes as access 0's
unfoldable pub access_in : Event → ℕ
access_in (Card edition home) = 0
access_in (Start w manual net code) = w
access_in (Message w protected draws) = w
access_in (Timer number w) = w
access_in Power = 0
access_in (Key w set) = w
access_in (Update w regtype net code uplink sessions) = w
access_in Import = 0
access_in Unknown = 0

-- the answer; an event that is none of these answers 1
unfoldable pub answer_of : Hot → Event → Seen → Bool → List ℕ → Answer
answer_of h (Card edition home) s listed octets = card_answer edition home octets
answer_of h (Start w manual net code) s listed octets = start_answer h w manual net code s listed
answer_of h (Message w protected draws) s listed octets = message_answer h w protected draws (reading_of octets) s
answer_of h (Timer number w) s listed octets = timer_answer h number w
answer_of h Power s listed octets = answer.Taken
answer_of h (Key w set) s listed octets = key_answer h w set
answer_of h (Update w regtype net code uplink sessions) s listed octets = update_answer h w regtype net code uplink sessions s listed
answer_of h Import s listed octets = import_answer s
answer_of h Unknown s listed octets = answer.Range

-- what a taken message does
unfoldable pub message_effect : Hot → ℕ → ℕ → Draws → Reading → Seen → Effect
message_effect h w protected draws (Ok (message.Accept g)) s = accept_effect h w g s
message_effect h w protected draws (Ok (message.Reject g)) s = reject_effect h w protected draws s g (row_now h w protected g)
message_effect h w protected draws (Err m) s = plain h w (still (access_of h w)) false

-- what a taken event does
unfoldable pub effect_of : Hot → Event → Seen → List ℕ → Effect
effect_of h (Card edition home) s octets = card_effect h edition home (length octets)
effect_of h (Start w manual net code) s octets = start_effect h w net code
effect_of h (Message w protected draws) s octets = message_effect h w protected draws (reading_of octets) s
effect_of h (Timer number w) s octets = timer_effect h number w
effect_of h Power s octets = power_effect h
effect_of h (Key w set) s octets = key_effect h w set
effect_of h (Update w regtype net code uplink sessions) s octets = update_effect h w regtype net code uplink sessions
effect_of h Import s octets = import_effect h s.at
effect_of h Unknown s octets = plain h 0 (still (access_of h 0)) false

-- the numbers after it
unfoldable pub hot_after : Hot → ℕ → Effect → Hot
hot_after h w e =
    hot_of (ticked (flag_after e.t3247 h.dev.t3247) (flag_after e.t3512 h.dev.t3512) e.dev) w
    (clocked e.mine.orders e.mine.access)
    (clocked e.theirs.orders e.theirs.access)

abbrev pub asked_on : Bool → ℕ → Option ℕ
asked_on wanted w = cond wanted (Some w) None

-- what is told of a taken event: the timers by how they ran before it, and a restart of its access
unfoldable pub taken_reply : Hot → ℕ → Effect → Reply
taken_reply h w e = record {
  answer = answer.Taken;
  c0 = clocks_of (cond (eqb w 0) e.mine.orders e.theirs.orders) h.a0;
  c1 = clocks_of (cond (eqb w 0) e.theirs.orders e.mine.orders) h.a1;
  t3247 = told_of e.t3247 h.dev.t3247;
  t3512 = told_of e.t3512 h.dev.t3512;
  restart = asked_on e.restart w;
  leave = None;
  update = None;
}

abbrev pub all_left : Clocks
all_left = record { t3510 = Left; t3511 = Left; t3502 = Left; t3346 = Left }

unfoldable pub is_ignoring : Answer → Bool
is_ignoring answer.Taken = false
is_ignoring answer.Range = false
is_ignoring answer.Ignored = true
is_ignoring (answer.Malformed f at) = false
is_ignoring answer.Full = false
is_ignoring answer.StateZero = false
is_ignoring answer.State = false
is_ignoring answer.Same = false
is_ignoring answer.Listed = false
is_ignoring answer.Area = false
is_ignoring answer.Unprotected = false
is_ignoring answer.Idle = false
is_ignoring answer.Short = false
is_ignoring answer.Waiting = false

-- "A refusal names no timer, and no request but those of answer 2": leave the cell or access point, update over the other access
unfoldable pub refused_reply : Answer → ℕ → Reply
refused_reply n w = record {
  answer = n;
  c0 = all_left;
  c1 = all_left;
  t3247 = Left;
  t3512 = Left;
  restart = None;
  leave = asked_on (is_ignoring n) w;
  update = asked_on (is_ignoring n) (cond (eqb w 0) 1 0);
}

unfoldable pub taken_plan : Hot → ℕ → Effect → Plan
taken_plan h w e = record { reply = taken_reply h w e; hot = hot_after h w e; work = e.work; access = w }

-- all but 0 change nothing
unfoldable pub refused_plan : Hot → ℕ → Answer → Plan
refused_plan h w n = record { reply = refused_reply n w; hot = h; work = idle; access = w }

unfoldable pub decided_by : Answer → Hot → ℕ → Effect → Plan
decided_by n h w e = cond (is_taken n) (taken_plan h w e) (refused_plan h w n)

unfoldable pub plan_of : Hot → Event → Seen → Bool → List ℕ → Plan
plan_of h e s listed octets = decided_by (answer_of h e s listed octets) h (access_in e) (effect_of h e s octets)

-- the deed on the entries of access me
unfoldable pub deed_on : ℕ → Deed → Deed → ℕ → Deed
deed_on w mine theirs me = cond (eqb w me) mine theirs

unfoldable pub deed_of : Plan → ℕ → Deed
deed_of p me = deed_on p.access p.work.mine p.work.theirs me
