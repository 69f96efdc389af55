-- What is told of an event, in document 01's words: of a taken reject by its row's text, of a refusal, and of a timer. Assumes nothing.
use Rattle.std.specs.Prelude.{Option, Some, None, ℕ, ◌≡◌, false, cond, ltb, eqb}
use Rattle.record.specs.declared.Access.{Access}
use Rattle.record.specs.declared.Answer.TheVariants as answer
use Rattle.record.specs.declared.Record.{Record}
use Rattle.record.specs.Answers.{number_of}
use Rattle.messages.specs.declared.Reject.{Reject}
use Rattle.turns.specs.declared.Clocks.{Clocks}
use Rattle.turns.specs.declared.Draws.{Draws}
use Rattle.turns.specs.declared.Orders.{Orders}
use Rattle.turns.specs.declared.Told.{Told}
use Rattle.turns.specs.declared.Told.TheVariants.{Left, Stopped, Started}
use Rattle.turns.specs.Timers.{told_of, clocks_of, retrying, resting}
use Rattle.turns.specs.Words.{Text, says, as_t3510_out, counter_after, orders_after}
use Rattle.turns.specs.Rejects.{reject_t3247, t3346_time, row_text}
use Rattle.checks.specs.Answers.{row_now}
use Rattle.rules.specs.declared.Reply.{Reply}
use Rattle.rules.specs.Plan.{all_left}

-- A taken reject.

-- what a row's text orders of the receiving access's timers; as T3510 out: "Below 5, T3511 (10 s) starts. At 5, .. T3502 starts."
unfoldable pub orders_by : Text → ℕ → ℕ → ℕ → Access → Orders
orders_by (says t) w cause time a = orders_after t.timers time
orders_by (as_t3510_out n) w cause time a = cond (ltb (counter_after n w cause 5 a.attempts) 5) retrying (resting a.t3502length)

-- what is told of access me's timers: by those orders and how they ran if it received the reject, else that they are left
abbrev told_on : Text → ℕ → ℕ → ℕ → ℕ → Access → Clocks
told_on t w me cause time a = cond (eqb w me) (clocks_of (orders_by t w cause time a) a) all_left

unfoldable pub reject_reply : Record → ℕ → ℕ → Draws → Reject → Reply
reject_reply r w protected draws g = record {
  answer = answer.Taken;
  c0 = told_on (row_text (row_now r.hot w protected g)) w 0 g.cause (t3346_time protected g.t3346length draws.t3346) r.hot.a0;
  c1 = told_on (row_text (row_now r.hot w protected g)) w 1 g.cause (t3346_time protected g.t3346length draws.t3346) r.hot.a1;
  t3247 = told_of (reject_t3247 r.hot.dev.t3247 protected g.cause draws.t3247) r.hot.dev.t3247;
  t3512 = Left;
  restart = None;
  leave = None;
  update = None;
}

-- "A refusal names no timer, and no request but those of answer 2": leave the cell or access point of w, update over the other access.
abbrev on_two : Reply → ℕ → Option ℕ
on_two p w = cond (eqb (number_of p.answer) 2) (Some w) None

pub record Silent (w : ℕ) (p : Reply) : Type 0 where
  pub c0 : p.c0 ≡ all_left
  pub c1 : p.c1 ≡ all_left
  pub t3247 : p.t3247 ≡ Left
  pub t3512 : p.t3512 ≡ Left
  pub restart : p.restart ≡ None
  pub leave : p.leave ≡ on_two p w
  pub update : p.update ≡ on_two p (cond (eqb w 0) 1 0)

-- "left, stopped (only if running) or started": whether a timer ran before, and whether it runs after
abbrev pub Tells : Told → ℕ → ℕ → Type 0
Tells Left before after = after ≡ before
Tells Stopped before after = (eqb before 0 ≡ false) × (after ≡ 0)
Tells (Started s) before after = after ≡ 1

-- an access's four timers
pub record TellsAll (c : Clocks) (before after : Access) : Type 0 where
  pub t3510 : Tells c.t3510 before.t3510 after.t3510
  pub t3511 : Tells c.t3511 before.t3511 after.t3511
  pub t3502 : Tells c.t3502 before.t3502 after.t3502
  pub t3346 : Tells c.t3346 before.t3346 after.t3346

-- all ten
pub record TellsTrue (p : Reply) (before after : Record) : Type 0 where
  pub a0 : TellsAll p.c0 before.hot.a0 after.hot.a0
  pub a1 : TellsAll p.c1 before.hot.a1 after.hot.a1
  pub t3247 : Tells p.t3247 before.hot.dev.t3247 after.hot.dev.t3247
  pub t3512 : Tells p.t3512 before.hot.dev.t3512 after.hot.dev.t3512
