-- The loop over octets, with nothing left to assume of its lines: a record that is valid has short lines, so they fit their array. Assumes nothing.
use Prim.Native.Nat.{ℕ, zero, suc, ◌+◌, ◌≤◌, ◌<◌}
use mathlib.Core.Path.{◌≡◌, refl, ap, ◌∙◌}
use mathlib.Core.Bool.{Bool, true, false, cond}
use mathlib.Core.List.{List, [], ◌∷◌, ◌++◌}
use native.Mathlib.Omega.{arith}
use borrow.Author.Tests.{leb-true}
use lib.Dec.{eqb}
use lib.ListN.{length, drop, length-append}
use Rattle.octets.specs.declared.Fault.TheVariants.{Cut, First, Second, Kind, Past, Strange}
use Rattle.record.specs.Answers.{number_of}
use Rattle.record.specs.New.{made_of, may_make}
use Rattle.record.specs.declared.Answer.{Answer}
use Rattle.record.specs.declared.Answer.TheVariants.{Taken, Range, Ignored, Malformed, Full, StateZero, State, Same, Listed, Area, Unprotected, Idle, Short, Waiting}
use Rattle.record.specs.declared.Record.{Record}
use Rattle.ranges.specs.Valid.{valid_of}
use Rattle.ranges.proofs.MadeValid.{made-valid}
use Rattle.rules.specs.declared.Event.{Event}
use Rattle.events.specs.declared.Outcome.{Outcome}
use Rattle.events.specs.Step.{advance_of}
use Rattle.eventlog.specs.First.{first_record}
use Rattle.eventlog.specs.Lines.{decimal, field_of, line_of}
use Rattle.eventlog.specs.Log.{event_in, octets_in, log_of}
use Rattle.eventlog.specs.Loop.{Carried, lap_of, drained, left_of, fed, piece_of, later_of, loop_of, log_read, start_of, Fits}
use Rattle.eventlog.specs.Replay.{without_capabilities, stripped, line_after, text_of, text_by_steps, Run, run_at, Stopped, head_of, halt_of, lined, passed, content_of, drain_of}
use Rattle.eventlog.proofs.Without.{strips}
use Rattle.eventlog.proofs.Decimal.{short-digits}
use Rattle.eventlog.proofs.Induction.{either, head-kept, no_stop}
use Rattle.eventlog.proofs.Loop.{all-printed}
use Rattle.eventlog.proofs.Pieces.{kept-length}
use Rattle.validity.specs.Run.{Octets}
use Rattle.validity.specs.Sized.{Sized}
use Rattle.validity.proofs.Kept.{valid-kept}
use Rattle.validity.proofs.Messages.{drop-octets}
use Rattle.validity.proofs.Sizes.{advance-sized, made-sized}
use Rattle.validity.proofs.Valid.{valid-good}
use Rattle.history.proofs.Answered.{answered}
use Rattle.history.proofs.Replayed.{take-small, beside-small, log-small}

numbered : (a : Answer) → number_of a < 1000
unfolding number_of
numbered Taken = omega arith
numbered Range = omega arith
numbered Ignored = omega arith
numbered (Malformed Cut at) = omega arith
numbered (Malformed First at) = omega arith
numbered (Malformed Second at) = omega arith
numbered (Malformed Kind at) = omega arith
numbered (Malformed Past at) = omega arith
numbered (Malformed Strange at) = omega arith
numbered Full = omega arith
numbered StateZero = omega arith
numbered State = omega arith
numbered Same = omega arith
numbered Listed = omega arith
numbered Area = omega arith
numbered Unprotected = omega arith
numbered Idle = omega arith
numbered Short = omega arith
numbered Waiting = omega arith

-- a record as the replay holds it, of one that is valid
record Fine (h : Record) : Type 0 where
  whole : Record
  same : h ≡ stripped whole
  sized : Sized whole
  valid : valid_of whole ≡ true

fine-next : (h : Record) (e : Event) (octets : List ℕ) → Octets octets → Fine h → Fine (advance_of h e octets).next
fine-next h e octets o f = record {
  whole = (advance_of f.whole e octets).next;
  same = ap (λ (x : Record). (advance_of x e octets).next) f.same ∙ strips f.whole e octets;
  sized = advance-sized f.whole e octets f.sized;
  valid = valid-kept f.whole e octets f.sized o f.valid;
}

fine-states : (h : Record) → Fine h → (h.hot.a0.state ≤ 6) × (h.hot.a1.state ≤ 6) × (h.hot.dev.t3247 ≤ 1)
unfolding stripped without_capabilities
fine-states h f =
    let g = valid-good f.whole f.valid in
    rw f.same (leb-true _ _ g.half0.fit.mode.0, leb-true _ _ g.half1.fit.mode.0, leb-true _ _ g.fair.t3247)

long-field : (n b : ℕ) → n < 18446744073709551616 → length (field_of n b) ≤ 21
unfolding field_of
long-field n b h = omega (arith, short-digits 19 n (omega arith), length-append (decimal n) (b ∷ []))

short-field : (n b : ℕ) → n < 1000 → length (field_of n b) ≤ 4
unfolding field_of
short-field n b h = omega (arith, short-digits 2 n h, length-append (decimal n) (b ∷ []))

-- a line has 64 octets at most
short-line : (n : ℕ) (o : Outcome) → n < 18446744073709551616 → Fine o.next → length (line_after n o) ≤ 64
unfolding line_after line_of
short-line n o h f =
    let s = fine-states o.next f in
    simp length-append
    (omega (arith, long-field n 32 h, short-field (number_of o.reply.answer) 32 (numbered o.reply.answer), short-field o.next.hot.a0.state 32 (omega arith), short-field o.next.hot.a1.state 32 (omega arith), short-field o.next.hot.dev.t3247 10 (omega arith)))

-- where nothing stops there is room for a line, and a number
open-room : (stop put number : ℕ) → halt_of stop put number ≤ 0 → (put ≤ 65472) × (number < 18446744073709551615)
unfolding halt_of
open-room stop put number =
    either (λ x. x ≤ 0 → (put ≤ 65472) × (number < 18446744073709551615)) 0 stop _ _ (λ p e. absurd (omega arith))
    (λ p. either (λ x. x ≤ 0 → (put ≤ 65472) × (number < 18446744073709551615)) 65472 put _ _ (λ q e. absurd (omega arith))
    (λ q. either (λ x. x ≤ 0 → (put ≤ 65472) × (number < 18446744073709551615)) number 18446744073709551615 _ _ (λ r e. (q, r)) (λ r e. absurd (omega arith))))

passed-put : (u : Run) (c : List ℕ) → Octets c → Fine u.held → u.put ≤ 65472 → u.number < 18446744073709551615 → ((passed u c).put ≤ 65536) × Fine (passed u c).held
unfolding passed lined
passed-put u c o f p n =
    let g = fine-next u.held (event_in c) (octets_in c) (beside-small c o) f in
    (omega (arith, short-line (u.number + 1) (advance_of u.held (event_in c) (octets_in c)) (omega arith) g), g)

-- a piece's lines fit, and what it leaves is such a record
fits-piece : (n : ℕ) (u : Run) (s : List ℕ) (at begun : ℕ) → Octets s → Fine u.held → at ≤ length s → u.put ≤ 65536 → ((drain_of n u s at begun).run.put ≤ 65536) × Fine (drain_of n u s at begun).run.held
unfolding drain_of
fits-piece zero u s at begun o f l p = (p, f)
fits-piece (suc n) u s at begun o f l p =
    let k = head-kept s at begun l in
    either (λ (d : Stopped). (d.run.put ≤ 65536) × Fine d.run.held) 0 (halt_of (head_of s at begun).stop u.put u.number) _ _ (λ e. (p, f))
    (λ e.
    let z : (head_of s at begun).stop ≡ 0 = no_stop _ u.put u.number e in
    let w : (head_of s at begun).at ≤ length s = k.within in
    let m = k.room z in
    let r = open-room (head_of s at begun).stop u.put u.number e in
    let q = passed-put u (content_of s (head_of s at begun)) (λ j. take-small (head_of s at begun).len j (drop (head_of s at begun).at s) (drop-octets (head_of s at begun).at s o)) f r.0 r.1 in
    fits-piece n (passed u (content_of s (head_of s at begun))) s ((head_of s at begun).at + (head_of s at begun).len) 0 o q.1 (omega arith) q.0)

-- all that is read is octets
abbrev pub Pieces : List (List ℕ) → Type 0
Pieces [] = Unit {0}
Pieces (p ∷ ps) = Octets p × Pieces ps

append-octets : (a b : List ℕ) → Octets a → Octets b → Octets (a ++ b)
append-octets [] b x y k = y k
append-octets (n ∷ a) b x y zero = x 0
append-octets (n ∷ a) b x y (suc k) = append-octets a b (λ j. x (suc j)) y k

read-octets : (stop : ℕ) (ps : List (List ℕ)) → Pieces ps → Octets (piece_of stop ps) × Pieces (later_of stop ps)
unfolding piece_of later_of
read-octets stop [] x = (λ k. omega arith, tt)
read-octets stop (p ∷ ps) x = by (eqb stop 1)
  where
    by : (t : Bool) → Octets (cond t p []) × Pieces (cond t ps (p ∷ ps))
    by true = x
    by false = (λ k. omega arith, x)

-- what a lap starts from
record Sound (c : Carried) : Type 0 where
  fine : Fine c.held
  out : length c.out ≡ 65536
  rest : Octets c.rest

lap-fits : (c : Carried) → Sound c → ((lap_of c).put ≤ length c.out) × Sound (lap_of c).next
unfolding lap_of left_of drained
lap-fits c s =
    let p = fits-piece 65536 (run_at c.held c.number c.out 0) c.rest 0 c.begun s.rest s.fine (omega arith) (omega arith) in (
      rw s.out p.0,
      record {
        fine = p.1;
        out = kept-length 65536 (run_at c.held c.number c.out 0) c.rest 0 c.begun (omega arith) ∙ s.out;
        rest = drop-octets (drained c).at c.rest s.rest;
      },
    )

fed-sound : (c : Carried) (p : List ℕ) → Sound c → Octets p → Sound (fed c p)
unfolding fed
fed-sound c p s o = record { fine = s.fine; out = s.out; rest = append-octets c.rest p s.rest o }

fits : (k : ℕ) (c : Carried) (ps : List (List ℕ)) → Sound c → Pieces ps → Fits k c ps
unfolding Fits
fits zero c ps s o = tt
fits (suc k) c ps s o =
    let t = lap-fits c s in
    let r = read-octets (lap_of c).stop ps o in
    (t.0, fits k (fed (lap_of c).next (piece_of (lap_of c).stop ps)) (later_of (lap_of c).stop ps) (fed-sound (lap_of c).next (piece_of (lap_of c).stop ps) t.1 r.0) r.1)

first-sized : Sized first_record
unfolding first_record made_of may_make
first-sized = made-sized 3 3 3 (0x00 ∷ []) (0xF0 ∷ 0xF0 ∷ [])

first-valid : valid_of first_record ≡ true
unfolding first_record made_of may_make
first-valid = made-valid 3 3 3 (0x00 ∷ []) (0xF0 ∷ 0xF0 ∷ [])

first_fine : Fine (stripped first_record)
first_fine = record { whole = first_record; same = refl; sized = first-sized; valid = first-valid }

-- However the reads cut a log of fewer than 2^63 octets into pieces, the program prints the text of it.
pub whole-log : (out : List ℕ) (ps : List (List ℕ)) → length out ≡ 65536 → Pieces ps → length (log_read ps) < 9223372036854775807
    → loop_of 18446744073709551614 (start_of out) ps ≡ text_of 0 first_record (log_of 0 0 (log_read ps))
whole-log out ps l o h =
    all-printed out ps (fits 18446744073709551614 (start_of out) ps (record { fine = first_fine; out = l; rest = λ k. omega arith }) o) (omega arith)

log-octets : (ps : List (List ℕ)) → Pieces ps → Octets (log_read ps)
unfolding log_read
log-octets [] x = λ k. omega arith
log-octets ([] ∷ ps) x = λ k. omega arith
log-octets ((o ∷ p) ∷ ps) x = append-octets (o ∷ p) (log_read ps) x.0 (log-octets ps x.1)

-- And that is what the step answers, event by event.
pub whole-answers : (out : List ℕ) (ps : List (List ℕ)) → length out ≡ 65536 → Pieces ps → length (log_read ps) < 9223372036854775807
    → loop_of 18446744073709551614 (start_of out) ps ≡ text_by_steps 0 first_record (log_of 0 0 (log_read ps))
whole-answers out ps l o h =
    whole-log out ps l o h
    ∙ answered 0 first_record (log_of 0 0 (log_read ps)) (log-small 0 0 (log_read ps) (log-octets ps o)) first-sized first-valid
