-- What runs ends in the record of the history: the replay's record after a log is that of the run over the log's events, and so are its counters and marks.
-- The replay tests nothing; from a new record every record is valid, so the step is the advance. Assumes nothing.
use Prim.Native.Nat.{ℕ, zero, suc, ◌+◌, ◌*◌, ◌<◌}
use mathlib.Core.Path.{◌≡◌, refl, ap, ◌∙◌}
use mathlib.Core.Bool.{Bool, true, false, cond}
use native.Mathlib.Omega.{arith}
use lib.Dec.{ltb, eqb}
use lib.ListN.{length, get_or, take, drop}
use mathlib.Core.List.{List, [], ◌∷◌}
use Rattle.record.specs.declared.Record.{Record}
use Rattle.ranges.specs.Valid.{valid_of}
use Rattle.record.specs.New.{made_of, may_make}
use Rattle.eventlog.specs.Log.{Log, over, bad, entry, pair_at, beside_of, octets_in, event_in, record_of, log_of}
use Rattle.eventlog.specs.Held.{leads_to}
use Rattle.eventlog.specs.Replay.{without_capabilities, stripped}
use Rattle.eventlog.proofs.Without.{strips}
use Rattle.validity.specs.Sized.{Sized}
use Rattle.validity.specs.Run.{Octets, AllOctets, run_of}
use Rattle.validity.proofs.Messages.{drop-octets}
use Rattle.validity.proofs.Kept.{step-advances, step-valid}
use Rattle.validity.proofs.Sizes.{step-sized, made-sized}
use Rattle.ranges.proofs.MadeValid.{made-valid}
use Rattle.history.specs.Cell.{cell_of, entries_in}
use Rattle.history.specs.History.{said_of}
use Rattle.history.specs.Run.{answers_of}
use Rattle.history.specs.Replayed.{heard_in}
use Rattle.history.proofs.Demand3.{demand3-made}

pub replayed : (l : Log) (r : Record) → AllOctets (heard_in l) → Sized r → valid_of r ≡ true → leads_to (stripped r) l ≡ stripped (run_of r (heard_in l))
unfolding leads_to heard_in run_of
replayed over r o s v = refl
replayed (bad at) r o s v = refl
replayed (entry e octets l) r o s v =
    rw (strips r e octets, ← ap (λ x. x.next) (step-advances r e octets v))
    (replayed l _ o.1 (step-sized r e octets s) (step-valid r e octets s o.0 v))

-- the octets of a log's events are octets of the log

pub take-small : (n k : ℕ) (s : List ℕ) → Octets s → get_or (take n s) k 0 < 256
take-small zero k s o = omega arith
take-small (suc n) k [] o = omega arith
take-small (suc n) zero (x ∷ s) o = o 0
take-small (suc n) (suc k) (x ∷ s) o = take-small n k s (λ j. o (suc j))

either-small : (t : Bool) (x y : List ℕ) → Octets x → Octets y → Octets (cond t x y)
either-small true x y a b = a
either-small false x y a b = b

pub beside-small : (s : List ℕ) → Octets s → Octets (octets_in s)
unfolding beside_of
beside-small s o =
    either-small (eqb (pair_at s 0) 1) _ _ (drop-octets 3 (drop 2 s) (drop-octets 2 s o))
    (either-small (eqb (pair_at s 0) 3) _ _ (drop-octets 4 (drop 2 s) (drop-octets 2 s o))
    (either-small (eqb (pair_at s 0) 8) _ _ (drop-octets 6 (drop 2 s) (drop-octets 2 s o))
    (either-small (eqb (pair_at s 0) 10) _ _ (drop-octets 2 s o)
    (either-small (eqb (pair_at s 0) 11) _ _ (drop-octets 4 (drop 2 s) (drop-octets 2 s o)) (λ k. omega arith)))))

or-bad : (t : Bool) (at : ℕ) (l : Log) → AllOctets (heard_in l) → AllOctets (heard_in (cond t (bad at) l))
unfolding heard_in
or-bad true at l o = tt
or-bad false at l o = o

record-small : (len at : ℕ) (s : List ℕ) (l : Log) → Octets s → AllOctets (heard_in l) → AllOctets (heard_in (record_of len at s l))
unfolding record_of heard_in
record-small len at s l o a =
    or-bad (ltb len 2) at (cond (ltb (length s) len) (bad at) (entry (event_in (take len s)) (octets_in (take len s)) l))
    (or-bad (ltb (length s) len) at (entry (event_in (take len s)) (octets_in (take len s)) l)
    (beside-small (take len s) (λ k. take-small len k s o), a))

pub log-small : (k at : ℕ) (s : List ℕ) → Octets s → AllOctets (heard_in (log_of k at s))
unfolding log_of heard_in
log-small k at [] o = tt
log-small (suc k) at (x ∷ s) o = log-small k (suc at) s (λ j. o (suc j))
log-small zero at (x ∷ []) o = tt
log-small zero at (low ∷ high ∷ s) o =
    record-small (low + high * 256) at s (log_of (low + high * 256) (suc (suc at)) s) (λ j. o (suc (suc j)))
    (log-small (low + high * 256) (suc (suc at)) s (λ j. o (suc (suc j))))

cell-stripped : (r : Record) (w n : ℕ) → cell_of (stripped r) w n ≡ cell_of r w n
unfolding cell_of entries_in stripped without_capabilities
cell-stripped r w n = refl

-- Demand 3 for what runs: over any log of octets from a new record, the replay ends with the counters and marks that the history says.
pub demand3-replayed : (cardlimit banlimit n1limit : ℕ) (capability security : List ℕ)
    → may_make cardlimit banlimit n1limit (length capability) (length security) ≡ true → (s : List ℕ) → Octets s → (w n : ℕ) → w < 2
    → cell_of (leads_to (stripped (made_of cardlimit banlimit n1limit capability security).made) (log_of 0 0 s)) w n
    ≡ said_of (record { ban = banlimit; n1 = n1limit }) (heard_in (log_of 0 0 s)) (answers_of (made_of cardlimit banlimit n1limit capability security).made (heard_in (log_of 0 0 s))) w n
demand3-replayed x y z c d ok s o w n hw =
    ap (λ r. cell_of r w n) (replayed (log_of 0 0 s) (made_of x y z c d).made (log-small 0 0 s o) (made-sized x y z c d) (made-valid x y z c d))
    ∙ (cell-stripped _ w n ∙ demand3-made x y z c d ok (heard_in (log_of 0 0 s)) w n hw)
