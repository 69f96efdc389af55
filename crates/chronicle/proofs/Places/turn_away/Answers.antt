-- It has an entry, gets a free one, gets that of the eldest, or none is to be had. Assumes nothing.
use Prim.Native.Nat.{ℕ}
use mathlib.Core.Path.{◌≡◌, refl, sym, ◌∙◌}
use mathlib.Core.Bool.{Bool, true, false, cond, true≢false}
use lib.Dec.{ltb}
use lib.ListN.{set}
use Prim.Native.Nat.{◌+◌}
use Rattle.std.specs.Prelude.{Option, None, Result, Ok, Err, is_ok, OnErr}
use Rattle.history.specs.Tale.{is_one_of}
use Rattle.chronicle.specs.declared.Eldest.{Eldest}
use Rattle.chronicle.specs.declared.Places.{Places}
use Rattle.chronicle.specs.declared.Refusal.{Refusal}
use Rattle.chronicle.specs.declared.Refusal.TheVariants as refusal
use Rattle.chronicle.specs.Sheets.{places_of, held_places, left_by, add_of, Room, room_with, given_by, turned_room}
use Rattle.chronicle.proofs.Places.turn_away.Goals.{then-has-via-then-has, then-has-via-else-has+then-is_ok}
use Rattle.chronicle.proofs.Places.turn_away.Goals as goal

same-by : {U P : Type 0} (r : Result U Refusal) → is_ok r ≡ false → OnErr r P → P
same-by (Ok u) h p = absurd (true≢false h)
same-by (Err why) h p = p

module _ (n : ℕ) (b : Option Eldest) (p : Places) where
  held : is_one_of n (held_places p) ≡ true → Ok (room_with p None) ≡ turned_room n b p
  unfolding turned_room
  held h = rw h

  module _ {U : Type 0} (h : is_one_of n (held_places p) ≡ false) (r : Result U Refusal) (q : Places) where
    abbrev Turned : Bool → Result Room Refusal → Type 0
    Turned t x = x ≡ cond t (Ok (room_with (places_of (set p.nets p.count n) (p.count + 1)) None)) (given_by n b p)

    free : is_ok r ≡ true → left_by r q ≡ add_of n p → Ok (room_with q None) ≡ turned_room n b p
    unfolding turned_room add_of
    free k e = rw h (go r k (ltb p.count 16) e)
      where
        go : (s : Result U Refusal) → is_ok s ≡ true → (t : Bool) → left_by s q ≡ cond t (Ok (places_of (set p.nets p.count n) (p.count + 1))) (Err refusal.Range) → Turned t (Ok (room_with q None))
        go (Ok u) k true e = let z : q ≡ places_of (set p.nets p.count n) (p.count + 1) = cc in rw z
        go (Ok u) k false e = absurd (cc)
        go (Err why) k t e = absurd (true≢false (sym k))

    full : is_ok r ≡ false → left_by r q ≡ add_of n p → given_by n b p ≡ turned_room n b p
    unfolding turned_room add_of
    full k e = rw h (go r k (ltb p.count 16) e)
      where
        go : (s : Result U Refusal) → is_ok s ≡ false → (t : Bool) → left_by s q ≡ cond t (Ok (places_of (set p.nets p.count n) (p.count + 1))) (Err refusal.Range) → Turned t (given_by n b p)
        go (Ok u) k t e = absurd (true≢false k)
        go (Err why) k true e = absurd (cc)
        go (Err why) k false e = refl

pub returns-then-has : goal.returns-then-has
returns-then-has c =
    elim c.then-has.branch [
      | then-has-via-then-has w ↦ rw w.self-is (held _ _ _ (sym c.has.ensures ∙ w.if-has.true))
      | then-has-via-else-has+then-is_ok w ↦ rw w.self-is (free _ _ _ (sym c.has.ensures ∙ w.if-has.false) w.add.result _ (sym w.is_ok.ensures.value ∙ w.if-is_ok.true) w.add.ensures.after)
    ]

pub returns-in-None : goal.returns-in-None
unfolding given_by
returns-in-None c =
    let k : is_ok c.add.result ≡ false = sym c.is_ok.ensures.value ∙ c.if-is_ok.false in
    let s : c.add.new.self ≡ c.args.self.now = same-by c.add.result k c.add.ensures.unchanged in
    let e = rw (c.held.ensures, s) at c.in-None.ensures in
    rw (← e) (full _ _ _ (sym c.has.ensures ∙ c.if-has.false) c.add.result _ k c.add.ensures.after)

pub returns-in-Some : goal.returns-in-Some
unfolding given_by
returns-in-Some c =
    let k : is_ok c.add.result ≡ false = sym c.is_ok.ensures.value ∙ c.if-is_ok.false in
    let s : c.add.new.self ≡ c.args.self.now = same-by c.add.result k c.add.ensures.unchanged in
    let e = rw (c.held.ensures, s) at c.in-Some.ensures in
    rw (c.swap.ensures, s, ← e) (full _ _ _ (sym c.has.ensures ∙ c.if-has.false) c.add.result _ k c.add.ensures.after)
