-- Numbers laid one list after the other: the next starts where the one before ends. Assumes nothing.
use Rattle.std.proofs.Common.{◌≡◌, ℕ, suc, ◌+◌, ◌*◌, ◌≤◌, List, [], ◌∷◌, ◌++◌, length, set, take, drop, refl, sym, ap, ◌∙◌, add-zero, append_assoc, take-append-drop, take-suc-set, drop-set-lt, drop-drop, length-set, arith}
use mathlib.Core.Path.{ap₂}
use borrow.Rule.Slice.PartMut.{put_mid}
use Rattle.turns.specs.declared.Told.{Told}
use Rattle.turns.specs.declared.Clocks.{Clocks}
use Rattle.rules.specs.declared.Reply.{Reply}
use Rattle.rounds.specs.Words.{Ran, told_number, told_seconds, timer_words, clocks_words, asked_word, request_words, ran_words, round_words, laid}

pub laid_more : (at : ℕ) (xs ys out : List ℕ) → laid at (xs ++ ys) out ≡ laid (at + length xs) ys (laid at xs out)
unfolding laid
laid_more at [] ys out = ap (λ n. laid n ys out) (omega arith)
laid_more at (x ∷ xs) ys out = laid_more (suc at) xs ys (set out at x) ∙ ap (λ n. laid n ys (laid (suc at) xs (set out at x))) (omega arith)

join : (at : ℕ) (xs ys out u v : List ℕ) (next : ℕ) → next ≡ at + length xs → u ≡ laid at xs out → v ≡ laid next ys u → v ≡ laid at (xs ++ ys) out
join at xs ys out u v next n e f = rw (f, e, n, laid_more)

-- a part stored in place of as many numbers
stored : (at : ℕ) (xs out : List ℕ) → at + length xs ≤ length out → take at out ++ (xs ++ drop (at + length xs) out) ≡ laid at xs out
unfolding laid
stored at [] out l = ap (λ n. take at out ++ drop n out) (add-zero at) ∙ take-append-drop at out
stored at (x ∷ xs) out l =
    let e : at + suc (length xs) ≡ suc at + length xs = omega arith in
    let f : suc at + length xs ≤ length (set out at x) = rw length-set (omega arith) in
    ap (λ n. take at out ++ (x ∷ (xs ++ drop n out))) e
    ∙ (sym (append_assoc (take at out) (x ∷ []) (xs ++ drop (suc at + length xs) out))
    ∙ (sym (ap₂ (λ u v. u ++ (xs ++ v)) (take-suc-set out at x (omega arith)) (drop-set-lt (suc at + length xs) out at x (omega arith)))
    ∙ stored (suc at) xs (set out at x) f))

pub part-laid : (at k : ℕ) (xs ys out : List ℕ) → ys ≡ xs → k ≡ length xs → at + length xs ≤ length out → put_mid at k out ys ≡ laid at xs out
part-laid at k xs ys out e f l = rw (e, f) (ap (λ v. take at out ++ (xs ++ v)) (drop-drop (length xs) at out) ∙ stored at xs out l)

pub clocks-laid : (at : ℕ) (c : Clocks) (out u v w x : List ℕ) → u ≡ laid at (timer_words c.t3510) out → v ≡ laid (at + 2) (timer_words c.t3511) u → w ≡ laid (at + 4) (timer_words c.t3502) v → x ≡ laid (at + 6) (timer_words c.t3346) w → x ≡ laid at (clocks_words c) out
unfolding clocks_words
clocks-laid at c out u v w x e f g h =
    join at _ _ out u x (at + 2) (omega arith) e
    (join (at + 2) _ _ u v x (at + 4) (omega arith) f
    (join (at + 4) _ _ v w x (at + 6) (omega arith) g h))

pub ran-laid : (at slot : ℕ) (p : Reply) (out a b c d e f g : List ℕ) → a ≡ laid at (slot ∷ 0 ∷ 0 ∷ 0 ∷ []) out → b ≡ laid (at + 4) (clocks_words p.c0) a → c ≡ laid (at + 12) (clocks_words p.c1) b → d ≡ laid (at + 20) (timer_words p.t3247) c
    → e ≡ laid (at + 22) (timer_words p.t3512) d → f ≡ laid (at + 24) (request_words p) e → g ≡ laid (at + 27) (1 ∷ []) f → g ≡ laid at (ran_words (record { at = slot; reply = p })) out
unfolding ran_words clocks_words request_words
ran-laid at slot p out a b c d e f g h i j k l m n =
    join at (slot ∷ 0 ∷ 0 ∷ 0 ∷ []) _ out a g (at + 4) (omega arith) h
    (join (at + 4) (clocks_words p.c0) _ a b g (at + 12) (omega arith) i
    (join (at + 12) (clocks_words p.c1) _ b c g (at + 20) (omega arith) j
    (join (at + 20) (timer_words p.t3247) _ c d g (at + 22) (omega arith) k
    (join (at + 22) (timer_words p.t3512) _ d e g (at + 24) (omega arith) l
    (join (at + 24) (request_words p) _ e f g (at + 27) (omega arith) m n)))))

pub words_size : (x : Ran) → length (ran_words x) ≡ 28
unfolding ran_words clocks_words request_words
words_size x = refl

pub laid-round : (count : ℕ) (x : Ran) (xs : List Ran) (words : List ℕ) → laid (count * 28) (round_words (x ∷ xs)) words ≡ laid ((count + 1) * 28) (round_words xs) (laid (count * 28) (ran_words x) words)
unfolding round_words
laid-round count x xs words = laid_more (count * 28) (ran_words x) (round_words xs) words ∙ ap (λ n. laid n (round_words xs) (laid (count * 28) (ran_words x) words)) (omega (arith, words_size x))

pub laid_none : (at : ℕ) (words : List ℕ) → laid at (round_words []) words ≡ words
unfolding round_words laid
laid_none at words = refl

pub laid-length : (at : ℕ) (xs out : List ℕ) → length (laid at xs out) ≡ length out
unfolding laid
laid-length at [] out = refl
laid-length at (x ∷ xs) out = laid-length (suc at) xs (set out at x) ∙ length-set out at x
