use Prim.Native.Nat.{◌≤◌}
use mathlib.Core.Path.{sym, ◌∙◌}
use borrow.Author.Rules.{rules}
use native.Mathlib.Omega.{arith}
use native.Mathlib.Nat.{add-sub_cancel_left, pos_of_ne-zero}
use lib.ListN.{length}
use Rattle.std.proofs.lemmas.Result.{err_from_is_err_and}
use Rattle.request.specs.Reader.{parts_of}
use Rattle.request.proofs.Below.{headed}
use Rattle.request.proofs.Ways.{broken-way, whole-way, alone-way, deep-way, inside-way, lies, behind, fewer, room}
use Rattle.request.proofs.reading.+element_message.Goals as goal

pub element-returns-in_default : goal.element-returns-in_default
unfolding parts_of
element-returns-in_default t c = alone-way _ _ _ c.gathered-g.ensures c.filled.ensures _ _ c.in_default.is c.alone.ensures

pub element-overflow_sub-c : goal.element-overflow_sub-c
unfolding parts_of
element-overflow_sub-c t c = behind _ _ _ c.gathered-g.ensures c.filled.ensures _ c.in-Some.is c.requires

pub element-returns-then-levels-eq0 : goal.element-returns-then-levels-eq0
unfolding parts_of
element-returns-then-levels-eq0 t c = deep-way _ _ _ c.gathered-g.ensures c.filled.ensures _ c.in-Some.is _ _ c.if-levels-eq0.true c.around.ensures

pub element-overflow_add-c : goal.element-overflow_add-c
unfolding parts_of
element-overflow_add-c t c = let f = lies _ _ _ c.gathered-g.ensures c.filled.ensures _ c.in-Some.is c.requires in search rules

pub element-slice_bounds-message-end : goal.element-slice_bounds-message-end
unfolding parts_of
element-slice_bounds-message-end t c = let f = lies _ _ _ c.gathered-g.ensures c.filled.ensures _ c.in-Some.is c.requires in search rules

pub element-message-inner-requires : goal.element-message-inner-requires
unfolding parts_of
element-message-inner-requires t c =
    let f = fewer _ _ _ c.gathered-g.ensures c.filled.ensures _ c.in-Some.is c.requires in
    (rw add-sub_cancel_left (omega (arith, f, c.decreases, pos_of_ne-zero c.if-levels-eq0.false)), tt)

pub element-asking_at-requires : goal.element-asking_at-requires
unfolding parts_of
element-asking_at-requires t c =
    let most : length c.args.msg.now ≤ 18446744073709551615 = search rules in
    room _ _ _ c.gathered-g.ensures c.filled.ensures _ c.in-Some.is c.requires _ _ most (rw add-sub_cancel_left at c.message-inner.ensures)

pub element-returns : goal.element-returns
unfolding parts_of
element-returns t c = inside-way _ _ _ c.gathered-g.ensures c.filled.ensures _ c.in-Some.is _ _ _ _ c.if-levels-eq0.false (rw add-sub_cancel_left at c.message-inner.ensures) c.asking_at.ensures c.around-2.ensures

pub message-returns-in_err-head : goal.message-returns-in_err-head
message-returns-in_err-head t c = let p = err_from_is_err_and c.from_residual.result c.from_residual.ensures.1 in rw (p.1, p.2) (broken-way _ _ _ (sym c.head.ensures ∙ c.in_err-head.was))

pub message-element-requires : goal.message-element-requires
message-element-requires t c = (omega (arith, c.decreases), (headed _ (sym c.head.ensures ∙ c.in_ok-head.was)).inside)

pub message-returns : goal.message-returns
message-returns t c = whole-way _ _ _ (sym c.head.ensures ∙ c.in_ok-head.was) c.element.ensures
