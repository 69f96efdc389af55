-- The flags stand in the order of the slots. Assumes nothing.
use Rattle.std.proofs.Common.{◌≡◌, length, rules, ◌∙◌, ap}
use Rattle.deadlines.specs.Arming.{fits_to, flags_of, same_to}
use Rattle.deadlines.proofs.Heeding.{same_lists}
use Rattle.deadlines.proofs.Table.fits.Goals as goal

pub returns : goal.returns
unfolding fits_to flags_of
returns c =
    let n : length c.args.self.now.held ≡ 10 = search rules in
    c.eq.ensures ∙ (same_lists _ _ n ∙ ap (λ k. same_to k c.args.self.now.held (flags_of c.args.h)) n)
