-- Each row's causes, by counting through the 256 octets. A cause moved to another row in definition and code alike fails here. Assumes nothing.
use Prim.Native.Nat.{ℕ, zero, suc}
use mathlib.Core.Path.{◌≡◌, refl}
use mathlib.Core.Bool.{Bool, true, false}
use mathlib.Core.List.{[], ◌∷◌}
use Rattle.areas.specs.Areas.{kept}
use Rattle.record.specs.Tests.{is_flag}
use Rattle.turns.specs.Rejects.{is_card, is_network_no, is_area_no, is_n1_no, is_congested, is_protocol, starts_t3247, row_of}
use Rattle.validity.specs.Causes.{row_number, numbers_from, causes_for, causes_of, column_of, column_said}
use Rattle.validity.proofs.Own.{no_third}

pub causes-said : (w : ℕ) (unprotected home below timed : Bool) → is_flag w ≡ true → column_of w unprotected home below timed ≡ column_said w unprotected home below timed
unfolding column_of column_said causes_of causes_for numbers_from kept row_number row_of is_card is_network_no is_area_no is_n1_no is_congested is_protocol
causes-said zero true true true true f = refl
causes-said zero true true true false f = refl
causes-said zero true true false true f = refl
causes-said zero true true false false f = refl
causes-said zero true false true true f = refl
causes-said zero true false true false f = refl
causes-said zero true false false true f = refl
causes-said zero true false false false f = refl
causes-said zero false true true true f = refl
causes-said zero false true true false f = refl
causes-said zero false true false true f = refl
causes-said zero false true false false f = refl
causes-said zero false false true true f = refl
causes-said zero false false true false f = refl
causes-said zero false false false true f = refl
causes-said zero false false false false f = refl
causes-said (suc zero) true true true true f = refl
causes-said (suc zero) true true true false f = refl
causes-said (suc zero) true true false true f = refl
causes-said (suc zero) true true false false f = refl
causes-said (suc zero) true false true true f = refl
causes-said (suc zero) true false true false f = refl
causes-said (suc zero) true false false true f = refl
causes-said (suc zero) true false false false f = refl
causes-said (suc zero) false true true true f = refl
causes-said (suc zero) false true true false f = refl
causes-said (suc zero) false true false true f = refl
causes-said (suc zero) false true false false f = refl
causes-said (suc zero) false false true true f = refl
causes-said (suc zero) false false true false f = refl
causes-said (suc zero) false false false true f = refl
causes-said (suc zero) false false false false f = refl
causes-said (suc (suc w)) unprotected home below timed f = absurd (no_third w f)

-- "cause 3, 6, 7, 11, 12, 13, 15, 27, 72 or 73 starts T3247"
pub t3247-causes : causes_for starts_t3247 ≡ 3 ∷ 6 ∷ 7 ∷ 11 ∷ 12 ∷ 13 ∷ 15 ∷ 27 ∷ 72 ∷ 73 ∷ []
unfolding causes_for numbers_from kept starts_t3247 is_card is_network_no is_area_no
t3247-causes = refl
