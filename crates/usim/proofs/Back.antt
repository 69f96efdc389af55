-- What was written reads back as the networks that were marked: three octets are their network again, no network is FF FF FF, and FF to the end is none. Assumes nothing.
use Prim.Native.Nat.{ℕ, zero, suc, ◌*◌, ◌-◌, ◌/◌, ◌%◌, ◌≤◌, ◌<◌}
use mathlib.Core.Path.{◌≡◌, refl, ◌∙◌, ap}
use mathlib.Core.Bool.{Bool, true, false, false≢true}
use mathlib.Core.List.{List, [], ◌∷◌, ◌++◌, append-nil}
use native.Mathlib.Omega.{arith}
use lib.Dec.{eqb}
use lib.ListN.{length, replicate, length-append, length-replicate}
use borrow.Author.Tests.{eqb-true, ltb-true}
use Rattle.laws.specs.Upto.{every}
use Rattle.networks.specs.Networks.{network_of, unused, networks_in, octets_of}
use Rattle.record.specs.Tests.{is_short}
use Rattle.record.specs.Network.{is_network}
use Rattle.record.proofs.Bounds.{one, rest}
use Rattle.usim.specs.Usim.{file_of}
use Rattle.usim.proofs.Steps.{octets-length}

three_back : (m : ℕ) → m < 16777216 → network_of (m / 65536 % 256) (m / 256 % 256) (m % 256) ≡ m
three_back m h = omega arith

short : (m : ℕ) → is_network m ≡ true → m < 16777216
unfolding is_network
short m e = ltb-true m 16777216 (one (is_short m) _ e)

is-used : (m : ℕ) → is_network m ≡ true → eqb m unused ≡ false
unfolding is_network
is-used m e = go (eqb m unused) refl
  where
    go : (b : Bool) → eqb m unused ≡ b → eqb m unused ≡ false
    go true q = absurd (false≢true (rw (eqb-true m unused q) at e))
    go false q = q

front : (ms rest : List ℕ) → every is_network ms ≡ true → networks_in (octets_of ms ++ rest) ≡ ms ++ networks_in rest
unfolding networks_in octets_of every
front [] file e = refl
front (m ∷ ms) file e =
    let i = one (is_network m) (every is_network ms) e in
    rw (three_back m (short m i), is-used m i) (ap (λ (r : List ℕ). m ∷ r) (front ms file (rest (is_network m) (every is_network ms) e)))

padding : (j : ℕ) → networks_in (replicate (j * 3) 0xFF) ≡ []
unfolding networks_in
padding zero = refl
padding (suc j) = let e : suc j * 3 ≡ suc (suc (suc (j * 3))) = omega arith in rw e (padding j)

module _ (ms : List ℕ) (n : ℕ) (threes : eqb (n % 3) 0 ≡ true) (room : length ms * 3 ≤ n) where
  pub file-length : length (file_of ms n) ≡ n
  unfolding file_of
  file-length = length-append (octets_of ms) (replicate (n - length ms * 3) 0xFF) ∙ rw (octets-length ms, length-replicate {A = ℕ} (n - length ms * 3) 0xFF) (omega arith)

  pub reads-back : every is_network ms ≡ true → networks_in (file_of ms n) ≡ ms
  unfolding file_of
  reads-back e =
      let t : n % 3 ≡ 0 = eqb-true (n % 3) 0 threes in
      let j : n - length ms * 3 ≡ (n / 3 - length ms) * 3 = omega arith in
      front ms (replicate (n - length ms * 3) 0xFF) e ∙ rw j (ap (λ (r : List ℕ). ms ++ r) (padding (n / 3 - length ms)) ∙ append-nil ms)
