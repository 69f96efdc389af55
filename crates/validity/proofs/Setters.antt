-- Each setter of an access's numbers keeps them in their ranges, given that the new numbers are: the other groups are untouched. Assumes nothing.
use Prim.Native.Nat.{ℕ}
use mathlib.Core.Path.{◌≡◌, refl}
use mathlib.Core.Bool.{Bool, true, false, cond}
use lib.Dec.{eqb}
use Rattle.entries.specs.Entries.{grown}
use Rattle.record.specs.declared.Access.{Access}
use Rattle.record.specs.Tests.{both, either, within, up_to, is_flag, is_short, is_clear0}
use Rattle.record.specs.Network.{is_network, half, is_digit}
use Rattle.turns.specs.declared.Order.{Order}
use Rattle.turns.specs.declared.Order.TheVariants.{Leave, Stop, Run}
use Rattle.turns.specs.declared.Orders.{Orders}
use Rattle.turns.specs.Timers.{flag_after, clocked}
use Rattle.record.specs.Setters.{in_state, with_status, with_attempts, forgotten, emptied, counted, pending, keyed, taught, with_entries}
use Rattle.record.proofs.Bounds.{one}
use Rattle.validity.proofs.Bools.{both_true, more-fits}
use Rattle.validity.proofs.Good.{Fit}

pub grown-fits : (found : Bool) (n : ℕ) → up_to 16 n ≡ true → up_to 16 (grown found n) ≡ true
grown-fits true n e = e
grown-fits false n e = more-fits 16 n e

-- a network code is a number of three octets
pub network-short : (n : ℕ) → is_network n ≡ true → is_short n ≡ true
unfolding is_network
network-short n e =
    one (is_short n)
    (both (is_digit (half 1048576 n))
    (both (is_digit (half 65536 n))
    (both (either (is_digit (half 4096 n)) (eqb (half 4096 n) 15))
    (both (is_digit (half 256 n))
    (both (is_digit (half 16 n)) (is_digit (half 1 n)))))))
    e

pub flag-after : (o : Order) (n : ℕ) → is_flag n ≡ true → is_flag (flag_after o n) ≡ true
unfolding flag_after
flag-after Leave n e = e
flag-after Stop n e = refl
flag-after (Run s) n e = refl

module _ (limit : ℕ) (a : Access) (g : Fit limit a) where
  pub fit-state : (state : ℕ) → up_to 6 state ≡ true → Fit limit (in_state state a)
  unfolding in_state
  fit-state state p =
      record { mode = (p, g.mode.1, g.mode.2); flags = g.flags; t3502length = g.t3502length; pending = g.pending; known = g.known; cardcounter = g.cardcounter; equivalents = g.equivalents; entries = g.entries }

  pub fit-status : (status : ℕ) → within 1 3 status ≡ true → Fit limit (with_status status a)
  unfolding with_status
  fit-status status p =
      record { mode = (g.mode.0, p, g.mode.2); flags = g.flags; t3502length = g.t3502length; pending = g.pending; known = g.known; cardcounter = g.cardcounter; equivalents = g.equivalents; entries = g.entries }

  pub fit-attempts : (attempts : ℕ) → up_to 5 attempts ≡ true → Fit limit (with_attempts attempts a)
  unfolding with_attempts
  fit-attempts attempts p =
      record { mode = (g.mode.0, g.mode.1, p); flags = g.flags; t3502length = g.t3502length; pending = g.pending; known = g.known; cardcounter = g.cardcounter; equivalents = g.equivalents; entries = g.entries }

  pub fit-forgotten : Fit limit (forgotten a)
  unfolding forgotten
  fit-forgotten =
      record { mode = g.mode; flags = g.flags; t3502length = g.t3502length; pending = g.pending; known = (refl, refl, refl, refl); cardcounter = g.cardcounter; equivalents = g.equivalents; entries = g.entries }

  pub fit-emptied : Fit limit (emptied a)
  unfolding emptied
  fit-emptied =
      record { mode = g.mode; flags = g.flags; t3502length = g.t3502length; pending = g.pending; known = g.known; cardcounter = g.cardcounter; equivalents = refl; entries = g.entries }

  pub fit-counted : (n : ℕ) → up_to limit n ≡ true → Fit limit (counted n a)
  unfolding counted
  fit-counted n p =
      record { mode = g.mode; flags = g.flags; t3502length = g.t3502length; pending = g.pending; known = g.known; cardcounter = p; equivalents = g.equivalents; entries = g.entries }

  pub fit-pending : (regtype net code uplink sessions : ℕ) → is_network net ≡ true → is_short code ≡ true → within 1 3 regtype ≡ true → is_clear0 uplink ≡ true → is_clear0 sessions ≡ true
      → Fit limit (pending regtype net code uplink sessions a)
  unfolding pending
  fit-pending regtype net code uplink sessions p q x y z =
      record { mode = g.mode; flags = g.flags; t3502length = g.t3502length; pending = (p, q, x, y, z); known = g.known; cardcounter = g.cardcounter; equivalents = g.equivalents; entries = g.entries }

  pub fit-keyed : (set : ℕ) → up_to 7 set ≡ true → Fit limit (keyed set a)
  unfolding keyed
  fit-keyed set p =
      record { mode = g.mode; flags = g.flags; t3502length = g.t3502length; pending = g.pending; known = (g.known.0, g.known.1, g.known.2, p); cardcounter = g.cardcounter; equivalents = g.equivalents; entries = g.entries }

  pub fit-taught : (given : Bool) (count t3502length : ℕ) → up_to 15 count ≡ true → up_to 11160 t3502length ≡ true → Fit limit (taught given count t3502length a)
  unfolding taught
  fit-taught given count t3502length p q = record {
    mode = g.mode;
    flags = g.flags;
    t3502length = q;
    pending = g.pending;
    known = (
      elim given as (λ b. is_flag (cond b 1 a.guti) ≡ true) [ true ↦ refl | false ↦ g.known.0 ],
      refl,
      both_true (is_short a.net) (is_short a.code) (network-short a.net g.pending.0) g.pending.1,
      g.known.3,
    );
    cardcounter = g.cardcounter;
    equivalents = p;
    entries = g.entries;
  }

  pub fit-entries : (n : ℕ) → up_to 16 n ≡ true → Fit limit (with_entries n a)
  unfolding with_entries
  fit-entries n p =
      record { mode = g.mode; flags = g.flags; t3502length = g.t3502length; pending = g.pending; known = g.known; cardcounter = g.cardcounter; equivalents = g.equivalents; entries = p }

  pub fit-clocked : (o : Orders) → Fit limit (clocked o a)
  unfolding clocked
  fit-clocked o = record {
    mode = g.mode;
    flags = (flag-after o.t3510 a.t3510 g.flags.0, flag-after o.t3511 a.t3511 g.flags.1, flag-after o.t3502 a.t3502 g.flags.2, flag-after o.t3346 a.t3346 g.flags.3);
    t3502length = g.t3502length;
    pending = g.pending;
    known = g.known;
    cardcounter = g.cardcounter;
    equivalents = g.equivalents;
    entries = g.entries;
  }
