-- An import keeps the record good: each of its networks is a code and finds an entry, its own or a free one, and then the order is settled. Assumes nothing.
use Prim.Native.Nat.{ℕ, ◌+◌, ◌%◌, ◌≤◌}
use mathlib.Core.Path.{◌≡◌, refl}
use mathlib.Core.Bool.{Bool, true, false}
use mathlib.Core.List.{List, [], ◌∷◌}
use native.Mathlib.Nat.{add-zero}
use native.Mathlib.Omega.{arith}
use lib.Dec.{leb, ltb, eqb}
use lib.ListN.{length}
use borrow.Author.Tests.{leb-true, ltb-true}
use Rattle.laws.specs.Bounds.{at_most}
use Rattle.laws.specs.Upto.{every}
use Rattle.networks.specs.Networks.{networks_in}
use Rattle.entries.specs.declared.Entries.{Entries}
use Rattle.entries.specs.declared.Deed.TheVariants as deed
use Rattle.entries.specs.Places.{entries_held, has_entry}
use Rattle.entries.specs.Entries.{grown, imported, imported_all, is_filed, file_taken, new_in, held_with, marks_after, ranks_after, is_import, with_file, entries_after}
use Rattle.entries.proofs.Joining.{new-free, new-step}
use Rattle.areas.specs.declared.Task.TheVariants as task
use Rattle.record.specs.declared.Record.{Record}
use Rattle.record.specs.Setters.{with_entries}
use Rattle.record.specs.Tests.{up_to}
use Rattle.record.specs.Network.{is_network}
use Rattle.turns.specs.declared.Order.TheVariants.{Leave}
use Rattle.turns.specs.Turns.{still}
use Rattle.checks.specs.Answers.{import_range}
use Rattle.effects.specs.declared.Keep.TheVariants as keep
use Rattle.effects.specs.Effects.{scheduled, import_effect}
use Rattle.rules.specs.Plan.{taken_plan, deed_on, deed_of}
use Rattle.events.specs.Parts.{table_after, equivalents_after}
use Rattle.record.proofs.Bounds.{one, rest}
use Rattle.validity.specs.Sized.{Columns, Sized}
use Rattle.validity.proofs.Bools.{most-is}
use Rattle.validity.proofs.Good.{Held, Good}
use Rattle.validity.proofs.Setters.{grown-fits}
use Rattle.validity.proofs.Sizes.{imported-columns}
use Rattle.validity.proofs.Turns.{after, still-turned, imported-turned}
use Rattle.validity.proofs.Entries.{imported-held, settled-held}
use Rattle.validity.proofs.Refusal.{carry}
use Rattle.validity.proofs.Next.{half-turned, own_first}

-- the new networks of a list, for n entries
abbrev pub news : List ℕ → ℕ → Entries → List ℕ
news xs n t = new_in (λ m. has_entry n m t.nets) xs

nothing : (n : ℕ) (xs : List ℕ) → xs ≡ [] → n + length xs ≡ n
nothing n xs e = rw e (add-zero n)

-- networks one after the other
module _ (banlimit n1limit : ℕ) where
  all_held : (named : ℕ → Bool) (xs : List ℕ) (n : ℕ) (t : Entries) → Columns t → Held banlimit n1limit n t → up_to 16 n ≡ true → every is_network xs ≡ true → n + length (news xs n t) ≤ 16
      → Held banlimit n1limit (n + length (news xs n t)) (imported_all named xs n t)
  unfolding imported_all new_in every
  all_held named [] n t w g e c f = rw (nothing n (news [] n t) refl) (settled-held banlimit n1limit n t w g e named)
  all_held named (net ∷ xs) n t w g e c f =
      let found = has_entry n net t.nets in
      let more = new-step net xs n t w.nets f in
      rw more (all_held named xs (grown found n) (imported net n t) (imported-columns t w net n)
      (imported-held banlimit n1limit n t w g net e (new-free net xs n t w.nets f) (one (is_network net) (every is_network xs) c))
      (grown-fits found n e) (rest (is_network net) (every is_network xs) c) (rw more at f))

module _ (n : ℕ) (file : List ℕ) (t : Entries) (e : up_to 16 n ≡ true) (h : leb (held_with n file t.nets) 16 ≡ true) where
  abbrev many : ℕ
  many = n + length (news (networks_in file) n t)

  -- that many are held, and there is room for them
  pub held-is : (held_with n file t.nets ≡ many) × (many ≤ 16)
  unfolding held_with entries_held
  held-is = go (ltb many 17) refl
    where
      size : entries_held n ≡ n
      size = most-is 16 n e

      go : (b : Bool) → ltb many 17 ≡ b → (at_most 17 (entries_held n + length (news (networks_in file) n t)) ≡ many) × (many ≤ 16)
      go true q = (rw (size, q), omega (arith, ltb-true many 17 q))
      go false q = let l : leb 17 16 ≡ true = rw (size, q) at h in absurd (omega (arith, leb-true 17 16 l))

module _ (r : Record) (g : Good r) (z : Sized r) (octets : List ℕ) where
  abbrev after-many : ℕ
  after-many = held_with r.hot.a0.entries octets r.e0.nets

  pub import-good : import_range octets ≡ true → leb after-many 16 ≡ true → Good (carry r octets (taken_plan r.hot 0 (import_effect r.hot after-many))).next
  unfolding taken_plan import_effect scheduled table_after deed_of deed_on entries_after with_file is_import ranks_after marks_after equivalents_after import_range
  import-good c h =
      let held = held-is r.hot.a0.entries octets r.e0 g.half0.fit.entries h in
      own_first r g z octets r.hot.dev.t3512length r.hot.dev.due g.fair.t3512length g.fair.due (still (with_entries after-many r.hot.a0)) (still r.hot.a1) Leave Leave
      deed.Import deed.Nothing task.Nothing task.Nothing keep.Nothing false tt tt tt
      (half-turned r.hot.dev r.hot.a0.equivalents after-many (after (still (with_entries after-many r.hot.a0))) r.equivalents0 (file_taken octets r.hot.a0.entries r.e0)
      (imported-turned r.hot.dev.card r.hot.dev.cardlimit r.hot.a0 g.half0.fit g.half0.timely g.half0.carded after-many h)
      g.half0.equals
      (rw held.0 (all_held r.hot.dev.banlimit r.hot.dev.n1limit (λ n. is_filed n (networks_in octets)) (networks_in octets) r.hot.a0.entries r.e0 z.e0 g.half0.held g.half0.fit.entries
      (rest (eqb (length octets % 3) 0) (every is_network (networks_in octets)) c) held.1)))
      (still-turned r.hot.dev.card r.hot.dev.cardlimit r.hot.a1 g.half1.fit g.half1.timely g.half1.carded) g.half1.held
