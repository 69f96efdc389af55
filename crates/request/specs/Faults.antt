-- The faults of a request and of the requests inside it, in the sentences of document 02, R-1 and R-3. No reader has a part in it. Assumes nothing.
use Rattle.std.specs.Prelude.{ℕ, zero, suc, ◌+◌, ◌-◌, ◌≤◌, ◌<◌, ◌≡◌, Bool, ◌⊎◌, List, length, get_or, take, drop}
use Rattle.octets.specs.declared.Fault.{Fault}
use Rattle.messages.specs.Faults.{fixed_of, in_request, size_at, Begins, Faulty}
use Rattle.request.specs.Reading.{is_asking}

-- the first element with identifier x, from a place on: "First of a repeat counts"
pub record FirstAt (request : Bool) (s : List ℕ) (from x at : ℕ) : Type 0 where
  pub begins : Begins request s from at
  pub is : get_or s at 0 ≡ x
  pub first : (b : ℕ) → Begins request s from b → get_or s b 0 ≡ x → at ≤ b
  pub whole : at + size_at request s at ≤ length s

-- "a container inside a request": its first 71, which has octets behind its identifier and two-octet length
pub record Contains (s : List ℕ) (at : ℕ) : Type 0 where
  pub first : FirstAt (in_request s) s (fixed_of s) 0x71 at
  pub some : 3 < size_at (in_request s) s at

-- its contents
abbrev pub contents_at : List ℕ → ℕ → List ℕ
contents_at s at = take (size_at (in_request s) s at - 3) (drop (at + 3) s)

-- what stands at an offset in the contents of a container, by its offset in the message around it: "offsets count in the outermost message"
abbrev pub Inside : (List ℕ → ℕ → Type 0) → List ℕ → ℕ → Type 0
Inside Has s at = (c : ℕ) × (Contains s c × ((b : ℕ) × ((at ≡ c + 3 + b) × Has (contents_at s c) b)))

-- the faults of a request, and of those inside it so many levels in
unfoldable pub FaultyTo : ℕ → List ℕ → Fault → ℕ → Type 0
FaultyTo zero s f at = Faulty is_asking s f at
FaultyTo (suc d) s f at = Faulty is_asking s f at ⊎ Inside (λ t. FaultyTo d t f) s at

-- a container further in than so many levels
unfoldable pub DeeperAt : ℕ → List ℕ → ℕ → Type 0
DeeperAt zero s at = Contains s at
DeeperAt (suc d) s at = Inside (DeeperAt d) s at
