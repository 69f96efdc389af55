-- What concerns an access (document 02, R-12): of the events and their answers those that are its own, and the other access's protected 27s, each by its network.
-- Nothing of the record's rules is used. Assumes nothing.
use Rattle.std.specs.Prelude.{ℕ, Bool, true, false, cond, not, ◌&&◌, ◌||◌, List, [], ◌∷◌, ◌++◌, reverse, eqb}
use Rattle.rules.specs.declared.Event.{Event}
use Rattle.rules.specs.declared.Event.TheVariants.{Card, Start, Message, Timer, Power, Key, Update, Import, Unknown}
use Rattle.validity.specs.Run.{Heard}
use Rattle.history.specs.Tale.{Limits, is_one_of}
use Rattle.history.specs.History.{taken_of, pending_of, by_type, tale_of}

pub data Concern : Type 0 where
  -- an event of its own, with its octets
  whole : Heard → Concern
  -- a protected 27 over the other access: "it is, with its network, an event of both accesses" (R-14)
  protected27 : ℕ → Concern

-- "the taken events of one access, imports included, and the taken card, power and T3247 events": an import is access 0's, T3247 is timer 4
unfoldable pub concerns : ℕ → Event → Bool
concerns w (Card edition home) = true
concerns w (Start b manual net code) = eqb b w
concerns w (Message b protected draw) = eqb b w
concerns w (Timer number b) = eqb number 4 || eqb b w
concerns w Power = true
concerns w (Key b set) = eqb b w
concerns w (Update b regtype net code uplink sessions) = eqb b w
concerns w Import = eqb 0 w
concerns w Unknown = false

-- of an event that is not: a protected 27, by the network that its access registers with, if it counts
unfoldable pub across_in : (ℕ → ℕ) → (ℕ → Bool) → Event → List ℕ → List Concern
across_in pending counts (Card edition home) octets = []
across_in pending counts (Start b manual net code) octets = []
across_in pending counts (Message b protected draw) octets =
    cond (not (eqb protected 0) && by_type false (λ cause. eqb cause 27) octets && counts (pending b)) (protected27 (pending b) ∷ []) []
across_in pending counts (Timer number b) octets = []
across_in pending counts Power octets = []
across_in pending counts (Key b set) octets = []
across_in pending counts (Update b regtype net code uplink sessions) octets = []
across_in pending counts Import octets = []
across_in pending counts Unknown octets = []

unfoldable pub concern_in : ℕ → (ℕ → ℕ) → (ℕ → Bool) → Heard → List Concern
concern_in w pending counts x = cond (concerns w x.event) (whole x ∷ []) (across_in pending counts x.event x.octets)

-- of taken events, the latest first; `counts` says of those before a 27, and of its network, whether it is among them
unfoldable pub concerns_of : (List Heard → ℕ → Bool) → ℕ → List Heard → List Concern
concerns_of counts w [] = []
concerns_of counts w (x ∷ before) = concern_in w (pending_of before) (counts before) x ++ concerns_of counts w before

-- of events and their answers, the first one first: each protected 27 of the other access
unfoldable pub own_of : ℕ → List Heard → List ℕ → List Concern
own_of w xs answers = concerns_of (λ before n. true) w (reverse (taken_of xs answers))

-- but for those that are skipped: "If the other access has no entry for the network, its side is skipped" (R-14)
unfoldable pub reaching_of : Limits → ℕ → List Heard → List ℕ → List Concern
reaching_of l w xs answers = concerns_of (λ before n. is_one_of n (tale_of l before w).held) w (reverse (taken_of xs answers))
