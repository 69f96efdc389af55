-- A network is three octets, the first one highest; a card's file of forbidden networks is three octets each (document 02, R-8). Assumes nothing.
use Rattle.std.specs.Prelude.{ℕ, ◌+◌, ◌*◌, ◌/◌, ◌%◌, cond, List, [], ◌∷◌, ◌++◌, length, get_or, ltb, eqb}

-- three octets as a network
abbrev pub network_of : ℕ → ℕ → ℕ → ℕ
network_of a b c = a * 65536 + b * 256 + c

-- and back: a network or an area's code
abbrev pub octets3 : ℕ → List ℕ
octets3 n = (n / 65536 % 256) ∷ (n / 256 % 256) ∷ (n % 256) ∷ []

-- "three octets each, FF FF FF unused"
abbrev pub unused : ℕ
unused = 0xFFFFFF

-- the network at a place of a file; where fewer than three octets are left, none
unfoldable pub network_at : List ℕ → ℕ → ℕ
network_at s i = cond (ltb (i + 2) (length s)) (network_of (get_or s i 0) (get_or s (i + 1) 0) (get_or s (i + 2) 0)) unused

-- a network, unless the place is unused
abbrev pub used_by : ℕ → List ℕ → List ℕ
used_by net rest = cond (eqb net unused) rest (net ∷ rest)

-- the networks of a file; one or two octets at its end are none
unfoldable pub networks_in : List ℕ → List ℕ
networks_in [] = []
networks_in (a ∷ []) = []
networks_in (a ∷ b ∷ []) = []
networks_in (a ∷ b ∷ c ∷ rest) = used_by (network_of a b c) (networks_in rest)

-- networks as a file has them
unfoldable pub octets_of : List ℕ → List ℕ
octets_of [] = []
octets_of (net ∷ rest) = octets3 net ++ octets_of rest
