-- An area list: an array of forty and a count, the oldest first; each element is twice the area, and one more where it is marked protected. Assumes nothing.
use Rattle.std.specs.Prelude.{ℕ, ◌+◌, ◌*◌, ◌/◌, ◌%◌, Bool, cond, Option, Some, None, List, [], ◌∷◌, ◌++◌, ltb, eqb, set, get_or, take, drop, length, replicate}
use Rattle.laws.specs.Bounds.{at_most}
use Rattle.laws.specs.Upto.{seek_to}
use Rattle.areas.specs.declared.Task.{Task}
use Rattle.areas.specs.declared.Task.TheVariants as task

-- an area: a network and a three-octet code
abbrev pub area_of : ℕ → ℕ → ℕ
area_of net code = net * 16777216 + code

-- the area of an element, and its mark
abbrev pub area_in : ℕ → ℕ
area_in x = x / 2

abbrev pub is_protected : ℕ → Bool
is_protected x = eqb (x % 2) 1

abbrev pub same_area : ℕ → ℕ → Bool
same_area area x = eqb (area_in x) area

-- areas in use: a count above forty counts as forty
unfoldable pub areas_held : ℕ → ℕ
areas_held n = at_most 40 n

unfoldable pub area_place : ℕ → ℕ → List ℕ → ℕ
area_place area count xs = seek_to (same_area area) (areas_held count) xs

unfoldable pub listed_in : ℕ → ℕ → List ℕ → Bool
listed_in area count xs = ltb (area_place area count xs) (areas_held count)

-- its place, if it is listed
abbrev pub area_found : ℕ → ℕ → List ℕ → Option ℕ
area_found area count xs = cond (listed_in area count xs) (Some (area_place area count xs)) None

-- an area and the mark that a reject gives it
abbrev pub marked : ℕ → ℕ → ℕ
marked area protected = area * 2 + cond (eqb protected 0) 0 1

-- a protected reject makes its mark protected, an unprotected one never lowers it
abbrev pub remarked : ℕ → ℕ → ℕ → ℕ
remarked area protected x = cond (eqb protected 0) x (area * 2 + 1)

-- an area already listed keeps its place; a full list drops its oldest
unfoldable pub placed : ℕ → ℕ → ℕ → List ℕ → List ℕ
placed area protected count xs =
    cond (listed_in area count xs)
    (set xs (area_place area count xs) (remarked area protected (get_or xs (area_place area count xs) 0)))
    (cond (ltb count 40) (set xs count (marked area protected)) (drop 1 xs ++ (marked area protected ∷ [])))

unfoldable pub placed_count : ℕ → ℕ → List ℕ → ℕ
placed_count area count xs = cond (listed_in area count xs) count (cond (ltb count 40) (count + 1) count)

-- those that pass, in their order
unfoldable pub kept : (ℕ → Bool) → List ℕ → List ℕ
kept p [] = []
kept p (x ∷ xs) = cond (p x) (x ∷ kept p xs) (kept p xs)

-- areas marked unprotected leave their list
unfoldable pub stayed : ℕ → List ℕ → List ℕ
stayed count xs = kept is_protected (take (areas_held count) xs)

unfoldable pub swept_list : ℕ → List ℕ → List ℕ
swept_list count xs = stayed count xs ++ drop (length (stayed count xs)) xs

-- what a task makes of a list
unfoldable pub list_after : Task → ℕ → List ℕ → List ℕ
list_after task.Nothing count xs = xs
list_after (task.Put net code protected) count xs = placed (area_of net code) protected count xs
list_after task.Sweep count xs = swept_list count xs
list_after task.Clear count xs = replicate 40 0

unfoldable pub count_after : Task → ℕ → List ℕ → ℕ
count_after task.Nothing count xs = count
count_after (task.Put net code protected) count xs = placed_count (area_of net code) count xs
count_after task.Sweep count xs = length (stayed count xs)
count_after task.Clear count xs = 0
