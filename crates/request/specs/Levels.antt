-- A request inside a container inside a request, as document 02 has it in R-3: what is read in it. Assumes nothing.
use Rattle.std.specs.Prelude.{ℕ, zero, suc, ◌+◌, ◌-◌, Bool, true, cond, List, Option, Result, Ok, Err, ⊤}
use Rattle.std.specs.Option.{option_map, option_map_or}
use Rattle.octets.specs.declared.Part.{Part}
use Rattle.octets.specs.declared.Malformed.{Malformed}
use Rattle.octets.specs.Element.{Elements, elements_from, first_of, end_of}
use Rattle.messages.specs.Message.{ended_by}
use Rattle.request.specs.Reading.{identity_in, head_of, is_request, filled_of, refused, judged_of, part_of}
use Rattle.request.specs.declared.Request.{Request}
use Rattle.request.specs.declared.Unread.{Unread}
use Rattle.request.specs.declared.Unread.TheVariants as unread

-- "offsets count in the outermost message": those of what is read in octets that begin at a place of it
unfoldable pub shifted_part : ℕ → Part → Part
shifted_part by p = record { start = by + p.start; len = p.len }

unfoldable pub shifted_request : ℕ → Request → Request
shifted_request by q = record {
  regtype = q.regtype;
  ksi = q.ksi;
  identity = shifted_part by q.identity;
  capability = option_map (shifted_part by) q.capability;
  security = option_map (shifted_part by) q.security;
  last = option_map (shifted_part by) q.last;
  uplink = option_map (shifted_part by) q.uplink;
  sessions = option_map (shifted_part by) q.sessions;
  additional = option_map (shifted_part by) q.additional;
  status = option_map (shifted_part by) q.status;
  attach = option_map (shifted_part by) q.attach;
}

unfoldable pub shifted : ℕ → Result Request Unread → Result Request Unread
shifted by (Ok q) = Ok (shifted_request by q)
shifted by (Err (unread.Malformed m)) = refused m.fault (by + m.at)
shifted by (Err (unread.Deep at)) = Err (unread.Deep (by + at))
shifted by (Err unread.Unfit) = Err unread.Unfit

-- A request with another one in it, by how its elements end, whether it keeps the layout, and what the inner one reads as. 13 to 18 first: a fault of the
-- inner one lies before those behind it. Then "19 .., before 3"; then "each level keeps the layout"; then the inner one "as the message".
unfoldable pub around_of : Result ⊤ Malformed → Bool → Result Request Unread → Result Request Unread
around_of end fits (Err (unread.Malformed m)) = Err (unread.Malformed m)
around_of end fits (Err (unread.Deep at)) = ended_by refused end (Err (unread.Deep at))
around_of end fits (Err unread.Unfit) = ended_by refused end (Err unread.Unfit)
around_of end fits (Ok q) = ended_by refused end (cond fits (Ok q) (Err unread.Unfit))

-- the first 71, if it has octets
abbrev pub container_of : Elements → Option Part
container_of l = filled_of (first_of 0x71 l)

-- what the elements make of a request, where `inside` reads what lies in a 71
unfoldable pub asked_by : (Part → Result Request Unread) → List ℕ → ℕ → Elements → Result Request Unread
asked_by inside s n l =
    option_map_or (λ c. around_of (end_of l) (is_request s n l) (inside c)) (container_of l) (ended_by refused (end_of l) (judged_of s n l))

-- then the elements
unfoldable pub message_by : (Part → Result Request Unread) → List ℕ → Result Request Unread
message_by inside s = ended_by refused (head_of s) (asked_by inside s (identity_in s) (elements_from true s (6 + identity_in s)))

-- a 71 that is one level too many: its identifier stands three octets before its contents
abbrev pub too_deep : Part → Result Request Unread
too_deep c = Err (unread.Deep (c.start - 3))

-- a 71 that is followed: its contents are read as a message
abbrev pub followed : (List ℕ → Result Request Unread) → List ℕ → Part → Result Request Unread
followed read s c = shifted c.start (read (part_of s c))

-- "The reader follows a request inside a container inside a request": so many levels in
unfoldable pub read_to : ℕ → List ℕ → Result Request Unread
read_to zero s = message_by too_deep s
read_to (suc d) s = message_by (followed (read_to d) s) s

-- "to depth two": one inside another. That the lowest offset is told is shown of the whole reading (`lowest-request`).
unfoldable pub asking_of : List ℕ → Result Request Unread
asking_of s = read_to 1 s
