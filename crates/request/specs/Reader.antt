-- What the parts of the reader do: what is gathered, the two ways of a level, and the offsets that have room to be moved. Assumes nothing.
use Rattle.std.specs.Prelude.{ℕ, zero, suc, ◌+◌, ◌≤◌, ◌≡◌, true, List, Option, Some, None, Result, Ok, Err, ⊤}
use Rattle.octets.specs.declared.Part.{Part}
use Rattle.octets.specs.declared.Gathered.{Gathered}
use Rattle.octets.specs.Element.{Elements, elements_from, first_of, end_of, gather_of}
use Rattle.messages.specs.Message.{ended_by}
use Rattle.request.specs.Reading.{identity_in, is_request, refused, judged_of}
use Rattle.request.specs.Levels.{around_of, container_of, asked_by, too_deep, followed, read_to}
use Rattle.request.specs.declared.Request.{Request}
use Rattle.request.specs.declared.Unread.{Unread}
use Rattle.request.specs.declared.Unread.TheVariants as unread

-- the elements of a request, and those that every level looks at
abbrev pub elements_in : List ℕ → Elements
elements_in s = elements_from true s (6 + identity_in s)

-- its container, if it has one
abbrev pub container_in : List ℕ → Option Part
container_in s = container_of (elements_in s)

unfoldable pub parts_of : List ℕ → Gathered
parts_of s = gather_of (Some 0x10) (Some 0x2E) (Some 0x52) (Some 0x71) (elements_in s)

-- and those that only a request with no other one in it looks at
unfoldable pub statuses_of : List ℕ → Gathered
statuses_of s = gather_of (Some 0x40) (Some 0x50) (Some 0x77) (Some 0x2B) (elements_in s)

unfoldable pub attaches_of : List ℕ → Gathered
attaches_of s = gather_of (Some 0x70) None None None (elements_in s)

-- what is gathered, each by its identifier
pub record Common (g : Gathered) (l : Elements) : Type 0 where
  pub end : g.end ≡ end_of l
  pub first : g.first ≡ first_of 0x10 l
  pub second : g.second ≡ first_of 0x2E l
  pub third : g.third ≡ first_of 0x52 l
  pub fourth : g.fourth ≡ first_of 0x71 l

pub record Statuses (h : Gathered) (l : Elements) : Type 0 where
  pub first : h.first ≡ first_of 0x40 l
  pub second : h.second ≡ first_of 0x50 l
  pub third : h.third ≡ first_of 0x77 l
  pub fourth : h.fourth ≡ first_of 0x2B l

-- a request with no other one in it, and one with another
unfoldable pub alone_of : List ℕ → Result Request Unread
alone_of s = ended_by refused (end_of (elements_in s)) (judged_of s (identity_in s) (elements_in s))

unfoldable pub enclosed_of : List ℕ → Result Request Unread → Result Request Unread
enclosed_of s inner = around_of (end_of (elements_in s)) (is_request s (identity_in s) (elements_in s)) inner

-- what a 71 is, by the levels that may follow
unfoldable pub inside_of : ℕ → List ℕ → Part → Result Request Unread
inside_of zero s = too_deep
inside_of (suc d) s = followed (read_to d) s

unfoldable pub elements_reading : ℕ → List ℕ → Result Request Unread
elements_reading d s = asked_by (inside_of d s) s (identity_in s) (elements_in s)

-- offsets of at most n
abbrev pub PartBelow : ℕ → Option Part → Type 0
PartBelow n None = ⊤
PartBelow n (Some p) = p.start + p.len ≤ n

pub record RequestBelow (n : ℕ) (q : Request) : Type 0 where
  pub identity : PartBelow n (Some q.identity)
  pub capability : PartBelow n q.capability
  pub security : PartBelow n q.security
  pub last : PartBelow n q.last
  pub uplink : PartBelow n q.uplink
  pub sessions : PartBelow n q.sessions
  pub additional : PartBelow n q.additional
  pub status : PartBelow n q.status
  pub attach : PartBelow n q.attach

unfoldable pub Below : ℕ → Result Request Unread → Type 0
Below n (Ok q) = RequestBelow n q
Below n (Err (unread.Malformed m)) = m.at ≤ n
Below n (Err (unread.Deep at)) = at ≤ n
Below n (Err unread.Unfit) = ⊤
