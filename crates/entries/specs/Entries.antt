-- One access's entries and what becomes of them. Assumes nothing.
use Rattle.std.specs.Prelude.{ℕ, ◌+◌, Bool, true, false, cond, List, [], ◌∷◌, ltb, eqb, length, get_or, replicate}
use Rattle.laws.specs.Bounds.{at_most, one_more}
use Rattle.laws.specs.Upto.{upto}
use Rattle.networks.specs.Networks.{networks_in}
use Rattle.entries.specs.declared.Entries.{Entries}
use Rattle.entries.specs.declared.Seen.{Seen}
use Rattle.entries.specs.declared.Seat.{Seat}
use Rattle.entries.specs.declared.Deed.{Deed}
use Rattle.entries.specs.declared.Deed.TheVariants as deed
use Rattle.entries.specs.Places.{entries_held, place_in, has_entry, peek_at, put_at}
use Rattle.entries.specs.Order.{last_at, last_to, leaver_to}

-- what stands about a network: its entry, or the first free place, and its marks
unfoldable pub found_in : ℕ → ℕ → List ℕ → List ℕ → List ℕ → Seen
found_in count net nets forbidden barred = record {
  at = place_in count net nets;
  found = has_entry count net nets;
  forbidden = peek_at forbidden (place_in count net nets) (entries_held count);
  barred = peek_at barred (place_in count net nets) (entries_held count);
}

-- document 02, R-9: "When an entry is needed and none is free, the one with neither mark that was last marked longest ago .. gives up its place";
-- where all sixteen have a mark, there is no place
unfoldable pub place_for : ℕ → ℕ → List ℕ → List ℕ → List ℕ → List ℕ → ℕ
place_for count net nets forbidden barred ranks = cond (ltb (place_in count net nets) 16) (place_in count net nets) (leaver_to 16 forbidden barred ranks)

-- the same with that place
unfoldable pub seen_in : ℕ → ℕ → List ℕ → List ℕ → List ℕ → List ℕ → Seen
seen_in count net nets forbidden barred ranks = record {
  at = place_for count net nets forbidden barred ranks;
  found = (found_in count net nets forbidden barred).found;
  forbidden = (found_in count net nets forbidden barred).forbidden;
  barred = (found_in count net nets forbidden barred).barred;
}

-- a network written down at the place that was seen
abbrev pub seat_of : Seen → ℕ → ℕ → Seat
seat_of s net protected = record { at = s.at; found = s.found; net = net; protected = protected }

-- "each ban counter above 0 and below its limit clears the forbidden mark, each such N1 counter the N1 mark"
unfoldable pub lift_mark : ℕ → ℕ → ℕ → ℕ
lift_mark limit n mark = cond (eqb n 0) mark (cond (ltb n limit) 0 mark)

-- "+1 if below limit, or to the limit if protected"
unfoldable pub bumped : ℕ → ℕ → ℕ → ℕ
bumped limit protected n = cond (eqb protected 0) (one_more limit n) limit

-- a new entry has zeros
unfoldable pub clear_unless : Bool → List ℕ → ℕ → List ℕ
clear_unless found xs at = cond found xs (put_at xs at 0)

unfoldable pub raised : List ℕ → ℕ → Bool → ℕ → ℕ → List ℕ
raised xs at found limit protected = put_at xs at (bumped limit protected (cond found (get_or xs at 0) 0))

abbrev pub entries_of : List ℕ → List ℕ → List ℕ → List ℕ → List ℕ → List ℕ → Entries
entries_of nets bans n1s forbidden barred ranks = record { nets = nets; bans = bans; n1s = n1s; forbidden = forbidden; barred = barred; ranks = ranks }

-- the order, and all else as it was
abbrev pub with_ranks : List ℕ → Entries → Entries
with_ranks ranks t = record { nets = t.nets; bans = t.bans; n1s = t.n1s; forbidden = t.forbidden; barred = t.barred; ranks = ranks }

-- "forbidden mark; ban counter +1 if below limit, or to the limit if protected"
unfoldable pub banned : Seat → ℕ → Entries → Entries
banned s limit t = record {
  nets = put_at t.nets s.at s.net;
  bans = raised t.bans s.at s.found limit s.protected;
  n1s = clear_unless s.found t.n1s s.at;
  forbidden = put_at t.forbidden s.at 1;
  barred = clear_unless s.found t.barred s.at;
  ranks = t.ranks;
}

-- "N1 mark, N1 counter as the ban counter"
unfoldable pub barred_by : Seat → ℕ → Entries → Entries
barred_by s limit t = record {
  nets = put_at t.nets s.at s.net;
  bans = clear_unless s.found t.bans s.at;
  n1s = raised t.n1s s.at s.found limit s.protected;
  forbidden = clear_unless s.found t.forbidden s.at;
  barred = put_at t.barred s.at 1;
  ranks = t.ranks;
}

-- accept: "The network's forbidden mark on this access clears. Counters stay."
unfoldable pub unforbidden : Seat → Entries → Entries
unforbidden s t = record {
  nets = t.nets;
  bans = t.bans;
  n1s = t.n1s;
  forbidden = cond s.found (put_at t.forbidden s.at 0) t.forbidden;
  barred = t.barred;
  ranks = t.ranks;
}

-- T3247 out: both marks clear by their counters' test
unfoldable pub swept : ℕ → ℕ → ℕ → Entries → Entries
swept count banlimit n1limit t = record {
  nets = t.nets;
  bans = t.bans;
  n1s = t.n1s;
  forbidden = upto (lift_mark banlimit) (entries_held count) t.bans t.forbidden;
  barred = upto (lift_mark n1limit) (entries_held count) t.n1s t.barred;
  ranks = t.ranks;
}

-- power cycle: forbidden marks clear by the same test; all N1 marks clear
unfoldable pub powered : ℕ → ℕ → Entries → Entries
powered count banlimit t = record {
  nets = t.nets;
  bans = t.bans;
  n1s = t.n1s;
  forbidden = upto (lift_mark banlimit) (entries_held count) t.bans t.forbidden;
  barred = replicate 16 0;
  ranks = t.ranks;
}

-- document 02, R-14, on the other access: "sets the network's N1 counter to the limit"; "The mark stays with the receiving access";
-- with "no entry for the network, its side is skipped"
unfoldable pub n1_to_limit : ℕ → ℕ → ℕ → Entries → Entries
n1_to_limit net count limit t = record {
  nets = t.nets;
  bans = t.bans;
  n1s = cond (has_entry count net t.nets) (put_at t.n1s (place_in count net t.nets) limit) t.n1s;
  forbidden = t.forbidden;
  barred = t.barred;
  ranks = t.ranks;
}

-- entries held after a network was written down that had one, or had none
abbrev pub grown : Bool → ℕ → ℕ
grown found count = cond found count (one_more 16 count)

-- document 02, R-8: "An imported network gets the forbidden mark with counter 0"; "If it has an entry, the mark is set and the counters stay."
unfoldable pub imported : ℕ → ℕ → Entries → Entries
imported net count t = record {
  nets = put_at t.nets (place_in count net t.nets) net;
  bans = clear_unless (has_entry count net t.nets) t.bans (place_in count net t.nets);
  n1s = clear_unless (has_entry count net t.nets) t.n1s (place_in count net t.nets);
  forbidden = put_at t.forbidden (place_in count net t.nets) 1;
  barred = clear_unless (has_entry count net t.nets) t.barred (place_in count net t.nets);
  ranks = cond (has_entry count net t.nets) t.ranks (put_at t.ranks (place_in count net t.nets) (entries_held count));
}

-- networks one after the other; document 02, R-9: those that were named are then the last that were marked, among themselves in entry order
unfoldable pub imported_all : (ℕ → Bool) → List ℕ → ℕ → Entries → Entries
imported_all named [] count t = with_ranks (last_to named (entries_held count) (entries_held count) t.nets t.ranks) t
imported_all named (net ∷ rest) count t = imported_all named rest (grown (has_entry count net t.nets) count) (imported net count t)

unfoldable pub is_filed : ℕ → List ℕ → Bool
is_filed n [] = false
is_filed n (x ∷ xs) = cond (eqb x n) true (is_filed n xs)

-- a card's file
abbrev pub file_taken : List ℕ → ℕ → Entries → Entries
file_taken file count t = imported_all (λ n. is_filed n (networks_in file)) (networks_in file) count t

-- "the distinct new networks": those that are not known, each once and in their order
unfoldable pub new_in : (ℕ → Bool) → List ℕ → List ℕ
new_in known [] = []
new_in known (net ∷ rest) = cond (known net) (new_in known rest) (net ∷ new_in (λ m. cond (eqb net m) true (known m)) rest)

-- the entries held once each network of a file has one: the first free place then; where they are more than sixteen, seventeen
unfoldable pub held_with : ℕ → List ℕ → List ℕ → ℕ
held_with count file nets = at_most 17 (entries_held count + length (new_in (λ m. has_entry count m nets) (networks_in file)))

-- a new record's: zeros
unfoldable pub none : Entries
none = record { nets = replicate 16 0; bans = replicate 16 0; n1s = replicate 16 0; forbidden = replicate 16 0; barred = replicate 16 0; ranks = replicate 16 0 }

-- networks, counters and marks after a deed; an import's come behind it
unfoldable pub marks_after : Deed → ℕ → ℕ → ℕ → Entries → Entries
marks_after deed.Nothing count banlimit n1limit t = t
marks_after (deed.Ban s) count banlimit n1limit t = banned s banlimit t
marks_after (deed.Bar s) count banlimit n1limit t = barred_by s n1limit t
marks_after (deed.Accept s) count banlimit n1limit t = unforbidden s t
marks_after (deed.ToLimit net) count banlimit n1limit t = n1_to_limit net count n1limit t
marks_after deed.Import count banlimit n1limit t = t
marks_after deed.Sweep count banlimit n1limit t = swept count banlimit n1limit t
marks_after deed.Power count banlimit n1limit t = powered count banlimit t
marks_after deed.Fresh count banlimit n1limit t = with_ranks t.ranks none

-- the order after a deed (document 02, R-9): "last marked .. by a taken reject or an import", whose own comes behind it
unfoldable pub ranks_after : Deed → ℕ → List ℕ → List ℕ
ranks_after deed.Nothing count ranks = ranks
ranks_after (deed.Ban s) count ranks = last_at s.at (entries_held count) ranks
ranks_after (deed.Bar s) count ranks = last_at s.at (entries_held count) ranks
ranks_after (deed.Accept s) count ranks = ranks
ranks_after (deed.ToLimit net) count ranks = ranks
ranks_after deed.Import count ranks = ranks
ranks_after deed.Sweep count ranks = ranks
ranks_after deed.Power count ranks = ranks
ranks_after deed.Fresh count ranks = replicate 16 0

unfoldable pub is_import : Deed → Bool
is_import deed.Nothing = false
is_import (deed.Ban s) = false
is_import (deed.Bar s) = false
is_import (deed.Accept s) = false
is_import (deed.ToLimit net) = false
is_import deed.Import = true
is_import deed.Sweep = false
is_import deed.Power = false
is_import deed.Fresh = false

-- the file of an import, which is the octets beside the event
unfoldable pub with_file : Deed → List ℕ → ℕ → Entries → Entries
with_file k octets count t = cond (is_import k) (file_taken octets count t) t

-- what a deed makes of the entries
unfoldable pub entries_after : Deed → List ℕ → ℕ → ℕ → ℕ → Entries → Entries
entries_after k octets count banlimit n1limit t = with_file k octets count (with_ranks (ranks_after k count t.ranks) (marks_after k count banlimit n1limit t))
