-- The layout, version 1: each field of the record and of the table of deadlines, column by column, with the offset that it begins at; and the fields of octets at those offsets. Assumes nothing.
use Rattle.std.specs.Prelude.{ℕ, ◌+◌, List, [], ◌∷◌, ◌++◌, get_or}
use Rattle.entries.specs.declared.Entries.{Entries}
use Rattle.record.specs.declared.Device.{Device}
use Rattle.record.specs.declared.Access.{Access}
use Rattle.record.specs.declared.Hot.{Hot}
use Rattle.record.specs.declared.Record.{Record}
use Rattle.deadlines.specs.declared.Table.{Table}
use Rattle.image.specs.Numbers.{Column, number_at, numbers_at}
use Rattle.image.specs.Numbers.Column.{column}

-- the whole image, and the octets that its checksum is over
abbrev pub image_length : ℕ
image_length = 1392

abbrev pub sum_place : ℕ
sum_place = 1388

-- "TJRF"
abbrev pub mark : List ℕ
mark = 0x54 ∷ 0x4A ∷ 0x52 ∷ 0x46 ∷ []

-- 0 the mark; 4 the layout's version and the image's length; 8 the serial
unfoldable pub head_columns : ℕ → List Column
head_columns serial = column 1 mark ∷ column 2 (1 ∷ image_length ∷ []) ∷ column 4 (serial ∷ []) ∷ []

-- the device, by width: 0 of four octets, 8 of one
unfoldable pub device_words : Device → List ℕ
device_words d = d.home ∷ d.t3512length ∷ []

unfoldable pub device_octets : Device → List ℕ
device_octets d =
    d.card ∷ d.suci ∷ d.cardlimit ∷ d.banlimit ∷ d.n1limit ∷ d.t3247 ∷ d.t3512 ∷ d.due ∷ d.capability ∷ d.security ∷ d.roaming ∷ d.regional ∷ d.edition ∷ []

unfoldable pub device_columns : Device → List Column
device_columns d = column 4 (device_words d) ∷ column 1 (device_octets d) ∷ []

-- an access: 0 of four octets, 16 of two, 22 of one
unfoldable pub access_words : Access → List ℕ
access_words a = a.net ∷ a.code ∷ a.lastnet ∷ a.lastcode ∷ []

unfoldable pub access_pairs : Access → List ℕ
access_pairs a = a.t3502length ∷ a.uplink ∷ a.sessions ∷ []

unfoldable pub access_octets : Access → List ℕ
access_octets a =
    a.state ∷ a.status ∷ a.attempts ∷ a.cardcounter ∷ a.t3510 ∷ a.t3511 ∷ a.t3502 ∷ a.guti ∷ a.visited ∷ a.ksi ∷ a.equivalents ∷ a.entries ∷ a.regtype ∷ a.t3346 ∷ []

unfoldable pub access_columns : Access → List Column
access_columns a = column 4 (access_words a) ∷ column 2 (access_pairs a) ∷ column 1 (access_octets a) ∷ []

-- an access's entries: 0 networks, 64 ban counters, 80 N1 counters, 96 forbidden, 112 barred, 128 ranks
unfoldable pub entries_columns : Entries → List Column
entries_columns t = column 4 t.nets ∷ column 1 t.bans ∷ column 1 t.n1s ∷ column 1 t.forbidden ∷ column 1 t.barred ∷ column 1 t.ranks ∷ []

-- 393 and 713 the areas; 1033 and 1043 the GUTIs; 1053 and 1113 the equivalent networks
unfoldable pub area_columns : Record → List Column
area_columns r = column 8 r.roaming ∷ column 8 r.regional ∷ column 1 r.guti0 ∷ column 1 r.guti1 ∷ column 4 r.equivalents0 ∷ column 4 r.equivalents1 ∷ []

-- 1173 the SUCI; 1237 and 1250 the capabilities
unfoldable pub card_columns : Record → List Column
card_columns r = column 1 r.suci ∷ column 1 r.capability ∷ column 1 r.security ∷ []

-- 12 the device; 33 and 69 the accesses
unfoldable pub hot_columns : Hot → List Column
hot_columns h = device_columns h.dev ++ (access_columns h.a0 ++ access_columns h.a1)

-- 105 and 249 the entries
unfoldable pub record_columns : Record → List Column
record_columns r = hot_columns r.hot ++ (entries_columns r.e0 ++ (entries_columns r.e1 ++ (area_columns r ++ card_columns r)))

-- 1258 the rests, 1338 the deadlines, 1378 which slots are held
unfoldable pub table_columns : Table → List Column
table_columns t = column 8 t.rests ∷ column 4 t.ends ∷ column 1 t.held ∷ []

unfoldable pub image_columns : ℕ → Record → Table → List Column
image_columns serial r t = head_columns serial ++ (record_columns r ++ table_columns t)

-- The same fields of octets.
unfoldable pub device_from : List ℕ → List ℕ → Device
device_from words octets = record {
  home = get_or words 0 0;
  t3512length = get_or words 1 0;
  card = get_or octets 0 0;
  suci = get_or octets 1 0;
  cardlimit = get_or octets 2 0;
  banlimit = get_or octets 3 0;
  n1limit = get_or octets 4 0;
  t3247 = get_or octets 5 0;
  t3512 = get_or octets 6 0;
  due = get_or octets 7 0;
  capability = get_or octets 8 0;
  security = get_or octets 9 0;
  roaming = get_or octets 10 0;
  regional = get_or octets 11 0;
  edition = get_or octets 12 0;
}

unfoldable pub device_at : List ℕ → ℕ → Device
device_at s at = device_from (numbers_at 4 2 s at) (numbers_at 1 13 s (at + 8))

unfoldable pub access_from : List ℕ → List ℕ → List ℕ → Access
access_from words pairs octets = record {
  net = get_or words 0 0;
  code = get_or words 1 0;
  lastnet = get_or words 2 0;
  lastcode = get_or words 3 0;
  t3502length = get_or pairs 0 0;
  uplink = get_or pairs 1 0;
  sessions = get_or pairs 2 0;
  state = get_or octets 0 0;
  status = get_or octets 1 0;
  attempts = get_or octets 2 0;
  cardcounter = get_or octets 3 0;
  t3510 = get_or octets 4 0;
  t3511 = get_or octets 5 0;
  t3502 = get_or octets 6 0;
  guti = get_or octets 7 0;
  visited = get_or octets 8 0;
  ksi = get_or octets 9 0;
  equivalents = get_or octets 10 0;
  entries = get_or octets 11 0;
  regtype = get_or octets 12 0;
  t3346 = get_or octets 13 0;
}

unfoldable pub access_at : List ℕ → ℕ → Access
access_at s at = access_from (numbers_at 4 4 s at) (numbers_at 2 3 s (at + 16)) (numbers_at 1 14 s (at + 22))

unfoldable pub hot_at : List ℕ → Hot
hot_at s = record { dev = device_at s 12; a0 = access_at s 33; a1 = access_at s 69 }

unfoldable pub entries_at : List ℕ → ℕ → Entries
entries_at s at = record {
  nets = numbers_at 4 16 s at;
  bans = numbers_at 1 16 s (at + 64);
  n1s = numbers_at 1 16 s (at + 80);
  forbidden = numbers_at 1 16 s (at + 96);
  barred = numbers_at 1 16 s (at + 112);
  ranks = numbers_at 1 16 s (at + 128);
}

unfoldable pub record_at : List ℕ → Record
record_at s = record {
  hot = hot_at s;
  e0 = entries_at s 105;
  e1 = entries_at s 249;
  roaming = numbers_at 8 40 s 393;
  regional = numbers_at 8 40 s 713;
  guti0 = numbers_at 1 10 s 1033;
  guti1 = numbers_at 1 10 s 1043;
  equivalents0 = numbers_at 4 15 s 1053;
  equivalents1 = numbers_at 4 15 s 1113;
  suci = numbers_at 1 64 s 1173;
  capability = numbers_at 1 13 s 1237;
  security = numbers_at 1 8 s 1250;
}

unfoldable pub table_at : List ℕ → Table
table_at s = record { rests = numbers_at 8 10 s 1258; ends = numbers_at 4 10 s 1338; held = numbers_at 1 10 s 1378 }

abbrev pub serial_at : List ℕ → ℕ
serial_at s = number_at 4 s 8
