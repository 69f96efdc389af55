-- Whether a record is valid is told by the parts that the list reads. It holds since the others are in none of its rules. Assumes nothing.
use mathlib.Core.Path.{◌≡◌, refl}
use Rattle.record.specs.declared.Record.{Record}
use Rattle.ranges.specs.Valid.{ranges_of, codes_of, once_of, valid_of, parts_record}

pub parts-valid : (r : Record) → valid_of (parts_record r.hot r.e0 r.e1 r.roaming r.regional r.equivalents0 r.equivalents1 r.suci) ≡ valid_of r
unfolding valid_of ranges_of codes_of once_of parts_record
parts-valid r = refl
