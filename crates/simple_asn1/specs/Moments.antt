-- Moments by their fields.
use Rattle.std.specs.Prelude.{ℕ, pos}
use Rattle.asn1_leaves.specs.Contents.Moment.{Moment}

-- the moment of these fields
abbrev pub moment_with : ℕ → ℕ → ℕ → ℕ → ℕ → ℕ → ℕ → Moment
moment_with year month day hour minute second nanosecond = record {
  year = pos year;
  month = month;
  day = day;
  hour = hour;
  minute = minute;
  second = second;
  nanosecond = nanosecond;
}
