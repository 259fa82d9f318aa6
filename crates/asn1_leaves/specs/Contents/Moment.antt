-- Moments, of which UTCTime and GeneralizedTime are two notations (X.680 46, 47), and what both share.
use Rattle.std.specs.Prelude.{ℕ, ◌/◌, ◌%◌, ◌<◌, ◌≤ℤ◌, ◌++◌, ℤ, pos, negsuc, List, [], ◌∷◌, Option, Some, None}
use Rattle.asn1_numbers.specs.Octets.{digit}
use Rattle.std.specs.Int.{IsInRange}
use Rattle.jiff_core.specs.Calendar.{days_in_month}
use Rattle.jiff_core.specs.declared.civil.datetime.DateTime.{DateTime}
use Rattle.asn1_headers.specs.declared.error.ASN1EncodeErr.{ASN1EncodeErr}
use Rattle.asn1_headers.specs.declared.error.ASN1EncodeErr.TheVariants.{YearOutOfRange}

-- a date and a time of day
pub record Moment : Type 0 where
  pub year : ℤ
  pub month : ℕ
  pub day : ℕ
  pub hour : ℕ
  pub minute : ℕ
  pub second : ℕ
  pub nanosecond : ℕ

-- the moment of a `DateTime`
abbrev pub moment_of : DateTime → Moment
moment_of d = record {
  year = d.date.year;
  month = d.date.month;
  day = d.date.day;
  hour = d.time.hour;
  minute = d.time.minute;
  second = d.time.second;
  nanosecond = d.time.subsec_nanosecond;
}

-- a year of at most four digits, a day that it has by the Gregorian rule, by which year 0 is a leap year, and a time of
-- that day
pub record IsValid (m : Moment) : Type 0 where
  pub from_zero : pos 0 ≤ℤ m.year
  pub four_digits : m.year ≤ℤ pos 9999
  pub month : IsInRange 1 12 m.month
  pub day : IsInRange 1 (days_in_month m.year m.month) m.day
  pub hour : m.hour < 24
  pub minute : m.minute < 60
  pub second : m.second < 60
  pub nanosecond : m.nanosecond < 1000000000

-- a number below 100 in two digits
abbrev pub two_digits : ℕ → List ℕ
two_digits n = digit (n / 10) ∷ digit (n % 10) ∷ []

-- month, day, hour, minute and second: MMDDhhmmss
abbrev pub from_month : Moment → List ℕ
from_month m =
    two_digits m.month ++ (two_digits m.day ++ (two_digits m.hour ++ (two_digits m.minute ++ two_digits m.second)))

-- why a moment can't be written: its year is below 0
abbrev pub year_write_fault : ℤ → Option ASN1EncodeErr
year_write_fault (pos n) = None
year_write_fault (negsuc n) = Some YearOutOfRange

abbrev pub moment_write_fault : Moment → Option ASN1EncodeErr
moment_write_fault m = year_write_fault m.year
