-- Contents octets of a UTCTime (X.690 8.25 and 11.8, X.680 47).
use Rattle.std.specs.Prelude.{◌≡◌, ℕ, ◌%◌, ◌≤ℤ◌, ◌&&◌, ◌||◌, ◌==◌, ◌++◌, if◌then◌else◌, pos, unsigned_abs, nat_lt, List, [], length, slice_index, decimal, codes, encode_utf8_all}
use Rattle.std.specs.Str.{byte}
use Rattle.std.specs.Char.{is_ascii_digit}
use Rattle.asn1_leaves.specs.Contents.Moment.{Moment, IsValid, two_digits, from_month}
use Rattle.asn1_headers.specs.Fault.{DecodeFault, invalid_date_value}

-- a moment that a UTCTime keeps: its two digits of the year, where they are from 50 on, stand for 1950 to 1999, and
-- below for 2000 to 2049
pub record IsFaithfulUtcTime (m : Moment) : Type 0 where
  pub valid : IsValid m
  pub from_1950 : pos 1950 ≤ℤ m.year
  pub to_2049 : m.year ≤ℤ pos 2049
  pub whole_second : m.nanosecond ≡ 0

-- the contents octets that are written: YYMMDDhhmmssZ (11.8.1, 11.8.2), without the century and the fraction
abbrev pub utc_time_contents : Moment → List ℕ
utc_time_contents m = two_digits (unsigned_abs m.year % 100) ++ (from_month m ++ codes "Z")

-- the contents octets mean the moment. Each moment has one form
abbrev pub UtcTimeContents : Moment → List ℕ → Type 0
UtcTimeContents m contents = IsFaithfulUtcTime m × (contents ≡ utc_time_contents m)

-- the century that a text which begins with a and b is shown with, where they are two digits, or + and a digit
abbrev pub century_shown : ℕ → ℕ → List ℕ
century_shown a b =
    if (is_ascii_digit a || (a == byte "+")) && is_ascii_digit b
    then (if nat_lt a (byte "5") then codes "20" else codes "19")
    else []

-- the text of a fault: the number of octets, or each octet as the character of its number
abbrev pub utc_time_fault : List ℕ → DecodeFault
utc_time_fault contents =
    invalid_date_value (if length contents == 13
    then century_shown (slice_index contents 0) (slice_index contents 1) ++ encode_utf8_all contents
    else decimal (length contents))

-- the contents octets mean no moment, with this fault
abbrev pub UtcTimeFault : List ℕ → DecodeFault → Type 0
UtcTimeFault contents fault =
    ((m : Moment) → UtcTimeContents m contents → ⊥) × (fault ≡ utc_time_fault contents)
