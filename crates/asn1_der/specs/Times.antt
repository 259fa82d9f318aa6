-- Contents octets of the types of X.680 38, as DER has them (X.690 8.26), and of a GeneralizedTime.
use Rattle.std.specs.Cmp.Lexicographic.{slice_cmp}
use Rattle.std.specs.Ordering.{is_gt, nat_cmp}
use Rattle.std.specs.Prelude.{◌≡◌, ◌==◌, ◌&&◌, ◌||◌, ◌⊎◌, ◌++◌, ℕ, nat_lt, Bool, true, false, not, if◌then◌else◌, List, [], ◌∷◌, length, take, drop, codes}
use Rattle.std.specs.Char.{is_ascii_digit}
use Rattle.std.specs.List.{list_all, list_any}
use Rattle.std.specs.Str.{byte}
use Rattle.asn1_numbers.specs.Octets.{digit}
use Rattle.asn1_leaves.specs.Contents.Moment.{Moment}
use Rattle.asn1_leaves.specs.Contents.GeneralizedTime.{GeneralizedTimeContents}
use Rattle.asn1_leaves.specs.Contents.UtcTime.{UtcTimeContents}
use Rattle.asn1_der.specs.Padding.{has_padded_fraction}
use Rattle.asn1_der.specs.Real.{behind_digits, digit_count}

-- YYYYMMDDhhmmss of a moment that exists, perhaps a fraction, and Z. Its seconds are 00 to 59
unfoldable pub IsMoment : List ℕ → Type 0
IsMoment octets = (m : Moment) × GeneralizedTimeContents m octets

-- UTCTime: YYMMDDhhmmssZ of a moment that exists, whose seconds are 00 to 59 (X.680 47; X.690 11.8)
abbrev pub IsUtcTime : List ℕ → Type 0
IsUtcTime octets = (m : Moment) × UtcTimeContents m octets

-- so many octets, which are those of a moment that exists with the octets before and behind them
abbrev pub IsWithinMoment : ℕ → List ℕ → List ℕ → List ℕ → Type 0
IsWithinMoment size front octets end =
    (length octets ≡ size) × IsMoment (front ++ (octets ++ end))

-- the one octet
abbrev pub is_only : ℕ → List ℕ → Bool
is_only c (octet ∷ []) = octet == c
is_only c octets = false

-- perhaps a point and digits, and then Z
abbrev pub is_end_of_time : List ℕ → Bool
is_end_of_time [] = false
is_end_of_time (first ∷ more) =
    if first == byte "." then is_only (byte "Z") (behind_digits more) else is_only (byte "Z") (first ∷ more)

-- second 60, with which a minute may end (ISO 8601), and what stands behind it
abbrev pub is_second_60 : List ℕ → Bool
is_second_60 (tens ∷ ones ∷ more) = (tens == digit 6) && (ones == digit 0) && is_end_of_time more
is_second_60 octets = false

-- YYYYMMDDhhmm60 of a minute that exists, perhaps a fraction, and Z
unfoldable pub IsLeapSecond : List ℕ → Type 0
IsLeapSecond octets =
    IsWithinMoment 12 [] (take 12 octets) (codes "59Z") × (is_second_60 (drop 12 octets) ≡ true)

-- GeneralizedTime: YYYYMMDDhhmmss of a moment that exists, whose seconds are 00 to 60, perhaps a point and a fraction
-- that does not end in 0, and Z (X.680 46; X.690 11.7)
abbrev pub IsGeneralizedTime : List ℕ → Type 0
IsGeneralizedTime octets =
    (IsMoment octets ⊎ IsLeapSecond octets) × (has_padded_fraction octets ≡ false)

-- DATE: YYYYMMDD of a day that exists, in a year from 1582 on, as the setting Year=Basic has it (8.26.2)
abbrev pub is_from_1582 : List ℕ → Bool
is_from_1582 octets = not (is_gt (slice_cmp nat_cmp (codes "1582") octets))

abbrev pub IsDate : List ℕ → Type 0
IsDate octets = IsWithinMoment 8 [] octets (codes "000000Z") × (is_from_1582 octets ≡ true)

-- hh of 00 to 23, mm of 00 to 59, ss of 00 to 60
abbrev pub is_hour : ℕ → ℕ → Bool
is_hour tens ones = nat_lt tens (digit 2) || ((tens == digit 2) && nat_lt ones (digit 4))

abbrev pub is_minute : ℕ → Bool
is_minute tens = nat_lt tens (digit 6)

abbrev pub is_second : ℕ → ℕ → Bool
is_second tens ones = nat_lt tens (digit 6) || ((tens == digit 6) && (ones == digit 0))

unfoldable pub is_clock_time : List ℕ → Bool
is_clock_time (a ∷ b ∷ c ∷ d ∷ e ∷ f ∷ []) =
    list_all is_ascii_digit (a ∷ b ∷ c ∷ d ∷ e ∷ f ∷ []) && is_hour a b && is_minute c && is_second e f
is_clock_time octets = false

-- the end of a day, 240000
unfoldable pub is_end_of_day : List ℕ → Bool
is_end_of_day (a ∷ b ∷ c ∷ d ∷ e ∷ f ∷ []) =
    (a == digit 2) && (b == digit 4) && (c == digit 0) && (d == digit 0) && (e == digit 0) && (f == digit 0)
is_end_of_day octets = false

-- TIME-OF-DAY: hhmmss (8.26.3), second 60 and the end of a day with it (ISO 8601)
abbrev pub is_time_of_day : List ℕ → Bool
is_time_of_day octets = is_end_of_day octets || is_clock_time octets

-- DATE-TIME: YYYYMMDDhhmmss, of a DATE and a TIME-OF-DAY (8.26.4)
abbrev pub IsDateTime : List ℕ → Type 0
IsDateTime octets = IsDate (take 8 octets) × (is_time_of_day (drop 8 octets) ≡ true)

-- one of the characters
abbrev pub is_one_of : List ℕ → ℕ → Bool
is_one_of characters c = list_any (λ d. c == d) characters

-- a fraction of the number before it, and the designator at the end
abbrev pub is_last_fraction : ℕ → List ℕ → Bool
is_last_fraction designator [] = false
is_last_fraction designator (mark ∷ digits) =
    is_one_of (codes ".,") mark && nat_lt 0 (digit_count digits) && is_only designator (behind_digits digits)

-- what follows the designator in front of a text, else the other text
abbrev pub behind_designator : ℕ → List ℕ → List ℕ → List ℕ
behind_designator designator [] other = other
behind_designator designator (first ∷ rest) other = if first == designator then rest else other

-- what follows a number with the designator, which may be left out. A fraction has the last number alone
unfoldable pub behind_unit : ℕ → List ℕ → List ℕ
behind_unit designator text =
    if digit_count text == 0 then text
    else if is_last_fraction designator (behind_digits text) then []
    else behind_designator designator (behind_digits text) text

-- what follows years, months, weeks and days; and hours, minutes and seconds
abbrev pub behind_days : List ℕ → List ℕ
behind_days text =
    behind_unit (byte "D") (behind_unit (byte "W") (behind_unit (byte "M") (behind_unit (byte "Y") text)))

abbrev pub behind_seconds : List ℕ → List ℕ
behind_seconds text = behind_unit (byte "S") (behind_unit (byte "M") (behind_unit (byte "H") text))

-- nothing; or T, and hours, minutes and seconds, one or more
abbrev pub are_times : List ℕ → Bool
are_times [] = true
are_times (mark ∷ times) =
    (mark == byte "T") && nat_lt 0 (length times) && (length (behind_seconds times) == 0)

-- DURATION: years, months, weeks, days, and behind T hours, minutes and seconds, one or more of them, as ISO 8601 has
-- them behind P, which is left out (8.26.5)
unfoldable pub is_duration : List ℕ → Bool
is_duration text = nat_lt 0 (length text) && are_times (behind_days text)

-- TIME (8.26.1): which characters stand behind which, in each of the notations of X.680 38
unfoldable pub may_follow : ℕ → ℕ → Bool
may_follow before next =
    if is_ascii_digit before then is_ascii_digit next || is_one_of (codes "+-:.,/TWYMDHSCZ") next
    else if before == byte "/" then is_ascii_digit next || is_one_of (codes "+-PT") next
    else if before == byte "-" then is_ascii_digit next || (next == byte "W")
    else if before == byte "P" then is_ascii_digit next || (next == byte "T")
    else if is_one_of (codes "CZ") before then next == byte "/"
    else if is_one_of (codes "WYMDHS") before then is_ascii_digit next || is_one_of (codes "T/") next
    else is_one_of (codes "+:.,T") before && is_ascii_digit next

-- the characters that stand at the end
abbrev pub may_end : ℕ → Bool
may_end last = is_ascii_digit last || is_one_of (codes "CZWYMDHS") last

abbrev pub are_neighbours : ℕ → List ℕ → Bool
are_neighbours before [] = may_end before
are_neighbours before (next ∷ more) = may_follow before next && are_neighbours next more

-- a solidus and what stands behind it
abbrev pub is_recurring : List ℕ → Bool
is_recurring [] = false
is_recurring (mark ∷ interval) = (mark == byte "/") && are_neighbours (byte "/") interval

-- in front stand what stands behind a solidus; or R, perhaps digits, and a solidus, the marks of a recurring interval
unfoldable pub is_time : List ℕ → Bool
is_time [] = false
is_time (first ∷ more) =
    if first == byte "R" then is_recurring (behind_digits more) else are_neighbours (byte "/") (first ∷ more)
