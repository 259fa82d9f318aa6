-- Contents octets of a GeneralizedTime (X.690 8.25 and 11.7, X.680 46).
use Rattle.std.specs.Prelude.{◌≡◌, ◌⊎◌, ℕ, zero, suc, ◌+◌, ◌-◌, ◌*◌, ◌/◌, ◌%◌, ◌==◌, ◌++◌, true, not, if◌then◌else◌, unsigned_abs, nat_lt, List, [], ◌∷◌, length, take, drop, replicate, decimal, codes}
use Rattle.asn1_numbers.specs.Octets.{digit}
use Rattle.std.specs.Char.{is_ascii, is_ascii_digit}
use Rattle.std.specs.List.{list_all, list_any}
use Rattle.std.specs.Str.{is_utf8, byte}
use Rattle.asn1_leaves.specs.Contents.Moment.{Moment, IsValid, two_digits, from_month}
use Rattle.asn1_headers.specs.Fault.{DecodeFault, invalid_date_value, utf8_fault}

-- the year in four digits, and the rest to the second: YYYYMMDDhhmmss
abbrev pub to_second : Moment → List ℕ
to_second m =
    let year = unsigned_abs m.year in
    two_digits (year / 100) ++ (two_digits (year % 100) ++ from_month m)

-- what follows the second: perhaps a point, the digits of a fraction, and Z
abbrev pub IsEnd : List ℕ → List ℕ → Type 0
IsEnd digits end =
    (list_all is_ascii_digit digits ≡ true)
    × ((end ≡ digits ++ codes "Z") ⊎ (end ≡ codes "." ++ (digits ++ codes "Z")))

-- the number that digits mean where the first counts `unit`: each further one counts a tenth of the one before it, and
-- from where that is below 1 nothing
abbrev pub fraction_number : ℕ → List ℕ → ℕ
fraction_number unit [] = 0
fraction_number unit (d ∷ ds) = (d - digit 0) * unit + fraction_number (unit / 10) ds

-- the first digit of a fraction of a second counts so many nanoseconds
abbrev pub tenth : ℕ
tenth = 100000000

-- the contents octets mean the moment
pub record GeneralizedTimeContents (m : Moment) (contents : List ℕ) : Type 0 where
  pub valid : IsValid m
  pub digits : List ℕ
  pub end : List ℕ
  pub octets : contents ≡ to_second m ++ end
  pub is_end : IsEnd digits end
  pub nanosecond : m.nanosecond ≡ fraction_number tenth digits

-- the digits of a number where the first counts `unit`, in at most so many places, up to the last that is not 0
abbrev pub fraction_digits : ℕ → ℕ → ℕ → List ℕ
fraction_digits zero unit n = []
fraction_digits (suc places) unit zero = []
fraction_digits (suc places) unit (suc n) = digit (suc n / unit) ∷ fraction_digits places (unit / 10) (suc n % unit)

-- the fraction that is written: no point where there are no digits, no zeros at the end (11.7.3)
abbrev pub written_fraction : ℕ → List ℕ
written_fraction n = if n == 0 then [] else codes "." ++ fraction_digits 9 tenth n

-- the contents octets that are written: YYYYMMDDhhmmss, the fraction if there is one, and Z (11.7)
abbrev pub generalized_time_contents : Moment → List ℕ
generalized_time_contents m = to_second m ++ (written_fraction m.nanosecond ++ codes "Z")

-- a moment that a GeneralizedTime keeps
abbrev pub IsFaithfulGeneralizedTime : Moment → Type 0
IsFaithfulGeneralizedTime m = IsValid m

-- the text with a point after its fourteenth character, unless it has one somewhere
abbrev pub with_point : List ℕ → List ℕ
with_point text = if list_any (λ c. c == byte ".") text then text else take 14 text ++ (codes "." ++ drop 14 text)

-- the text with zeros before its last character, as many as it is short of 25 characters
abbrev pub with_zeros : List ℕ → List ℕ
with_zeros text =
    let last = length text - 1 in
    take last text ++ (replicate (25 - length text) (digit 0) ++ drop last text)

-- the fault of contents octets that mean no moment
abbrev pub generalized_time_fault : List ℕ → DecodeFault
generalized_time_fault contents =
    if nat_lt (length contents) 15 then invalid_date_value (decimal (length contents))
    else (if not (is_utf8 contents) then utf8_fault contents
    else (if not (list_all is_ascii contents) then invalid_date_value contents
    else invalid_date_value (with_zeros (with_point contents))))

-- the contents octets mean no moment, with this fault
abbrev pub GeneralizedTimeFault : List ℕ → DecodeFault → Type 0
GeneralizedTimeFault contents fault =
    ((m : Moment) → GeneralizedTimeContents m contents → ⊥)
    × (fault ≡ generalized_time_fault contents)
