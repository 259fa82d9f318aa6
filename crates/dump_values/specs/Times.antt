-- Text of times, as ISO 8601 writes them with its marks.
use Rattle.std.specs.Prelude.{◌≡◌, List, [], ◌∷◌, ◌++◌, ℕ, codes}
use Rattle.jiff.specs.Names.{iso_datetime_text}
use Rattle.jiff_core.specs.declared.civil.datetime.DateTime.{DateTime}
use Rattle.asn1_leaves.specs.Contents.GeneralizedTime.{GeneralizedTimeContents}
use Rattle.asn1_leaves.specs.Contents.Moment.{Moment, moment_of}

-- the second in which a moment is
abbrev pub whole_second : Moment → Moment
whole_second m = record {
  year = m.year;
  month = m.month;
  day = m.day;
  hour = m.hour;
  minute = m.minute;
  second = m.second;
  nanosecond = 0;
}

-- the digits of a fraction behind their point, all that there are; nothing of none
abbrev pub fraction_text : List ℕ → List ℕ
fraction_text [] = []
fraction_text (digit ∷ digits) = codes "." ++ digit ∷ digits

-- the text of a moment, with these digits of a fraction: `2026-11-23T00:43:05.5Z`
abbrev pub IsMomentText : Moment → List ℕ → List ℕ → Type 0
IsMomentText moment digits text =
    (datetime : DateTime) × (moment_of datetime ≡ whole_second moment)
    × (text ≡ iso_datetime_text datetime ++ (fraction_text digits ++ codes "Z"))

-- the digits are those of the fraction, where the contents octets are a GeneralizedTime
abbrev pub AreFractionOf : List ℕ → List ℕ → Type 0
AreFractionOf contents digits = (m : Moment) (time : GeneralizedTimeContents m contents) → digits ≡ time.digits
