-- The fields of a moment by the places of their digits. Private contracts of `contents` alone name these.
use Rattle.std.specs.Prelude.{◌≡◌, ◌⊎◌, ℕ, ◌+◌, ◌-◌, ◌*◌, ◌/◌, ◌%◌, ◌<◌, pos, List, slice_index, codes, ◌++◌}
use Rattle.asn1_numbers.specs.Octets.{digit}
use Rattle.asn1_leaves.specs.Contents.GeneralizedTime.{IsEnd, fraction_number, tenth}
use Rattle.asn1_leaves.specs.Contents.Moment.{Moment, IsValid}

-- the octets are the two digits of the number
pub record IsPair (a b n : ℕ) : Type 0 where
  pub small : n < 100
  pub tens : a ≡ digit (n / 10)
  pub units : b ≡ digit (n % 10)

-- the number of two digits
abbrev pub pair_number : ℕ → ℕ → ℕ
pair_number a b = (a - 48) * 10 + (b - 48)

-- the octets at the place and after it are the two digits of the number
abbrev pub PairAt : List ℕ → ℕ → ℕ → Type 0
PairAt octets place n = IsPair (slice_index octets place) (slice_index octets (place + 1)) n

pub record HasFields
    (year month day hour minute second nanosecond : ℕ) (m : Moment) : Type 0 where
  pub year_is : m.year ≡ pos year
  pub month_is : m.month ≡ month
  pub day_is : m.day ≡ day
  pub hour_is : m.hour ≡ hour
  pub minute_is : m.minute ≡ minute
  pub second_is : m.second ≡ second
  pub nanosecond_is : m.nanosecond ≡ nanosecond

-- the moment is valid, of this year and fraction, and ten octets are its other fields
pub record IsSpelled (year : ℕ) (octets : List ℕ) (nanosecond : ℕ) (m : Moment) : Type 0 where
  pub valid : IsValid m
  pub year_is : m.year ≡ pos year
  pub month_at : PairAt octets 0 m.month
  pub day_at : PairAt octets 2 m.day
  pub hour_at : PairAt octets 4 m.hour
  pub minute_at : PairAt octets 6 m.minute
  pub second_at : PairAt octets 8 m.second
  pub nanosecond_is : m.nanosecond ≡ nanosecond

-- the octets are the end of a time, with a fraction of so many nanoseconds
abbrev pub IsFractionOf : List ℕ → ℕ → Type 0
IsFractionOf end n = (digits : List ℕ) × IsEnd digits end × (n ≡ fraction_number tenth digits)

-- the rest is what follows the point that the text begins with, or the text if it begins with none
abbrev pub FollowsPoint : List ℕ → List ℕ → Type 0
FollowsPoint text rest =
    (text ≡ codes "." ++ rest) ⊎ ((rest ≡ text) × ((r : List ℕ) → text ≡ codes "." ++ r → ⊥))
