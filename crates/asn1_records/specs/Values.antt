-- The value of the leaf at an offset.
use Rattle.std.specs.Prelude.{◌≡◌, ◌⊎◌, ◌+◌, ◌*◌, ◌<◌, ◌≤◌, ℕ, ℤ, pos, Bool, List, FitsSigned, IsUtf8, drop, length, take}
use Rattle.std.specs.Int.{w64}
use Rattle.std.specs.Str.{chars}
use Rattle.asn1_headers.specs.declared.tags.TheConstants.{BIT_STRING, INTEGER, OBJECT_IDENTIFIER, UTC_TIME, GENERALIZED_TIME}
use Rattle.asn1_headers.specs.declared.header.ASN1Class.TheVariants.{Universal}
use Rattle.asn1_leaves.specs.Contents.Moment.{Moment}
use Rattle.asn1_leaves.specs.StringKind.{StringKind}
use Rattle.simple_asn1.specs.Contents.{string_tag}
use Rattle.simple_asn1.specs.DottedDecimal.{dotted_decimal}
use Rattle.simple_asn1.specs.Fault.{DecodeFault}
use Rattle.simple_asn1.specs.Grammar.{IsDocument, FirstFault}
use Rattle.simple_asn1.specs.Header.{Encoding}
use Rattle.simple_asn1.specs.Places.{EncodingAt}
use Rattle.simple_asn1.specs.Tree.{Leaf, Trees, bit_string, generalized_time, integer, leaf, more_trees, no_trees, object_identifier, text, utc_time}
use Rattle.asn1_records.specs.Room.{ArePut}
use Rattle.asn1_records.specs.Status.{done, no_memory, no_such_value, out_of_range, status_of, too_long}
use Rattle.asn1_records.specs.declared.record.BitStringAnswer.{BitStringAnswer}
use Rattle.asn1_records.specs.declared.record.IntegerAnswer.{IntegerAnswer}
use Rattle.asn1_records.specs.declared.record.MomentAnswer.{MomentAnswer}
use Rattle.asn1_records.specs.declared.record.Outcome.{Outcome}

-- at the offset stands an encoding, which read alone has these trees
abbrev pub IsReadAlone : List ℕ → ℕ → Trees ℕ → Type 0
IsReadAlone octets offset bs = (x : List ℕ) × EncodingAt octets offset x × IsDocument x bs

-- read alone, the encoding at the offset is this leaf
abbrev pub IsLeafAt : List ℕ → ℕ → Leaf → Type 0
IsLeafAt octets offset l = (o : ℕ) × IsReadAlone octets offset (more_trees (leaf o l) no_trees)

-- a BIT STRING of so many bits, which the octets hold
abbrev pub IsBitStringAt : List ℕ → ℕ → ℕ → List ℕ → Type 0
IsBitStringAt octets offset n v = IsLeafAt octets offset (bit_string n v)

abbrev pub IsIntegerAt : List ℕ → ℕ → ℤ → Type 0
IsIntegerAt octets offset n = IsLeafAt octets offset (integer n)

-- a UTCTime or GeneralizedTime of the moment
abbrev pub IsMomentAt : List ℕ → ℕ → Moment → Type 0
IsMomentAt octets offset m = IsLeafAt octets offset (utc_time m) ⊎ IsLeafAt octets offset (generalized_time m)

-- a string of whatever kind, whose text these are in UTF-8
abbrev pub IsTextAt : List ℕ → ℕ → List ℕ → Type 0
IsTextAt octets offset utf8 = (kind : StringKind) × IsLeafAt octets offset (text kind (chars utf8))

abbrev pub IsIdentifierAt : List ℕ → ℕ → List ℕ → Type 0
IsIdentifierAt octets offset components = IsLeafAt octets offset (object_identifier components)

-- the tag numbers of the kinds of values
abbrev pub IsIntegerTag : ℕ → Type 0
IsIntegerTag tag = tag ≡ INTEGER

abbrev pub IsBitStringTag : ℕ → Type 0
IsBitStringTag tag = tag ≡ BIT_STRING

abbrev pub IsMomentTag : ℕ → Type 0
IsMomentTag tag = (tag ≡ UTC_TIME) ⊎ (tag ≡ GENERALIZED_TIME)

abbrev pub IsTextTag : ℕ → Type 0
IsTextTag tag = (kind : StringKind) × (tag ≡ string_tag kind)

abbrev pub IsIdentifierTag : ℕ → Type 0
IsIdentifierTag tag = tag ≡ OBJECT_IDENTIFIER

-- at the offset stands an encoding of class Universal with this tag number and these contents octets
pub record UniversalAt (octets : List ℕ) (offset tag : ℕ) (contents : List ℕ) : Type 0 where
  pub whole : List ℕ
  pub at : EncodingAt octets offset whole
  pub constructed : Bool
  pub header : ℕ
  pub encoding : Encoding whole Universal constructed tag contents header

-- why there is no value of a kind: no encoding with a tag of the kind stands at the offset, or one does whose contents
-- octets are at fault
pub data IsReason (IsTag : ℕ → Type 0) (octets : List ℕ) (offset status : ℕ) : Type 0 where
  is_of_another_kind :
      status ≡ no_such_value →
      ((tag : ℕ) (contents : List ℕ) → IsTag tag → UniversalAt octets offset tag contents → ⊥) →
      IsReason IsTag octets offset status
  is_at_fault :
      (tag : ℕ) → IsTag tag → (contents : List ℕ) → (u : UniversalAt octets offset tag contents) →
      (fault : DecodeFault) → FirstFault u.whole fault → status ≡ status_of fault →
      IsReason IsTag octets offset status

-- no value of a kind is answered: memory ran out, or there is none at the offset
abbrev pub IsMissing : Type 0 → (ℕ → Type 0) → List ℕ → ℕ → ℕ → Type 0
IsMissing IsThere IsTag octets offset status =
    (status ≡ no_memory) ⊎ ((IsThere → ⊥) × IsReason IsTag octets offset status)

-- the number; that it does not fit; or that there is none
pub data AnswersInteger (octets : List ℕ) (offset : ℕ) (answer : IntegerAnswer) : Type 0 where
  integer_was_found :
      answer.status ≡ done → IsIntegerAt octets offset answer.value → AnswersInteger octets offset answer
  integer_is_too_large :
      answer.status ≡ out_of_range → (n : ℤ) → IsIntegerAt octets offset n → (FitsSigned w64 n → ⊥) →
      answer.value ≡ pos 0 → AnswersInteger octets offset answer
  integer_is_missing :
      IsMissing ((n : ℤ) × IsIntegerAt octets offset n) IsIntegerTag octets offset answer.status →
      answer.value ≡ pos 0 → AnswersInteger octets offset answer

-- the record has the number of bits, and says where the octets stand that hold them
pub record HasBits (octets : List ℕ) (n : ℕ) (v : List ℕ) (answer : BitStringAnswer) : Type 0 where
  pub bits : answer.bits ≡ n
  pub enough : answer.bits ≤ 8 * answer.size
  pub within : answer.start + answer.size ≤ length octets
  pub held : take answer.size (drop answer.start octets) ≡ v

-- the bits, or that there are none
pub data AnswersBits (octets : List ℕ) (offset : ℕ) (answer : BitStringAnswer) : Type 0 where
  bits_were_found :
      answer.status ≡ done → (n : ℕ) → (v : List ℕ) → IsBitStringAt octets offset n v →
      HasBits octets n v answer → AnswersBits octets offset answer
  bits_are_missing :
      IsMissing ((n : ℕ) × (v : List ℕ) × IsBitStringAt octets offset n v) IsBitStringTag octets offset
      answer.status → (answer.start ≡ 0) × (answer.size ≡ 0) × (answer.bits ≡ 0) →
      AnswersBits octets offset answer

-- the record has the fields of the moment
pub record HasMoment (m : Moment) (answer : MomentAnswer) : Type 0 where
  pub year : answer.year ≡ m.year
  pub month : answer.month ≡ m.month
  pub day : answer.day ≡ m.day
  pub hour : answer.hour ≡ m.hour
  pub minute : answer.minute ≡ m.minute
  pub second : answer.second ≡ m.second
  pub nanosecond : answer.nanosecond ≡ m.nanosecond

-- all fields are 0, which is no moment
abbrev pub no_moment : Moment
no_moment = record {
  year = pos 0;
  month = 0;
  day = 0;
  hour = 0;
  minute = 0;
  second = 0;
  nanosecond = 0;
}

-- the moment, or that there is none
pub data AnswersMoment (octets : List ℕ) (offset : ℕ) (answer : MomentAnswer) : Type 0 where
  moment_was_found :
      answer.status ≡ done → (m : Moment) → IsMomentAt octets offset m → HasMoment m answer →
      AnswersMoment octets offset answer
  moment_is_missing :
      IsMissing ((m : Moment) × IsMomentAt octets offset m) IsMomentTag octets offset answer.status →
      HasMoment no_moment answer → AnswersMoment octets offset answer

-- the text, or how much room it needs; or that there is none
pub data AnswersText (octets : List ℕ) (offset : ℕ) (before after : List ℕ) (o : Outcome) : Type 0 where
  text_was_found :
      (utf8 : List ℕ) → IsUtf8 utf8 → IsTextAt octets offset utf8 → ArePut utf8 before after o →
      AnswersText octets offset before after o
  text_is_missing :
      IsMissing ((utf8 : List ℕ) × IsTextAt octets offset utf8) IsTextTag octets offset o.status →
      o.offset ≡ offset → o.count ≡ 0 → after ≡ before → AnswersText octets offset before after o

-- the octets of what is put in decimal are no more: the digits of one number take time that grows as their square
abbrev pub most_in_decimal : ℕ
most_in_decimal = 1024

-- what is read as components in decimal has no more characters, and what is read as a number: nothing that is put in
-- decimal has more
abbrev pub most_dotted : ℕ
most_dotted = 4 * most_in_decimal + 1

abbrev pub most_digits : ℕ
most_digits = 3 * most_in_decimal

-- the components in decimal, of any size, or how much room they need; that their contents octets are too many for that;
-- or that there is none
pub data AnswersIdentifier (octets : List ℕ) (offset : ℕ) (before after : List ℕ) (o : Outcome) : Type 0 where
  identifier_was_found :
      (components : List ℕ) → IsIdentifierAt octets offset components →
      (contents : List ℕ) → UniversalAt octets offset OBJECT_IDENTIFIER contents →
      length contents ≤ most_in_decimal → ArePut (dotted_decimal components) before after o →
      AnswersIdentifier octets offset before after o
  identifier_is_too_long :
      (contents : List ℕ) → UniversalAt octets offset OBJECT_IDENTIFIER contents →
      most_in_decimal < length contents → o.status ≡ too_long → o.offset ≡ offset → o.count ≡ 0 →
      after ≡ before → AnswersIdentifier octets offset before after o
  identifier_is_missing :
      IsMissing ((components : List ℕ) × IsIdentifierAt octets offset components) IsIdentifierTag octets offset
      o.status → o.offset ≡ offset → o.count ≡ 0 → after ≡ before →
      AnswersIdentifier octets offset before after o
