-- What is put of values and records as they are, whether or not they would be read back.
use Rattle.std.specs.Prelude.{◌≡◌, ◌⊎◌, ◌<◌, ◌≤◌, ℕ, List, None, Some, IsUtf8, length, nat_lt}
use Rattle.std.specs.Str.{chars}
use Rattle.asn1_headers.specs.declared.tags.TheConstants.{UTC_TIME, GENERALIZED_TIME}
use Rattle.asn1_headers.specs.declared.error.ASN1EncodeErr.{ASN1EncodeErr}
use Rattle.asn1_headers.specs.declared.error.ASN1EncodeErr.TheVariants.{BitStringLength, CharacterTooLarge, ObjectIdentHasTooFewFields, ObjectIdentVal1TooLarge, ObjectIdentVal2TooLarge, OutOfMemory, YearOutOfRange}
use Rattle.asn1_headers.specs.declared.header.ASN1Class.{ASN1Class}
use Rattle.asn1_leaves.specs.Contents.BitString.{bit_string_contents, bit_string_write_fault}
use Rattle.asn1_leaves.specs.Contents.GeneralizedTime.{generalized_time_contents}
use Rattle.asn1_leaves.specs.Contents.Moment.{IsValid, Moment}
use Rattle.asn1_leaves.specs.Contents.ObjectIdentifier.{object_identifier_contents, object_identifier_write_fault}
use Rattle.asn1_leaves.specs.Contents.Text.{text_contents, text_form, text_write_fault}
use Rattle.asn1_leaves.specs.Contents.UtcTime.{utc_time_contents}
use Rattle.asn1_leaves.specs.StringKind.{StringKind}
use Rattle.asn1_numbers.specs.Decimal.{natural_numeral}
use Rattle.simple_asn1.specs.Canonical.{shortest_encoding}
use Rattle.simple_asn1.specs.Contents.{string_tag}
use Rattle.simple_asn1.specs.Header.{class_number}
use Rattle.asn1_records.specs.Answers.{IsRefusedRecord}
use Rattle.asn1_records.specs.Puts.{ArePutIf, IsNotPut}
use Rattle.asn1_records.specs.Room.{Answers, ArePut}
use Rattle.asn1_records.specs.Spelled.{AreSpelled}
use Rattle.asn1_records.specs.Status.{bad_record, no_memory, no_such_value, not_a_date, not_oid, not_utf8, out_of_range, too_long}
use Rattle.asn1_records.specs.Values.{IsMomentTag, IsTextTag, most_digits}
use Rattle.asn1_records.specs.declared.record.Block.{Block}
use Rattle.asn1_records.specs.declared.record.Outcome.{Outcome}

-- the contents octets of a BIT STRING, if they exist: unused bits may fill octets; or memory ran out
abbrev pub AnswersRawBits : List ℕ → ℕ → List ℕ → List ℕ → Outcome → Type 0
AnswersRawBits octets bits before after o =
    ArePutIf (bit_string_write_fault bits octets ≡ None) (bit_string_contents bits octets) out_of_range before after o
    ⊎ IsNotPut no_memory before after o

-- the number of why components have no contents octets
abbrev pub component_status : ASN1EncodeErr → ℕ
component_status ObjectIdentHasTooFewFields = not_oid
component_status ObjectIdentVal1TooLarge = out_of_range
component_status ObjectIdentVal2TooLarge = out_of_range
component_status BitStringLength = out_of_range
component_status CharacterTooLarge = out_of_range
component_status YearOutOfRange = out_of_range
component_status OutOfMemory = no_memory

-- the index of the component that is too large
abbrev pub component_place : ASN1EncodeErr → ℕ
component_place ObjectIdentHasTooFewFields = 0
component_place ObjectIdentVal1TooLarge = 0
component_place ObjectIdentVal2TooLarge = 1
component_place BitStringLength = 0
component_place CharacterTooLarge = 0
component_place YearOutOfRange = 0
component_place OutOfMemory = 0

-- the contents octets of the OBJECT IDENTIFIER with these components; why there are none; or memory ran out
pub data AnswersRawIdentifier (components before after : List ℕ) (o : Outcome) : Type 0 where
  components_were_put :
      object_identifier_write_fault components ≡ None →
      ArePut (object_identifier_contents components) before after o →
      AnswersRawIdentifier components before after o
  components_have_fault :
      (fault : ASN1EncodeErr) → object_identifier_write_fault components ≡ Some fault →
      o.status ≡ component_status fault → o.offset ≡ component_place fault → o.count ≡ 0 →
      after ≡ before → AnswersRawIdentifier components before after o
  had_no_memory_for_raw_identifier :
      IsNotPut no_memory before after o → AnswersRawIdentifier components before after o

-- the contents octets of a string of whatever characters, if its form has octets for them; the text is not UTF-8; the
-- tag number is that of no string; or memory ran out
pub data AnswersRawText (tag : ℕ) (text before after : List ℕ) (o : Outcome) : Type 0 where
  has_text :
      (kind : StringKind) → tag ≡ string_tag kind → IsUtf8 text →
      ArePutIf (text_write_fault (text_form kind) (chars text) ≡ None) (text_contents (text_form kind) (chars text))
      out_of_range before after o → AnswersRawText tag text before after o
  has_no_text :
      IsTextTag tag → (IsUtf8 text → ⊥) → IsNotPut not_utf8 before after o →
      AnswersRawText tag text before after o
  is_no_text :
      (IsTextTag tag → ⊥) → IsNotPut no_such_value before after o → AnswersRawText tag text before after o
  had_no_memory_for_text : IsNotPut no_memory before after o → AnswersRawText tag text before after o

-- the contents octets of a UTCTime or GeneralizedTime of any moment of the years 0 to 9999: a UTCTime has no century
-- and no fraction; or the tag number is that of neither
pub data AnswersRawMoment (tag : ℕ) (m : Moment) (before after : List ℕ) (o : Outcome) : Type 0 where
  is_raw_utc_time :
      tag ≡ UTC_TIME → ArePutIf (IsValid m) (utc_time_contents m) not_a_date before after o →
      AnswersRawMoment tag m before after o
  is_raw_generalized_time :
      tag ≡ GENERALIZED_TIME → ArePutIf (IsValid m) (generalized_time_contents m) not_a_date before after o →
      AnswersRawMoment tag m before after o
  is_no_raw_time :
      (IsMomentTag tag → ⊥) → IsNotPut no_such_value before after o → AnswersRawMoment tag m before after o

-- the shortest encoding of contents octets with a tag number in decimal; no class or no tag number is as given; the tag
-- number has too many digits; or memory ran out
pub data AnswersEncoding (class constructed : ℕ) (numeral contents before after : List ℕ) (o : Outcome)
    : Type 0 where
  was_encoded :
      (c : ASN1Class) → class_number c ≡ class → length numeral ≤ most_digits →
      (tag : ℕ) → numeral ≡ natural_numeral tag →
      ArePut (shortest_encoding c (nat_lt 0 constructed) tag contents) before after o →
      AnswersEncoding class constructed numeral contents before after o
  is_no_class :
      3 < class → IsNotPut bad_record before after o →
      AnswersEncoding class constructed numeral contents before after o
  is_long_numeral :
      most_digits < length numeral → IsNotPut too_long before after o →
      AnswersEncoding class constructed numeral contents before after o
  is_no_numeral :
      ((tag : ℕ) → numeral ≡ natural_numeral tag → ⊥) → IsNotPut bad_record before after o →
      AnswersEncoding class constructed numeral contents before after o
  had_no_memory_to_encode :
      IsNotPut no_memory before after o → AnswersEncoding class constructed numeral contents before after o

-- the octets that records spell; or the last record that can't be put
abbrev pub AnswersSpell : List ℕ → List Block → List ℕ → List ℕ → Outcome → Type 0
AnswersSpell octets records before after o =
    Answers (AreSpelled octets records) (IsRefusedRecord octets records) before after o
