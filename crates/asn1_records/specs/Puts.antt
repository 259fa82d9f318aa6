-- The contents octets of a value, put into room that the caller has.
use Rattle.std.specs.Prelude.{◌≡◌, ◌==◌, ◌⊎◌, ℕ, ℤ, ◌+◌, ◌*◌, ◌<◌, ◌≤◌, true, not, List, length, IsUtf8}
use Rattle.asn1_headers.specs.declared.tags.TheConstants.{UTC_TIME, GENERALIZED_TIME}
use Rattle.std.specs.Char.{is_ascii}
use Rattle.std.specs.List.{list_all}
use Rattle.std.specs.Str.{chars}
use Rattle.asn1_leaves.specs.Contents.BitString.{bit_string_contents}
use Rattle.asn1_leaves.specs.Contents.Boolean.{boolean_contents}
use Rattle.asn1_leaves.specs.Contents.GeneralizedTime.{IsFaithfulGeneralizedTime, generalized_time_contents}
use Rattle.asn1_leaves.specs.Contents.Integer.{integer_contents}
use Rattle.asn1_leaves.specs.Contents.Moment.{Moment}
use Rattle.asn1_leaves.specs.Contents.ObjectIdentifier.{IsFaithfulObjectIdentifier, object_identifier_contents}
use Rattle.asn1_leaves.specs.Contents.Text.{HasCharacters, text_contents, text_form}
use Rattle.asn1_leaves.specs.Contents.UtcTime.{IsFaithfulUtcTime, utc_time_contents}
use Rattle.asn1_leaves.specs.StringKind.{StringKind}
use Rattle.asn1_leaves.specs.declared.contents.text.TextForm.{TextForm}
use Rattle.asn1_leaves.specs.declared.contents.text.TextForm.TheVariants.{Utf8, Printable, Octets}
use Rattle.simple_asn1.specs.Contents.{string_tag}
use Rattle.simple_asn1.specs.DottedDecimal.{IsDottedDecimal}
use Rattle.asn1_records.specs.Room.{ArePut}
use Rattle.asn1_records.specs.Status.{no_memory, no_such_value, not_a_date, not_oid, not_printable, not_utf8, out_of_range, too_long}
use Rattle.asn1_records.specs.Values.{IsMomentTag, IsTextTag, most_dotted}
use Rattle.asn1_records.specs.declared.record.MomentAnswer.{MomentAnswer}
use Rattle.asn1_records.specs.declared.record.Outcome.{Outcome}

-- nothing was put, and the status says why
abbrev pub IsNotPut : ℕ → List ℕ → List ℕ → Outcome → Type 0
IsNotPut status before after o = (o.status ≡ status) × (o.offset ≡ 0) × (o.count ≡ 0) × (after ≡ before)

-- the octets were put exactly if the condition holds; otherwise this status says that it does not
abbrev pub ArePutIf : Type 0 → List ℕ → ℕ → List ℕ → List ℕ → Outcome → Type 0
ArePutIf Condition octets status before after o =
    (Condition × ArePut octets before after o) ⊎ ((Condition → ⊥) × IsNotPut status before after o)

-- the contents octets of a BOOLEAN, which any number but 0 makes true
abbrev pub AnswersPutBoolean : ℕ → List ℕ → List ℕ → Outcome → Type 0
AnswersPutBoolean value before after o = ArePut (boolean_contents (not (value == 0))) before after o

-- the contents octets of an INTEGER: the fewest that mean the number; or memory ran out
abbrev pub AnswersPutInteger : ℤ → List ℕ → List ℕ → Outcome → Type 0
AnswersPutInteger n before after o = ArePut (integer_contents n) before after o ⊎ IsNotPut no_memory before after o

-- the octets are the fewest that hold so many bits (X.690 8.6.2.2)
abbrev pub AreFewestFor : ℕ → List ℕ → Type 0
AreFewestFor bits octets = (bits ≤ 8 * length octets) × (8 * length octets < bits + 8)

-- the contents octets of a BIT STRING of so many bits, which these octets hold; or memory ran out
abbrev pub AnswersPutBits : List ℕ → ℕ → List ℕ → List ℕ → Outcome → Type 0
AnswersPutBits octets bits before after o =
    ArePutIf (AreFewestFor bits octets) (bit_string_contents bits octets) out_of_range before after o
    ⊎ IsNotPut no_memory before after o

-- the contents octets of the OBJECT IDENTIFIER whose components the text has, if they can be written; the text is too
-- long, or has no components; or memory ran out
pub data AnswersPutIdentifier (text before after : List ℕ) (o : Outcome) : Type 0 where
  is_long_text :
      most_dotted < length text → IsNotPut too_long before after o → AnswersPutIdentifier text before after o
  has_components :
      length text ≤ most_dotted → (components : List ℕ) → IsDottedDecimal text components →
      ArePutIf (IsFaithfulObjectIdentifier components) (object_identifier_contents components) out_of_range
      before after o → AnswersPutIdentifier text before after o
  has_no_components :
      ((components : List ℕ) → IsDottedDecimal text components → ⊥) → IsNotPut not_oid before after o →
      AnswersPutIdentifier text before after o
  had_no_memory_for_identifier : IsNotPut no_memory before after o → AnswersPutIdentifier text before after o

-- the characters that are put: any; the 74 of a PrintableString; of an IA5String those of ASCII (X.680, table 8), while
-- it is read with any octets
abbrev pub AreAllowed : TextForm → List ℕ → Type 0
AreAllowed Utf8 cs = HasCharacters Utf8 cs
AreAllowed Printable cs = HasCharacters Printable cs
AreAllowed Octets cs = list_all is_ascii cs ≡ true

-- the status that says that characters are not allowed
abbrev pub others_status : TextForm → ℕ
others_status Utf8 = not_utf8
others_status Printable = not_printable
others_status Octets = out_of_range

-- the contents octets of the string of a kind, by its tag number, with the text's characters, if they are allowed; the
-- text is no UTF-8; or the tag number is that of no string
pub data AnswersPutText (tag : ℕ) (text before after : List ℕ) (o : Outcome) : Type 0 where
  has_characters :
      (kind : StringKind) → tag ≡ string_tag kind → IsUtf8 text →
      ArePutIf (AreAllowed (text_form kind) (chars text)) (text_contents (text_form kind) (chars text))
      (others_status (text_form kind)) before after o → AnswersPutText tag text before after o
  has_no_characters :
      IsTextTag tag → (IsUtf8 text → ⊥) → IsNotPut not_utf8 before after o →
      AnswersPutText tag text before after o
  is_no_string :
      (IsTextTag tag → ⊥) → IsNotPut no_such_value before after o → AnswersPutText tag text before after o

-- the moment of the fields
abbrev pub moment_in : MomentAnswer → Moment
moment_in fields = record {
  year = fields.year;
  month = fields.month;
  day = fields.day;
  hour = fields.hour;
  minute = fields.minute;
  second = fields.second;
  nanosecond = fields.nanosecond;
}

-- the contents octets of the UTCTime or GeneralizedTime of the moment, if it keeps the moment; or the tag number is
-- that of neither
pub data AnswersPutMoment (tag : ℕ) (m : Moment) (before after : List ℕ) (o : Outcome) : Type 0 where
  is_utc_time :
      tag ≡ UTC_TIME → ArePutIf (IsFaithfulUtcTime m) (utc_time_contents m) not_a_date before after o →
      AnswersPutMoment tag m before after o
  is_generalized_time :
      tag ≡ GENERALIZED_TIME →
      ArePutIf (IsFaithfulGeneralizedTime m) (generalized_time_contents m) not_a_date before after o →
      AnswersPutMoment tag m before after o
  is_no_time :
      (IsMomentTag tag → ⊥) → IsNotPut no_such_value before after o → AnswersPutMoment tag m before after o
