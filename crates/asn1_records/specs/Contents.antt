-- What calls answer of contents octets alone, of one header, and of a fault.
use Rattle.std.specs.Prelude.{◌≡◌, ◌⊎◌, ◌+◌, ◌<◌, ◌≤◌, ◌^◌, ℕ, All, Bool, List, [], ◌∷◌, drop, length, take, unsigned_abs}
use Rattle.asn1_headers.specs.declared.header.ASN1Class.{ASN1Class}
use Rattle.asn1_leaves.specs.Contents.ObjectIdentifier.{ObjectIdentifierContents, ObjectIdentifierFault, object_identifier_contents}
use Rattle.asn1_numbers.specs.Base128.{IsBase128}
use Rattle.asn1_numbers.specs.Decimal.{natural_numeral}
use Rattle.simple_asn1.specs.DottedDecimal.{dotted_decimal}
use Rattle.simple_asn1.specs.Fault.{DecodeFault, bad_boolean_length, empty_buffer, incomplete, invalid_bit_string_length, invalid_class, invalid_date_value, length_too_large, not_canonical, out_of_memory, overflow, printable_string_failure, utf8_failure}
use Rattle.simple_asn1.specs.Grammar.{FirstFaultAt, IsDocument}
use Rattle.simple_asn1.specs.Header.{BeginsWithNo, Encoding}
use Rattle.simple_asn1.specs.Places.{EncodingAt, HasNoEncodingAt}
use Rattle.simple_asn1.specs.Tree.{Trees}
use Rattle.asn1_records.specs.Puts.{ArePutIf, IsNotPut}
use Rattle.asn1_records.specs.Records.{HasRecordHeader, HasNoLinks}
use Rattle.asn1_records.specs.Room.{ArePut, IsNoMemory}
use Rattle.asn1_records.specs.Status.{done, no_memory, no_such_value, out_of_range, status_of, too_long}
use Rattle.asn1_records.specs.Values.{most_in_decimal}
use Rattle.asn1_records.specs.declared.record.Block.{Block}
use Rattle.asn1_records.specs.declared.first_fault.FaultAnswer.{FaultAnswer}
use Rattle.asn1_records.specs.declared.record.Outcome.{Outcome}

-- what is put of the components that contents octets of an OBJECT IDENTIFIER mean; they mean none; or memory ran out
pub data AnswersOfComponents (contents : List ℕ) (IsPut : List ℕ → Type 0) (IsNot : ℕ → Type 0) : Type 0 where
  mean_components :
      (components : List ℕ) → ObjectIdentifierContents components contents → IsPut components →
      AnswersOfComponents contents IsPut IsNot
  mean_no_components :
      (fault : DecodeFault) → ObjectIdentifierFault contents fault → IsNot (status_of fault) →
      AnswersOfComponents contents IsPut IsNot
  had_no_memory_for_components : IsNot no_memory → AnswersOfComponents contents IsPut IsNot

-- the components, if each is below 2^64
abbrev pub AnswersComponents : List ℕ → List ℕ → List ℕ → Outcome → Type 0
AnswersComponents contents before after o =
    AnswersOfComponents contents
    (λ components. ArePutIf (All (λ n. n < 2 ^ 64) components) components out_of_range before after o)
    (λ status. IsNotPut status before after o)

-- the components in decimal, of any size; or the contents octets are too many for that
abbrev pub AnswersDotted : List ℕ → List ℕ → List ℕ → Outcome → Type 0
AnswersDotted contents before after o =
    ((length contents ≤ most_in_decimal)
    × AnswersOfComponents contents
    (λ components. ArePut (dotted_decimal components) before after o)
    (λ status. IsNotPut status before after o))
    ⊎ ((most_in_decimal < length contents) × IsNotPut too_long before after o)

-- the contents octets of components, each subidentifier in its shortest form
abbrev pub AnswersShortest : List ℕ → List ℕ → List ℕ → Outcome → Type 0
AnswersShortest contents before after o =
    AnswersOfComponents contents
    (λ components. ArePut (object_identifier_contents components) before after o)
    (λ status. IsNotPut status before after o)

-- how many octets the component has that begins at the index: they are a base-128 number (X.690 8.19.2); no component
-- begins at the index, as in the first octet, which is of the first two components; or the component does not end
pub data AnswersComponent (contents : List ℕ) (index : ℕ) (o : Outcome) : Type 0 where
  component_was_found :
      0 < index → o.status ≡ done → o.offset ≡ 0 → o.count ≤ length (drop index contents) →
      (n : ℕ) → IsBase128 (take o.count (drop index contents)) n → AnswersComponent contents index o
  no_component_begins :
      (index ≡ 0) ⊎ (length contents ≤ index) →
      o.status ≡ no_such_value → o.offset ≡ index → o.count ≡ 0 → AnswersComponent contents index o
  component_does_not_end :
      BeginsWithNo IsBase128 (drop index contents) → o.status ≡ status_of incomplete → o.offset ≡ index →
      o.count ≡ 0 → AnswersComponent contents index o

-- the record has the header of the encoding at the offset, and says nothing of what that holds
abbrev pub IsHeaderAt : List ℕ → ℕ → Block → Type 0
IsHeaderAt octets offset r =
    (x : List ℕ) × EncodingAt octets offset x × HasRecordHeader x r × (r.offset ≡ offset) × (r.items ≡ 0)
    × HasNoLinks r

-- the record of an encoding by its header alone; no encoding stands at the offset; or memory ran out
pub data AnswersHeader (octets : List ℕ) (offset : ℕ) (before after : List Block) (o : Outcome) : Type 0 where
  header_was_found :
      (r : Block) → IsHeaderAt octets offset r → ArePut (r ∷ []) before after o →
      AnswersHeader octets offset before after o
  no_header_was_found :
      HasNoEncodingAt octets offset → o.status ≡ no_such_value → o.offset ≡ offset → o.count ≡ 0 →
      after ≡ before → AnswersHeader octets offset before after o
  had_no_memory_for_header :
      o.status ≡ no_memory → o.offset ≡ offset → o.count ≡ 0 → after ≡ before →
      AnswersHeader octets offset before after o

-- the encoding at the offset has this tag number
abbrev pub HasTagAt : List ℕ → ℕ → ℕ → Type 0
HasTagAt octets offset tag =
    (x : List ℕ) × EncodingAt octets offset x × (class : ASN1Class) × (constructed : Bool) × (contents : List ℕ)
    × (header : ℕ) × Encoding x class constructed tag contents header

-- the tag number of an encoding in decimal, of any size; its identifier octets are too many for that; no encoding
-- stands at the offset; or memory ran out
pub data AnswersTag (octets : List ℕ) (offset : ℕ) (before after : List ℕ) (o : Outcome) : Type 0 where
  tag_was_found :
      (tag : ℕ) → HasTagAt octets offset tag → (x : List ℕ) → (at : EncodingAt octets offset x) →
      length at.encoding.encoding.identifier ≤ most_in_decimal → ArePut (natural_numeral tag) before after o →
      AnswersTag octets offset before after o
  tag_is_too_long :
      (x : List ℕ) → (at : EncodingAt octets offset x) →
      most_in_decimal < length at.encoding.encoding.identifier → o.status ≡ too_long → o.offset ≡ offset →
      o.count ≡ 0 → after ≡ before → AnswersTag octets offset before after o
  no_tag_was_found :
      HasNoEncodingAt octets offset → o.status ≡ no_such_value → o.offset ≡ offset → o.count ≡ 0 →
      after ≡ before → AnswersTag octets offset before after o
  had_no_memory_for_tag :
      o.status ≡ no_memory → o.offset ≡ offset → o.count ≡ 0 → after ≡ before →
      AnswersTag octets offset before after o

-- how many identifier octets of an encoding follow the leading one: they have the tag number as a base-128 number
-- (X.690 8.1.2.4.2), or there are none, and the leading one has it; or no encoding stands at the offset
pub data AnswersTagOctets (octets : List ℕ) (offset : ℕ) (o : Outcome) : Type 0 where
  tag_octets_were_found :
      o.status ≡ done → o.offset ≡ 0 → (x : List ℕ) → (at : EncodingAt octets offset x) →
      length at.encoding.encoding.identifier ≡ o.count + 1 → AnswersTagOctets octets offset o
  no_tag_octets_were_found :
      HasNoEncodingAt octets offset → o.status ≡ no_such_value → o.offset ≡ offset → o.count ≡ 0 →
      AnswersTagOctets octets offset o

-- the number that a fault says: a length; of a BIT STRING how many bits are missing
abbrev pub fault_number : DecodeFault → ℕ
fault_number empty_buffer = 0
fault_number (bad_boolean_length n) = n
fault_number (length_too_large n) = n
fault_number (utf8_failure n size) = 0
fault_number printable_string_failure = 0
fault_number (invalid_date_value text) = 0
fault_number (invalid_bit_string_length n) = unsigned_abs n
fault_number (invalid_class n) = 0
fault_number incomplete = 0
fault_number overflow = 0
fault_number out_of_memory = 0
fault_number (not_canonical n) = 0

-- the text that a fault says: the contents octets of a time that are no date
abbrev pub fault_text : DecodeFault → List ℕ
fault_text empty_buffer = []
fault_text (bad_boolean_length n) = []
fault_text (length_too_large n) = []
fault_text (utf8_failure n size) = []
fault_text printable_string_failure = []
fault_text (invalid_date_value text) = text
fault_text (invalid_bit_string_length n) = []
fault_text (invalid_class n) = []
fault_text incomplete = []
fault_text overflow = []
fault_text out_of_memory = []
fault_text (not_canonical n) = []

-- the first fault of octets that are no document, with what it says; the octets are a document; or memory ran out
pub data AnswersFault (octets before after : List ℕ) (a : FaultAnswer) : Type 0 where
  fault_was_found :
      (fault : DecodeFault) → FirstFaultAt octets fault a.offset → a.status ≡ status_of fault →
      a.number ≡ fault_number fault → ArePut (fault_text fault) before after a.text →
      AnswersFault octets before after a
  has_no_fault :
      (bs : Trees ℕ) → IsDocument octets bs → a.status ≡ done → a.offset ≡ 0 → a.number ≡ 0 →
      ArePut [] before after a.text → AnswersFault octets before after a
  had_no_memory_for_fault :
      IsNoMemory a.status a.offset → a.number ≡ 0 → ArePut [] before after a.text →
      AnswersFault octets before after a
