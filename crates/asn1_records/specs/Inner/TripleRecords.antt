-- The records of a signed triple's parts, found one behind the other.
use Rattle.std.specs.Prelude.{◌≡◌, ℕ, ◌+◌, ◌<◌, List}
use Rattle.asn1_headers.specs.declared.tags.TheConstants.{BIT_STRING, OBJECT_IDENTIFIER, SEQUENCE}
use Rattle.simple_asn1.specs.Places.{EncodingAt}
use Rattle.asn1_records.specs.Contents.{IsHeaderAt}
use Rattle.asn1_records.specs.Records.{HasRecordHeader}
use Rattle.asn1_records.specs.declared.record.Block.{Block}

-- the record is of an encoding that stands at its offset, whatever it says of items and links
abbrev pub IsOfEncoding : List ℕ → Block → Type 0
IsOfEncoding octets r = (x : List ℕ) × EncodingAt octets r.offset x × HasRecordHeader x r

-- where the contents octets of an encoding begin, and where they end
abbrev pub record_start : Block → ℕ
record_start r = r.offset + r.header

abbrev pub record_end : Block → ℕ
record_end r = r.offset + r.header + r.contents

-- the record is of an encoding of class Universal with the tag number, which stands at the offset
abbrev pub IsUniversalRecordAt : List ℕ → ℕ → ℕ → Block → Type 0
IsUniversalRecordAt octets offset tag r = IsHeaderAt octets offset r × (r.tag_class ≡ 0) × (r.tag ≡ tag)

-- at the place stands a SEQUENCE that begins with an OBJECT IDENTIFIER, the algorithm, and behind it a BIT STRING, the
-- signature
pub record ArePartsBehind (octets : List ℕ) (place : ℕ) (algorithm identifier signature : Block) : Type 0 where
  pub is_algorithm : IsUniversalRecordAt octets place SEQUENCE algorithm
  pub some : 0 < algorithm.contents
  pub is_identifier : IsUniversalRecordAt octets (record_start algorithm) OBJECT_IDENTIFIER identifier
  pub is_signature : IsUniversalRecordAt octets (record_end algorithm) BIT_STRING signature
