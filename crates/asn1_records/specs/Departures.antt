-- The departures from DER that a call lists, each by the number of its rule.
use Rattle.std.specs.Prelude.{◌≡◌, ◌↔◌, ℕ, List, [], map}
use Rattle.asn1_der.specs.Departures.{AreDepartures, NoEncodingsFault}
use Rattle.asn1_der.specs.declared.rule.Departure.{Departure}
use Rattle.asn1_der.specs.declared.rule.Rule.{Rule}
use Rattle.asn1_der.specs.declared.rule.Rule.TheVariants.{LongIdentifier, PaddedTag, IndefiniteLength, LongLength, ReservedTag, NotConstructed, NotPrimitive, ConstructedString, BooleanSize, BooleanValue, NoInteger, PaddedInteger, BinaryReal, DecimalReal, SpecialReal, UnusedCount, UnusedOfNone, UnusedBits, NullContents, Subidentifiers, Iri, Characters, UtcTime, GeneralizedTime, Time, Order, NotEncodings, External, Identification}
use Rattle.asn1_der.specs.Der.{IsDer}
use Rattle.simple_asn1.specs.Fault.{DecodeFault}
use Rattle.asn1_records.specs.Room.{Answers}
use Rattle.asn1_records.specs.Status.{status_of}
use Rattle.asn1_records.specs.declared.record.DepartureRecord.{DepartureRecord}
use Rattle.asn1_records.specs.declared.record.Outcome.{Outcome}

-- the number of a rule, which it keeps
abbrev pub rule_number : Rule → ℕ
rule_number LongIdentifier = 1
rule_number PaddedTag = 2
rule_number IndefiniteLength = 3
rule_number LongLength = 4
rule_number ReservedTag = 5
rule_number NotConstructed = 6
rule_number NotPrimitive = 7
rule_number ConstructedString = 8
rule_number BooleanSize = 9
rule_number BooleanValue = 10
rule_number NoInteger = 11
rule_number PaddedInteger = 12
rule_number BinaryReal = 13
rule_number DecimalReal = 14
rule_number SpecialReal = 15
rule_number UnusedCount = 16
rule_number UnusedOfNone = 17
rule_number UnusedBits = 18
rule_number NullContents = 19
rule_number Subidentifiers = 20
rule_number Iri = 21
rule_number Characters = 22
rule_number UtcTime = 23
rule_number GeneralizedTime = 24
rule_number Time = 25
rule_number Order = 26
rule_number NotEncodings = 27
rule_number External = 28
rule_number Identification = 29

-- the record of a departure
abbrev pub departure_record : Departure → DepartureRecord
departure_record d = record {
  offset = d.offset;
  rule = rule_number d.rule;
}

-- the octets are not encodings one after another by their headers, for the fault at the offset
abbrev pub IsNoEncodings : List ℕ → ℕ → ℕ → Type 0
IsNoEncodings octets status offset =
    (fault : DecodeFault) × NoEncodingsFault octets offset fault × (status ≡ status_of fault)

-- listing departures: the records of all of them, which are none exactly for DER; or the fault of octets that are not
-- encodings, and its place
abbrev pub AnswersDepartures : List ℕ → List DepartureRecord → List DepartureRecord → Outcome → Type 0
AnswersDepartures octets before after o =
    Answers
    (λ records. (found : List Departure) × AreDepartures octets found × ((found ≡ []) ↔ IsDer octets)
    × (records ≡ map departure_record found))
    (IsNoEncodings octets) before after o
