-- Laws of identifier octets, length octets and encodings.
use Rattle.std.specs.Prelude.{◌≡◌, ◌≢◌, ℕ, ◌<◌, ◌≤◌, ◌^◌, ◌++◌, Bool, List, [], ◌∷◌, length}
use Rattle.asn1_headers.specs.declared.header.ASN1Class.{ASN1Class}
use Rattle.asn1_numbers.specs.Octets.{AreOctets}
use Rattle.asn1_numbers.specs.Base128.{IsBase128, shortest_base128}
use Rattle.asn1_headers.specs.Header.{IsIdentifier, IsLength, Encoding, shortest_identifier, shortest_length}

-- the parts of a header, and encodings, end where they end: none begins another. Each shortest form is such a part, and
-- the one shortest
pub record HeaderLaws : Type 0 where
  -- of two base-128 numbers at the front of the same octets, the octets and the numbers are equal
  pub one_base128 :
      (first second behind beyond : List ℕ) (number other : ℕ) →
      IsBase128 first number → IsBase128 second other → first ++ behind ≡ second ++ beyond →
      (first ≡ second) × (number ≡ other)
  -- of two runs of identifier octets at the front of the same octets, the octets, classes, constructed bits and tag
  -- numbers are equal
  pub one_identifier :
      (first second behind beyond : List ℕ) (class second_class : ASN1Class)
      (constructed second_constructed : Bool) (tag second_tag : ℕ) →
      IsIdentifier first class constructed tag → IsIdentifier second second_class second_constructed second_tag →
      first ++ behind ≡ second ++ beyond →
      (first ≡ second) × (class ≡ second_class) × (constructed ≡ second_constructed) × (tag ≡ second_tag)
  -- of two runs of length octets at the front of the same octets, the octets and the lengths are equal
  pub one_length :
      (first second behind beyond : List ℕ) (size other : ℕ) →
      IsLength first size → IsLength second other → first ++ behind ≡ second ++ beyond →
      (first ≡ second) × (size ≡ other)
  -- of two encodings at the front of the same octets, the octets, classes, constructed bits, tag numbers, contents
  -- octets and sizes of the headers are equal
  pub one_encoding :
      (first second behind beyond : List ℕ) (class second_class : ASN1Class)
      (constructed second_constructed : Bool) (tag second_tag : ℕ) (contents second_contents : List ℕ)
      (header second_header : ℕ) →
      Encoding first class constructed tag contents header →
      Encoding second second_class second_constructed second_tag second_contents second_header →
      first ++ behind ≡ second ++ beyond →
      (first ≡ second) × (class ≡ second_class) × (constructed ≡ second_constructed) × (tag ≡ second_tag)
      × (contents ≡ second_contents) × (header ≡ second_header)
  -- the shortest octets of a base-128 number are such octets
  pub base128_is : (number : ℕ) → IsBase128 (shortest_base128 number) number
  -- the shortest identifier octets of a class, constructed bit and tag number are identifier octets of these
  pub identifier_is :
      (class : ASN1Class) (constructed : Bool) (tag : ℕ) →
      IsIdentifier (shortest_identifier class constructed tag) class constructed tag
  -- the shortest length octets of a length, up to the greatest usize, are length octets of it
  pub length_is : (n : ℕ) → n < 2 ^ 64 → IsLength (shortest_length n) n
  -- no octets of the same base-128 number are fewer
  pub base128_shortest :
      (octets : List ℕ) (n : ℕ) →
      IsBase128 octets n → length (shortest_base128 n) ≤ length octets
  -- no identifier octets of the same fields are fewer
  pub identifier_shortest :
      (octets : List ℕ) (class : ASN1Class) (constructed : Bool) (tag : ℕ) →
      IsIdentifier octets class constructed tag →
      length (shortest_identifier class constructed tag) ≤ length octets
  -- no length octets of the same length are fewer
  pub length_shortest :
      (octets : List ℕ) (n : ℕ) →
      AreOctets octets → IsLength octets n → length (shortest_length n) ≤ length octets
  -- no other octets of the same base-128 number are as few
  pub base128_only :
      (octets : List ℕ) (n : ℕ) →
      AreOctets octets → IsBase128 octets n → length octets ≤ length (shortest_base128 n) →
      octets ≡ shortest_base128 n
  -- no other identifier octets of the same fields are as few
  pub identifier_only :
      (octets : List ℕ) (class : ASN1Class) (constructed : Bool) (tag : ℕ) →
      AreOctets octets → IsIdentifier octets class constructed tag →
      length octets ≤ length (shortest_identifier class constructed tag) →
      octets ≡ shortest_identifier class constructed tag
  -- no other length octets of the same length are as few, but that 80 (hexadecimal) is as short as 00 for the length 0
  pub length_only :
      (octets : List ℕ) (n : ℕ) →
      AreOctets octets → octets ≢ 128 ∷ [] → IsLength octets n →
      length octets ≤ length (shortest_length n) →
      octets ≡ shortest_length n
  -- the shortest octets of a base-128 number do not begin with 80 (hexadecimal; X.690 8.1.2.4.2, 8.19.2)
  pub base128_leading : (n : ℕ) (rest : List ℕ) → shortest_base128 n ≢ 128 ∷ rest
  -- octets of a base-128 number that do not begin with 80 (hexadecimal), as 00 does not, are the shortest
  pub base128_not_leading :
      (octets : List ℕ) (n : ℕ) →
      AreOctets octets → IsBase128 octets n → ((rest : List ℕ) → octets ≢ 128 ∷ rest) →
      octets ≡ shortest_base128 n
