-- Contents octets that are DER, and that this library writes otherwise. Three kinds of leaves have such.
use Rattle.std.specs.Prelude.{◌≡◌, ◌==◌, ◌&&◌, ℕ, nat_lt, Bool, false, if◌then◌else◌, List, ◌∷◌, length}
use Rattle.asn1_headers.specs.declared.tags.TheConstants.{BIT_STRING, OBJECT_IDENTIFIER, GENERALIZED_TIME}
use Rattle.asn1_headers.specs.Header.{Encoding}
use Rattle.asn1_headers.specs.declared.header.ASN1Class.TheVariants.{Universal}
use Rattle.asn1_blocks.specs.Contents.{leaf_tag}
use Rattle.asn1_blocks.specs.Places.{HasOctets}
use Rattle.asn1_blocks.specs.Tree.{Leaf, Trees, leaf}

-- a BIT STRING without bits: the octet of the unused bits alone (8.6.2.3). None is written
abbrev pub has_no_bits : List ℕ → Bool
has_no_bits contents = length contents == 1

-- an OBJECT IDENTIFIER whose first subidentifier goes on with an octet 80 (8.19.4). Only the first octet is read as the
-- first subidentifier, and the next one as the beginning of another, which is written without it
abbrev pub goes_on_with_80 : List ℕ → Bool
goes_on_with_80 (first ∷ next ∷ more) = nat_lt 127 first && (next == 128)
goes_on_with_80 contents = false

-- a GeneralizedTime with more than nine digits of a fraction: 25 octets are YYYYMMDDhhmmss, the point, nine digits and
-- Z. 11.7 has no limit; nine digits are read, and written
abbrev pub has_many_digits : List ℕ → Bool
has_many_digits contents = nat_lt 25 (length contents)

abbrev pub is_written_otherwise : ℕ → List ℕ → Bool
is_written_otherwise tag contents =
    if tag == BIT_STRING then has_no_bits contents
    else if tag == OBJECT_IDENTIFIER then goes_on_with_80 contents
    else if tag == GENERALIZED_TIME then has_many_digits contents
    else false

-- no leaf of the document, at any depth, has contents octets that are written otherwise
abbrev pub HasNoOtherSpelling : List ℕ → Trees ℕ → Type 0
HasNoOtherSpelling document bs =
    (o : ℕ) (l : Leaf) (octets contents : List ℕ) (header : ℕ) → HasOctets document bs (leaf o l) octets
    → Encoding octets Universal false (leaf_tag l) contents header
    → is_written_otherwise (leaf_tag l) contents ≡ false
