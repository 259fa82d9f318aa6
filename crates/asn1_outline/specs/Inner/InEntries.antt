-- What a look at the entries of a document finds out. Private contracts alone name these.
use Rattle.std.specs.Prelude.{◌≡◌, ℕ, Bool, List, length}
use Rattle.asn1_headers.specs.Header.{Encoding}
use Rattle.asn1_headers.specs.declared.header.ASN1Class.{ASN1Class}
use Rattle.asn1_blocks.specs.Places.{EncodingAt}
use Rattle.asn1_outline.specs.declared.entry.Entry.{Entry}
use Rattle.asn1_writing.specs.Canonical.{shortest_encoding}
use Rattle.asn1_writing.specs.Inner.CanonicalEncoding.{IsCanonicalEncoding}

-- at the offset in the document stands a canonical encoding
pub record HasCanonicalAt (document : List ℕ) (offset : ℕ) : Type 0 where
  pub octets : List ℕ
  pub at_offset : EncodingAt document offset octets
  pub class : ASN1Class
  pub constructed : Bool
  pub tag : ℕ
  pub contents : List ℕ
  pub header : ℕ
  pub encoding : Encoding octets class constructed tag contents header
  pub canonical : IsCanonicalEncoding octets class constructed tag contents

-- at the entry's offset stands an encoding with its fields, whose header is the shortest
pub record HasShortestAt (document : List ℕ) (r : Entry) : Type 0 where
  pub octets : List ℕ
  pub at_offset : EncodingAt document r.offset octets
  pub contents : List ℕ
  pub size : r.contents ≡ length contents
  pub encoding : Encoding octets r.class r.constructed r.tag contents r.header
  pub shortest : octets ≡ shortest_encoding r.class r.constructed r.tag contents
