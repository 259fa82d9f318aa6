-- A signed triple as blocks: what was signed, the algorithm, and the signature.
use Rattle.std.specs.Prelude.{◌≡◌, ◌≢◌, ◌⊎◌, ℕ, ◌≤◌, List, Result, Ok, Err, length, slice_range}
use Rattle.asn1_blocks.specs.declared.block.GroupKind.TheVariants.{Sequence}
use Rattle.simple_asn1.specs.declared.convert.signed.SignedTriple.{SignedTriple}
use Rattle.simple_asn1.specs.declared.convert.signed.TripleErr.{TripleErr}
use Rattle.simple_asn1.specs.declared.convert.signed.TripleErr.TheVariants.{Codec, Shape}
use Rattle.asn1_headers.specs.declared.error.ASN1DecodeErr.TheVariants.{OutOfMemory}
use Rattle.asn1_blocks.specs.Tree.{Tree, Trees, leaf, group, bit_string, object_identifier, no_trees, more_trees}
use Rattle.asn1_blocks.specs.View.{tree_offset}
use Rattle.asn1_blocks.specs.Grammar.{IsDocument}

-- the parts of a signed triple, with the offsets of its blocks
pub record SignedParts : Type 0 where
  -- the offset of the whole triple
  pub offset : ℕ
  -- what was signed, which is any block
  pub content : Tree ℕ
  -- the algorithm, a SEQUENCE whose first item is an OBJECT IDENTIFIER, with the parameters after it
  pub algorithm_offset : ℕ
  pub identifier_offset : ℕ
  pub algorithm : List ℕ
  pub parameters : Trees ℕ
  -- the signature, a BIT STRING
  pub signature_offset : ℕ
  pub bits : ℕ
  pub signature : List ℕ

abbrev pub algorithm_tree : SignedParts → Tree ℕ
algorithm_tree p =
    group p.algorithm_offset Sequence
    (more_trees (leaf p.identifier_offset (object_identifier p.algorithm)) p.parameters)

abbrev pub signature_tree : SignedParts → Tree ℕ
signature_tree p = leaf p.signature_offset (bit_string p.bits p.signature)

-- the tree of a signed triple, a SEQUENCE of exactly three
abbrev pub signed_tree : SignedParts → Tree ℕ
signed_tree p =
    group p.offset Sequence
    (more_trees p.content (more_trees (algorithm_tree p) (more_trees (signature_tree p) no_trees)))

-- a signed triple, and other trees after it
abbrev pub signed_trees : SignedParts → Trees ℕ → Trees ℕ
signed_trees p rest = more_trees (signed_tree p) rest

-- the value has what the parts have; its content is the octets from the offset of the content to that of the algorithm
pub record HasTriple (octets : List ℕ) (p : SignedParts) (t : SignedTriple) : Type 0 where
  pub content : t.content.items ≡ slice_range octets (tree_offset p.content) p.algorithm_offset
  pub algorithm : t.algorithm ≡ p.algorithm
  pub bits : t.bits ≡ p.bits
  pub signature : t.signature.items ≡ p.signature

-- the first tree is a signed triple of these parts, whose content stands in the octets; rest are the trees after it
pub record BeginWithSigned (bs : Trees ℕ) (octets : List ℕ) (p : SignedParts) (rest : Trees ℕ) : Type 0 where
  pub trees : bs ≡ signed_trees p rest
  pub ordered : tree_offset p.content ≤ p.algorithm_offset
  pub within : p.algorithm_offset ≤ length octets

-- what is read of trees and of the octets of their document: a value and the trees after it; that memory ran out; or,
-- exactly where the trees begin with no signed triple, that the shape is another
abbrev pub ReadsSigned : Trees ℕ → List ℕ → Result (SignedTriple × Trees ℕ) TripleErr → Type 0
ReadsSigned bs octets (Ok x) =
    (p : SignedParts) × BeginWithSigned bs octets p x.1 × HasTriple octets p x.0
ReadsSigned bs octets (Err e) =
    (e ≡ Codec OutOfMemory)
    ⊎ ((e ≡ Shape) × ((p : SignedParts) (rest : Trees ℕ) → BeginWithSigned bs octets p rest → ⊥))

-- the octets are a document whose first tree is a signed triple of these parts
abbrev pub IsSigned : List ℕ → SignedParts → Type 0
IsSigned octets p = (rest : Trees ℕ) × IsDocument octets (signed_trees p rest)

-- the octets are a document whose first tree is no signed triple
abbrev pub IsOfAnotherShape : List ℕ → Type 0
IsOfAnotherShape octets =
    (bs : Trees ℕ) × IsDocument octets bs × ((p : SignedParts) (rest : Trees ℕ) → bs ≢ signed_trees p rest)
