-- A leaf whose contents octets are DER is written as it came, unless it is among those that are written otherwise, for
-- `laws::law_der_is_canonical`.
use Rattle.std.proofs.Common.{◌≡◌, ℕ, false, List, length, refl, sym}
use Rattle.std.proofs.lemmas.Bool.{eqb-true}
use Rattle.std.proofs.lemmas.List.{nil_from_length}
use Rattle.asn1_numbers.specs.Octets.{AreOctets}
use Rattle.asn1_leaves.specs.StringKind.{utf8, printable, teletex, ia5, universal, bmp}
use Rattle.asn1_blocks.specs.Contents.{LeafContents, leaf_contents, leaf_tag}
use Rattle.asn1_blocks.specs.Tree.{Leaf, boolean, integer, bit_string, octet_string, null, object_identifier, text, utc_time, generalized_time}
use Rattle.asn1_der.specs.Contents.{HasDerContents}
use Rattle.asn1_laws.specs.Spellings.{is_written_otherwise}
use Rattle.asn1_laws.proofs.Leaves.{BitStringContents-der, has_no_bits-written, BooleanContents-der, IntegerContents-der, ObjectIdentifierContents-der, goes_on_with_80-written}
use Rattle.asn1_laws.proofs.Times.{GeneralizedTimeContents-der, has_many_digits-written}

-- a leaf is written as it came, unless its contents octets are written otherwise
pub LeafContents-plain :
    (l : Leaf) (contents : List ℕ) → AreOctets contents → LeafContents l contents →
    HasDerContents (leaf_tag l) contents →
    is_written_otherwise (leaf_tag l) contents ≡ false → contents ≡ leaf_contents l
LeafContents-plain (boolean b) contents all p der plain = BooleanContents-der b contents p der.0
LeafContents-plain (integer n) contents all p der plain = IntegerContents-der n contents all p der.0
LeafContents-plain (bit_string n v) contents all p der plain = BitStringContents-der n v contents p der.0 plain
LeafContents-plain (octet_string v) contents all p der plain = sym p
LeafContents-plain null contents all p der plain = nil_from_length contents (eqb-true (length contents) 0 der.0)
LeafContents-plain (object_identifier ns) contents all p der plain =
    ObjectIdentifierContents-der ns contents all p der.0 plain
LeafContents-plain (text utf8 cs) contents all p der plain = sym p.1
LeafContents-plain (text printable cs) contents all p der plain = sym p.1
LeafContents-plain (text teletex cs) contents all p der plain = sym p.1
LeafContents-plain (text ia5 cs) contents all p der plain = sym p
LeafContents-plain (text universal cs) contents all p der plain = sym p.1
LeafContents-plain (text bmp cs) contents all p der plain = sym p.1
LeafContents-plain (utc_time m) contents all p der plain = p.1
LeafContents-plain (generalized_time m) contents all p (_, (_, shortest)) plain =
    GeneralizedTimeContents-der m contents p shortest plain

-- a leaf that stands as it is written is not among those that are written otherwise
pub is_written_otherwise-leaf_contents :
    (l : Leaf) (contents : List ℕ) → LeafContents l contents → HasDerContents (leaf_tag l) contents →
    contents ≡ leaf_contents l → is_written_otherwise (leaf_tag l) contents ≡ false
is_written_otherwise-leaf_contents (boolean b) contents p der e = refl
is_written_otherwise-leaf_contents (integer n) contents p der e = refl
is_written_otherwise-leaf_contents (bit_string n v) contents p der e = has_no_bits-written n v contents p der.0 e
is_written_otherwise-leaf_contents (octet_string v) contents p der e = refl
is_written_otherwise-leaf_contents null contents p der e = refl
is_written_otherwise-leaf_contents (object_identifier ns) contents p der e = goes_on_with_80-written ns contents p e
is_written_otherwise-leaf_contents (text utf8 cs) contents p der e = refl
is_written_otherwise-leaf_contents (text printable cs) contents p der e = refl
is_written_otherwise-leaf_contents (text teletex cs) contents p der e = refl
is_written_otherwise-leaf_contents (text ia5 cs) contents p der e = refl
is_written_otherwise-leaf_contents (text universal cs) contents p der e = refl
is_written_otherwise-leaf_contents (text bmp cs) contents p der e = refl
is_written_otherwise-leaf_contents (utc_time m) contents p der e = refl
is_written_otherwise-leaf_contents (generalized_time m) contents p der e = has_many_digits-written m contents e
