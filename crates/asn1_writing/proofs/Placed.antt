-- What is written of a faithful tree is read again, at the offsets that it has in the octets written, for
-- `write::to_der`, `convert::round_trip` and the laws.
use Rattle.std.proofs.Common.{◌≡◌, ℕ, ◌+◌, ◌<◌, ◌≤◌, ◌^◌, Bool, true, false, List, ◌++◌, None, length, refl, ap, ◌∙◌, arith, length-append}
use Rattle.asn1_headers.specs.declared.header.ASN1Class.{ASN1Class}
use Rattle.asn1_headers.specs.declared.header.ASN1Class.TheVariants.{Universal}
use Rattle.asn1_headers.specs.Header.{Encoding, shortest_identifier, shortest_length}
use Rattle.asn1_blocks.specs.Tree.{Tree, Trees, leaf, group, explicit, unknown, no_trees, more_trees, shape, shapes}
use Rattle.asn1_blocks.specs.Contents.{leaf_tag, group_tag, leaf_contents}
use Rattle.asn1_blocks.specs.Grammar.{Encodes, EncodesAll}
use Rattle.asn1_writing.specs.Canonical.{shortest_encoding, canonical, all_canonical, first_of, write_fault, first_write_fault}
use Rattle.asn1_blocks.specs.Faithful.{IsFaithful, AreFaithful}
use Rattle.asn1_headers.proofs.Shortest.{IsIdentifier-shortest, IsLength-shortest}
use Rattle.asn1_blocks.proofs.Leaves.{LeafContents-written, leaf_write_fault-faithful}
use Rattle.asn1_headers.proofs.Prefixes.{IsIdentifier-not_empty}

-- how many octets stand before the contents octets that are written
abbrev pub header_size : ASN1Class → Bool → ℕ → List ℕ → ℕ
header_size c k n contents = length (shortest_identifier c k n) + length (shortest_length (length contents))

abbrev mutual
  -- the tree with the offsets of its blocks in its canonical octets, from an offset on
  pub placed : {O : Type 0} → ℕ → Tree O → Tree ℕ
  placed p (leaf o l) = leaf p l
  placed p (group o g bs) = group p g (all_placed (p + header_size Universal true (group_tag g) (all_canonical bs)) bs)
  placed p (explicit c o n b) = explicit c p n (placed (p + header_size c true n (canonical b)) b)
  placed p (unknown c k o n v) = unknown c k p n v

  -- trees one after another with the offsets of their blocks in their canonical octets, from an offset on
  pub all_placed : {O : Type 0} → ℕ → Trees O → Trees ℕ
  all_placed p no_trees = no_trees
  all_placed p (more_trees b bs) = more_trees (placed p b) (all_placed (p + length (canonical b)) bs)

-- octets that are written are an encoding
pub Encoding-shortest_encoding :
    (c : ASN1Class) (k : Bool) (n : ℕ) (contents : List ℕ) → length contents < 2 ^ 64 →
    Encoding (shortest_encoding c k n contents) c k n contents (header_size c k n contents)
Encoding-shortest_encoding c k n contents h = record {
  identifier = shortest_identifier c k n;
  len = shortest_length (length contents);
  identifier_octets = IsIdentifier-shortest c k n;
  length_octets = IsLength-shortest (length contents) h;
  whole = refl;
  size = refl;
}

-- the shortest encoding of contents octets is at least as long as these
pub length-le_shortest_encoding : (c : ASN1Class) (k : Bool) (n : ℕ) (contents : List ℕ) →
    length contents ≤ length (shortest_encoding c k n contents)
length-le_shortest_encoding c k n contents =
    omega (
      arith,
      length-append (shortest_identifier c k n) (shortest_length (length contents) ++ contents),
      length-append (shortest_length (length contents)) contents,
    )

mutual
  -- a faithful tree is read again
  pub Encodes-canonical : {O : Type 0} (p : ℕ) (b : Tree O) → length (canonical b) < 2 ^ 64 → IsFaithful b →
      Encodes p (canonical b) (placed p b)
  Encodes-canonical p (leaf o l) h f =
      let v = leaf_contents l in
      let encoding = Encoding-shortest_encoding Universal false (leaf_tag l) v
      (omega (arith, h, length-le_shortest_encoding Universal false (leaf_tag l) v)) in
      (refl, false, v, header_size Universal false (leaf_tag l) v, encoding, LeafContents-written l f)
  Encodes-canonical p (group o g bs) h f =
      let v = all_canonical bs in
      let small : length v < 2 ^ 64 = omega (arith, h, length-le_shortest_encoding Universal true (group_tag g) v) in
      let size = header_size Universal true (group_tag g) v in
      let encoding = Encoding-shortest_encoding Universal true (group_tag g) v small in
      (refl, true, v, size, encoding, EncodesAll-all_canonical (p + size) bs small f)
  Encodes-canonical p (explicit c o n b) h f =
      let v = canonical b in
      let small : length v < 2 ^ 64 = omega (arith, h, length-le_shortest_encoding c true n v) in
      let size = header_size c true n v in
      (refl, f.0, v, size, Encoding-shortest_encoding c true n v small, Encodes-canonical (p + size) b small f.1)
  Encodes-canonical p (unknown c k o n v) h f = (
    refl,
    header_size c k n v,
    Encoding-shortest_encoding c k n v
        (omega (arith, h, length-le_shortest_encoding c k n v)),
    f,
  )

  -- faithful trees are read again
  pub EncodesAll-all_canonical :
      {O : Type 0} (p : ℕ) (bs : Trees O) → length (all_canonical bs) < 2 ^ 64 → AreFaithful bs →
      EncodesAll p (all_canonical bs) (all_placed p bs)
  EncodesAll-all_canonical p no_trees h f = refl
  EncodesAll-all_canonical p (more_trees b bs) h f =
      let l = length-append (canonical b) (all_canonical bs) in
      record {
        first = canonical b;
        rest = all_canonical bs;
        whole = refl;
        item = Encodes-canonical p b (omega (arith, h, l)) f.0;
        items = EncodesAll-all_canonical (p + length (canonical b)) bs (omega (arith, h, l)) f.1;
      }

-- the shortest encoding of contents octets, even of none, is not empty
length-shortest_encoding_some : (c : ASN1Class) (k : Bool) (n : ℕ) (contents : List ℕ) →
    0 < length (shortest_encoding c k n contents)
length-shortest_encoding_some c k n contents =
    omega (
      arith,
      IsIdentifier-not_empty (shortest_identifier c k n) c k n (IsIdentifier-shortest c k n),
      length-append (shortest_identifier c k n) (shortest_length (length contents) ++ contents),
    )

-- at least one octet is written of each tree
pub canonical-not_empty : {O : Type 0} (b : Tree O) → 0 < length (canonical b)
canonical-not_empty (leaf o l) = length-shortest_encoding_some Universal false (leaf_tag l) (leaf_contents l)
canonical-not_empty (group o g bs) = length-shortest_encoding_some Universal true (group_tag g) (all_canonical bs)
canonical-not_empty (explicit c o n b) = length-shortest_encoding_some c true n (canonical b)
canonical-not_empty (unknown c k o n v) = length-shortest_encoding_some c k n v

mutual
  -- a placed tree differs by its offsets alone
  pub shape-placed : {O : Type 0} (p : ℕ) (b : Tree O) → shape (placed p b) ≡ shape b
  shape-placed p (leaf o l) = refl
  shape-placed p (group o g bs) =
      ap (group tt g) (shapes-all_placed (p + header_size Universal true (group_tag g) (all_canonical bs)) bs)
  shape-placed p (explicit c o n b) = ap (explicit c tt n) (shape-placed (p + header_size c true n (canonical b)) b)
  shape-placed p (unknown c k o n v) = refl

  -- placed trees differ by their offsets alone
  pub shapes-all_placed : {O : Type 0} (p : ℕ) (bs : Trees O) → shapes (all_placed p bs) ≡ shapes bs
  shapes-all_placed p no_trees = refl
  shapes-all_placed p (more_trees b bs) =
      ap (λ z. more_trees z (shapes (all_placed (p + length (canonical b)) bs))) (shape-placed p b) ∙
      ap (more_trees (shape b)) (shapes-all_placed (p + length (canonical b)) bs)

mutual
  -- a faithful tree can be written
  pub write_fault-faithful : {O : Type 0} (b : Tree O) → IsFaithful b → write_fault b ≡ None
  write_fault-faithful (leaf o l) f = leaf_write_fault-faithful l f
  write_fault-faithful (group o g bs) f = first_write_fault-faithful bs f
  write_fault-faithful (explicit c o n b) f = write_fault-faithful b f.1
  write_fault-faithful (unknown c k o n v) f = refl

  -- faithful trees can be written
  pub first_write_fault-faithful : {O : Type 0} (bs : Trees O) → AreFaithful bs → first_write_fault bs ≡ None
  first_write_fault-faithful no_trees f = refl
  first_write_fault-faithful (more_trees b bs) f =
      ap (λ z. first_of z (first_write_fault bs)) (write_fault-faithful b f.0) ∙ first_write_fault-faithful bs f.1
