-- What is written of faithful trees is DER exactly if they are trees of DER, for `laws::law_written_is_der`.
use Rattle.std.proofs.Common.{◌≡◌, ◌≢◌, ◌↔◌, ℕ, ◌<◌, ◌^◌, Bool, true, false, List, [], ◌∷◌, ◌++◌, length, refl, sym, ap, arith, length-append, append-nil}
use Rattle.asn1_headers.specs.declared.header.ASN1Class.{ASN1Class}
use Rattle.asn1_headers.specs.declared.header.ASN1Class.TheVariants.{Universal}
use Rattle.asn1_headers.specs.declared.tags.TheConstants.{SEQUENCE, SET}
use Rattle.asn1_leaves.specs.StringKind.{utf8, printable, teletex, ia5, universal, bmp}
use Rattle.asn1_blocks.specs.Contents.{leaf_contents, leaf_tag}
use Rattle.asn1_blocks.specs.Faithful.{AreFaithful, IsFaithful}
use Rattle.asn1_blocks.specs.Tree.{Leaf, Tree, Trees, leaf, group, explicit, unknown, no_trees, more_trees, boolean, integer, bit_string, octet_string, null, object_identifier, text, utc_time, generalized_time}
use Rattle.asn1_blocks.specs.declared.block.GroupKind.TheVariants.{Sequence, Set}
use Rattle.asn1_der.specs.Der.{AreDerEncodings, IsDer, IsDerEncoding, IsShortest, is_constructed_type, is_reserved, more_encodings, no_encodings, of_constructed_not_universal, of_constructed_type, of_primitive_type}
use Rattle.asn1_der.specs.Steps.{AreDer, IsWhole}
use Rattle.asn1_der.proofs.DerEncodings.{IsWhole-der, IsDerEncoding-whole, AreDer-first}
use Rattle.asn1_writing.specs.Canonical.{all_canonical, canonical, shortest_encoding}
use Rattle.asn1_writing.proofs.Placed.{canonical-not_empty, length-le_shortest_encoding, header_size, Encoding-shortest_encoding}
use Rattle.asn1_writing.proofs.CanonicalDocuments.{IsEncoding-canonical}
use Rattle.asn1_laws.specs.DerTrees.{AreDerTrees, IsDerTree, each_canonical}
use Rattle.asn1_laws.proofs.Encodings.{IsRightAlone-leaf}
use Rattle.asn1_laws.proofs.WrittenLeaves.{is_der_leaf-leaf_contents, HasDerContents-leaf_contents}

-- the shortest encoding has identifier octets in their shortest form and length octets in the fewest octets
IsShortest-shortest_encoding : (c : ASN1Class) (k : Bool) (n : ℕ) (v : List ℕ) →
    IsShortest (shortest_encoding c k n v) c k n v
IsShortest-shortest_encoding c k n v = record { whole = refl }

-- leaves have tags of types, which are primitive
is_reserved-leaf_tag : (l : Leaf) → (is_reserved (leaf_tag l) ≡ false) × (is_constructed_type (leaf_tag l) ≡ false)
is_reserved-leaf_tag (boolean b) = (refl, refl)
is_reserved-leaf_tag (integer n) = (refl, refl)
is_reserved-leaf_tag (bit_string n v) = (refl, refl)
is_reserved-leaf_tag (octet_string v) = (refl, refl)
is_reserved-leaf_tag null = (refl, refl)
is_reserved-leaf_tag (object_identifier ns) = (refl, refl)
is_reserved-leaf_tag (text utf8 cs) = (refl, refl)
is_reserved-leaf_tag (text printable cs) = (refl, refl)
is_reserved-leaf_tag (text teletex cs) = (refl, refl)
is_reserved-leaf_tag (text ia5 cs) = (refl, refl)
is_reserved-leaf_tag (text universal cs) = (refl, refl)
is_reserved-leaf_tag (text bmp cs) = (refl, refl)
is_reserved-leaf_tag (utc_time m) = (refl, refl)
is_reserved-leaf_tag (generalized_time m) = (refl, refl)

mutual
  -- trees that are said to be written as DER are
  IsDerEncoding-canonical : (b : Tree ℕ) → IsFaithful b → IsDerTree b → IsDerEncoding (canonical b)
  IsDerEncoding-canonical (leaf o l) f t =
      let r = is_reserved-leaf_tag l in
      of_primitive_type (IsShortest-shortest_encoding Universal false (leaf_tag l) (leaf_contents l)) r.0 r.1
      (HasDerContents-leaf_contents l f t)
  IsDerEncoding-canonical (group o Sequence bs) f t =
      of_constructed_type (IsShortest-shortest_encoding Universal true SEQUENCE (all_canonical bs)) refl
      (each_canonical bs) (AreDerEncodings-all_canonical bs f t) tt
  IsDerEncoding-canonical (group o Set bs) f t =
      of_constructed_type (IsShortest-shortest_encoding Universal true SET (all_canonical bs)) refl
      (each_canonical bs) (AreDerEncodings-all_canonical bs f t.0) t.1
  IsDerEncoding-canonical (explicit c o n b) f t =
      of_constructed_not_universal f.0 (IsShortest-shortest_encoding c true n (canonical b)) (canonical b ∷ [])
      (more_encodings (sym (append-nil (canonical b))) (IsDerEncoding-canonical b f.1 t) no_encodings)
  IsDerEncoding-canonical (unknown c k o n v) f t =
      IsDerEncoding-whole (shortest_encoding c k n v) c k n v
      (record { alone = (IsShortest-shortest_encoding c k n v, t.0); items = t.1 })

  -- the canonical octets of faithful trees of DER are encodings of DER, one of each tree
  AreDerEncodings-all_canonical : (bs : Trees ℕ) → AreFaithful bs → AreDerTrees bs →
      AreDerEncodings (all_canonical bs) (each_canonical bs)
  AreDerEncodings-all_canonical no_trees f t = no_encodings
  AreDerEncodings-all_canonical (more_trees b bs) f t =
      more_encodings refl (IsDerEncoding-canonical b f.0 t.0) (AreDerEncodings-all_canonical bs f.1 t.1)

-- a DER encoding that is written of a class, a form, a tag and contents octets keeps the rules of DER for these
IsWhole-shortest_encoding : (c : ASN1Class) (k : Bool) (n : ℕ) (v : List ℕ) →
    length (shortest_encoding c k n v) < 2 ^ 64 →
    IsDerEncoding (shortest_encoding c k n v)
    → IsWhole (shortest_encoding c k n v) c k n v
IsWhole-shortest_encoding c k n v small d =
    IsWhole-der (shortest_encoding c k n v) c k n v (header_size c k n v) small
    (Encoding-shortest_encoding c k n v (omega (arith, small, length-le_shortest_encoding c k n v))) d

-- where encodings of DER begin with the canonical octets of a tree, these octets are the first encoding, and the rest
-- are encodings of DER
AreDer-canonical_first : (b : Tree ℕ) (rest whole : List ℕ) → whole ≡ canonical b ++ rest → length whole < 2 ^ 64 →
    AreDer whole → IsDerEncoding (canonical b) × AreDer rest
AreDer-canonical_first b rest whole e small d =
    let G = IsEncoding-canonical b (omega (arith, small, ap length e, length-append (canonical b) rest)) in
    let s = AreDer-first whole (canonical b) rest G.class G.constructed G.tag G.contents G.header G.encoding e small
    d in
    (s.der, s.more)

mutual
  -- a faithful tree whose canonical octets are a DER encoding is a tree of DER
  IsDerTree-canonical : (b : Tree ℕ) → length (canonical b) < 2 ^ 64 → IsFaithful b → IsDerEncoding (canonical b) →
      IsDerTree b
  IsDerTree-canonical (leaf o l) small f d =
      let w = IsWhole-shortest_encoding Universal false (leaf_tag l) (leaf_contents l) small d in
      is_der_leaf-leaf_contents l f (IsRightAlone-leaf l false (leaf_contents l) w.alone.1).1
  IsDerTree-canonical (group o Sequence bs) small f d =
      let w = IsWhole-shortest_encoding Universal true SEQUENCE (all_canonical bs) small d in
      AreDerTrees-all_canonical bs
      (omega (arith, small, length-le_shortest_encoding Universal true SEQUENCE (all_canonical bs))) f (w.items refl)
  IsDerTree-canonical (group o Set bs) small f d =
      let w = IsWhole-shortest_encoding Universal true SET (all_canonical bs) small d in
      let t =
      AreDerTrees-all_canonical bs
      (omega (arith, small, length-le_shortest_encoding Universal true SET (all_canonical bs))) f (w.items refl) in
      let (_, (_, in_order)) = w.alone in
      (t, in_order (each_canonical bs) (AreDerEncodings-all_canonical bs f t))
  IsDerTree-canonical (explicit c o n b) small f d =
      let w = IsWhole-shortest_encoding c true n (canonical b) small d in
      let inner : length (canonical b) < 2 ^ 64 =
      omega (arith, small, length-le_shortest_encoding c true n (canonical b)) in
      IsDerTree-canonical b inner f.1
      (AreDer-canonical_first b [] (canonical b) (sym (append-nil (canonical b))) inner (w.items refl)).0
  IsDerTree-canonical (unknown c k o n v) small f d =
      let w = IsWhole-shortest_encoding c k n v small d in
      (w.alone.1, w.items)

  -- faithful trees are trees of DER if their canonical octets, joined, are DER
  AreDerTrees-all_canonical : (bs : Trees ℕ) → length (all_canonical bs) < 2 ^ 64 → AreFaithful bs →
      AreDer (all_canonical bs) →
      AreDerTrees bs
  AreDerTrees-all_canonical no_trees small f d = tt
  AreDerTrees-all_canonical (more_trees b bs) small f d =
      let size = length-append (canonical b) (all_canonical bs) in
      let (one, others) =
      AreDer-canonical_first b (all_canonical bs) (all_canonical (more_trees b bs)) refl small d in (
        IsDerTree-canonical b (omega (arith, small, size)) f.0 one,
        AreDerTrees-all_canonical bs (omega (arith, small, size)) f.1 others,
      )

-- what is written of a faithful tree is DER exactly where the tree is one of DER
pub IsDer-canonical : (b : Tree ℕ) → length (canonical b) < 2 ^ 64 → IsFaithful b → IsDer (canonical b) ↔ IsDerTree b
IsDer-canonical b small f = (
  λ d. IsDerTree-canonical b small f
      (AreDer-canonical_first b [] (canonical b) (sym (append-nil (canonical b))) small (d.items, d.encodings)).0,
  λ t. record {
    some = canonical-not_empty b;
    items = canonical b ∷ [];
    encodings = more_encodings (sym (append-nil (canonical b))) (IsDerEncoding-canonical b f t) no_encodings;
  },
)

-- what is written of faithful trees, joined, is DER exactly where these are trees of DER
pub IsDer-all_canonical :
    (bs : Trees ℕ) → bs ≢ no_trees → length (all_canonical bs) < 2 ^ 64 → AreFaithful bs →
    IsDer (all_canonical bs) ↔ AreDerTrees bs
IsDer-all_canonical bs some small f = (
  λ d. AreDerTrees-all_canonical bs small f (d.items, d.encodings),
  λ t. record { some = octets bs some; items = each_canonical bs; encodings = AreDerEncodings-all_canonical bs f t },
)
  where
    -- the canonical octets of one tree or more are not empty
    octets : (bs : Trees ℕ) → bs ≢ no_trees → 0 < length (all_canonical bs)
    octets no_trees some = absurd (some refl)
    octets (more_trees b bs) some =
        omega (arith, canonical-not_empty b, length-append (canonical b) (all_canonical bs))
