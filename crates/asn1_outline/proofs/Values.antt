-- An entry's contents octets mean the value of its tree, for the methods of `BlockRef`, and for `asn1_records`.
use Rattle.std.proofs.Common.{◌≡◌, ℕ, ◌+◌, ◌<◌, ◌≤◌, ◌^◌, ◌⊎◌, ◌++◌, Bool, true, false, ◌-◌, List, [], Some, None, inl, inr, drop, get_or, length, take, refl, sym, ap, subst, ◌∙◌, arith, append_assoc, length-append}
use Rattle.std.specs.List.{list_all, slice_range}
use Rattle.std.specs.Prelude.{◌==◌, ◌&&◌, if◌then◌else◌, Option, MatchOption, option_and_then}
use Rattle.std.proofs.lemmas.Bool.{cases_Bool, cases_lt, false≢true, or_cases}
use Rattle.std.proofs.lemmas.Bool.Decides.{nat_tests}
use Rattle.std.proofs.lemmas.List.{length-drop, take-append-drop, take_at}
use Rattle.asn1_numbers.specs.TwosComplement.{signed_number}
use Rattle.asn1_headers.specs.Header.{BeginsWithNo, Encoding, IsIdentifier, IsSomeIdentifier}
use Rattle.asn1_headers.specs.declared.header.ASN1Class.{ASN1Class}
use Rattle.asn1_headers.specs.declared.header.ASN1Class.TheVariants.{Application, ContextSpecific, Private, Universal}
use Rattle.asn1_headers.proofs.Prefixes.{SameEncoding, Encoding-unique, Encoding-not_empty, IsIdentifier-unique}
use Rattle.asn1_leaves.specs.StringKind.{StringKind}
use Rattle.asn1_blocks.specs.BlockParts.{leaf_bits, leaf_boolean, leaf_integer, leaf_moment, leaf_octets, leaf_oid, tree_bits, tree_boolean, tree_integer, tree_leaf, tree_moment, tree_octets, tree_oid, tree_tag, tree_text}
use Rattle.asn1_blocks.specs.Contents.{LeafContents, LeafFault, group_tag, is_known_tag, is_leaf_tag, leaf_tag, string_tag}
use Rattle.asn1_blocks.specs.Inner.LeafBlocks.{IsLeafOf}
use Rattle.asn1_blocks.proofs.Leaves.{LeafFault-generalized_time, LeafFault-text, LeafFault-utc_time, is_known_tag-group_tag, LeafContents-unique, is_known_tag-leaf_tag, is_leaf_tag-leaf_tag, is_known_tag-is_leaf_tag, is_leaf_tag-not_group_tag, string_tag-lt, is_known_tag-unknown}
use Rattle.asn1_headers.specs.Fault.{DecodeFault}
use Rattle.asn1_headers.specs.declared.tags.TheConstants.{ENUMERATED, GENERAL_STRING, NUMERIC_STRING, VISIBLE_STRING, GENERALIZED_TIME, UTC_TIME}
use Rattle.asn1_leaves.specs.Contents.GeneralizedTime.{GeneralizedTimeContents, GeneralizedTimeFault}
use Rattle.asn1_leaves.specs.Contents.Moment.{Moment}
use Rattle.asn1_leaves.specs.Contents.UtcTime.{UtcTimeContents, UtcTimeFault}
use Rattle.asn1_leaves.specs.Contents.Integer.{is_shortest_integer}
use Rattle.asn1_leaves.specs.Contents.Text.{TextContents, TextFault, text_form}
use Rattle.asn1_blocks.specs.Grammar.{Encodes, IsDocument}
use Rattle.asn1_blocks.specs.Places.{EncodingAt}
use Rattle.asn1_blocks.specs.Tree.{Leaf, Tree, bit_string, boolean, explicit, generalized_time, group, integer, leaf, object_identifier, octet_string, text, unknown, utc_time}
use Rattle.asn1_blocks.specs.UnknownValues.{is_ascii_character, is_ascii_tag, tree_ascii_text, tree_enumerated}
use Rattle.asn1_blocks.specs.View.{tree_offset}
use Rattle.asn1_blocks.proofs.Slices.{EncodingAt-unique}
use Rattle.asn1_outline.specs.Entries.{AreEntries, IsCapped, no_entry}
use Rattle.asn1_outline.specs.Shapes.{contents_octets, encoding_octets}
use Rattle.asn1_outline.specs.Structure.{HasContents, IsEncodedIn, IsStructure, Nodes, node_at, node_items, nodes_depths, nodes_in_order, tree_at}
use Rattle.asn1_outline.specs.Values.{EachIsOfItsTree, IsEntryOf, IsNoLeafWith, IsNoPrimitive, IsPrimitive}
use Rattle.asn1_outline.proofs.Entries.{length-entries, IsEntry-get_or}
use Rattle.asn1_outline.proofs.Standing.{drop-contents, EncodingAt-encoded, Holds-node_items, IsStanding-structure}
use Rattle.asn1_outline.specs.declared.entry.Entry.{Entry}

-- the tree's octets, and the contents octets where the entry has them
pub record EntryContents (x : List ℕ) (b : Tree ℕ) (r : Entry) : Type 0 where
  pub octets : List ℕ
  pub tag : ℕ
  pub contents : List ℕ
  pub encoding : Encoding octets r.class r.constructed tag contents r.header
  pub stands : IsEncodedIn x b octets
  pub encoded : Encodes (tree_offset b) octets b
  pub whole : slice_range x r.offset (r.offset + r.header + r.contents) ≡ octets
  pub number : IsCapped tag r.tag
  pub within : r.offset + r.header + r.contents ≤ length x
  pub are : slice_range x (r.offset + r.header) (r.offset + r.header + r.contents) ≡ contents

-- the slice where octets stand is these octets
pub slice_range-at_offset : (x v rest : List ℕ) (s e : ℕ) → drop s x ≡ v ++ rest → length v ≡ e - s →
    slice_range x s e ≡ v
slice_range-at_offset x v rest s e st l = ap (take (e - s)) st ∙ take_at v rest (e - s) l

-- an entry of a tree has its contents octets where its fields say
pub EntryContents-entry : (x : List ℕ) (b : Tree ℕ) (r : Entry) → IsEntryOf x b r → EntryContents x b r
EntryContents-entry x b r e =
    let (y, at, h) = e.header in
    let own = e.encoded in
    let there = EncodingAt-encoded x b e.octets own in
    let same : y ≡ e.octets =
    EncodingAt-unique x (tree_offset b) y e.octets (subst (λ n. EncodingAt x n y) e.offset_is at) there in
    let stands : drop r.offset x ≡ y ++ at.rest = at.at_offset in
    let size : length y ≡ r.header + r.contents = omega (
      arith,
      h.encoding.size,
      h.contents_field,
      ap length h.encoding.whole,
      length-append h.encoding.identifier (h.encoding.len ++ h.contents),
      length-append h.encoding.len h.contents,
    ) in
    let after = drop-contents x y at.rest r.class r.constructed h.tag h.contents r.offset r.header stands h.encoding in
    let some = Encoding-not_empty y r.class r.constructed h.tag h.contents r.header h.encoding in
    record {
      octets = y;
      tag = h.tag;
      contents = h.contents;
      encoding = h.encoding;
      stands = subst (IsEncodedIn x b) (sym same) own;
      encoded = subst (λ z. Encodes (tree_offset b) z b) (sym same) own.encoded;
      whole = slice_range-at_offset x y at.rest r.offset (r.offset + r.header + r.contents) stands
          (omega (arith, size));
      number = h.tag_field;
      within = omega (arith, size, some, ap length stands, length-append y at.rest, length-drop r.offset x);
      are = slice_range-at_offset x h.contents at.rest (r.offset + r.header) (r.offset + r.header + r.contents) after
          (omega (arith, h.contents_field));
    }

-- the octets of an entry encode its tree
pub IsEncodedIn-entry : (x : List ℕ) (b : Tree ℕ) (r : Entry) → IsEntryOf x b r → IsEncodedIn x b (encoding_octets x r)
IsEncodedIn-entry x b r e =
    let c = EntryContents-entry x b r e in
    subst (IsEncodedIn x b) (sym c.whole) c.stands

-- the contents octets of an entry are those of its tree
pub HasContents-entry : (x : List ℕ) (b : Tree ℕ) (r : Entry) → IsEntryOf x b r → HasContents x b (contents_octets x r)
HasContents-entry x b r e =
    let c = EntryContents-entry x b r e in
    subst (HasContents x b) (sym c.are) (record {
      octets = c.octets;
      encoded = c.stands;
      class = r.class;
      constructed = r.constructed;
      tag = c.tag;
      header = r.header;
      encoding = c.encoding;
    })

-- octets are an encoding in one way
pub SameEncoding-octets : (y : List ℕ) (c d : ASN1Class) (j k : Bool) (m n : ℕ) (v w : List ℕ) (g h : ℕ) →
    Encoding y c j m v g →
    Encoding y d k n w h
    → SameEncoding y y c d j k m n v w g h [] []
SameEncoding-octets y c d j k m n v w g h p q = Encoding-unique y y c d j k m n v w g h [] [] p q refl

-- a tag field below 64 is the tag number
pub IsCapped-small : (n field m : ℕ) → IsCapped n field → field ≡ m → m < 64 → n ≡ m
IsCapped-small n field m (low, high) e s = elim (cases_lt n (2 ^ 64)) [
  | inl lt ↦ sym (low lt) ∙ e
  | inr ge ↦ absurd (omega (arith, high ge, e, s))
]

-- an entry of a document lies within its octets
pub IsEntryOf-within : (x : List ℕ) (b : Tree ℕ) (r : Entry) → IsEntryOf x b r →
    r.offset + r.header + r.contents ≤ length x
IsEntryOf-within x b r e = (EntryContents-entry x b r e).within

-- the tree of an encoding of class Universal with the tag of a leaf is this leaf
IsLeafOf-encoding : (o : ℕ) (y : List ℕ) (b : Tree ℕ) (k : Bool) (n : ℕ) (w : List ℕ) (h : ℕ) → is_leaf_tag n ≡ true →
    Encodes o y b → Encoding y Universal k n w h
    → IsLeafOf o n w b
IsLeafOf-encoding o y (leaf p l) k n w h t (at, bit, contents, header, F, means) e =
    let z = SameEncoding-octets y Universal Universal bit k (leaf_tag l) n contents w header h F e in
    (at, sym z.tag, subst (LeafContents l) z.contents means)
IsLeafOf-encoding o y (group p g bs) k n w h t (_, bit, contents, header, F, _) e =
    let z = SameEncoding-octets y Universal Universal bit k (group_tag g) n contents w header h F e in
    is_leaf_tag-not_group_tag n g t (sym z.tag)
IsLeafOf-encoding o y (explicit c p m b) k n w h t (_, other, contents, header, F, _) e =
    let z = SameEncoding-octets y c Universal true k m n contents w header h F e in
    other z.class
IsLeafOf-encoding o y (unknown c j p m v) k n w h t (_, header, F, stays) e =
    let z = SameEncoding-octets y c Universal j k m n v w header h F e in
    elim stays [
      | inl known ↦
          not_known (sym (is_known_tag-is_leaf_tag n t) ∙ ap is_known_tag (sym z.tag) ∙ is_known_tag-unknown m known.1)
      | inr other ↦ other.0 z.class
    ]
  where
    -- true is not false
    not_known : true ≡ false → ⊥
    not_known q = absurd (cc)

-- the tree of an entry of class Universal with the tag of a leaf is that leaf
pub IsLeafOf-entry : (x : List ℕ) (b : Tree ℕ) (r : Entry) (n : ℕ) → IsEntryOf x b r → r.class ≡ Universal → r.tag ≡ n →
    n < 64 → is_leaf_tag n ≡ true
    → IsLeafOf (tree_offset b) n (slice_range x (r.offset + r.header) (r.offset + r.header + r.contents)) b
IsLeafOf-entry x b r n e class tag small t =
    let c = EntryContents-entry x b r e in
    let own = subst (λ z. Encoding c.octets z r.constructed c.tag c.contents r.header) class c.encoding in
    let two = subst (λ z. Encoding c.octets Universal r.constructed z c.contents r.header)
    (IsCapped-small c.tag r.tag n c.number tag small) own in
    subst (λ z. IsLeafOf (tree_offset b) n z b) (sym c.are)
    (IsLeafOf-encoding (tree_offset b) c.octets b r.constructed n c.contents r.header t c.encoded two)

-- the tree is the leaf that the contents octets mean
pub IsLeafOf-leaf : (o n : ℕ) (v : List ℕ) (b : Tree ℕ) (l : Leaf) → IsLeafOf o n v b → n ≡ leaf_tag l →
    LeafContents l v →
    (p : ℕ) × (b ≡ leaf p l)
IsLeafOf-leaf o n v (leaf p m) l (_, tag, means) t e =
    (p, ap (leaf p) (LeafContents-unique m l v (sym tag ∙ t) means e))
IsLeafOf-leaf o n v (group p g bs) l s t e = absurd s
IsLeafOf-leaf o n v (explicit c p m b) l s t e = absurd s
IsLeafOf-leaf o n v (unknown c k p m w) l s t e = absurd s

-- contents octets of a leaf that was read have no fault
pub IsLeafOf-no_fault : (o n : ℕ) (v : List ℕ) (b : Tree ℕ) (fault : DecodeFault) → IsLeafOf o n v b →
    LeafFault n v fault → ⊥
IsLeafOf-no_fault o n v (leaf p m) fault (_, tag, means) f = f.none m tag means
IsLeafOf-no_fault o n v (group p g bs) fault s f = s
IsLeafOf-no_fault o n v (explicit c p m b) fault s f = s
IsLeafOf-no_fault o n v (unknown c k p m w) fault s f = s

-- the tag number of a string is a leaf's, and below 64
is_leaf_tag-string_tag : (kind : StringKind) → (string_tag kind < 64) × (is_leaf_tag (string_tag kind) ≡ true)
is_leaf_tag-string_tag kind = (string_tag-lt kind, is_leaf_tag-leaf_tag (text kind []))

-- the tree of an entry of a string has the string's characters
pub tree_text-entry : (x : List ℕ) (b : Tree ℕ) (r : Entry) (kind : StringKind) (cs : List ℕ) → IsEntryOf x b r →
    r.class ≡ Universal → r.tag ≡ string_tag kind
    → TextContents (text_form kind) cs (slice_range x (r.offset + r.header) (r.offset + r.header + r.contents)) →
    tree_text b ≡ Some cs
tree_text-entry x b r kind cs e class tag means =
    let (small, t) = is_leaf_tag-string_tag kind in
    let v = slice_range x (r.offset + r.header) (r.offset + r.header + r.contents) in
    let (p, same) = IsLeafOf-leaf (tree_offset b) (string_tag kind) v b (text kind cs)
    (IsLeafOf-entry x b r (string_tag kind) e class tag small t) refl means in
    ap tree_text same

-- the contents octets of an entry of a string have no fault
pub IsEntryOf-no_text_fault : (x : List ℕ) (b : Tree ℕ) (r : Entry) (kind : StringKind) (fault : DecodeFault) →
    IsEntryOf x b r → r.class ≡ Universal
    → r.tag ≡ string_tag kind
    → TextFault (text_form kind) (slice_range x (r.offset + r.header) (r.offset + r.header + r.contents)) fault → ⊥
IsEntryOf-no_text_fault x b r kind fault e class tag f =
    let (small, t) = is_leaf_tag-string_tag kind in
    let v = slice_range x (r.offset + r.header) (r.offset + r.header + r.contents) in
    IsLeafOf-no_fault (tree_offset b) (string_tag kind) v b fault
    (IsLeafOf-entry x b r (string_tag kind) e class tag small t)
    (LeafFault-text kind (string_tag kind) v fault refl f)

-- a tree whose encoding is of no string has no text
tree_text-not_string_encoding :
    (o : ℕ) (y : List ℕ) (b : Tree ℕ) (c : ASN1Class) (k : Bool) (n : ℕ) (w : List ℕ) (h : ℕ) →
    Encodes o y b → Encoding y c k n w h
    → ((kind : StringKind) → (c ≡ Universal) × (n ≡ string_tag kind) → ⊥) → tree_text b ≡ None
tree_text-not_string_encoding o y (leaf p (text kind cs)) c k n w h (_, bit, contents, header, F, _) e other =
    let z = SameEncoding-octets y Universal c bit k (string_tag kind) n contents w header h F e in
    absurd (other kind (sym z.class, sym z.tag))
tree_text-not_string_encoding o y (leaf p l) c k n w h s e other = refl
tree_text-not_string_encoding o y (group p g bs) c k n w h s e other = refl
tree_text-not_string_encoding o y (explicit d p m b) c k n w h s e other = refl
tree_text-not_string_encoding o y (unknown d j p m v) c k n w h s e other = refl

-- the tree of an entry with the tag number of no string has no text
pub tree_text-not_string : (x : List ℕ) (b : Tree ℕ) (r : Entry) → IsEntryOf x b r →
    ((kind : StringKind) → (r.class ≡ Universal) × (r.tag ≡ string_tag kind) → ⊥)
    → tree_text b ≡ None
tree_text-not_string x b r e other =
    let c = EntryContents-entry x b r e in
    tree_text-not_string_encoding (tree_offset b)
    c.octets b r.class r.constructed c.tag c.contents r.header c.encoded c.encoding
    (λ kind (d, t). other kind (d, c.number.0 (omega (arith, t, (is_leaf_tag-string_tag kind).0)) ∙ t))

-- each entry of a document is of its node's tree
pub IsEntryOf-node : (x : List ℕ) (ns : Nodes) (rs : List Entry) → IsStructure x ns →
    AreEntries x 0 (nodes_in_order ns) (nodes_depths 0 ns) rs
    → (k : ℕ) → k < length (nodes_in_order ns) → IsEntryOf x (tree_at ns k) (get_or rs k no_entry)
IsEntryOf-node x ns rs d are k h =
    let w = IsEntry-get_or x 0 (nodes_in_order ns) (nodes_depths 0 ns) rs are k h in
    let (y, s, is) = IsStanding-structure x ns d k h in
    record {
      octets = y;
      encoded = s;
      offset_is = w.offset;
      header = w.header;
      inside = node_items (node_at ns k);
      holds = Holds-node_items x (node_at ns k) is;
      items_are = w.items;
    }

-- each entry of an outline is that of the tree of its node
pub EachIsOfItsTree-structure : EachIsOfItsTree
EachIsOfItsTree-structure x bs rs d all k h =
    let ns = all.nodes in
    let own : IsStructure x ns = (subst (IsDocument x) (sym all.trees) d, all.structure) in
    let l = length-entries x 0 (nodes_in_order ns) (nodes_depths 0 ns) rs all.entries in
    IsEntryOf-node x ns rs own all.entries k (omega (arith, h, l))

-- the tree of an entry with another class or tag number is no leaf with this tag number
pub IsNoLeafWith-entry : (x : List ℕ) (b : Tree ℕ) (r : Entry) (n : ℕ) → IsEntryOf x b r → n < 64 →
    ((r.class ≡ Universal) × (r.tag ≡ n) → ⊥)
    → IsNoLeafWith n b
IsNoLeafWith-entry x b r n e small other o l is tag =
    let c = EntryContents-entry x b r e in
    let s : Encodes (tree_offset b) c.octets (leaf o l) =
    subst (λ z. Encodes (tree_offset b) c.octets z) is c.encoded in
    let (_, bit, contents, header, F, _) = s in
    let z =
    SameEncoding-octets c.octets Universal r.class bit r.constructed
    (leaf_tag l) c.tag contents c.contents header r.header F c.encoding in
    let number : c.tag ≡ n = sym z.tag ∙ tag in
    other (sym z.class, c.number.0 (omega (arith, number, small)) ∙ number)

-- a tree has no value of a leaf that it is not
pub tree_leaf-none : {A : Type 0} (value : Leaf → Option A) (b : Tree ℕ)
    → ((o : ℕ) (l : Leaf) → b ≡ leaf o l → value l ≡ None) → option_and_then value (tree_leaf b) ≡ None
tree_leaf-none value (leaf o l) none = none o l refl
tree_leaf-none value (group o g bs) none = refl
tree_leaf-none value (explicit c o n b) none = refl
tree_leaf-none value (unknown c k o n v) none = refl

-- a tree that is no leaf with the tag number of BOOLEAN is no BOOLEAN
pub tree_boolean-none : (b : Tree ℕ) → IsNoLeafWith 1 b → tree_boolean b ≡ None
tree_boolean-none b other = tree_leaf-none leaf_boolean b (λ o l is. leaf_boolean-none l (other o l is))
  where
    leaf_boolean-none : (l : Leaf) → (leaf_tag l ≡ 1 → ⊥) → leaf_boolean l ≡ None
    leaf_boolean-none (boolean v) other = absurd (other refl)
    leaf_boolean-none l other = refl

-- a tree that is no leaf with the tag number of INTEGER is no INTEGER
pub tree_integer-none : (b : Tree ℕ) → IsNoLeafWith 2 b → tree_integer b ≡ None
tree_integer-none b other = tree_leaf-none leaf_integer b (λ o l is. leaf_integer-none l (other o l is))
  where
    leaf_integer-none : (l : Leaf) → (leaf_tag l ≡ 2 → ⊥) → leaf_integer l ≡ None
    leaf_integer-none (integer n) other = absurd (other refl)
    leaf_integer-none l other = refl

-- a tree that is no leaf with the tag number of BIT STRING has no bits of one
pub tree_bits-none : (b : Tree ℕ) → IsNoLeafWith 3 b → tree_bits b ≡ None
tree_bits-none b other = tree_leaf-none leaf_bits b (λ o l is. leaf_bits-none l (other o l is))
  where
    leaf_bits-none : (l : Leaf) → (leaf_tag l ≡ 3 → ⊥) → leaf_bits l ≡ None
    leaf_bits-none (bit_string n v) other = absurd (other refl)
    leaf_bits-none l other = refl

-- a tree that is no leaf with the tag number of OBJECT IDENTIFIER has no components of one
pub tree_oid-none : (b : Tree ℕ) → IsNoLeafWith 6 b → tree_oid b ≡ None
tree_oid-none b other = tree_leaf-none leaf_oid b (λ o l is. leaf_oid-none l (other o l is))
  where
    leaf_oid-none : (l : Leaf) → (leaf_tag l ≡ 6 → ⊥) → leaf_oid l ≡ None
    leaf_oid-none (object_identifier ns) other = absurd (other refl)
    leaf_oid-none l other = refl

-- a tree that is no leaf with the tag number of OCTET STRING has no octets of one
pub tree_octets-none : (b : Tree ℕ) → IsNoLeafWith 4 b → tree_octets b ≡ None
tree_octets-none b other = tree_leaf-none leaf_octets b (λ o l is. leaf_octets-none l (other o l is))
  where
    leaf_octets-none : (l : Leaf) → (leaf_tag l ≡ 4 → ⊥) → leaf_octets l ≡ None
    leaf_octets-none (octet_string v) other = absurd (other refl)
    leaf_octets-none l other = refl

-- a leaf with the tag number of OCTET STRING has its contents octets as octets
pub tree_octets-leaf : (o : ℕ) (v : List ℕ) (b : Tree ℕ) → IsLeafOf o 4 v b → tree_octets b ≡ Some v
tree_octets-leaf o v b s = let (p, same) = IsLeafOf-leaf o 4 v b (octet_string v) s refl refl in ap tree_octets same

-- what was found as the octets of an entry are those of its tree
pub tree_octets-found : {A : Type 0} (now : A → List ℕ) (found : Option A) (b : Tree ℕ)
    → MatchOption found (IsNoLeafWith 4 b) (λ v. IsLeafOf (tree_offset b) 4 (now v) b)
    → MatchOption found (tree_octets b ≡ None) (λ v. tree_octets b ≡ Some (now v))
tree_octets-found now None b h = tree_octets-none b h
tree_octets-found now (Some v) b h = tree_octets-leaf (tree_offset b) (now v) b h

-- a primitive encoding of class Universal whose tag number has no rule stays as it came
IsPrimitive-encoding : (o : ℕ) (y : List ℕ) (b : Tree ℕ) (n : ℕ) (w : List ℕ) (h : ℕ) → is_known_tag n ≡ false →
    Encodes o y b
    → Encoding y Universal false n w h → IsPrimitive n w b
IsPrimitive-encoding o y (leaf p l) n w h t (_, bit, contents, header, F, _) e =
    let z = SameEncoding-octets y Universal Universal bit false (leaf_tag l) n contents w header h F e in
    absurd (false≢true (sym t ∙ ap is_known_tag (sym z.tag) ∙ is_known_tag-leaf_tag l))
IsPrimitive-encoding o y (group p g bs) n w h t (_, bit, contents, header, F, _) e =
    let z = SameEncoding-octets y Universal Universal bit false (group_tag g) n contents w header h F e in
    absurd (false≢true (sym t ∙ ap is_known_tag (sym z.tag) ∙ is_known_tag-group_tag g))
IsPrimitive-encoding o y (explicit c p m b) n w h t (_, other, contents, header, F, _) e =
    let z = SameEncoding-octets y c Universal true false m n contents w header h F e in
    absurd (other z.class)
IsPrimitive-encoding o y (unknown c j p m v) n w h t (_, header, F, _) e =
    let z = SameEncoding-octets y c Universal j false m n v w header h F e in
    let class = z.class in
    let constructed = z.constructed in
    let tag = z.tag in
    let contents = z.contents in
    cc

-- an entry of a primitive encoding whose tag number has no rule has a tree that stays as it came
pub IsPrimitive-entry : (x : List ℕ) (b : Tree ℕ) (r : Entry) → IsEntryOf x b r → r.class ≡ Universal →
    r.constructed ≡ false → r.tag < 64
    → is_known_tag r.tag ≡ false →
    IsPrimitive r.tag (slice_range x (r.offset + r.header) (r.offset + r.header + r.contents)) b
IsPrimitive-entry x b r e class constructed small t =
    let c = EntryContents-entry x b r e in
    let own = subst (λ z. Encoding c.octets z r.constructed c.tag c.contents r.header) class c.encoding in
    let two = subst (λ z. Encoding c.octets Universal z c.tag c.contents r.header) constructed own in
    let three = subst (λ z. Encoding c.octets Universal false z c.contents r.header)
    (IsCapped-small c.tag r.tag r.tag c.number refl small) two in
    subst (λ z. IsPrimitive r.tag z b) (sym c.are)
    (IsPrimitive-encoding (tree_offset b) c.octets b r.tag c.contents r.header t c.encoded three)

-- the entry of a primitive encoding of class Universal that stays as it came has its class, bit and tag number
pub IsPrimitive-fields : (x : List ℕ) (b : Tree ℕ) (r : Entry) (n : ℕ) (v : List ℕ) → IsEntryOf x b r →
    IsPrimitive n v b
    → (r.class ≡ Universal) × (r.constructed ≡ false) × (n < 2 ^ 64 → r.tag ≡ n)
IsPrimitive-fields x b r n v e is =
    let c = EntryContents-entry x b r e in
    let s : Encodes (tree_offset b) c.octets (unknown Universal false (tree_offset b) n v) =
    subst (λ z. Encodes (tree_offset b) c.octets z) is c.encoded in
    let (_, header, F, _) = s in
    let z =
    SameEncoding-octets c.octets Universal r.class false r.constructed n c.tag v c.contents header r.header F
    c.encoding in
    (sym z.class, sym z.constructed, λ small. c.number.0 (omega (arith, small, z.tag)) ∙ sym z.tag)

-- a tree that is no primitive encoding of class Universal is no ENUMERATED
pub tree_enumerated-none : (b : Tree ℕ) → IsNoPrimitive b → tree_enumerated b ≡ None
tree_enumerated-none (unknown Universal false o n v) other = absurd (other n v refl)
tree_enumerated-none (unknown Universal true o n v) other = refl
tree_enumerated-none (unknown Application k o n v) other = refl
tree_enumerated-none (unknown ContextSpecific k o n v) other = refl
tree_enumerated-none (unknown Private k o n v) other = refl
tree_enumerated-none (leaf o l) other = refl
tree_enumerated-none (group o g bs) other = refl
tree_enumerated-none (explicit c o n b) other = refl

-- a tree that is no primitive encoding of class Universal is no NumericString, VisibleString or GeneralString
pub tree_ascii_text-none : (b : Tree ℕ) → IsNoPrimitive b → tree_ascii_text b ≡ None
tree_ascii_text-none (unknown Universal false o n v) other = absurd (other n v refl)
tree_ascii_text-none (unknown Universal true o n v) other = refl
tree_ascii_text-none (unknown Application k o n v) other = refl
tree_ascii_text-none (unknown ContextSpecific k o n v) other = refl
tree_ascii_text-none (unknown Private k o n v) other = refl
tree_ascii_text-none (leaf o l) other = refl
tree_ascii_text-none (group o g bs) other = refl
tree_ascii_text-none (explicit c o n b) other = refl

-- the tree of an entry with another tag number is no ENUMERATED
pub tree_enumerated-not_enumerated : (x : List ℕ) (b : Tree ℕ) (r : Entry) → IsEntryOf x b r →
    (r.tag ≡ ENUMERATED → ⊥) → tree_enumerated b ≡ None
tree_enumerated-not_enumerated x (unknown Universal false o n v) r e other = elim (cases_Bool (n == ENUMERATED)) [
  | inl here ↦
      let ten : n ≡ ENUMERATED = grind (arith, nat_tests, here) in
      absurd (other ((IsPrimitive-fields x (unknown Universal false o n v) r n v e refl).2 (omega (arith, ten)) ∙ ten))
  | inr there ↦ ap (λ z. if z && is_shortest_integer v then Some (signed_number v) else None) there
]
tree_enumerated-not_enumerated x (unknown Universal true o n v) r e other = refl
tree_enumerated-not_enumerated x (unknown Application k o n v) r e other = refl
tree_enumerated-not_enumerated x (unknown ContextSpecific k o n v) r e other = refl
tree_enumerated-not_enumerated x (unknown Private k o n v) r e other = refl
tree_enumerated-not_enumerated x (leaf o l) r e other = refl
tree_enumerated-not_enumerated x (group o g bs) r e other = refl
tree_enumerated-not_enumerated x (explicit c o n b) r e other = refl

-- the tag numbers of NumericString, VisibleString and GeneralString are below 64
is_ascii_tag-lt : (n : ℕ) → is_ascii_tag n ≡ true → n < 64
is_ascii_tag-lt n e = elim (or_cases _ (n == GENERAL_STRING) e) [
  | inr a ↦ grind (arith, nat_tests, a)
  | inl a ↦ elim (or_cases (n == NUMERIC_STRING) (n == VISIBLE_STRING) a) [
    | inl b ↦ grind (arith, nat_tests, b)
    | inr b ↦ grind (arith, nat_tests, b)
  ]
]

-- the tree of an entry with no tag number of NumericString, VisibleString or GeneralString is none of these strings
pub tree_ascii_text-not_ascii : (x : List ℕ) (b : Tree ℕ) (r : Entry) → IsEntryOf x b r → is_ascii_tag r.tag ≡ false →
    tree_ascii_text b ≡ None
tree_ascii_text-not_ascii x (unknown Universal false o n v) r e other = elim (cases_Bool (is_ascii_tag n)) [
  | inl here ↦
      let same =
      (IsPrimitive-fields x (unknown Universal false o n v) r n v e refl).2 (omega (arith, is_ascii_tag-lt n here)) in
      absurd (false≢true (sym other ∙ ap is_ascii_tag same ∙ here))
  | inr there ↦ ap (λ z. if z && list_all (is_ascii_character n) v then Some v else None) there
]
tree_ascii_text-not_ascii x (unknown Universal true o n v) r e other = refl
tree_ascii_text-not_ascii x (unknown Application k o n v) r e other = refl
tree_ascii_text-not_ascii x (unknown ContextSpecific k o n v) r e other = refl
tree_ascii_text-not_ascii x (unknown Private k o n v) r e other = refl
tree_ascii_text-not_ascii x (leaf o l) r e other = refl
tree_ascii_text-not_ascii x (group o g bs) r e other = refl
tree_ascii_text-not_ascii x (explicit c o n b) r e other = refl

-- a tree that is no leaf with the tag number of UTCTime or GeneralizedTime has no moment
pub tree_moment-none : (b : Tree ℕ) → IsNoLeafWith UTC_TIME b → IsNoLeafWith GENERALIZED_TIME b → tree_moment b ≡ None
tree_moment-none b other more =
    tree_leaf-none leaf_moment b (λ o l is. leaf_moment-none l (other o l is) (more o l is))
  where
    leaf_moment-none : (l : Leaf) → (leaf_tag l ≡ UTC_TIME → ⊥) → (leaf_tag l ≡ GENERALIZED_TIME → ⊥)
        → leaf_moment l ≡ None
    leaf_moment-none (utc_time m) other more = absurd (other refl)
    leaf_moment-none (generalized_time m) other more = absurd (more refl)
    leaf_moment-none l other more = refl

-- the tree of an entry of no UTCTime or GeneralizedTime has no moment
pub tree_moment-no_time : (x : List ℕ) (b : Tree ℕ) (r : Entry) → IsEntryOf x b r →
    ((r.class ≡ Universal) × ((r.tag ≡ UTC_TIME) ⊎ (r.tag ≡ GENERALIZED_TIME)) → ⊥) → tree_moment b ≡ None
tree_moment-no_time x b r e other =
    tree_moment-none b
    (IsNoLeafWith-entry x b r UTC_TIME e (omega arith) (λ (class, tag). other (class, inl tag)))
    (IsNoLeafWith-entry x b r GENERALIZED_TIME e (omega arith) (λ (class, tag). other (class, inr tag)))

-- what was found as the moment of an entry is that of its tree
pub tree_moment-found : {A : Type 0} (moment : A → Moment) (found : Option A) (x : List ℕ) (b : Tree ℕ) (r : Entry)
    (v : List ℕ) → IsEntryOf x b r → r.class ≡ Universal → v ≡ contents_octets x r
    → MatchOption found ((r.tag ≡ UTC_TIME) ⊎ (r.tag ≡ GENERALIZED_TIME) → ⊥)
    (λ a. ((r.tag ≡ UTC_TIME) × UtcTimeContents (moment a) v)
    ⊎ ((r.tag ≡ GENERALIZED_TIME) × GeneralizedTimeContents (moment a) v))
    → MatchOption found (tree_moment b ≡ None) (λ a. tree_moment b ≡ Some (moment a))
tree_moment-found moment None x b r v e class same none =
    tree_moment-no_time x b r e (λ (universal, time). none time)
tree_moment-found moment (Some a) x b r v e class same is = elim is [
  | inl (tag, means) ↦
      let (p, tree) = IsLeafOf-leaf (tree_offset b) UTC_TIME (contents_octets x r) b (utc_time (moment a))
      (IsLeafOf-entry x b r UTC_TIME e class tag (omega arith) refl) refl
      (subst (UtcTimeContents (moment a)) same means) in
      ap tree_moment tree
  | inr (tag, means) ↦
      let (p, tree) =
      IsLeafOf-leaf (tree_offset b) GENERALIZED_TIME (contents_octets x r) b (generalized_time (moment a))
      (IsLeafOf-entry x b r GENERALIZED_TIME e class tag (omega arith) refl) refl
      (subst (GeneralizedTimeContents (moment a)) same means) in
      ap tree_moment tree
]

-- the contents octets of an entry of a UTCTime or GeneralizedTime have no fault
pub IsEntryOf-no_time_fault : (x : List ℕ) (b : Tree ℕ) (r : Entry) (v : List ℕ) (fault : DecodeFault) →
    IsEntryOf x b r → r.class ≡ Universal → v ≡ contents_octets x r
    → ((r.tag ≡ UTC_TIME) × UtcTimeFault v fault) ⊎ ((r.tag ≡ GENERALIZED_TIME) × GeneralizedTimeFault v fault) → ⊥
IsEntryOf-no_time_fault x b r v fault e class same f = elim f [
  | inl (tag, own) ↦
      IsLeafOf-no_fault (tree_offset b) UTC_TIME (contents_octets x r) b fault
      (IsLeafOf-entry x b r UTC_TIME e class tag (omega arith) refl)
      (LeafFault-utc_time UTC_TIME (contents_octets x r) fault refl (subst (λ z. UtcTimeFault z fault) same own))
  | inr (tag, own) ↦
      IsLeafOf-no_fault (tree_offset b) GENERALIZED_TIME (contents_octets x r) b fault
      (IsLeafOf-entry x b r GENERALIZED_TIME e class tag (omega arith) refl)
      (LeafFault-generalized_time GENERALIZED_TIME (contents_octets x r) fault refl
      (subst (λ z. GeneralizedTimeFault z fault) same own))
]

-- a tree has the tag number of its octets
tree_tag-encoding : (o : ℕ) (y : List ℕ) (b : Tree ℕ) (c : ASN1Class) (k : Bool) (n : ℕ) (w : List ℕ) (h : ℕ) →
    Encodes o y b → Encoding y c k n w h
    → tree_tag b ≡ n
tree_tag-encoding o y (leaf p l) c k n w h (_, bit, contents, header, F, _) e =
    (SameEncoding-octets y Universal c bit k (leaf_tag l) n contents w header h F e).tag
tree_tag-encoding o y (group p g bs) c k n w h (_, bit, contents, header, F, _) e =
    (SameEncoding-octets y Universal c bit k (group_tag g) n contents w header h F e).tag
tree_tag-encoding o y (explicit d p m b) c k n w h (_, _, contents, header, F, _) e =
    (SameEncoding-octets y d c true k m n contents w header h F e).tag
tree_tag-encoding o y (unknown d j p m v) c k n w h (_, header, F, _) e =
    (SameEncoding-octets y d c j k m n v w header h F e).tag

-- the identifier octets at an entry's offset, and what follows them
record HasIdentifierAt (x : List ℕ) (b : Tree ℕ) (o : ℕ) : Type 0 where
  identifier : List ℕ
  after : List ℕ
  class : ASN1Class
  constructed : Bool
  stands : drop o x ≡ identifier ++ after
  are : IsIdentifier identifier class constructed (tree_tag b)

-- identifier octets of an entry's tree stand at its offset
HasIdentifierAt-entry : (x : List ℕ) (b : Tree ℕ) (r : Entry) → IsEntryOf x b r → HasIdentifierAt x b r.offset
HasIdentifierAt-entry x b r e =
    let s = e.encoded in
    let y = e.octets in
    let own = (EncodingAt-encoded x b y s).encoding in
    let f = own.encoding in
    let there : drop r.offset x ≡ y ++ s.rest = subst (λ z. drop z x ≡ y ++ s.rest) (sym e.offset_is) s.at_offset in
    let tag =
    tree_tag-encoding (tree_offset b) y b own.class own.constructed own.tag own.contents own.header s.encoded f in
    record {
      identifier = f.identifier;
      after = (f.len ++ own.contents) ++ s.rest;
      class = own.class;
      constructed = own.constructed;
      stands = there ∙ ap (λ z. z ++ s.rest) f.whole ∙ append_assoc f.identifier (f.len ++ own.contents) s.rest;
      are = subst (IsIdentifier f.identifier own.class own.constructed) (sym tag) f.identifier_octets;
    }

-- identifier octets at the offset of an entry have the tag number of its tree
pub tree_tag-identifier : (x : List ℕ) (b : Tree ℕ) (r : Entry) (end : ℕ) (c : ASN1Class) (k : Bool) (n : ℕ) →
    IsEntryOf x b r
    → IsIdentifier (slice_range x r.offset end) c k n → n ≡ tree_tag b
tree_tag-identifier x b r end c k n e own =
    let i = HasIdentifierAt-entry x b r e in
    let rest = drop (end - r.offset) (drop r.offset x) in
    let whole : slice_range x r.offset end ++ rest ≡ i.identifier ++ i.after =
    take-append-drop (end - r.offset) (drop r.offset x) ∙ i.stands in
    (IsIdentifier-unique (slice_range x r.offset end) i.identifier rest i.after c i.class k i.constructed n (tree_tag b)
    own i.are whole).tag

-- identifier octets stand at the offset of an entry
pub IsEntryOf-has_identifier : (x : List ℕ) (b : Tree ℕ) (r : Entry) → IsEntryOf x b r →
    BeginsWithNo IsSomeIdentifier (drop r.offset x) → ⊥
IsEntryOf-has_identifier x b r e none =
    let i = HasIdentifierAt-entry x b r e in
    let front : take (length i.identifier) (drop r.offset x) ≡ i.identifier =
    ap (take (length i.identifier)) i.stands ∙ take_at i.identifier i.after (length i.identifier) refl in
    none (tree_tag b) (length i.identifier)
    (i.class, i.constructed, subst (λ z. IsIdentifier z i.class i.constructed (tree_tag b)) (sym front) i.are)
