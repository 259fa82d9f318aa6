-- Records of the entries of a document are those of its blocks, for the calls that read and for `signed::parts_in`.
use Rattle.std.proofs.Common.{◌≡◌, ℕ, ◌<◌, List, get_or, length, map, refl, sym, subst, ◌∙◌, arith}
use Rattle.std.proofs.lemmas.List.{get_or-map, length-map}
use Rattle.simple_asn1.specs.Grammar.{IsDocument}
use Rattle.simple_asn1.specs.Places.{EncodingAt}
use Rattle.simple_asn1.specs.Structure.{IsEncodedIn, IsStructure, Nodes, nodes_depths, nodes_in_order, nodes_trees, tree_at}
use Rattle.simple_asn1.specs.ReadBack.{CanonicalDocument}
use Rattle.simple_asn1.specs.Tree.{Tree, Trees}
use Rattle.simple_asn1.specs.View.{tree_offset}
use Rattle.asn1_blocks.proofs.Slices.{EncodingAt-unique}
use Rattle.asn1_outline.proofs.Entries.{length-entries, IsEntry-get_or}
use Rattle.asn1_outline.proofs.Standing.{EncodingAt-encoded, IsStanding-structure}
use Rattle.asn1_outline.specs.Entries.{AreEntries, AreEntriesOf, HasHeaderAt, IsOutline, no_entry}
use Rattle.asn1_outline.specs.declared.entry.Entry.{Entry}
use Rattle.asn1_records.specs.Answers.{IsCanonicalStructure}
use Rattle.asn1_records.specs.Records.{AreRecords, HasRecordHeader, IsRecordAt, block_of, no_record}

-- the octets of a tree have the header that stands at its entry
pub HasRecordHeader-block_of : (x : List ℕ) (b : Tree ℕ) (e : Entry) (octets : List ℕ) → HasHeaderAt x e →
    e.offset ≡ tree_offset b → IsEncodedIn x b octets
    → HasRecordHeader octets (block_of e)
HasRecordHeader-block_of x b e octets (y, at, h) o s =
    let there = EncodingAt-encoded x b octets s in
    let here = subst (λ n. EncodingAt x n y) o at in
    let own : HasRecordHeader y (block_of e) = record {
      class = e.class;
      constructed = e.constructed;
      tag = h.tag;
      contents = h.contents;
      encoding = h.encoding;
      class_field = refl;
      constructed_field = refl;
      tag_field = h.tag_field;
      contents_field = h.contents_field;
    } in
    subst (λ w. HasRecordHeader w (block_of e)) (EncodingAt-unique x (tree_offset b) y octets here there) own

-- the records of a document's entries are those of its blocks, in order
AreRecords-block_of : (x : List ℕ) (ns : Nodes) (es : List Entry) → IsStructure x ns →
    AreEntries x 0 (nodes_in_order ns) (nodes_depths 0 ns) es
    → AreRecords x ns (map block_of es)
AreRecords-block_of x ns es d are =
    let l = length-entries x 0 (nodes_in_order ns) (nodes_depths 0 ns) es are in
    let size = length-map es block_of in (
      size ∙ l,
      (λ k few.
          let h : k < length (nodes_in_order ns) = omega (arith, few, size, l) in
          let w = IsEntry-get_or x 0 (nodes_in_order ns) (nodes_depths 0 ns) es are k h in
          let e = get_or es k no_entry in
          let (octets, s, is) = IsStanding-structure x ns d k h in
          let own : IsRecordAt x ns k (block_of e) = record {
            octets = octets;
            encoded = s;
            header = HasRecordHeader-block_of x (tree_at ns k) e octets w.header w.offset s;
            offset = w.offset;
            items = w.items;
            next = omega (arith, w.next);
            depth = w.depth;
          } in
          subst (λ r. IsRecordAt x ns k r)
          (sym (get_or-map block_of es k no_entry no_record (omega (arith, h, l)))) own),
    )

-- the entries of a document make its records
pub AreRecords-outline : (x : List ℕ) (es : List Entry) → IsOutline x es →
    (ns : Nodes) × IsStructure x ns × AreRecords x ns (map block_of es)
AreRecords-outline x es (bs, d, are) =
    let own : IsStructure x are.nodes = (subst (IsDocument x) (sym are.trees) d, are.structure) in
    (are.nodes, own, AreRecords-block_of x are.nodes es own are.entries)

-- the entries of a canonical document make its records
pub AreRecords-canonical : (x : List ℕ) (es : List Entry) →
    (bs : Trees ℕ) × CanonicalDocument x bs × AreEntriesOf x bs es →
    (ns : Nodes) × IsCanonicalStructure x ns × AreRecords x ns (map block_of es)
AreRecords-canonical x es (bs, d, are) =
    let canonical : CanonicalDocument x (nodes_trees are.nodes) = subst (CanonicalDocument x) (sym are.trees) d in (
      are.nodes,
      (canonical, are.structure),
      AreRecords-block_of x are.nodes es (canonical.0, are.structure) are.entries,
    )
