-- A tree is faithful exactly if it can be written and is read back, for `laws::law_survival` and `write::to_der`.
use Rattle.std.proofs.Common.{◌≡◌, ℕ, ◌+◌, ◌<◌, ◌^◌, ◌↔◌, true, false, List, [], ◌++◌, None, length, sym, ap, ◌∙◌, subst, arith, length-append}
use Rattle.asn1_headers.specs.declared.header.ASN1Class.TheVariants.{Universal}
use Rattle.asn1_blocks.specs.Tree.{Tree, Trees, leaf, group, explicit, unknown, no_trees, more_trees}
use Rattle.asn1_blocks.specs.Contents.{leaf_tag, group_tag, leaf_contents, LeafContents}
use Rattle.asn1_blocks.specs.Grammar.{Encodes, EncodesAll}
use Rattle.asn1_writing.specs.Canonical.{canonical, all_canonical, write_fault, first_write_fault}
use Rattle.asn1_numbers.specs.Octets.{FitInSlice}
use Rattle.asn1_writing.specs.ReadBack.{ReadsBackAs}
use Rattle.asn1_blocks.specs.Faithful.{IsFaithful, AreFaithful}
use Rattle.asn1_blocks.proofs.Leaves.{IsFaithfulLeaf-written}
use Rattle.asn1_headers.proofs.Prefixes.{Encoding-unique}
use Rattle.asn1_blocks.proofs.OneReading.{EncodesAll-single, Encodes-single}
use Rattle.asn1_writing.proofs.Placed.{placed, Encoding-shortest_encoding, length-le_shortest_encoding, Encodes-canonical, canonical-not_empty, shape-placed, write_fault-faithful}
use Rattle.asn1_writing.proofs.Shapes.{IsFaithful-shape, canonical-same_shape}
use Rattle.asn1_writing.proofs.WriteSteps.{first_of-none_of_both}

mutual
  -- a tree that is encoded as it is written, at the front of some octets, is faithful
  IsFaithful-written :
      (o : ℕ) (x r q : List ℕ) (b : Tree ℕ) → Encodes o x b → x ++ r ≡ canonical b ++ q →
      write_fault b ≡ None → length (canonical b) < 2 ^ 64 → IsFaithful b × (r ≡ q)
  IsFaithful-written o x r q (leaf p l) (_, _, _, _, F, means) e w small =
      let v = leaf_contents l in
      let f = Encoding-unique _ _ _ _ _ _ _ _ _ _ _ _ r q F
      (Encoding-shortest_encoding Universal false (leaf_tag l) v
      (omega (arith, small, length-le_shortest_encoding Universal false (leaf_tag l) v))) e in
      (IsFaithfulLeaf-written l w (subst (LeafContents l) f.contents means), f.rest)
  IsFaithful-written o x r q (group p g bs) (_, _, contents, header, F, items) e w small =
      let v = all_canonical bs in
      let fits : length v < 2 ^ 64 = omega (arith, small, length-le_shortest_encoding Universal true (group_tag g) v) in
      let f =
      Encoding-unique _ _ _ _ _ _ _ _ _ _ _ _ r q F
      (Encoding-shortest_encoding Universal true (group_tag g) v fits) e in
      (AreFaithful-written (o + header) contents bs items f.contents w fits, f.rest)
  IsFaithful-written o x r q (explicit c p n b) (_, other, contents, header, F, item) e w small =
      let v = canonical b in
      let fits : length v < 2 ^ 64 = omega (arith, small, length-le_shortest_encoding c true n v) in
      let f = Encoding-unique _ _ _ _ _ _ _ _ _ _ _ _ r q F (Encoding-shortest_encoding c true n v fits) e in
      ((other, (IsFaithful-written (o + header) contents [] [] b item (ap (λ z. z ++ []) f.contents) w fits).0), f.rest)
  IsFaithful-written o x r q (unknown c k p n v) (_, _, F, stays) e w small =
      let f = Encoding-unique _ _ _ _ _ _ _ _ _ _ _ _ r q F
      (Encoding-shortest_encoding c k n v (omega (arith, small, length-le_shortest_encoding c k n v))) e in
      (stays, f.rest)

  -- trees that are encoded as they are written are faithful
  AreFaithful-written :
      (o : ℕ) (x : List ℕ) (bs : Trees ℕ) → EncodesAll o x bs → x ≡ all_canonical bs →
      first_write_fault bs ≡ None → length (all_canonical bs) < 2 ^ 64 → AreFaithful bs
  AreFaithful-written o x no_trees s e w small = tt
  AreFaithful-written o x (more_trees b bs) s e w small =
      let n = first_of-none_of_both (write_fault b) (first_write_fault bs) w in
      let l = length-append (canonical b) (all_canonical bs) in
      let k =
      IsFaithful-written o s.first s.rest (all_canonical bs) b s.item (sym s.whole ∙ e) n.0 (omega (arith, small, l)) in
      (k.0, AreFaithful-written (o + length s.first) s.rest bs s.items k.1 n.1 (omega (arith, small, l)))

-- what is written of a faithful tree is read as that tree
pub ReadsBackAs-faithful : (t : Tree ℕ) → FitInSlice (canonical t) → IsFaithful t →
    (write_fault t ≡ None) × ReadsBackAs (canonical t) t
ReadsBackAs-faithful t small f =
    let blocks : EncodesAll 0 (canonical t) (more_trees (placed 0 t) no_trees) =
    EncodesAll-single 0 (canonical t) (placed 0 t) (Encodes-canonical 0 t small f) in (
      write_fault-faithful t f,
      (placed 0 t, record { some = canonical-not_empty t; blocks = blocks }, shape-placed 0 t),
    )

-- a tree that is read back from what is written of it is faithful
pub IsFaithful-reads_back : (t : Tree ℕ) → FitInSlice (canonical t) → write_fault t ≡ None →
    ReadsBackAs (canonical t) t →
    IsFaithful t
IsFaithful-reads_back t small w (b, d, e) =
    let s = Encodes-single 0 (canonical t) b d.blocks in
    let alike = canonical-same_shape b t e in
    let k = IsFaithful-written 0 (canonical t) [] [] b s (ap (λ z. z ++ []) (sym alike.0)) (alike.1 ∙ w)
    (omega (arith, small, ap length alike.0)) in
    subst (λ z. z) (sym (IsFaithful-shape b) ∙ (ap IsFaithful e ∙ IsFaithful-shape t)) k.0

-- a tree is faithful exactly if what is written of it reads back as the tree
pub IsFaithful-iff_reads_back : (t : Tree ℕ) (out : List ℕ) → FitInSlice out → out ≡ canonical t → write_fault t ≡ None
    → IsFaithful t ↔ ReadsBackAs out t
IsFaithful-iff_reads_back t out small e w =
    let fits : length (canonical t) < 2 ^ 64 = omega (arith, small, ap length e) in
    let there : IsFaithful t → ReadsBackAs out t =
    λ f. subst (λ z. ReadsBackAs z t) (sym e) (ReadsBackAs-faithful t fits f).1 in
    let back : ReadsBackAs out t → IsFaithful t =
    λ s. IsFaithful-reads_back t fits w (subst (λ z. ReadsBackAs z t) e s) in
    (there, back)
