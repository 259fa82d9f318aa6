-- The blocks of a document's structure stand at their offsets, for the methods of `Outline`, `simple_asn1` and
-- `simple_asn1_c`.
use Rattle.std.proofs.Common.{◌≡◌, ℕ, zero, suc, ◌+◌, ◌-◌, ◌<◌, ◌≤◌, ◌++◌, Bool, List, [], ◌∷◌, inl, inr, drop, length, get_or, refl, sym, ap, ◌∙◌, subst, arith, append_assoc, append-nil, length-append, drop-drop}
use Rattle.std.proofs.lemmas.Bool.{cases_lt}
use Rattle.std.proofs.lemmas.List.{drop_at, get_or_append_left, get_or-append_right}
use Rattle.asn1_headers.specs.Header.{Encoding, IsLength}
use Rattle.asn1_headers.specs.declared.header.ASN1Class.{ASN1Class}
use Rattle.asn1_headers.proofs.Prefixes.{IsIdentifier-not_empty}
use Rattle.asn1_blocks.specs.Grammar.{Encodes, EncodesAll}
use Rattle.asn1_blocks.specs.Tree.{Tree, Trees, explicit, group, leaf, no_trees, unknown}
use Rattle.asn1_blocks.specs.View.{tree_offset}
use Rattle.asn1_blocks.specs.Places.{EncodingAt}
use Rattle.asn1_blocks.proofs.Faults.{IsEncoding-block}
use Rattle.asn1_blocks.proofs.OneReading.{IsBlock-encodes, EncodesAll-single}
use Rattle.asn1_blocks.proofs.Slices.{tree_offset-encodes}
use Rattle.asn1_outline.specs.Structure.{AreNodes, Holds, IsEncodedIn, IsNode, IsStructure, Node, Nodes, more_nodes, no_node, no_nodes, node, node_at, node_in_order, node_items, node_tree, nodes_in_order, nodes_trees}

-- length octets are one octet or more
IsLength-not_empty : (s : List ℕ) (n : ℕ) → IsLength s n → 0 < length s
IsLength-not_empty [] n h = absurd h
IsLength-not_empty (b ∷ s) n h = omega arith

-- an encoding has two octets beside its contents octets
pub length-contents_two_less : (x : List ℕ) (c : ASN1Class) (k : Bool) (n : ℕ) (v : List ℕ) (h : ℕ) →
    Encoding x c k n v h →
    2 + length v ≤ length x
length-contents_two_less x c k n v h e =
    let first = IsIdentifier-not_empty e.identifier c k n e.identifier_octets in
    let second = IsLength-not_empty e.len (length v) e.length_octets in
    omega (arith, first, second, ap length e.whole, length-append e.identifier (e.len ++ v), length-append e.len v)

-- the contents octets of an encoding stand behind its header
pub drop-contents :
    (x y rest : List ℕ) (c : ASN1Class) (k : Bool) (n : ℕ) (v : List ℕ) (o h : ℕ) → drop o x ≡ y ++ rest →
    Encoding y c k n v h →
    drop (o + h) x ≡ v ++ rest
drop-contents x y rest c k n v o h s e =
    let i = e.identifier ++ e.len in
    let size : length i ≡ h = omega (arith, e.size, length-append e.identifier e.len) in
    let whole : y ++ rest ≡ i ++ (v ++ rest) =
    ap (λ z. z ++ rest) (e.whole ∙ sym (append_assoc e.identifier e.len v)) ∙ append_assoc i v rest in
    let two : drop h (drop o x) ≡ drop (o + h) x = drop-drop h o x ∙ ap (λ z. drop z x) (omega arith) in
    sym two ∙ ap (drop h) (s ∙ whole) ∙ drop_at i (v ++ rest) h size

-- the trees bs stand in x, in contents octets that are at least two octets shorter than y
pub record HeldIn (x y : List ℕ) (bs : Trees ℕ) : Type 0 where
  pub place : ℕ
  pub contents : List ℕ
  pub rest : List ℕ
  pub at_offset : drop place x ≡ contents ++ rest
  pub encoded : EncodesAll place contents bs
  pub shorter : 2 + length contents ≤ length y

-- no trees stand in no octets, which are at least two octets shorter than an encoding y
HeldIn-none : (x y : List ℕ) (c : ASN1Class) (k : Bool) (n : ℕ) (v : List ℕ) (h : ℕ) (bs : Trees ℕ) →
    Encoding y c k n v h → bs ≡ no_trees → HeldIn x y bs
HeldIn-none x y c k n v h bs e none = record {
  place = 0;
  contents = [];
  rest = x;
  at_offset = refl;
  encoded = subst (λ z. EncodesAll 0 [] z) (sym none) refl;
  shorter = omega (arith, length-contents_two_less y c k n v h e);
}

-- the trees that a tree holds stand in shorter octets than its own
pub HeldIn-holds : (x : List ℕ) (o : ℕ) (b : Tree ℕ) (y rest : List ℕ) (bs : Trees ℕ) → drop o x ≡ y ++ rest →
    Encodes o y b → Holds x b bs → HeldIn x y bs
HeldIn-holds x o (leaf p l) y rest bs s (_, bit, contents, header, F, _) h =
    HeldIn-none x y _ bit _ contents header bs F h
HeldIn-holds x o (group p g items) y rest bs s (_, bit, contents, header, F, inside) h = record {
  place = o + header;
  contents = contents;
  rest = rest;
  at_offset = drop-contents x y rest _ bit _ contents o header s F;
  encoded = subst (λ z. EncodesAll (o + header) contents z) (sym h) inside;
  shorter = length-contents_two_less y _ bit _ contents header F;
}
HeldIn-holds x o (explicit c p n b) y rest bs s (_, _, contents, header, F, item) h = record {
  place = o + header;
  contents = contents;
  rest = rest;
  at_offset = drop-contents x y rest c _ n contents o header s F;
  encoded = subst (λ z. EncodesAll (o + header) contents z) (sym h) (EncodesAll-single (o + header) contents b item);
  shorter = length-contents_two_less y c _ n contents header F;
}
HeldIn-holds x o (unknown c k p n v) y rest bs s (_, header, F, _) (inl (i, q, t, f)) = record {
  place = q;
  contents = v;
  rest = t.rest;
  at_offset = subst (λ z. drop z x ≡ v ++ t.rest) (sym t.start_is)
      (drop-contents x t.octets t.rest c _ n v p t.header t.at_offset t.encoding);
  encoded = f;
  shorter = length-contents_two_less y c k n v header F;
}
HeldIn-holds x o (unknown c k p n v) y rest bs s (_, header, F, _) (inr (none, other)) =
    HeldIn-none x y c k n v header bs F none

-- the first of octets at a place stand there
pub drop-first : (x : List ℕ) (place : ℕ) (v first after rest : List ℕ) → drop place x ≡ v ++ rest →
    v ≡ first ++ after
    → drop place x ≡ first ++ (after ++ rest)
drop-first x place v first after rest s e = s ∙ ap (λ z. z ++ rest) e ∙ append_assoc first after rest

-- the rest of octets at a place stand behind the first
pub drop-rest : (x : List ℕ) (place : ℕ) (v first after rest : List ℕ) → drop place x ≡ v ++ rest → v ≡ first ++ after
    → drop (place + length first) x ≡ after ++ rest
drop-rest x place v first after rest s e =
    let size = length first in
    let two : drop size (drop place x) ≡ drop (place + size) x =
    drop-drop size place x ∙ ap (λ z. drop z x) (omega arith) in
    sym two ∙ ap (drop size) (drop-first x place v first after rest s e) ∙ drop_at first (after ++ rest) size refl

-- a node's tree holds the trees of the node's items
pub Holds-node_items : (x : List ℕ) (n : Node) → IsNode x n → Holds x (node_tree n) (nodes_trees (node_items n))
Holds-node_items x (node b ns) is = is.0

-- some octets encode a node's tree
abbrev pub IsStanding : List ℕ → Node → Type 0
IsStanding x n = (octets : List ℕ) × IsEncodedIn x (node_tree n) octets × IsNode x n

mutual
  -- each node inside a node stands in the document
  IsStanding-node : (x : List ℕ) (n : Node) (y : List ℕ) → IsEncodedIn x (node_tree n) y → IsNode x n → (k : ℕ) →
      k < length (node_in_order n)
      → IsStanding x (get_or (node_in_order n) k no_node)
  IsStanding-node x (node b ns) y s is zero h = (y, s, is)
  IsStanding-node x (node b ns) y s is (suc k) h =
      let i = HeldIn-holds x (tree_offset b) b y s.rest (nodes_trees ns) s.at_offset s.encoded is.0 in
      IsStanding-nodes x ns i.place i.contents i.rest i.at_offset i.encoded is.1 k (omega (arith, h))

  -- each node of nodes stands in the document
  IsStanding-nodes : (x : List ℕ) (ns : Nodes) (place : ℕ) (v rest : List ℕ) → drop place x ≡ v ++ rest →
      EncodesAll place v (nodes_trees ns) → AreNodes x ns
      → (k : ℕ) → k < length (nodes_in_order ns) → IsStanding x (get_or (nodes_in_order ns) k no_node)
  IsStanding-nodes x no_nodes place v rest s e are k h = absurd (omega (arith, h))
  IsStanding-nodes x (more_nodes n ns) place v rest s e are k h =
      let front = node_in_order n in
      let behind = nodes_in_order ns in
      let at = tree_offset-encodes place e.first (node_tree n) e.item in
      let whole = drop-first x place v e.first e.rest rest s e.whole in
      elim (cases_lt k (length front)) [
        | inl lt ↦
            let own : IsEncodedIn x (node_tree n) e.first = record {
              rest = e.rest ++ rest;
              at_offset = subst (λ z. drop z x ≡ e.first ++ (e.rest ++ rest)) (sym at) whole;
              encoded = subst (λ z. Encodes z e.first (node_tree n)) (sym at) e.item;
            } in
            subst (IsStanding x) (sym (get_or_append_left front behind no_node k lt))
            (IsStanding-node x n e.first own are.0 k lt)
        | inr ge ↦
            let size = length e.first in
            let after = drop-rest x place v e.first e.rest rest s e.whole in
            let there = IsStanding-nodes x ns (place + size) e.rest rest after e.items are.1 (k - length front)
            (omega (arith, h, ge, length-append front behind)) in
            subst (IsStanding x) (sym (get_or-append_right front behind (length front) k no_node refl ge)) there
      ]

-- each node of a document's structure stands in the document
pub IsStanding-structure : (x : List ℕ) (ns : Nodes) → IsStructure x ns → (k : ℕ) → k < length (nodes_in_order ns) →
    IsStanding x (node_at ns k)
IsStanding-structure x ns (d, are) k h = IsStanding-nodes x ns 0 x [] (sym (append-nil x)) d.blocks are k h

-- the octets of a tree are an encoding
pub EncodingAt-encoded : (x : List ℕ) (b : Tree ℕ) (octets : List ℕ) → IsEncodedIn x b octets →
    EncodingAt x (tree_offset b) octets
EncodingAt-encoded x b octets s =
    record {
      rest = s.rest;
      at_offset = s.at_offset;
      encoding =
          IsEncoding-block octets (IsBlock-encodes (tree_offset b) octets b s.encoded);
    }
