-- A document has one structure, for the builder of entries and the methods of `Outline`.
use Rattle.std.proofs.Common.{◌≡◌, ℕ, suc, ◌+◌, ◌++◌, true, List, [], ◌∷◌, inl, inr, length, map, refl, sym, ap, ◌∙◌, subst}
use Rattle.asn1_headers.proofs.Prefixes.{Encoding-unique}
use Rattle.asn1_blocks.specs.Grammar.{EncodesAll}
use Rattle.asn1_blocks.specs.Tree.{Tree, Trees, explicit, group, leaf, more_trees, no_trees, trees_of, unknown}
use Rattle.asn1_blocks.proofs.OneReading.{EncodesAll-unique, AreBlocks-encodes}
use Rattle.asn1_outline.specs.Structure.{AreNodes, Holds, IsNode, IsStructure, Node, Nodes, more_nodes, no_nodes, node, node_count, node_tree, nodes_of, nodes_trees}

-- the trees of nodes in a list are those of the list's nodes
pub trees_of-nodes : (ns : List Node) → trees_of (map node_tree ns) ≡ nodes_trees (nodes_of ns)
trees_of-nodes [] = refl
trees_of-nodes (n ∷ ns) = ap (more_trees (node_tree n)) (trees_of-nodes ns)

-- nodes that are made of a list are as many as the list has
pub node_count-nodes_of : (ns : List Node) → node_count (nodes_of ns) ≡ length ns
node_count-nodes_of [] = refl
node_count-nodes_of (n ∷ ns) = ap suc (node_count-nodes_of ns)

-- nodes of a document, with one node more of the document behind them, are nodes of the document
pub AreNodes-append : (x : List ℕ) (ns : List Node) (n : Node) → AreNodes x (nodes_of ns) → IsNode x n →
    AreNodes x (nodes_of (ns ++ n ∷ []))
AreNodes-append x [] n are is = (is, tt)
AreNodes-append x (m ∷ ns) n are is = (are.0, AreNodes-append x ns n are.1 is)

-- a tree holds blocks in one way
Holds-unique : (x : List ℕ) (b : Tree ℕ) (bs cs : Trees ℕ) → Holds x b bs → Holds x b cs → bs ≡ cs
Holds-unique x (leaf o l) bs cs p q = p ∙ sym q
Holds-unique x (group o g items) bs cs p q = p ∙ sym q
Holds-unique x (explicit c o n b) bs cs p q = p ∙ sym q
Holds-unique x (unknown c k o n v) bs cs (inl (i, p, t, e)) (inl (j, q, u, f)) =
    let same = Encoding-unique t.octets u.octets c c true true n n v v t.header u.header t.rest u.rest t.encoding
    u.encoding (sym t.at_offset ∙ u.at_offset) in
    let place : q ≡ p = u.start_is ∙ ap (λ z. o + z) (sym same.header) ∙ sym t.start_is in
    EncodesAll-unique p v bs cs e (subst (λ z. EncodesAll z v cs) place f)
Holds-unique x (unknown c k o n v) bs cs (inl (i, p, t, e)) (inr (none, other)) =
    absurd (other (t.other, i, AreBlocks-encodes p v bs e))
Holds-unique x (unknown c k o n v) bs cs (inr (none, other)) (inl (i, p, t, e)) =
    absurd (other (t.other, i, AreBlocks-encodes p v cs e))
Holds-unique x (unknown c k o n v) bs cs (inr (none, other)) (inr (same, more)) = none ∙ sym same

mutual
  -- nodes of one tree of a document are equal
  IsNode-unique : (x : List ℕ) (n m : Node) → node_tree n ≡ node_tree m → IsNode x n → IsNode x m → n ≡ m
  IsNode-unique x (node b ns) (node c ms) e p q =
      let tree : b ≡ c = e in
      let own = subst (λ z. Holds x z (nodes_trees ms)) (sym e) q.0 in
      let items : ns ≡ ms =
      AreNodes-unique x ns ms (Holds-unique x b (nodes_trees ns) (nodes_trees ms) p.0 own) p.1 q.1 in
      cc

  -- nodes of the same trees of a document are equal
  AreNodes-unique : (x : List ℕ) (ns ms : Nodes) → nodes_trees ns ≡ nodes_trees ms → AreNodes x ns → AreNodes x ms →
      ns ≡ ms
  AreNodes-unique x no_nodes no_nodes e p q = refl
  AreNodes-unique x no_nodes (more_nodes m ms) e p q =
      let none : no_trees ≡ more_trees (node_tree m) (nodes_trees ms) = e in
      absurd (cc)
  AreNodes-unique x (more_nodes n ns) no_nodes e p q =
      let none : more_trees (node_tree n) (nodes_trees ns) ≡ no_trees = e in
      absurd (cc)
  AreNodes-unique x (more_nodes n ns) (more_nodes m ms) e p q =
      let all : more_trees (node_tree n) (nodes_trees ns) ≡ more_trees (node_tree m) (nodes_trees ms) = e in
      let first : node_tree n ≡ node_tree m = cc in
      let rest : nodes_trees ns ≡ nodes_trees ms = cc in
      let one : n ≡ m = IsNode-unique x n m first p.0 q.0 in
      let others : ns ≡ ms = AreNodes-unique x ns ms rest p.1 q.1 in
      cc

-- a document has one structure
pub IsStructure-unique : (x : List ℕ) (ns ms : Nodes) → IsStructure x ns → IsStructure x ms → ns ≡ ms
IsStructure-unique x ns ms (d, p) (e, q) =
    AreNodes-unique x ns ms (EncodesAll-unique 0 x (nodes_trees ns) (nodes_trees ms) d.blocks e.blocks) p q
