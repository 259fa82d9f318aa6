-- Each block of a document has at least two octets of its own, for `read_within` and `simple_asn1_read`.
use Rattle.std.proofs.Common.{◌≡◌, ℕ, ◌+◌, ◌*◌, ◌++◌, ◌≤◌, List, [], drop, length, sym, ap, arith, append-nil, length-append}
use Rattle.simple_asn1.specs.Grammar.{Encodes, EncodesAll}
use Rattle.simple_asn1.specs.Structure.{AreNodes, IsNode, IsStructure, Node, Nodes, more_nodes, no_nodes, node, node_in_order, node_tree, nodes_in_order, nodes_trees}
use Rattle.asn1_outline.proofs.Standing.{drop-first, HeldIn-holds, drop-rest}

mutual
  -- the octets of a tree are at least two for each node in it
  length-node_in_order_le : (x : List ℕ) (n : Node) (place : ℕ) (y rest : List ℕ) → drop place x ≡ y ++ rest →
      Encodes place y (node_tree n) → IsNode x n
      → 2 * length (node_in_order n) ≤ length y
  length-node_in_order_le x (node b ns) place y rest s e is =
      let h = HeldIn-holds x place b y rest (nodes_trees ns) s e is.0 in
      let more = length-nodes_in_order_le x ns h.place h.contents h.rest h.at_offset h.encoded is.1 in
      omega (arith, more, h.shorter)

  -- the octets of trees are at least two for each node in them
  length-nodes_in_order_le : (x : List ℕ) (ns : Nodes) (place : ℕ) (v rest : List ℕ) → drop place x ≡ v ++ rest →
      EncodesAll place v (nodes_trees ns) → AreNodes x ns
      → 2 * length (nodes_in_order ns) ≤ length v
  length-nodes_in_order_le x no_nodes place v rest s e are = omega arith
  length-nodes_in_order_le x (more_nodes n ns) place v rest s e are =
      let here =
      length-node_in_order_le x n place e.first (e.rest ++ rest)
      (drop-first x place v e.first e.rest rest s e.whole) e.item are.0 in
      let after = length-nodes_in_order_le x ns (place + length e.first) e.rest rest
      (drop-rest x place v e.first e.rest rest s e.whole) e.items are.1 in
      let joined = length-append (node_in_order n) (nodes_in_order ns) in
      omega (arith, here, after, ap length e.whole, length-append e.first e.rest, joined)

-- a document has at least two octets for each of its nodes
pub length-structure_le : (x : List ℕ) (ns : Nodes) → IsStructure x ns → 2 * length (nodes_in_order ns) ≤ length x
length-structure_le x ns (d, are) = length-nodes_in_order_le x ns 0 x [] (sym (append-nil x)) d.blocks are
