-- The trees of nodes that are inside no other, for `building::block_around`, `building::block_of` and
-- `outline::Outline::to_block`.
use Rattle.std.proofs.Common.{◌≡◌, ℕ, suc, ◌+◌, ◌<◌, ◌++◌, List, [], ◌∷◌, drop, get_or, length, refl, sym, ap, ◌∙◌, append_assoc, append-nil}
use Rattle.asn1_blocks.specs.Tree.{Tree, Trees, more_trees, no_trees, trees_of}
use Rattle.asn1_outline.specs.Building.{items_of, tree_list, roots}
use Rattle.asn1_outline.specs.Structure.{Node, Nodes, more_nodes, no_node, no_nodes, node, node_count, node_in_order, node_items, node_tree, nodes_in_order, nodes_trees}
use Rattle.asn1_outline.proofs.Iterating.{IsInOrderFrom-node, drop-next, node_in_order-items}

-- trees that are made a list, and trees of it again, are as they were
pub trees_of-listed : (bs : Trees ℕ) → trees_of (tree_list bs) ≡ bs
trees_of-listed no_trees = refl
trees_of-listed (more_trees b bs) = ap (more_trees b) (trees_of-listed bs)

-- the list of the trees of nodes has as many trees as there are nodes
pub length-listed : (ns : Nodes) → length (tree_list (nodes_trees ns)) ≡ node_count ns
length-listed no_nodes = refl
length-listed (more_nodes n ns) = ap suc (length-listed ns)

-- as many trees as there are nodes, dropped from a list that begins with the nodes' trees, leave what follows them
pub drop-listed : (ns : Nodes) (s : List (Tree ℕ)) → drop (node_count ns) (tree_list (nodes_trees ns) ++ s) ≡ s
drop-listed no_nodes s = refl
drop-listed (more_nodes n ns) s = drop-listed ns s

mutual
  -- of a node, the nodes inside it and more behind them, the first tree that is inside no other is the node's
  roots-node_in_order : (n : Node) (s : List Node) → roots (node_in_order n ++ s) ≡ node_tree n ∷ roots s
  roots-node_in_order (node b ns) s =
      ap (λ z. b ∷ drop (node_count ns) z) (roots-nodes_in_order ns s) ∙ ap (λ z. b ∷ z) (drop-listed ns (roots s))

  -- of nodes in order and more behind them, the trees of the nodes come first among the trees inside no other
  roots-nodes_in_order : (ns : Nodes) (s : List Node) →
      roots (nodes_in_order ns ++ s) ≡ tree_list (nodes_trees ns) ++ roots s
  roots-nodes_in_order no_nodes s = refl
  roots-nodes_in_order (more_nodes n ns) s =
      ap roots (append_assoc (node_in_order n) (nodes_in_order ns) s) ∙ roots-node_in_order n (nodes_in_order ns ++ s)
      ∙ ap (λ z. node_tree n ∷ z) (roots-nodes_in_order ns s)

-- of a node and all nodes inside it, only the node is inside no other
pub roots-one_node : (n : Node) → roots (node_in_order n) ≡ node_tree n ∷ []
roots-one_node n = ap roots (sym (append-nil (node_in_order n))) ∙ roots-node_in_order n []

-- the trees from a place on: the items of the node that stands there come first
pub record RootsAt (ns : List Node) (k : ℕ) : Type 0 where
  pub rest : List (Tree ℕ)
  pub ahead : roots (drop (k + 1) ns) ≡ items_of (get_or ns k no_node) ++ rest
  pub here : roots (drop k ns)
      ≡ node_tree (get_or ns k no_node) ∷ drop (node_count (node_items (get_or ns k no_node))) (roots (drop (k + 1) ns))

-- at each node inside a node, its items come first among the trees behind it, and its own tree takes their place
pub RootsAt-node : (n : Node) (k : ℕ) → k < length (node_in_order n) → RootsAt (node_in_order n) k
RootsAt-node n k h =
    let ns = node_in_order n in
    let m = get_or ns k no_node in
    let items = nodes_in_order (node_items m) in
    let (after, e) = IsInOrderFrom-node n k h in
    let from : drop k ns ≡ m ∷ (items ++ after) = e ∙ ap (λ z. z ++ after) (node_in_order-items m) in
    let next : drop (k + 1) ns ≡ items ++ after = drop-next ns k m (items ++ after) from in
    record {
      rest = roots after;
      ahead = ap roots next ∙ roots-nodes_in_order (node_items m) after;
      here = ap roots from ∙ ap (λ z. node_tree m ∷ drop (node_count (node_items m)) (roots z)) (sym next);
    }
