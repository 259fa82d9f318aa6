-- The iterators of an outline return the trees of the document's structure, for `outline::Outline::blocks` and
-- `outline::Outline::items`.
use Rattle.std.proofs.Common.{◌≡◌, ℕ, ◌+◌, ◌-◌, ◌<◌, ◌≤◌, ◌++◌, List, [], drop, get_or, length, map, take, sym, ap, ◌∙◌, arith, append-nil}
use Rattle.std.specs.List.{slice_range}
use Rattle.std.proofs.lemmas.List.{get_or-drop, get_or-take, length-drop, length-take-le}
use Rattle.asn1_blocks.specs.Tree.{trees_of}
use Rattle.asn1_outline.specs.Entries.{IsOutline, no_entry}
use Rattle.asn1_outline.specs.Iterated.{side_by_side}
use Rattle.asn1_outline.specs.Structure.{IsStructure, Nodes, no_node, node_at, node_in_order, node_items, nodes_in_order, nodes_trees, tree_at}
use Rattle.asn1_outline.specs.declared.entry.Entry.{Entry}
use Rattle.asn1_outline.proofs.Iterating.{LeadOver, IsInOrderFrom-nodes, drop-next, node_in_order-items, trees_of-side_by_side}
use Rattle.asn1_outline.proofs.Lent.{length-nodes_in_order, next-node_in_order, next-within}

module _ (octets : List ℕ) (es : List Entry) (ns : Nodes) (lent : ∥ IsOutline octets es ∥₁) (d : IsStructure octets ns)
  where
    -- the entries that stand in no other are those of the outermost nodes
    pub outermost_trees :
        trees_of (map (λ (item : ℕ × Entry). tree_at ns item.0) (side_by_side 0 0 es)) ≡ nodes_trees ns
    outermost_trees =
        let whole = nodes_in_order ns in
        let leads : LeadOver whole 0 es = λ k h.
        let at : k ≡ 0 + k = omega arith in
        next-node_in_order octets es ns k lent d h ∙ ap (λ z. z + length (node_in_order (get_or whole z no_node))) at in
        trees_of-side_by_side whole ns 0 es [] (sym (append-nil whole))
        (length-nodes_in_order octets es ns 0 lent d) leads

    -- the entries directly inside the one at an index are those of its node's items
    pub inside_trees : (k : ℕ) → k < length es
        → trees_of (map (λ (item : ℕ × Entry). tree_at ns item.0)
        (side_by_side 0 (k + 1) (slice_range es (k + 1) (get_or es k no_entry).next)))
        ≡ nodes_trees (node_items (node_at ns k))
    inside_trees k h =
        let whole = nodes_in_order ns in
        let m = node_at ns k in
        let items = nodes_in_order (node_items m) in
        let next = (get_or es k no_entry).next in
        let many = length-nodes_in_order octets es ns k lent d in
        let (rest, on) = IsInOrderFrom-nodes ns k (omega (arith, h, many)) in
        let behind : drop (k + 1) whole ≡ items ++ rest =
        drop-next whole k m (items ++ rest) (on ∙ ap (λ z. z ++ rest) (node_in_order-items m)) in
        let over : next ≡ k + length (node_in_order m) = next-node_in_order octets es ns k lent d h in
        let (first, last) = next-within octets es k lent h in
        let size = next - (k + 1) in
        let fits : size ≤ length (drop (k + 1) es) = omega (arith, first, last, length-drop (k + 1) es) in
        let count : length (take size (drop (k + 1) es)) ≡ size = length-take-le size (drop (k + 1) es) fits in
        let as_many : length (take size (drop (k + 1) es)) ≡ length items =
        omega (arith, count, over, ap length (node_in_order-items m)) in
        let leads : LeadOver whole (k + 1) (take size (drop (k + 1) es)) = λ j l.
        let same : get_or (take size (drop (k + 1) es)) j no_entry ≡ get_or es (k + 1 + j) no_entry =
        get_or-take size (drop (k + 1) es) j no_entry (omega (arith, l, count)) ∙ get_or-drop (k + 1) es j no_entry in
        ap (λ (z : Entry). z.next) same
        ∙ next-node_in_order octets es ns (k + 1 + j) lent d (omega (arith, l, count, fits, length-drop (k + 1) es)) in
        trees_of-side_by_side whole (node_items m) (k + 1) (take size (drop (k + 1) es)) rest behind as_many leads
