-- What holds of an outline's document holds of the entry at an index, for the methods of `Outline` and `Headers`.
use Rattle.std.proofs.Common.{◌≡◌, ℕ, suc, ◌+◌, ◌<◌, ◌≤◌, ◌++◌, List, length, get_or, refl, ap, sym, subst, ◌∙◌, arith, length-append}
use Rattle.std.proofs.Props.{props}
use Rattle.std.proofs.lemmas.List.{get_or_past, length-drop}
use mathlib.Core.Logic.{∥∥₁_elim}
use Rattle.asn1_blocks.specs.Grammar.{IsDocument}
use Rattle.asn1_blocks.specs.Tree.{Trees}
use Rattle.asn1_outline.specs.Entries.{AreEntries, AreEntriesOf, IsOutline, no_entry}
use Rattle.asn1_outline.specs.Structure.{IsStructure, Nodes, more_nodes, no_node, no_nodes, node, node_at, node_count, node_in_order, node_items, nodes_depths, nodes_in_order, nodes_trees, tree_at}
use Rattle.asn1_outline.specs.Values.{IsEntryOf}
use Rattle.asn1_outline.specs.declared.entry.Entry.{Entry}
use Rattle.asn1_outline.proofs.Entries.{length-entries, IsEntry-get_or}
use Rattle.asn1_outline.proofs.Iterating.{IsInOrderFrom-nodes, node_in_order-items}
use Rattle.asn1_outline.proofs.Structures.{IsStructure-unique}
use Rattle.asn1_outline.proofs.Values.{IsEntryOf-node}

module _ (octets : List ℕ) (es : List Entry) (ns : Nodes) (k : ℕ) (lent : ∥ IsOutline octets es ∥₁)
    (d : IsStructure octets ns) where
  -- the entries of an outline are those of its one structure
  AreEntries-any_nodes : (cs : Trees ℕ) → IsDocument octets cs → AreEntriesOf octets cs es →
      AreEntries octets 0 (nodes_in_order ns) (nodes_depths 0 ns) es
  AreEntries-any_nodes cs e are =
      let own : IsStructure octets are.nodes = (subst (IsDocument octets) (sym are.trees) e, are.structure) in
      subst (λ z. AreEntries octets 0 (nodes_in_order z) (nodes_depths 0 z) es)
      (IsStructure-unique octets are.nodes ns own d) are.entries

  -- entries of the nodes of a structure are as many as the nodes
  length-entries_of_nodes : AreEntries octets 0 (nodes_in_order ns) (nodes_depths 0 ns) es →
      length es ≡ length (nodes_in_order ns)
  length-entries_of_nodes are = length-entries octets 0 (nodes_in_order ns) (nodes_depths 0 ns) es are

  -- a proposition that follows from whose entry stands at the index
  pub IsEntryOf-implies : (Q : Type 0) → IsProp Q → k < length es →
      (IsEntryOf octets (tree_at ns k) (get_or es k no_entry) → Q) → Q
  IsEntryOf-implies Q prop h f = ∥∥₁_elim lent prop
      (λ x. let (cs, e, are) = x in
      let own = AreEntries-any_nodes cs e are in
      f (IsEntryOf-node octets ns es d own k (omega (arith, h, length-entries_of_nodes own))))

  -- an index of an entry is one of a node
  pub nodes-within : k < length es → k < length (nodes_in_order ns)
  nodes-within h =
      let prop : IsProp (k < length (nodes_in_order ns)) = hlevel props in
      ∥∥₁_elim lent prop (λ x. let (cs, e, are) = x in omega (
        arith,
        h,
        length-entries_of_nodes (AreEntries-any_nodes cs e are),
      ))

  -- an entry has as many items as its node
  pub items-node_count : k < length es → (get_or es k no_entry).items ≡ node_count (node_items (node_at ns k))
  items-node_count h =
      let prop : IsProp ((get_or es k no_entry).items ≡ node_count (node_items (node_at ns k))) = hlevel props in
      ∥∥₁_elim lent prop (λ x.
      let (cs, e, are) = x in
      let own = AreEntries-any_nodes cs e are in
      (IsEntry-get_or octets 0 (nodes_in_order ns) (nodes_depths 0 ns) es own k
      (omega (arith, h, length-entries_of_nodes own))).items)

  -- the index after an entry lies behind all nodes inside its node
  pub next-node_in_order : k < length es → (get_or es k no_entry).next ≡ k + length (node_in_order (node_at ns k))
  next-node_in_order h =
      let prop : IsProp ((get_or es k no_entry).next ≡ k + length (node_in_order (node_at ns k))) = hlevel props in
      ∥∥₁_elim lent prop (λ x.
      let (cs, e, are) = x in
      let own = AreEntries-any_nodes cs e are in
      let many = length (node_in_order (node_at ns k)) in
      let from : 0 + k + many ≡ k + many = omega arith in
      (IsEntry-get_or octets 0 (nodes_in_order ns) (nodes_depths 0 ns) es own k
      (omega (arith, h, length-entries_of_nodes own))).next ∙ from)

  -- an outline has as many entries as its structure has nodes
  pub length-nodes_in_order : length es ≡ length (nodes_in_order ns)
  length-nodes_in_order =
      let prop : IsProp (length es ≡ length (nodes_in_order ns)) = hlevel props in
      ∥∥₁_elim lent prop (λ x. let (cs, e, are) = x in length-entries_of_nodes (AreEntries-any_nodes cs e are))

  -- past the last entry no block stands
  pub nodes-past : length es ≤ k → length (nodes_in_order ns) ≤ k
  nodes-past h =
      let prop : IsProp (length (nodes_in_order ns) ≤ k) = hlevel props in
      ∥∥₁_elim lent prop (λ x. let (cs, e, are) = x in omega (
        arith,
        h,
        length-entries_of_nodes (AreEntries-any_nodes cs e are),
      ))

  -- past the last entry stands no node
  pub node_at-past : length es ≤ k → node_at ns k ≡ no_node
  node_at-past h = get_or_past (nodes_in_order ns) k no_node (nodes-past h)

-- what was looked up is the entry at the index
pub get_or-looked_up : (es items : List Entry) (k : ℕ) (entry : Entry) → items ≡ es →
    (k < length items) × ((r : Entry) → entry ≡ get_or items k r)
    → (k < length es) × (entry ≡ get_or es k no_entry)
get_or-looked_up es items k entry same (h, is) =
    (subst (λ z. k < length z) same h, is no_entry ∙ ap (λ z. get_or z k no_entry) same)

-- the index after an entry and those inside it is one of the list, or its end
module _ (octets : List ℕ) (es : List Entry) (k : ℕ) (lent : ∥ IsOutline octets es ∥₁) (h : k < length es) where
  -- the `next` of an entry is above its index, and at most the number of entries
  pub next-within : (k + 1 ≤ (get_or es k no_entry).next) × ((get_or es k no_entry).next ≤ length es)
  next-within =
      let prop : IsProp ((k + 1 ≤ (get_or es k no_entry).next) × ((get_or es k no_entry).next ≤ length es)) =
      hlevel props in
      ∥∥₁_elim lent prop (λ x.
      let (cs, e, are) = x in
      let ns = are.nodes in
      let own : IsStructure octets ns = (subst (IsDocument octets) (sym are.trees) e, are.structure) in
      let many = length-nodes_in_order octets es ns k lent own in
      let next = next-node_in_order octets es ns k lent own h in
      let (rest, on) = IsInOrderFrom-nodes ns k (omega (arith, h, many)) in
      let whole = ap length on ∙ length-append (node_in_order (node_at ns k)) rest in
      let some = ap length (node_in_order-items (node_at ns k)) in
      let first : k + 1 ≤ (get_or es k no_entry).next = omega (arith, next, some) in
      let last : (get_or es k no_entry).next ≤ length es =
      omega (arith, next, whole, many, h, length-drop k (nodes_in_order ns)) in
      (first, last))

-- the structure of a document has a node
nodes_in_order-not_empty : (octets : List ℕ) (ns : Nodes) → IsDocument octets (nodes_trees ns) →
    0 < length (nodes_in_order ns)
nodes_in_order-not_empty octets no_nodes d = absurd (omega (arith, d.some, ap length d.blocks))
nodes_in_order-not_empty octets (more_nodes (node b ms) ns) d =
    let size : length (nodes_in_order (more_nodes (node b ms) ns))
    ≡ suc (length (nodes_in_order ms ++ nodes_in_order ns)) = refl in
    omega (arith, size)

-- an outline has at least one entry
pub IsOutline-not_empty : (octets : List ℕ) (es : List Entry) → ∥ IsOutline octets es ∥₁ → 0 < length es
IsOutline-not_empty octets es lent =
    let prop : IsProp (0 < length es) = hlevel props in
    ∥∥₁_elim lent prop (λ x.
    let (cs, e, are) = x in
    let some = nodes_in_order-not_empty octets are.nodes (subst (IsDocument octets) (sym are.trees) e) in
    omega (arith, some, length-entries octets 0 (nodes_in_order are.nodes) (nodes_depths 0 are.nodes) es are.entries))
