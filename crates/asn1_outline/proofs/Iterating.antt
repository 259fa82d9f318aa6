-- The iterators of an outline return entries of blocks side by side, for `iter::EntriesIterator::next`,
-- `outline::Outline::blocks` and `outline::Outline::items`, and for `dump_text`.
use Rattle.std.proofs.Common.{◌≡◌, ℕ, zero, suc, ◌+◌, ◌-◌, ◌<◌, ◌++◌, min, Bool, false, List, [], ◌∷◌, Some, drop, get_or, length, map, refl, sym, ap, ◌∙◌, inl, inr, arith, append_assoc, append-nil, length-append}
use Rattle.std.specs.Prelude.{All, slice_get}
use Rattle.std.proofs.lemmas.Bool.{cases_lt}
use Rattle.std.proofs.lemmas.List.{drop-append-le, drop-drop, drop_at, drop_min, get_or-append_right, get_or-drop, get_or_append_left, length-drop}
use Rattle.asn1_blocks.specs.Tree.{more_trees, trees_of}
use Rattle.asn1_outline.specs.Entries.{no_entry}
use Rattle.asn1_outline.specs.Iterated.{HasEntryIn, side_by_side, still_to_come}
use Rattle.asn1_outline.specs.Structure.{Node, Nodes, more_nodes, no_node, no_nodes, node, node_in_order, node_items, node_tree, nodes_in_order, nodes_trees}
use Rattle.asn1_outline.specs.declared.entry.Entry.{Entry}

-- to skip n entries side by side is to begin behind them
pub side_by_side-skip : (n i : ℕ) (rs : List Entry) →
    side_by_side n i rs ≡ side_by_side 0 (i + min n (length rs)) (drop n rs)
side_by_side-skip zero i [] = refl
side_by_side-skip (suc n) i [] = refl
side_by_side-skip zero i (r ∷ rs) =
    let at : i ≡ i + min 0 (length (r ∷ rs)) = omega arith in
    ap (λ z. side_by_side 0 z (r ∷ rs)) at
side_by_side-skip (suc n) i (r ∷ rs) =
    let at : i + 1 + min n (length rs) ≡ i + min (suc n) (length (r ∷ rs)) = omega arith in
    side_by_side-skip n (i + 1) rs ∙ ap (λ z. side_by_side 0 z (drop n rs)) at

-- the entry at an index is the first of those from the index on
slice_get-drop : (rs : List Entry) (i : ℕ) (r : Entry) (rest : List Entry) → drop i rs ≡ r ∷ rest →
    slice_get rs i ≡ Some r
slice_get-drop [] zero r rest e =
    let none : [] ≡ r ∷ rest = e in
    absurd (cc)
slice_get-drop [] (suc i) r rest e =
    let none : [] ≡ r ∷ rest = e in
    absurd (cc)
slice_get-drop (x ∷ rs) zero r rest e =
    let all : x ∷ rs ≡ r ∷ rest = e in
    let same : x ≡ r = cc in
    ap Some same
slice_get-drop (x ∷ rs) (suc i) r rest e = slice_get-drop rs i r rest e

-- behind the first element of a list from an index on stand the elements from the next index on
pub drop-next : {A : Type 0} (rs : List A) (i : ℕ) (r : A) (rest : List A) → drop i rs ≡ r ∷ rest →
    drop (i + 1) rs ≡ rest
drop-next rs i r rest e = sym (drop-drop 1 i rs) ∙ ap (drop 1) e

-- each entry stands at its index
pub All-side_by_side : (all : List Entry) (n i : ℕ) (rs after : List Entry) → drop i all ≡ rs ++ after →
    All (HasEntryIn all) (side_by_side n i rs)
All-side_by_side all n i [] after e k d h = absurd (omega (arith, h))
All-side_by_side all zero i (r ∷ rs) after e zero d h = slice_get-drop all i r (rs ++ after) e
All-side_by_side all zero i (r ∷ rs) after e (suc k) d h =
    All-side_by_side all (r.next - (i + 1)) (i + 1) rs after (drop-next all i r (rs ++ after) e) k d (omega (arith, h))
All-side_by_side all (suc n) i (r ∷ rs) after e k d h =
    All-side_by_side all n (i + 1) rs after (drop-next all i r (rs ++ after) e) k d h

-- the entries are of nodes that stand in order from the index on: each leads over those inside it
abbrev pub LeadOver : List Node → ℕ → List Entry → Type 0
LeadOver whole i rs = (k : ℕ) → k < length rs →
    (get_or rs k no_entry).next ≡ i + k + length (node_in_order (get_or whole (i + k) no_node))

-- entries side by side are those of the nodes alone, without those inside them
pub trees_of-side_by_side :
    (whole : List Node) (ns : Nodes) (i : ℕ) (rs : List Entry) (rest : List Node) →
    drop i whole ≡ nodes_in_order ns ++ rest →
    length rs ≡ length (nodes_in_order ns) → LeadOver whole i rs →
    trees_of (map (λ (item : ℕ × Entry). node_tree (get_or whole item.0 no_node)) (side_by_side 0 i rs))
    ≡ nodes_trees ns
trees_of-side_by_side whole no_nodes i [] rest e l over = refl
trees_of-side_by_side whole no_nodes i (r ∷ rs) rest e l over = absurd (omega (arith, l))
trees_of-side_by_side whole (more_nodes (node b ms) ns) i [] rest e l over = absurd (omega (arith, l))
trees_of-side_by_side whole (more_nodes (node b ms) ns) i (r ∷ rs) rest e l over =
    let inside = nodes_in_order ms in
    let behind = nodes_in_order ns in
    let size = length inside in
    let front = node b ms ∷ inside in
    let whole_is : drop i whole ≡ front ++ (behind ++ rest) = e ∙ append_assoc front behind rest in
    let here : get_or whole (i + 0) no_node ≡ node b ms =
    sym (get_or-drop i whole 0 no_node) ∙ ap (λ z. get_or z 0 no_node) whole_is in
    let lead : r.next ≡ i + 0 + suc size = over 0 (omega arith) ∙ ap (λ z. i + 0 + length (node_in_order z)) here in
    let many : suc (length rs) ≡ suc (size + length behind) = l ∙ ap suc (length-append inside behind) in
    let j = i + suc size in
    let skip : r.next - (i + 1) ≡ size = omega (arith, lead) in
    let at : i + 1 + min size (length rs) ≡ j = omega (arith, many) in
    let next : side_by_side (r.next - (i + 1)) (i + 1) rs ≡ side_by_side 0 j (drop size rs) =
    ap (λ z. side_by_side z (i + 1) rs) skip ∙ side_by_side-skip size (i + 1) rs
    ∙ ap (λ z. side_by_side 0 z (drop size rs)) at in
    let further : drop j whole ≡ behind ++ rest =
    sym (drop-drop (suc size) i whole) ∙ ap (drop (suc size)) whole_is
    ∙ drop_at front (behind ++ rest) (suc size) refl in
    let fewer : length (drop size rs) ≡ length behind = omega (arith, length-drop size rs, many) in
    let leads : LeadOver whole j (drop size rs) = λ k h.
    let to : i + suc (size + k) ≡ j + k = omega arith in
    ap (λ (z : Entry). z.next) (get_or-drop size rs k no_entry)
    ∙ over (suc (size + k)) (omega (arith, h, length-drop size rs))
    ∙ ap (λ z. z + length (node_in_order (get_or whole z no_node))) to in
    let others = trees_of-side_by_side whole ns j (drop size rs) rest further fewer leads in
    let same : i ≡ i + 0 = omega arith in
    let tree : node_tree (get_or whole i no_node) ≡ b =
    ap (λ z. node_tree (get_or whole z no_node)) same ∙ ap node_tree here in
    ap (λ z. more_trees (node_tree (get_or whole i no_node))
    (trees_of (map (λ (item : ℕ × Entry). node_tree (get_or whole item.0 no_node)) z))) next
    ∙ ap (more_trees (node_tree (get_or whole i no_node))) others
    ∙ ap (λ z. more_trees z (nodes_trees ns)) tree

-- a node in order is the node and then those inside it
pub node_in_order-items : (n : Node) → node_in_order n ≡ n ∷ nodes_in_order (node_items n)
node_in_order-items (node b ns) = refl

-- from the index k on, nodes in order go on with the node there and those inside it
abbrev pub IsInOrderFrom : List Node → ℕ → Type 0
IsInOrderFrom ns k = (rest : List Node) × (drop k ns ≡ node_in_order (get_or ns k no_node) ++ rest)

mutual
  -- each node inside a node is followed by its own in order
  pub IsInOrderFrom-node : (n : Node) (k : ℕ) → k < length (node_in_order n) → IsInOrderFrom (node_in_order n) k
  IsInOrderFrom-node (node b ns) zero h = ([], sym (append-nil (node b ns ∷ nodes_in_order ns)))
  IsInOrderFrom-node (node b ns) (suc k) h = IsInOrderFrom-nodes ns k (omega (arith, h))

  -- each node of nodes in order is followed by its own
  pub IsInOrderFrom-nodes : (ns : Nodes) (k : ℕ) → k < length (nodes_in_order ns) → IsInOrderFrom (nodes_in_order ns) k
  IsInOrderFrom-nodes no_nodes k h = absurd (omega (arith, h))
  IsInOrderFrom-nodes (more_nodes n ns) k h =
      let front = node_in_order n in
      let behind = nodes_in_order ns in
      elim (cases_lt k (length front)) [
        | inl lt ↦
            let (rest, e) = IsInOrderFrom-node n k lt in
            let own = node_in_order (get_or front k no_node) in
            let there : drop k (front ++ behind) ≡ own ++ (rest ++ behind) =
            drop-append-le k front behind (omega (arith, lt)) ∙ ap (λ z. z ++ behind) e
            ∙ append_assoc own rest behind in (
              rest ++ behind,
              there
                  ∙ ap (λ z. node_in_order z ++ (rest ++ behind)) (sym (get_or_append_left front behind no_node k lt)),
            )
        | inr ge ↦
            let size = length front in
            let (rest, e) = IsInOrderFrom-nodes ns (k - size) (omega (arith, h, ge, length-append front behind)) in
            let at : k ≡ size + (k - size) = omega (arith, ge) in
            let there : drop k (front ++ behind) ≡ drop (k - size) behind =
            ap (λ z. drop z (front ++ behind)) at ∙ sym (drop-drop (k - size) size (front ++ behind))
            ∙ ap (drop (k - size)) (drop_at front behind size refl) in (
              rest,
              there ∙ e ∙ ap (λ z. node_in_order z ++ rest)
                  (sym (get_or-append_right front behind size k no_node refl ge)),
            )
      ]

-- behind an entry, what is still to come begins past those inside the entry
pub still_to_come-step :
    (all : Bool) (i inside : ℕ) (r : Entry) (rs rest : List Entry) → all ≡ false → rs ≡ r ∷ rest →
    inside ≡ min (r.next - (i + 1)) (length rest) →
    still_to_come all i rs ≡ (i, r) ∷ still_to_come all (i + 1 + inside) (drop inside rest)
still_to_come-step all i inside r rs rest side whole count =
    let n = r.next - (i + 1) in
    let behind : drop n rest ≡ drop inside rest = sym (drop_min n rest) ∙ ap (λ z. drop z rest) (sym count) in
    let next : side_by_side n (i + 1) rest ≡ still_to_come false (i + 1 + inside) (drop inside rest) =
    side_by_side-skip n (i + 1) rest ∙ ap (λ z. side_by_side 0 (i + 1 + z) (drop n rest)) (sym count)
    ∙ ap (side_by_side 0 (i + 1 + inside)) behind in
    ap (λ z. still_to_come z i rs) side ∙ ap (side_by_side 0 i) whole
    ∙ ap (λ z. (i, r) ∷ z) (next ∙ ap (λ z. still_to_come z (i + 1 + inside) (drop inside rest)) (sym side))
