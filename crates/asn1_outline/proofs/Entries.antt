-- Entries are those of nodes in order, joined and one by one, for the builder of entries and all that look entries up.
use Rattle.std.proofs.Common.{◌≡◌, ℕ, zero, suc, ◌+◌, ◌<◌, ◌++◌, List, [], ◌∷◌, get_or, length, refl, sym, ap, ◌∙◌, subst, arith, append_assoc, append-nil}
use Rattle.asn1_blocks.specs.Tree.{Tree}
use Rattle.asn1_blocks.specs.View.{tree_offset}
use Rattle.asn1_outline.specs.Entries.{AreEntries, HasHeaderAt, IsEntry, no_entry}
use Rattle.asn1_outline.specs.Listing.{IsBegun, with_items}
use Rattle.asn1_outline.specs.Structure.{Node, no_node, no_nodes, node, node_depths, node_in_order, nodes_depths, nodes_in_order, nodes_of}
use Rattle.asn1_outline.specs.declared.entry.Entry.{Entry}
use Rattle.asn1_outline.proofs.Structures.{node_count-nodes_of}

-- there are as many entries as nodes
pub length-entries : (x : List ℕ) (i : ℕ) (ns : List Node) (ds : List ℕ) (rs : List Entry) → AreEntries x i ns ds rs →
    length rs ≡ length ns
length-entries x i [] [] [] e = refl
length-entries x i [] [] (r ∷ rs) e = absurd e
length-entries x i [] (d ∷ ds) rs e = absurd e
length-entries x i (n ∷ ns) [] rs e = absurd e
length-entries x i (n ∷ ns) (d ∷ ds) [] e = absurd e
length-entries x i (n ∷ ns) (d ∷ ds) (r ∷ rs) e = ap suc (length-entries x (suc i) ns ds rs e.1)

-- entries of nodes, followed by entries of others, are entries of all of them
pub AreEntries-append :
    (x : List ℕ) (i j : ℕ) (ns ms : List Node) (ds es : List ℕ) (rs ss : List Entry) → j ≡ i + length ns →
    AreEntries x i ns ds rs → AreEntries x j ms es ss → AreEntries x i (ns ++ ms) (ds ++ es) (rs ++ ss)
AreEntries-append x i j [] ms [] es [] ss at e f = subst (λ z. AreEntries x z ms es ss) (omega (arith, at)) f
AreEntries-append x i j [] ms [] es (r ∷ rs) ss at e f = absurd e
AreEntries-append x i j [] ms (d ∷ ds) es rs ss at e f = absurd e
AreEntries-append x i j (n ∷ ns) ms [] es rs ss at e f = absurd e
AreEntries-append x i j (n ∷ ns) ms (d ∷ ds) es [] ss at e f = absurd e
AreEntries-append x i j (n ∷ ns) ms (d ∷ ds) es (r ∷ rs) ss at e f =
    (e.0, AreEntries-append x (suc i) j ns ms ds es rs ss (omega (arith, at)) e.1 f)

-- nodes in order end with the last node and those inside it
pub nodes_in_order-append_last : (ns : List Node) (n : Node) →
    nodes_in_order (nodes_of (ns ++ n ∷ [])) ≡ nodes_in_order (nodes_of ns) ++ node_in_order n
nodes_in_order-append_last [] n = append-nil (node_in_order n)
nodes_in_order-append_last (m ∷ ns) n =
    ap (λ z. node_in_order m ++ z) (nodes_in_order-append_last ns n)
    ∙ sym (append_assoc (node_in_order m) (nodes_in_order (nodes_of ns)) (node_in_order n))

-- depths of nodes in order end with the depth of the last node and the depths of the nodes inside it
pub nodes_depths-append_last : (d : ℕ) (ns : List Node) (n : Node) →
    nodes_depths d (nodes_of (ns ++ n ∷ [])) ≡ nodes_depths d (nodes_of ns) ++ node_depths d n
nodes_depths-append_last d [] n = append-nil (node_depths d n)
nodes_depths-append_last d (m ∷ ns) n =
    ap (λ z. node_depths d m ++ z) (nodes_depths-append_last d ns n)
    ∙ sym (append_assoc (node_depths d m) (nodes_depths d (nodes_of ns)) (node_depths d n))

-- entries of nodes, followed by those of one node more, are entries of all of them
pub AreEntries-append_node :
    (x : List ℕ) (i j d : ℕ) (ns : List Node) (n : Node) (rs ss : List Entry) → j ≡ i + length rs →
    AreEntries x i (nodes_in_order (nodes_of ns)) (nodes_depths d (nodes_of ns)) rs →
    AreEntries x j (node_in_order n) (node_depths d n) ss →
    AreEntries x i (nodes_in_order (nodes_of (ns ++ n ∷ []))) (nodes_depths d (nodes_of (ns ++ n ∷ []))) (rs ++ ss)
AreEntries-append_node x i j d ns n rs ss at e f =
    let own = nodes_in_order (nodes_of ns) in
    let l = length-entries x i _ _ rs e in
    let all = AreEntries-append x i j own (node_in_order n) (nodes_depths d (nodes_of ns)) (node_depths d n) rs ss
    (omega (arith, at, l)) e f in
    subst (λ z. AreEntries x i z (nodes_depths d (nodes_of (ns ++ n ∷ []))) (rs ++ ss))
    (sym (nodes_in_order-append_last ns n))
    (subst (λ z. AreEntries x i (own ++ node_in_order n) z (rs ++ ss)) (sym (nodes_depths-append_last d ns n)) all)

-- the entry of a block that holds none is the entry of its node alone
pub AreEntries-without_items : (x : List ℕ) (o i d : ℕ) (t : Tree ℕ) (r : Entry) → tree_offset t ≡ o → IsBegun x o i d r
    → AreEntries x i (node_in_order (node t no_nodes)) (node_depths d (node t no_nodes)) (r ∷ [])
AreEntries-without_items x o i d t r at b = (
  record {
    header = b.header;
    offset = b.offset ∙ sym at;
    items = b.items;
    next = omega (arith, b.next);
    depth =
        b.depth;
  },
  tt,
)

-- setting the items of an entry keeps the header at its offset
HasHeaderAt-with_items : (x : List ℕ) (r : Entry) (items next : ℕ) → HasHeaderAt x r →
    HasHeaderAt x (with_items items next r)
HasHeaderAt-with_items x r items next (y, at, h) = (
  y,
  at,
  record {
    tag = h.tag;
    contents = h.contents;
    encoding = h.encoding;
    tag_field =
        h.tag_field;
    contents_field = h.contents_field;
  },
)

-- the entry of a block with its items, and then the entries of these, are the entries of the block's node
pub AreEntries-with_items :
    (x : List ℕ) (o i d items next : ℕ) (t : Tree ℕ) (ns : List Node) (r : Entry) (rs : List Entry) →
    tree_offset t ≡ o →
    items ≡ length ns → next ≡ i + suc (length rs) → IsBegun x o i d r →
    AreEntries x (suc i) (nodes_in_order (nodes_of ns)) (nodes_depths (suc d) (nodes_of ns)) rs →
    AreEntries x i (node_in_order (node t (nodes_of ns))) (node_depths d (node t (nodes_of ns)))
    (with_items items next r ∷ rs)
AreEntries-with_items x o i d items next t ns r rs at n m b e =
    let l = length-entries x (suc i) _ _ rs e in
    let size : length (node_in_order (node t (nodes_of ns))) ≡ suc (length (nodes_in_order (nodes_of ns))) = refl in
    let own : IsEntry x (node t (nodes_of ns)) i d (with_items items next r) = record {
      header = HasHeaderAt-with_items x r items next b.header;
      offset = b.offset ∙ sym at;
      items = n ∙ sym (node_count-nodes_of ns);
      next = omega (arith, m, l, size);
      depth = b.depth;
    } in
    (own, e)

-- the entry at each place is that of the node there
pub IsEntry-get_or :
    (x : List ℕ) (i : ℕ) (ns : List Node) (ds : List ℕ) (rs : List Entry) → AreEntries x i ns ds rs → (k : ℕ) →
    k < length ns →
    IsEntry x (get_or ns k no_node) (i + k) (get_or ds k 0) (get_or rs k no_entry)
IsEntry-get_or x i [] ds rs e k h = absurd (omega (arith, h))
IsEntry-get_or x i (n ∷ ns) [] rs e k h = absurd e
IsEntry-get_or x i (n ∷ ns) (d ∷ ds) [] e k h = absurd e
IsEntry-get_or x i (n ∷ ns) (d ∷ ds) (r ∷ rs) e zero h = subst (λ z. IsEntry x n z d r) (omega arith) e.0
IsEntry-get_or x i (n ∷ ns) (d ∷ ds) (r ∷ rs) e (suc k) h =
    let at : suc i + k ≡ i + suc k = omega arith in
    subst (λ z. IsEntry x (get_or ns k no_node) z (get_or ds k 0) (get_or rs k no_entry)) at
    (IsEntry-get_or x (suc i) ns ds rs e.1 k (omega (arith, h)))
