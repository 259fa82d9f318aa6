-- Blocks are built from the last entry to the first, for `building::block_of` and `outline::Outline::to_block`.
use Rattle.std.proofs.Common.{◌≡◌, ℕ, ◌+◌, ◌<◌, ◌≤◌, ◌++◌, List, Option, Some, None, [], ◌∷◌, drop, get_or, length, map, sym, ap, ◌∙◌, arith, length-append}
use Rattle.std.proofs.Props.{props}
use Rattle.std.specs.Prelude.{IsSomeAnd, MatchOption, reverse}
use Rattle.std.proofs.lemmas.List.{get_or-drop, get_or_append_left, length-map, length-reverse, map-append, reverse-append}
use Rattle.asn1_blocks.specs.declared.block.ASN1Block.{ASN1Block}
use Rattle.asn1_blocks.specs.Tree.{Tree}
use Rattle.asn1_blocks.specs.View.{tree_offset, view}
use Rattle.asn1_outline.specs.Building.{IsBuiltNext, IsTaken, built_trees, items_of, roots}
use Rattle.asn1_outline.specs.Entries.{IsOutline, no_entry}
use Rattle.asn1_outline.specs.Structure.{IsStructure, Node, Nodes, no_node, node, node_at, node_count, node_in_order, node_items, node_tree, nodes_in_order}
use Rattle.asn1_outline.specs.declared.entry.Entry.{Entry}
use Rattle.asn1_outline.proofs.Built.{map-reverse}
use Rattle.asn1_outline.proofs.Iterating.{IsInOrderFrom-nodes}
use Rattle.asn1_outline.proofs.Lent.{IsEntryOf-implies, items-node_count, length-nodes_in_order}
use Rattle.asn1_outline.proofs.Roots.{length-listed, drop-listed, RootsAt-node}
use Rattle.asn1_outline.proofs.Standing.{Holds-node_items, IsStanding-structure}
use Rattle.asn1_headers.proofs.Prefixes.{append-injective}

-- the trees that are built, after one block more is pushed
pub built_trees-append_last : (left : List ASN1Block) (block : ASN1Block) →
    built_trees (left ++ block ∷ []) ≡ view block ∷ built_trees left
built_trees-append_last left block =
    ap reverse (map-append view left (block ∷ [])) ∙ reverse-append (map view left) (view block ∷ [])

-- where one tree alone is built, the last block has this tree
pub view-only_built : (built new : List ASN1Block) (t : Tree ℕ) (last : Option ASN1Block) → built_trees built ≡ t ∷ []
    → MatchOption last ((built ≡ []) × (new ≡ [])) (λ block. built ≡ new ++ block ∷ []) →
    IsSomeAnd last (λ block. view block ≡ t)
view-only_built built new t None are (none, _) =
    let no : [] ≡ t ∷ [] = sym (ap built_trees none) ∙ are in
    absurd (cc)
view-only_built built new t (Some block) are is =
    let one : view block ∷ built_trees new ≡ t ∷ [] =
    sym (built_trees-append_last new block) ∙ sym (ap built_trees is) ∙ are in
    let same : view block ≡ t = cc in
    same

-- the blocks of a node's items were built last
pub map-view_taken_items :
    (n : Node) (old taken new : List ASN1Block) (count : ℕ) (rest : List (Tree ℕ)) → IsTaken old count taken new →
    count ≡ node_count (node_items n) →
    built_trees old ≡ items_of n ++ rest →
    (map view taken ≡ items_of n) × (built_trees new ≡ drop (node_count (node_items n)) (built_trees old))
map-view_taken_items n old taken new count rest t c begins =
    let all : built_trees old ≡ map view taken ++ built_trees new =
    sym (map-reverse view old) ∙ ap (map view) t.split ∙ map-append view taken (reverse new)
    ∙ ap (λ z. map view taken ++ z) (map-reverse view new) in
    let many = length-listed (node_items n) in
    let some : count ≤ length old =
    omega (
      arith,
      c,
      many,
      ap length begins,
      length-append (items_of n) rest,
      length-reverse (map view old),
      length-map old view,
    ) in
    let as_many : length (map view taken) ≡ length (items_of n) = length-map taken view ∙ t.many some ∙ c ∙ sym many in
    let (own, left) =
    append-injective (map view taken) (items_of n) (built_trees new) rest as_many (sym all ∙ begins) in
    let cut : drop (node_count (node_items n)) (built_trees old) ≡ rest =
    ap (drop (node_count (node_items n))) begins ∙ drop-listed (node_items n) rest in
    (own, left ∙ sym cut)

module _ (octets : List ℕ) (es : List Entry) (ns : Nodes) (lent : ∥ IsOutline octets es ∥₁) (d : IsStructure octets ns)
    (k : ℕ) (h : k < length es) where
  -- a node and the nodes inside it stand among all nodes in order from the node's index on
  pub get_or-node_in_order : (j : ℕ) → j < length (node_in_order (node_at ns k)) →
      get_or (node_in_order (node_at ns k)) j no_node ≡ node_at ns (k + j)
  get_or-node_in_order j l =
      let whole = nodes_in_order ns in
      let own = node_in_order (node_at ns k) in
      let (rest, on) = IsInOrderFrom-nodes ns k (omega (arith, h, length-nodes_in_order octets es ns k lent d)) in
      sym (get_or_append_left own rest no_node j l) ∙ ap (λ z. get_or z j no_node) (sym on)
      ∙ get_or-drop k whole j no_node

  -- the entry of a node inside the node at k comes next, once all nodes behind it are built
  pub IsBuiltNext-entry : (j : ℕ) → j < length (node_in_order (node_at ns k)) → k + j < length es
      → (ahead : List (Tree ℕ)) → ahead ≡ roots (drop (j + 1) (node_in_order (node_at ns k))) →
      IsBuiltNext octets (node_at ns (k + j)) (get_or es (k + j) no_entry) ahead
  IsBuiltNext-entry j l within ahead built =
      let n = node_at ns (k + j) in
      let r = get_or es (k + j) no_entry in
      let (y, s, is) =
      IsStanding-structure octets ns d (k + j) (omega (arith, within, length-nodes_in_order octets es ns k lent d)) in
      let prop : IsProp (r.offset ≡ tree_offset (node_tree n)) = hlevel props in
      let roots_here = RootsAt-node (node_at ns k) j l in
      record {
        node = record {
          octets = y;
          encoded = s;
          offset = IsEntryOf-implies octets es ns (k + j) lent d (r.offset ≡ tree_offset (node_tree n)) prop within
              (λ e. e.offset_is);
          holds = Holds-node_items octets n is;
        };
        items = items-node_count octets es ns (k + j) lent d within;
        rest = roots_here.rest;
        ahead_is = built ∙ roots_here.ahead ∙ ap (λ z. items_of z ++ roots_here.rest) (get_or-node_in_order j l);
      }

  -- the trees from a node on are built once its block is pushed
  pub built_trees-block_pushed : (j : ℕ) → j < length (node_in_order (node_at ns k)) →
      (old left new : List ASN1Block) (block : ASN1Block)
      → built_trees old ≡ roots (drop (j + 1) (node_in_order (node_at ns k))) →
      view block ≡ node_tree (node_at ns (k + j))
      → built_trees left ≡ drop (node_count (node_items (node_at ns (k + j)))) (built_trees old) →
      new ≡ left ++ block ∷ []
      → built_trees new ≡ roots (drop j (node_in_order (node_at ns k)))
  built_trees-block_pushed j l old left new block built is rest push =
      let own = node_in_order (node_at ns k) in
      let m = get_or own j no_node in
      let same = get_or-node_in_order j l in
      let tree : view block ≡ node_tree m = is ∙ ap node_tree (sym same) in
      let others : built_trees left ≡ drop (node_count (node_items m)) (roots (drop (j + 1) own)) =
      rest ∙ ap (λ z. drop (node_count (node_items z)) (built_trees old)) (sym same)
      ∙ ap (drop (node_count (node_items m))) built in
      ap built_trees push ∙ built_trees-append_last left block ∙ ap (λ z. z ∷ built_trees left) tree
      ∙ ap (λ z. node_tree m ∷ z) others
      ∙ sym (RootsAt-node (node_at ns k) j l).here
