-- The builder of entries holds those of open frames and of frames that end, for `listing` and `header_walk`.
use Rattle.std.proofs.Common.{◌≡◌, ℕ, suc, ◌+◌, ◌-◌, ◌<◌, ◌≤◌, ◌++◌, List, [], ◌∷◌, None, drop, inl, inr, length, set, take, refl, sym, ap, ◌∙◌, subst, arith, append_assoc, length-append}
use Rattle.std.specs.List.{slice_range}
use Rattle.std.proofs.lemmas.List.{length-map, map-append}
use Rattle.std.proofs.Math.Seq.{get_or-append_seam, set-append_seam}
use Rattle.asn1_headers.specs.Header.{Encoding}
use Rattle.asn1_headers.proofs.Prefixes.{Encoding-unique}
use Rattle.asn1_blocks.specs.declared.parsed.PlacedHeader.{PlacedHeader}
use Rattle.asn1_blocks.specs.declared.read_loop.Attempt as other
use Rattle.asn1_blocks.specs.declared.read_loop.Extent.{Extent}
use Rattle.asn1_blocks.specs.declared.read_loop.FrameKind.{FrameKind}
use Rattle.asn1_blocks.specs.declared.read_loop.FrameKind.TheVariants.{Attempt, Group, Whole}
use Rattle.asn1_blocks.specs.declared.read_loop.OpenFrame.{OpenFrame}
use Rattle.asn1_blocks.specs.BlockParts.{tree_items}
use Rattle.asn1_blocks.specs.Grammar.{Encodes, EncodesAll, IsDocument}
use Rattle.asn1_blocks.specs.HeadersBegun.{IsReadInside}
use Rattle.asn1_blocks.specs.Places.{HeaderFound}
use Rattle.asn1_blocks.specs.Inner.LeafBlocks.{IsSingleAt}
use Rattle.asn1_blocks.specs.Inner.OpenFrames.{IsAttemptAt, IsEnded, as_it_came, attempt_tree}
use Rattle.asn1_blocks.specs.Inner.ReaderSteps.{EndsAs, HasEndedIn, HasKept, HasLeaf, HasOpened, in_frame, opened_at}
use Rattle.asn1_blocks.specs.Tree.{Tree, Trees, explicit, group, leaf, no_trees, trees_of, unknown}
use Rattle.asn1_blocks.specs.View.{tree_offset}
use Rattle.asn1_blocks.proofs.HeldFronts.{HoldAround, HoldFront-inside}
use Rattle.asn1_blocks.proofs.Slices.{tree_offset-encodes}
use Rattle.asn1_outline.specs.Entries.{AreEntries, AreEntriesOf, no_entry}
use Rattle.asn1_outline.specs.Listing.{AllList, AreOfTrees, IsBegun, KeepsOf, all_list, entries_hold, with_items_at, with_items}
use Rattle.asn1_outline.specs.Structure.{Holds, IsNode, IsTaggedAt, Node, no_nodes, node, node_depths, node_in_order, node_tree, nodes_depths, nodes_in_order, nodes_of, nodes_trees}
use Rattle.asn1_outline.specs.declared.entry.Entry.{Entry}
use Rattle.asn1_outline.specs.declared.entry_builder.EntryBuilder.{EntryBuilder}
use Rattle.asn1_outline.specs.declared.listing.EntryItems.{EntryItems}
use Rattle.asn1_outline.proofs.Entries.{AreEntries-without_items, AreEntries-append_node, AreEntries-with_items}
use Rattle.asn1_outline.proofs.Structures.{AreNodes-append, trees_of-nodes}
use Rattle.std.proofs.lemmas.List.Folds.{drop_split}

-- the items of a frame after one more
abbrev pub with_one_more : EntryItems → EntryItems
with_one_more i = record i { count = i.count + 1 }

-- entries of trees, followed by those of one tree more, are entries of all of them
AreOfTrees-append :
    (x : List ℕ) (i j d : ℕ) (ts : List (Tree ℕ)) (n : Node) (rs ss : List Entry) → j ≡ i + length rs → IsNode x n →
    AreOfTrees x i d ts rs →
    AreEntries x j (node_in_order n) (node_depths d n) ss → AreOfTrees x i d (ts ++ node_tree n ∷ []) (rs ++ ss)
AreOfTrees-append x i j d ts n rs ss at is a e = record {
  nodes = a.nodes ++ n ∷ [];
  trees = map-append node_tree a.nodes (n ∷ []) ∙ ap (λ z. z ++ node_tree n ∷ []) a.trees;
  structure = AreNodes-append x a.nodes n a.structure is;
  entries = AreEntries-append_node x i j d a.nodes n rs ss at a.entries e;
}

-- a frame that gets one block more holds the entries of this block as well
AllList-add :
    (x : List ℕ) (rs ss : List Entry) (e : Extent) (i : EntryItems) (gs : List (OpenFrame EntryItems))
    (ts : List (Tree ℕ)) (rest : List (List (Tree ℕ)))
    (n : Node) → IsNode x n → AreEntries x (length rs) (node_in_order n) (node_depths (length gs) n) ss →
    AllList x rs (in_frame e i) gs ts rest →
    AllList x (rs ++ ss) (in_frame e (with_one_more i)) gs (ts ++ node_tree n ∷ []) rest
AllList-add x rs ss e i [] ts [] n is w a = (
  omega (arith, a.0, length-append ts (node_tree n ∷ [])),
  AreOfTrees-append x 0 (length rs) 0 ts n rs ss (omega arith) is a.1 w,
)
AllList-add x rs ss e i [] ts (us ∷ rest) n is w a = absurd a
AllList-add x rs ss e i (h ∷ gs) ts [] n is w a = absurd a
AllList-add x rs ss e i (h ∷ gs) ts (us ∷ rest) n is w a =
    let size : length rs ≡ suc i.entry + length a.own =
    omega (arith, ap length a.whole, length-append a.front (a.head ∷ a.own), a.entry) in
    record {
      front = a.front;
      head = a.head;
      own = a.own ++ ss;
      whole = ap (λ z. z ++ ss) a.whole ∙ append_assoc a.front (a.head ∷ a.own) ss;
      entry = a.entry;
      count = omega (arith, a.count, length-append ts (node_tree n ∷ []));
      begun = a.begun;
      blocks = AreOfTrees-append x (suc i.entry) (length rs) (suc (length gs)) ts n a.own ss size is a.blocks w;
      around = a.around;
    }

-- a new frame inside those that are open has its own entry and holds none yet
all_list-open :
    (x : List ℕ) (rs : List Entry) (r : Entry) (f g : OpenFrame EntryItems) (gs : List (OpenFrame EntryItems))
    (trees : List (List (Tree ℕ))) →
    IsBegun x f.extent.offset f.items.entry (length gs) r → f.items.entry ≡ length rs → f.items.count ≡ 0 →
    all_list x rs (g ∷ gs) trees →
    all_list x (rs ++ r ∷ []) (f ∷ g ∷ gs) ([] ∷ trees)
all_list-open x rs r f g gs [] b at none a = absurd a
all_list-open x rs r f g gs (us ∷ rest) b at none a = record {
  front = rs;
  head = r;
  own = [];
  whole = refl;
  entry = at;
  count = none;
  begun = b;
  blocks = record { nodes = []; trees = refl; structure = tt; entries = tt };
  around = a;
}

-- the builder of entries holds a new frame, whose entry has no items
pub HasOpened-entry_builder :
    (x : List ℕ) (h : PlacedHeader) (offset depth : ℕ) (a b : EntryBuilder) (i : EntryItems) (r : Entry) →
    IsBegun x offset i.entry depth r →
    ((all : List Entry) → KeepsOf a all → i.entry ≡ length all) → i.count ≡ 0 →
    ((all : List Entry) → KeepsOf a all → KeepsOf b (all ++ r ∷ [])) → HasOpened entries_hold x h offset depth a i b
HasOpened-entry_builder x h offset depth a b i r begun at none is = record {
  holds = λ kind f fs trees d k (all, front, w).
      let e = opened_at offset kind h in
      let deep = subst (λ z. IsBegun x offset i.entry z r) d begun in
      (all ++ r ∷ [], is all front, all_list-open x all r (in_frame e i) f fs trees deep (at all front) none w);
}

-- a leaf, or an encoding that is not read inside, holds no trees
Holds-none : (x : List ℕ) (o e : ℕ) (h : PlacedHeader) (t : Tree ℕ) (v : List ℕ) (i : ℕ) → tree_items t ≡ None →
    Encodes o (slice_range x o e) t
    → Encoding (slice_range x o e) h.class h.constructed h.tag v i → (IsReadInside h.class h.constructed h.tag → ⊥) →
    Holds x t no_trees
Holds-none x o e h (leaf p l) v i none s found shut = refl
Holds-none x o e h (group p g bs) v i none s found shut = absurd (cc)
Holds-none x o e h (explicit c p n b) v i none s found shut = absurd (cc)
Holds-none x o e h (unknown c k p n w) v i none s found shut =
    let y = slice_range x o e in
    let same = Encoding-unique y y c h.class k h.constructed n h.tag w v s.1 i [] [] s.2 found refl in
    inr (refl, λ (other, bit, are). shut (inr (λ z. other (same.class ∙ z), sym same.constructed ∙ bit)))

-- the builder holds one block more at the header, without items, once its entry is added
pub HasLeaf-entry_builder :
    (x : List ℕ) (h : PlacedHeader) (offset limit depth : ℕ) (a b : EntryBuilder) (i : EntryItems) (r : Entry) (n : ℕ) →
    HeaderFound x offset limit h →
    (IsReadInside h.class h.constructed h.tag → ⊥) → IsSingleAt offset (slice_range x offset h.end) →
    IsBegun x offset n depth r → ((all : List Entry) → KeepsOf a all → n ≡ length all) →
    ((all : List Entry) → KeepsOf a all → KeepsOf b (all ++ r ∷ [])) →
    HasLeaf entries_hold x offset h.end depth a i b (with_one_more i)
HasLeaf-entry_builder x h offset limit depth a b i r n found shut (t, none, encoded) begun at is =
    let o = tree_offset-encodes offset (slice_range x offset h.end) t encoded in
    let holds = Holds-none x offset h.end h t _ _ none encoded found.encoding shut in
    record {
      tree = t;
      encoded = encoded;
      more = record {
        holds = λ e fs ts rest d (all, front, w).
            let here = subst (λ z. IsBegun x offset z depth r) (at all front) begun in
            let deep = subst (λ z. IsBegun x offset (length all) z r) d here in
            let own = AreEntries-without_items x offset (length all) (length fs) t r o deep in (
              all ++ r ∷ [],
              is all front,
              AllList-add x all (r ∷ []) e i fs ts rest (node t no_nodes) (holds, tt) own w,
            );
      };
    }

-- the entries up to one that stands behind a front are the front and this entry
pub take-behind_front : (front : List Entry) (r : Entry) (own : List Entry) →
    take (suc (length front)) (front ++ r ∷ own) ≡ front ++ r ∷ []
take-behind_front [] r own = refl
take-behind_front (y ∷ front) r own = ap (λ z. y ∷ z) (take-behind_front front r own)

-- to set the items of an entry behind others changes it alone
pub with_items_at-behind_front : (front : List Entry) (r : Entry) (own : List Entry) (items : ℕ)
    → with_items_at (front ++ r ∷ own) (length front) items
    ≡ front ++ with_items items (length (front ++ r ∷ own)) r ∷ own
with_items_at-behind_front front r own items =
    ap (λ z. set (front ++ r ∷ own) (length front) (with_items items (length (front ++ r ∷ own)) z))
    (get_or-append_seam front r own no_entry)
    ∙ set-append_seam front r own (with_items items (length (front ++ r ∷ own)) r)

-- an attempt is a constructed encoding of another class whose contents octets stand from the start to the end
IsTaggedAt-attempt : (x : List ℕ) (a : other.Attempt) (start end : ℕ) → a.offset < start → start ≤ end →
    IsAttemptAt x a start end
    → IsTaggedAt x a.class a.offset a.tag (slice_range x start end) start
IsTaggedAt-attempt x a start end lt le at = record {
  octets = slice_range x a.offset end;
  rest = drop end x;
  header = start - a.offset;
  other = at.other;
  at_offset = drop_split x a.offset end (omega (arith, lt, le));
  encoding = at.encoding;
  start_is = omega (arith, lt);
}

-- a frame that ended holds the blocks that it has
Holds-attempt :
    (x : List ℕ) (a : other.Attempt) (s e : ℕ) (ts : List (Tree ℕ)) (bs : Trees ℕ) → trees_of ts ≡ bs → a.offset < s →
    s ≤ e → IsAttemptAt x a s e →
    EncodesAll s (slice_range x s e) (trees_of ts) → Holds x (attempt_tree x a s e ts) bs
Holds-attempt x a s e [] bs same lt le at w =
    inl (refl, s, IsTaggedAt-attempt x a s e lt le at, subst (EncodesAll s (slice_range x s e)) same w)
Holds-attempt x a s e (t ∷ []) bs same lt le at w = sym same
Holds-attempt x a s e (t ∷ u ∷ ts) bs same lt le at w =
    inl (refl, s, IsTaggedAt-attempt x a s e lt le at, subst (EncodesAll s (slice_range x s e)) same w)

-- the tree of an attempt stands at the offset of the attempt
tree_offset-attempt_tree : (x : List ℕ) (a : other.Attempt) (s e : ℕ) (ts : List (Tree ℕ)) →
    tree_offset (attempt_tree x a s e ts) ≡ a.offset
tree_offset-attempt_tree x a s e [] = refl
tree_offset-attempt_tree x a s e (t ∷ []) = refl
tree_offset-attempt_tree x a s e (t ∷ u ∷ ts) = refl

-- the tree of a frame that ended holds the trees of the frame
Holds-ended : (x : List ℕ) (e : Extent) (ts : List (Tree ℕ)) (t : Tree ℕ) (bs : Trees ℕ) → trees_of ts ≡ bs →
    EndsAs x e ts t
    → Holds x t bs × (tree_offset t ≡ e.offset)
Holds-ended x e ts t bs same w = go e.kind refl
  where
    -- the tree of a frame that ended, of whatever kind, holds the trees of the frame and stands at its offset
    go : (kind : FrameKind) → e.kind ≡ kind → Holds x t bs × (tree_offset t ≡ e.offset)
    go Whole d = absurd (subst (λ z. IsEnded x z e.offset e.start e.end ts t) d w.tree)
    go (Group y) d =
        let is : t ≡ group e.offset y (trees_of ts) = subst (λ z. IsEnded x z e.offset e.start e.end ts t) d w.tree in
        (subst (λ z. Holds x z bs) (sym is) (sym same), ap tree_offset is)
    go Attempt d =
        let (a, here, at, is) = subst (λ z. IsEnded x z e.offset e.start e.end ts t) d w.tree in
        let holds = Holds-attempt x a e.start e.end ts bs same (omega (arith, here, w.after)) w.order at w.encoded in (
          subst (λ z. Holds x z bs) (sym is) holds,
          ap tree_offset is
              ∙ (tree_offset-attempt_tree x a e.start e.end ts ∙ here),
        )

-- an entry whose items are set is that of the tree that ended
pub HasEndedIn-entry_builder : (x : List ℕ) (a b : EntryBuilder) (f : OpenFrame EntryItems) (i : EntryItems) (depth : ℕ)
    → ((all : List Entry) → KeepsOf a all → KeepsOf b (with_items_at all f.items.entry f.items.count)) →
    HasEndedIn entries_hold x f depth a i b (with_one_more i)
HasEndedIn-entry_builder x a b f i depth is = record {
  holds = λ e fs ts us rest t d ends (rs, kept, w).
      let blocks = w.blocks in
      let same : trees_of ts ≡ nodes_trees (nodes_of blocks.nodes) =
      sym (ap trees_of blocks.trees) ∙ trees_of-nodes blocks.nodes in
      let (holds, place) = Holds-ended x f.extent ts t (nodes_trees (nodes_of blocks.nodes)) same ends in
      let n = node t (nodes_of blocks.nodes) in
      let size : length rs ≡ length w.front + suc (length w.own) =
      ap length w.whole ∙ length-append w.front (w.head ∷ w.own) in
      let count : f.items.count ≡ length blocks.nodes =
      w.count ∙ (sym (ap length blocks.trees) ∙ length-map blocks.nodes node_tree) in
      let all = nodes_of blocks.nodes in
      let own = subst (λ z. AreEntries x (suc z) (nodes_in_order all) (nodes_depths (suc (length fs)) all) w.own)
      w.entry blocks.entries in
      let begun = subst (λ z. IsBegun x f.extent.offset z (length fs) w.head) w.entry w.begun in
      let entries =
      AreEntries-with_items x f.extent.offset (length w.front) (length fs) f.items.count (length rs) t blocks.nodes
      w.head w.own place count size begun own in
      let new = with_items f.items.count (length rs) w.head ∷ w.own in
      let made : with_items_at rs f.items.entry f.items.count ≡ w.front ++ new =
      ap (λ z. with_items_at z f.items.entry f.items.count) w.whole
      ∙ ap (λ z. with_items_at (w.front ++ w.head ∷ w.own) z f.items.count) w.entry
      ∙ with_items_at-behind_front w.front w.head w.own f.items.count
      ∙ ap (λ z. w.front ++ with_items f.items.count (length z) w.head ∷ w.own) (sym w.whole) in (
        with_items_at rs f.items.entry f.items.count,
        is rs kept,
        subst (λ z. AllList x z (in_frame e (with_one_more i)) fs (us ++ t ∷ []) rest) (sym made)
            (AllList-add x w.front new e i fs us rest n (holds, blocks.structure) entries w.around),
      );
}

-- the frames around a frame hold the entries before its own
all_list-around : (x : List ℕ) → HoldAround (all_list x)
all_list-around x rs k f gs l ts rest held =
    record { front = held.front; more = held.head ∷ held.own; whole = held.whole; holds = held.around }

-- an attempt that a fault ended has its own entry alone
pub HasKept-entry_builder : (x : List ℕ) (a b : EntryBuilder) (f : OpenFrame EntryItems) (i : EntryItems) (depth : ℕ)
    → ((all : List Entry) → KeepsOf a all → KeepsOf b (take (suc f.items.entry) all)) →
    HasKept entries_hold x f depth a i b (with_one_more i)
HasKept-entry_builder x a b f i depth is = record {
  holds = λ inside lost e fs ts us rest k d m here tried none (rs, kept, held).
      let left = HoldFront-inside (all_list x) (all_list-around x) rs inside f (in_frame e i ∷ fs) lost ts (us ∷ rest)
      m held in
      let w = left.holds in
      let t = as_it_came x k f.extent.start f.extent.end in
      let all : rs ≡ w.front ++ w.head ∷ (w.own ++ left.more) =
      left.whole ∙ (ap (λ z. z ++ left.more) w.whole ∙ append_assoc w.front (w.head ∷ w.own) left.more) in
      let made : take (suc f.items.entry) rs ≡ w.front ++ w.head ∷ [] =
      ap (take (suc f.items.entry)) all
      ∙ ap (λ z. take (suc z) (w.front ++ w.head ∷ (w.own ++ left.more))) w.entry
      ∙ take-behind_front w.front w.head (w.own ++ left.more) in
      let place = subst (λ z. IsBegun x z f.items.entry (length fs) w.head) (sym here) w.begun in
      let at = subst (λ z. IsBegun x k.offset z (length fs) w.head) w.entry place in
      let own = AreEntries-without_items x k.offset (length w.front) (length fs) t w.head refl at in (
        take (suc f.items.entry) rs,
        is rs kept,
        subst (λ z. AllList x z (in_frame e (with_one_more i)) fs (us ++ t ∷ []) rest) (sym made)
            (AllList-add x w.front (w.head ∷ []) e i fs us rest (node t no_nodes)
            (inr (refl, λ (other, bit, are). none are), tt) own w.around),
      );
}

-- entries of all trees of a document are those of the document
pub AreEntriesOf-document : (x : List ℕ) (rs : List Entry) (ts : List (Tree ℕ)) → IsDocument x (trees_of ts) →
    AreOfTrees x 0 0 ts rs
    → (bs : Trees ℕ) × IsDocument x bs × AreEntriesOf x bs rs
AreEntriesOf-document x rs ts d a =
    let trees : nodes_trees (nodes_of a.nodes) ≡ trees_of ts = sym (trees_of-nodes a.nodes) ∙ ap trees_of a.trees in
    (trees_of ts, d, record { nodes = nodes_of a.nodes; trees = trees; structure = a.structure; entries = a.entries })
