-- What the builder of entries holds, of which it keeps the first. Private contracts alone name this.
use Rattle.std.specs.Prelude.{◌≡◌, ℕ, suc, ◌<◌, ◌++◌, List, [], ◌∷◌, get_or, length, map, set}
use Rattle.asn1_blocks.specs.declared.read_loop.OpenFrame.{OpenFrame}
use Rattle.asn1_blocks.specs.Tree.{Tree}
use Rattle.asn1_outline.specs.Entries.{AreEntries, HasHeaderAt, no_entry}
use Rattle.asn1_outline.specs.Structure.{AreNodes, Node, node_tree, nodes_depths, nodes_in_order, nodes_of}
use Rattle.asn1_outline.specs.declared.entry.Entry.{Entry}
use Rattle.asn1_outline.specs.declared.entry_builder.EntryBuilder.{EntryBuilder}
use Rattle.asn1_outline.specs.declared.entry_builder.Found.{Found}
use Rattle.asn1_outline.specs.declared.entry_builder.Found.TheVariants.{Entries, Count}
use Rattle.asn1_outline.specs.declared.listing.EntryItems.{EntryItems}

-- the entry is of an encoding at the offset, which holds nothing so far
pub record IsBegun (document : List ℕ) (start index deep : ℕ) (r : Entry) : Type 0 where
  pub header : HasHeaderAt document r
  pub offset : r.offset ≡ start
  pub items : r.items ≡ 0
  pub next : r.next ≡ suc index
  pub depth : r.depth ≡ deep

-- the entries are of blocks with these trees, and of all that these hold; the first has this index
pub record AreOfTrees (document : List ℕ) (index deep : ℕ) (ts : List (Tree ℕ)) (rs : List Entry) : Type 0 where
  pub nodes : List Node
  pub trees : map node_tree nodes ≡ ts
  pub structure : AreNodes document (nodes_of nodes)
  pub entries : AreEntries document index (nodes_in_order (nodes_of nodes)) (nodes_depths deep (nodes_of nodes)) rs

-- the entries are those around a frame, its own, and those of its blocks
pub record IsHeld (document : List ℕ) (f : OpenFrame EntryItems) (deep : ℕ) (ts : List (Tree ℕ)) (rs : List Entry)
    (Around : List Entry → Type 0) : Type 0 where
  pub front : List Entry
  pub head : Entry
  pub own : List Entry
  pub whole : rs ≡ front ++ head ∷ own
  pub entry : f.items.entry ≡ length front
  pub count : f.items.count ≡ length ts
  pub begun : IsBegun document f.extent.offset f.items.entry deep head
  pub blocks : AreOfTrees document (suc f.items.entry) (suc deep) ts own
  pub around : Around front

-- the entries are those of the blocks that the frames have, the innermost first
abbrev pub AllList : List ℕ → List Entry → OpenFrame EntryItems → List (OpenFrame EntryItems)
    → List (Tree ℕ) → List (List (Tree ℕ)) → Type 0
AllList document rs f [] ts [] = (f.items.count ≡ length ts) × AreOfTrees document 0 0 ts rs
AllList document rs f [] ts (us ∷ rest) = ⊥
AllList document rs f (g ∷ gs) ts [] = ⊥
AllList document rs f (g ∷ gs) ts (us ∷ rest) =
    IsHeld document f (length gs) ts rs (λ front. AllList document front g gs us rest)

abbrev pub all_list : List ℕ → List Entry → List (OpenFrame EntryItems) → List (List (Tree ℕ)) → Type 0
all_list document rs [] trees = ⊥
all_list document rs (f ∷ gs) [] = ⊥
all_list document rs (f ∷ gs) (ts ∷ rest) = AllList document rs f gs ts rest

-- the builder keeps the first of the entries, and the number of the others
pub record KeepsOf (b : EntryBuilder) (all : List Entry) : Type 0 where
  pub others : List Entry
  pub whole : all ≡ b.kept.items ++ others
  pub count : length others ≡ b.beyond

-- the entries, of which the builder keeps the first, are those of the blocks that the frames have
abbrev pub entries_hold :
    List ℕ → EntryBuilder → List (OpenFrame EntryItems) → List (List (Tree ℕ)) → Type 0
entries_hold document b fs trees = (all : List Entry) × KeepsOf b all × all_list document all fs trees

-- all entries were found; or their number, for which there is no room
abbrev pub AreFound : ℕ → List Entry → Found → Type 0
AreFound room all (Entries entries) = entries.items ≡ all
AreFound room all (Count count) = (count ≡ length all) × (room < count)

-- the entry with so many items, and with the index after it and all that it holds
abbrev pub with_items : ℕ → ℕ → Entry → Entry
with_items items next r = record {
  class = r.class;
  constructed = r.constructed;
  tag = r.tag;
  offset = r.offset;
  header = r.header;
  contents = r.contents;
  items = items;
  next = next;
  depth = r.depth;
}

-- the entries, where the one at the index has so many items, and all entries after it are inside it
abbrev pub with_items_at : List Entry → ℕ → ℕ → List Entry
with_items_at rs entry items = set rs entry (with_items items (length rs) (get_or rs entry no_entry))
