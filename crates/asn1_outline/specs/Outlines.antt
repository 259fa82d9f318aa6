-- The octets and the entries of an `Outline`, and those of its blocks.
use Rattle.std.specs.Prelude.{ℕ, List}
use Rattle.asn1_blocks.specs.Tree.{Tree}
use Rattle.asn1_outline.specs.Values.{IsEntryOf}
use Rattle.asn1_outline.specs.declared.block_ref.BlockRef.{BlockRef}
use Rattle.asn1_outline.specs.declared.entry.Entry.{Entry}
use Rattle.asn1_outline.specs.declared.outline.Outline.{Outline}

-- the octets that an outline has been lent
abbrev pub octets_in : Outline → List ℕ
octets_in outline = outline.octets.now

-- the entries that an outline owns
abbrev pub entries_in : Outline → List Entry
entries_in outline = outline.entries.items

-- the octets of the document that a block stands in
abbrev pub lent_to : BlockRef → List ℕ
lent_to block = block.octets.now

-- the entry of a block
abbrev pub entry_in : BlockRef → Entry
entry_in block = block.entry

-- the block is that of the tree
abbrev pub IsBlockOf : Tree ℕ → BlockRef → Type 0
IsBlockOf b block = IsEntryOf block.octets.now b block.entry
