-- Which blocks a block holds, whatever its tag: those that its contents octets are, however many.
use Rattle.std.specs.Prelude.{◌≡◌, ℕ, true, false}
use Rattle.asn1_blocks.specs.Grammar.{EncodesAll}
use Rattle.asn1_blocks.specs.Tree.{Tree, Trees, leaf, group, explicit, unknown, no_trees, more_trees}
use Rattle.asn1_blocks.specs.View.{document_trees, views}
use Rattle.simple_asn1.specs.declared.items.Items.{Items}
use Rattle.simple_asn1.specs.declared.items.Items.TheVariants.{Lent, Read}

-- a SEQUENCE, a SET or explicit tagging holds its items; any other constructed encoding holds the blocks that its
-- contents octets are, none or more, with offsets from the first of these octets
abbrev pub HoldsBlocksOf : Tree ℕ → Trees ℕ → Type 0
HoldsBlocksOf (leaf o l) bs = ⊥
HoldsBlocksOf (group o g items) bs = bs ≡ items
HoldsBlocksOf (explicit class o tag b) bs = bs ≡ more_trees b no_trees
HoldsBlocksOf (unknown class true o tag contents) bs = EncodesAll 0 contents bs
HoldsBlocksOf (unknown class false o tag contents) bs = ⊥

-- the tree holds no list of blocks, not even an empty one
abbrev pub HoldsNothing : Tree ℕ → Type 0
HoldsNothing b = (bs : Trees ℕ) → HoldsBlocksOf b bs → ⊥

-- the trees of what `Items` lend
abbrev pub items_trees : Items → Trees ℕ
items_trees (Lent blocks) = views blocks.now
items_trees (Read document) = document_trees document
