-- The blocks of trees in a list.
use Rattle.std.specs.Prelude.{◌≡◌, List, [], ◌∷◌, ◌++◌, map}
use Rattle.asn1_blocks.specs.declared.block.ASN1Block.{ASN1Block}
use Rattle.asn1_blocks.specs.declared.tree_walk.TreeWalk.{TreeWalk}
use Rattle.asn1_blocks.specs.Tree.{Tree, Trees, leaf, group, explicit, unknown, null, no_trees, more_trees}
use Rattle.asn1_blocks.specs.View.{view, views}

-- the trees that a tree holds
abbrev pub inside : {O : Type 0} → Tree O → Trees O
inside (leaf o l) = no_trees
inside (group o g bs) = bs
inside (explicit class o tag b) = more_trees b no_trees
inside (unknown class constructed o tag contents) = no_trees

-- what a tree is beside the trees that it holds, without its offset
abbrev pub own_shape : {O : Type 0} → Tree O → Tree (Unit {0})
own_shape (leaf o l) = leaf tt l
own_shape (group o g bs) = group tt g no_trees
own_shape (explicit class o tag b) = explicit class tt tag (leaf tt null)
own_shape (unknown class constructed o tag contents) = unknown class constructed tt tag contents

-- the block is the first, and after it the blocks that it holds take its place
pub record IsNextTree (b : ASN1Block) (before after : List ASN1Block) : Type 0 where
  pub held : List ASN1Block
  pub rest : List ASN1Block
  pub first : before ≡ b ∷ rest
  pub holds : views held ≡ inside (view b)
  pub then : after ≡ held ++ rest

-- a list of all blocks at all depths, each before those that it holds
abbrev pub IsInTreeOrder : List ASN1Block → List ASN1Block → Type 0
IsInTreeOrder [] blocks = blocks ≡ []
IsInTreeOrder (b ∷ order) blocks =
    (after : List ASN1Block) × IsNextTree b blocks after × IsInTreeOrder order after

-- lists inside one another, the innermost last, as they are walked over
abbrev pub stacked : List (List ASN1Block) → List ASN1Block
stacked [] = []
stacked (blocks ∷ inner) = stacked inner ++ blocks

-- what a walk has yet to go into
abbrev pub ahead : TreeWalk → List ASN1Block
ahead walk = walk.front.now ++ stacked (map (λ blocks. blocks.now) walk.outer.items)
