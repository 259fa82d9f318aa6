-- For `convert::signed::object_identifier_of`: what it returns is right.
use Rattle.std.proofs.Common.{◌≡◌, ◌≢◌, ℕ, List, Option, Some, None, MatchOption, Bor, sym, ap, ◌∙◌}
use Rattle.asn1_blocks.specs.BlockParts.{leaf_oid, tree_oid}
use Rattle.asn1_blocks.specs.Tree.{Leaf, Tree, leaf, object_identifier}
use Rattle.asn1_blocks.specs.View.{tree_offset, view}
use Rattle.simple_asn1.proofs.convert.signed.object_identifier_of.Goals as goal

-- a leaf in which components are found is the OBJECT IDENTIFIER of these components
leaf_oid-object_identifier : (l : Leaf) (i : List ℕ) → leaf_oid l ≡ Some i → l ≡ object_identifier i
leaf_oid-object_identifier (object_identifier ns) i h = cc
leaf_oid-object_identifier l i h = cc

-- a tree in which components are found is a leaf, the OBJECT IDENTIFIER of these components
tree_oid-leaf : (t : Tree ℕ) (i : List ℕ) → tree_oid t ≡ Some i → t ≡ leaf (tree_offset t) (object_identifier i)
tree_oid-leaf (leaf o l) i h = ap (leaf o) (leaf_oid-object_identifier l i h)
tree_oid-leaf t i h = cc

-- a tree in which no components are found is no OBJECT IDENTIFIER
tree_oid-none : (t : Tree ℕ) → tree_oid t ≡ None → (o : ℕ) (i : List ℕ) → t ≢ leaf o (object_identifier i)
tree_oid-none t h o i e =
    let f : Some i ≡ None = ap tree_oid (sym e) ∙ h in
    cc

-- where components are found in a tree, the tree is an OBJECT IDENTIFIER of them, and where none are found, it is none
MatchOption-oid : (t : Tree ℕ) (r : Option (Bor (List ℕ))) →
    MatchOption r (tree_oid t ≡ None) (λ i. tree_oid t ≡ Some i.now)
    → MatchOption r ((o : ℕ) (i : List ℕ) → t ≢ leaf o (object_identifier i))
    (λ i. t ≡ leaf (tree_offset t) (object_identifier i.now))
MatchOption-oid t None h = tree_oid-none t h
MatchOption-oid t (Some i) h = tree_oid-leaf t i.now h

pub returns : goal.returns
returns c = MatchOption-oid (view c.args.b.now) c.oid.result c.oid.ensures
