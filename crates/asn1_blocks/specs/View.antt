-- The tree of an `ASN1Block`, which `Tree` has beside the leaves.
pub use Rattle.asn1_blocks.specs.Tree.{view_step, view, views, document_trees, tree_class, tree_offset}
