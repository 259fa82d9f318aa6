-- What a block of its kind can fail in. Private contracts alone name this.
use Rattle.std.specs.Prelude.{Option, None, Some}
use Rattle.asn1_blocks.specs.Tree.{Tree, explicit, group, leaf, unknown}
use Rattle.asn1_writing.specs.Unfaithful.{leaf_failure, unknown_failure}
use Rattle.asn1_writing.specs.declared.faithful.UnfaithfulErr.{UnfaithfulErr}
use Rattle.asn1_writing.specs.declared.faithful.UnfaithfulErr.TheVariants.{ExplicitUniversal}

abbrev pub tree_failure : {O : Type 0} → Tree O → Option UnfaithfulErr
tree_failure (leaf o l) = leaf_failure l
tree_failure (group o g bs) = None
tree_failure (explicit class o tag b) = Some ExplicitUniversal
tree_failure (unknown class constructed o tag contents) = Some (unknown_failure class)
