-- When two trees are the same: equal but for their offsets.
use Rattle.std.specs.Prelude.{◌==◌, ◌&&◌, Bool, true, false}
use Rattle.std.specs.Str.{bytes_eq}
use Rattle.asn1_blocks.specs.declared.block.ASN1Block.{ASN1Block}
use Rattle.asn1_headers.specs.Header.{class_number, constructed_bit}
use Rattle.asn1_blocks.specs.Contents.{group_tag}
use Rattle.asn1_blocks.specs.Inner.LeafEquality.{same_leaf}
use Rattle.asn1_blocks.specs.Tree.{Tree, Trees, leaf, group, explicit, unknown, no_trees, more_trees}
use Rattle.asn1_blocks.specs.View.{view}

abbrev mutual
  pub same_tree : {O P : Type 0} → Tree O → Tree P → Bool
  same_tree (leaf o l) (leaf p m) = same_leaf l m
  same_tree (group o g bs) (group p h cs) = (group_tag g == group_tag h) && same_trees bs cs
  same_tree (explicit c o m b) (explicit d p n e) =
      (class_number c == class_number d) && (m == n) && same_tree b e
  same_tree (unknown c j o m v) (unknown d k p n w) =
      (class_number c == class_number d) && (constructed_bit j == constructed_bit k) && (m == n)
      && bytes_eq v w
  same_tree a b = false

  pub same_trees : {O P : Type 0} → Trees O → Trees P → Bool
  same_trees no_trees no_trees = true
  same_trees (more_trees a bs) (more_trees b cs) = same_tree a b && same_trees bs cs
  same_trees bs cs = false

-- what `==` answers at two blocks
abbrev pub same_block : ASN1Block → ASN1Block → Bool
same_block a b = same_tree (view a) (view b)
