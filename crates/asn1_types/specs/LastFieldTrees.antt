-- The trees of the last fields of a value, whose blocks are kept from the last to the first.
use Rattle.std.specs.Prelude.{reverse}
use Rattle.asn1_blocks.specs.Tree.{Trees, shapes}
use Rattle.asn1_blocks.specs.View.{views}
use Rattle.asn1_types.specs.declared.last_fields.LastFields.{LastFields}

abbrev pub written_trees : LastFields → Trees (Unit {0})
written_trees fields = shapes (views (reverse fields.blocks.items))
