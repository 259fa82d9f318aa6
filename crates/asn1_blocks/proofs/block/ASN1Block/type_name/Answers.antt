-- For `block::ASN1Block::type_name`: what it returns is right.
use Rattle.std.proofs.Common.{arith}
use Rattle.asn1_blocks.specs.BlockParts.{tree_tag}
use Rattle.asn1_blocks.specs.View.{tree_class, view}
use Rattle.asn1_headers.proofs.Names.{type_name-past}
use Rattle.asn1_blocks.proofs.block.ASN1Block.type_name.Goals as goal

pub returns-in-None : goal.returns-in-None
returns-in-None c =
    type_name-past (tree_class (view c.args.self.now)) (tree_tag (view c.args.self.now))
    (omega (arith, c.in-None.ensures))
