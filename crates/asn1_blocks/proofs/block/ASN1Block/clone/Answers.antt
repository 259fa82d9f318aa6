-- For `block::ASN1Block::clone`: what it returns is right.
use Rattle.asn1_blocks.proofs.block.ASN1Block.clone.Goals as goal

pub returns : goal.returns
returns c = c.copy.ensures
