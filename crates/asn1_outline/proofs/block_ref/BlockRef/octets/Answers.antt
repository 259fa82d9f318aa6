-- For `block_ref::BlockRef::octets`: what it returns is right.
use Rattle.asn1_outline.proofs.Values.{tree_octets-found}
use Rattle.asn1_outline.proofs.block_ref.BlockRef.octets.Goals as goal

pub returns : goal.returns
returns c b e = tree_octets-found (λ v. v.now) c.leaf.result b (c.leaf.ensures b e)
