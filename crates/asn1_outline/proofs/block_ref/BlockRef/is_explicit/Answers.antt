-- For `block_ref::BlockRef::is_explicit`: what it returns is right.
use Rattle.asn1_outline.proofs.Fields.{is_explicit-tested}
use Rattle.asn1_outline.proofs.block_ref.BlockRef.is_explicit.Goals as goal

pub returns : goal.returns
returns c b e =
    is_explicit-tested c.args.self.now.octets.now c.args.self.now.entry b c.is_tagged_with_one_item.result e
    c.is_tagged_with_one_item.ensures
