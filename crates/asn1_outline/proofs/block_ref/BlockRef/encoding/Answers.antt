-- For `block_ref::BlockRef::encoding`: what it returns is right (`tree`), and the octets lie in the document.
use Rattle.std.proofs.Common.{sym, subst}
use Rattle.asn1_outline.specs.Structure.{IsEncodedIn}
use Rattle.asn1_outline.proofs.BlockRefs.{IsWithin-some}
use Rattle.asn1_outline.proofs.Values.{IsEncodedIn-entry}
use Rattle.asn1_outline.proofs.block_ref.BlockRef.encoding.Goals as goal

pub encoding_in-requires : goal.encoding_in-requires
encoding_in-requires c =
    IsWithin-some c.args.self.now.octets.now c.args.self.now.entry c.args.self.now.tree

pub returns-clause-tree : goal.returns-clause-tree
returns-clause-tree c b e =
    let o = c.args.self.now in
    subst (IsEncodedIn o.octets.now b) (sym c.encoding_in.ensures) (IsEncodedIn-entry o.octets.now b o.entry e)
