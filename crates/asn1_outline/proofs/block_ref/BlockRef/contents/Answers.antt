-- For `block_ref::BlockRef::contents`: what it returns is right (`tree`), and the octets lie in the document.
use Rattle.std.proofs.Common.{sym, subst}
use Rattle.asn1_outline.specs.Structure.{HasContents}
use Rattle.asn1_outline.proofs.BlockRefs.{IsWithin-some}
use Rattle.asn1_outline.proofs.Values.{HasContents-entry}
use Rattle.asn1_outline.proofs.block_ref.BlockRef.contents.Goals as goal

pub contents_in-requires : goal.contents_in-requires
contents_in-requires c =
    IsWithin-some c.args.self.now.octets.now c.args.self.now.entry c.args.self.now.tree

pub returns-clause-tree : goal.returns-clause-tree
returns-clause-tree c b e =
    let o = c.args.self.now in
    subst (HasContents o.octets.now b) (sym c.contents_in.ensures) (HasContents-entry o.octets.now b o.entry e)
